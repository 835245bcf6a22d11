use Rattle.wrp_tlv.proofs.Appends.{and_then}
use Rattle.wrp_frame.proofs.writing.put_timestamp.Goals as goal

pub returns-clause-items : goal.returns-clause-items
returns-clause-items c =
    and_then c.put_u48.ensures.items c.put_u32.ensures.items
