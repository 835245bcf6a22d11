use Rattle.wrp_tlv.proofs.Appends.{and_then}
use Rattle.wrp_frame.proofs.writing.put_identity.Goals as goal

pub returns-clause-items : goal.returns-clause-items
returns-clause-items c =
    and_then c.put_u64.ensures.items c.put_u16.ensures.items
