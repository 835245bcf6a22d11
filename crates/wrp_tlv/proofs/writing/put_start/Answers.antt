use Rattle.wrp_tlv.proofs.Appends.{and_then}
use Rattle.wrp_tlv.proofs.writing.put_start.Goals as goal

pub returns : goal.returns
returns c =
    and_then c.put_u16.ensures.items (and_then c.put_u16-2.ensures.items (and_then c.put_u48.ensures.items c.put_u16-3.ensures.items))
