use Rattle.std.proofs.Common.{refl}
use Rattle.wrp_frame.proofs.found.whole_tlv_at.Goals as goal

pub returns-in-Ok-clause-ok : goal.returns-in-Ok-clause-ok
returns-in-Ok-clause-ok c = (c.in-Ok.ensures.ok c.in-Ok.tlv).0 refl
