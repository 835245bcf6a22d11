use Rattle.std.proofs.Common.{refl}
use Rattle.wrp_lossless_laws.proofs.worked_kinds.Goals as goal

pub returns : goal.returns
returns c = refl
