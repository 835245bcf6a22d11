use Rattle.wrp_bound_laws.proofs.Motion.Fibres.{fibres_keep_their_share}
use Rattle.wrp_bound_laws.proofs.clocks.fibres_keep_their_share.Goals as goal

pub returns : goal.returns
returns c = fibres_keep_their_share
