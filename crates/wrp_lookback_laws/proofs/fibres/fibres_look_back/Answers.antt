-- The frames on a fibre, looking back.
use Rattle.wrp_lookback_laws.proofs.FibreLaws.{fibres_look_back}
use Rattle.wrp_lookback_laws.proofs.fibres.fibres_look_back.Goals as goal

pub returns : goal.returns
returns c = fibres_look_back
