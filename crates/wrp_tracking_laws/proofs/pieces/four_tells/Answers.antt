use Rattle.wrp_tracking_laws.proofs.DelayHalves as delayhalves
use Rattle.wrp_tracking_laws.proofs.Measured as measured
use Rattle.wrp_tracking_laws.proofs.pieces.four_tells.Goals as goal

pub returns-clause-pieces : goal.returns-clause-pieces
returns-clause-pieces c = delayhalves.four-of_pieces

pub returns-clause-young : goal.returns-clause-young
returns-clause-young c = measured.four-is_true
