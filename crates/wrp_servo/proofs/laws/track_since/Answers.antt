-- TRACK, looking back.
use Rattle.wrp_servo.proofs.BothLaws.{track_stands_since}
use Rattle.wrp_servo.proofs.laws.track_since.Goals as goal

pub returns : goal.returns
returns c = track_stands_since
