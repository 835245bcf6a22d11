-- What holds in TRACK.
use Rattle.wrp_servo.proofs.BothLaws.{track_holds_chain}
use Rattle.wrp_servo.proofs.InTrack.{track_stays_near}
use Rattle.wrp_servo.proofs.laws.track_is_near.Goals as goal

pub returns-clause-chain : goal.returns-clause-chain
returns-clause-chain c = track_holds_chain

pub returns-clause-near : goal.returns-clause-near
returns-clause-near c = track_stays_near
