-- No call changes what a servo is set to.
use Rattle.std.proofs.Common.{◌≡◌, refl}
use Rattle.wrp_base.specs.declared.link.ServoState.{ServoState}
use Rattle.wrp_base.specs.declared.link.ServoState.TheVariants.{Uninit, SyncTai, SyncNsec, SyncPhase, WaitStable, Track, Holdover}
use Rattle.wrp_servo.specs.declared.machine.Core.{Core}
use Rattle.wrp_servo.specs.Table.{ended_in}

-- The end of a chain

pub ended_in_set : (v : Core) (s : ServoState) → (ended_in v s).set ≡ v.set
ended_in_set v Uninit = refl
ended_in_set v SyncTai = refl
ended_in_set v SyncNsec = refl
ended_in_set v SyncPhase = refl
ended_in_set v WaitStable = refl
ended_in_set v Track = refl
ended_in_set v Holdover = refl

-- A tick

-- A sample

-- A measurement

-- Signals

-- A call
