-- Only a tick and a reset change the servo's count of ticks.
use Rattle.std.proofs.Common.{◌≡◌, refl, Bool, true, false, cond, is_some}
use Rattle.wrp_base.specs.declared.link.ServoState.{ServoState}
use Rattle.wrp_base.specs.declared.link.ServoState.TheVariants.{Uninit, SyncTai, SyncNsec, SyncPhase, WaitStable, Track, Holdover}
use Rattle.wrp_servo.specs.declared.machine.Core.{Core}
use Rattle.wrp_servo.specs.Table.{ended_in, by_lease}

ended_in_ticks : (v : Core) (s : ServoState) → (ended_in v s).ticks ≡ v.ticks
ended_in_ticks v Track = refl
ended_in_ticks v SyncNsec = refl
ended_in_ticks v SyncPhase = refl
ended_in_ticks v WaitStable = refl
ended_in_ticks v Uninit = refl
ended_in_ticks v SyncTai = refl
ended_in_ticks v Holdover = refl

either_ticks : (b : Bool) (v : Core) → (cond b (ended_in v v.state) v).ticks ≡ v.ticks
either_ticks true v = ended_in_ticks v v.state
either_ticks false v = refl

pub lease_ticks : (v : Core) (fresh : Bool) → (by_lease v fresh).ticks ≡ v.ticks
lease_ticks v true = refl
lease_ticks v false = either_ticks (is_some v.first) (record v { signals = record v.signals { lease = false } })
