-- The sizes stay as a servo's chain ends or starts, and as its loop moves.
use Rattle.std.proofs.Common.{◌≡◌, refl, sym, ℤ, pos, ◌^◌, ◌≤◌, Bool, true, false, cond, unsigned_abs, is_some, IfSome, subst, arith}
use Rattle.std.proofs.lemmas.Int.{ints}
use Rattle.wrp_base.specs.declared.link.ServoState.{ServoState}
use Rattle.wrp_base.specs.declared.link.ServoState.TheVariants.{Uninit, SyncTai, SyncNsec, SyncPhase, WaitStable, Track, Holdover}
use Rattle.wrp_servo.specs.declared.machine.Core.{Core}
use Rattle.wrp_servo.specs.Table.{ended}
use Rattle.wrp_servo.specs.Sizes.{HasRoom, FitsFour}

-- a servo with less kept, and the same loop except for its detector
pub record Less (v w : Core) : Type 0 where
  pub s : w.phase.s ≡ v.phase.s
  pub goal : w.phase.goal ≡ v.phase.goal
  pub u : w.phase.u ≡ v.phase.u
  pub set : w.set ≡ v.set
  pub kept : IfSome v.kept FitsFour → IfSome w.kept FitsFour

either-less : (v : Core) (b : Bool) (w z : Core) → Less v w → Less v z → Less v (cond b w z)
either-less v true w z h k = h
either-less v false w z h k = k

same-less : (v : Core) → Less v v
same-less v = record { s = refl; goal = refl; u = refl; set = refl; kept = λ h. h }

left-less : (v : Core) (s : ServoState) → Less (record v { state = s }) (ended (record v { state = s }))
left-less v Track = either-less (record v { state = Track }) (is_some v.first) _ _ (record { s = refl; goal = refl; u = refl; set = refl; kept = λ h. tt }) (same-less _)
left-less v SyncNsec = either-less (record v { state = SyncNsec }) (is_some v.first) _ _ (record { s = refl; goal = refl; u = refl; set = refl; kept = λ h. tt }) (same-less _)
left-less v SyncPhase = either-less (record v { state = SyncPhase }) (is_some v.first) _ _ (record { s = refl; goal = refl; u = refl; set = refl; kept = λ h. tt }) (same-less _)
left-less v WaitStable = either-less (record v { state = WaitStable }) (is_some v.first) _ _ (record { s = refl; goal = refl; u = refl; set = refl; kept = λ h. tt }) (same-less _)
left-less v Uninit = either-less (record v { state = Uninit }) (is_some v.first) _ _ (record { s = refl; goal = refl; u = refl; set = refl; kept = λ h. tt }) (same-less _)
left-less v SyncTai = either-less (record v { state = SyncTai }) (is_some v.first) _ _ (record { s = refl; goal = refl; u = refl; set = refl; kept = λ h. tt }) (same-less _)
left-less v Holdover = either-less (record v { state = Holdover }) (is_some v.first) _ _ (record { s = refl; goal = refl; u = refl; set = refl; kept = λ h. tt }) (same-less _)

room-less : (v w : Core) → Less v w → HasRoom v → HasRoom w
room-less v w l r = record {
  s = subst (λ (z : ℤ). unsigned_abs z ≤ 2 ^ 62) (sym l.s) r.s;
  goal = subst (λ (z : ℤ). unsigned_abs z ≤ 2 ^ 62) (sym l.goal) r.goal;
  least = rw l.set r.least;
  most = rw l.set r.most;
  kept = l.kept r.kept;
}

pub zero_or : (b : Bool) (z : ℤ) → unsigned_abs z ≤ 2 ^ 62 → unsigned_abs (cond b (pos 0) z) ≤ 2 ^ 62
zero_or true z h = omega (arith, ints)
zero_or false z h = h

pub ended_room : (v : Core) → HasRoom v → HasRoom (ended v)
ended_room v = room-less v (ended v) (left-less v v.state)

pub ended_u : (v : Core) → (ended v).phase.u ≡ v.phase.u
ended_u v = (left-less v v.state).u
