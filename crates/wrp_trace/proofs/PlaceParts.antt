-- An event that is no `pass` has no drifts, no moves and no time.
use Rattle.std.proofs.Common.{◌≡◌, ℕ, ℤ, ◌<◌, [], length, refl, arith}
use Rattle.arrayvec.specs.ArrayVec.{ArrayVec as Items}
use Rattle.wrp_course.specs.declared.event.Event.{Event}
use Rattle.wrp_course.specs.declared.event.Event.TheVariants as events
use Rattle.wrp_trace.specs.Places.{AsPass, drifts_in, moves_in}

-- it is not a `pass`
abbrev pub IsOther : Event → Type 0
IsOther e = (dt : ℤ) (drifts : Items ℤ) (moves : Items (ℤ × ℤ)) → e ≡ events.Pass dt drifts moves → ⊥

none_below : (n : ℕ) → n < length {A = ℤ} [] → ⊥
none_below n h = omega (arith, h)

no_move_below : (n : ℕ) → n < length {A = ℤ × ℤ} [] → ⊥
no_move_below n h = omega (arith, h)

pub no_pass_there : (e : Event) → AsPass e → IsOther e → ⊥
no_pass_there (events.Pass dt drifts moves) h other = other dt drifts moves refl
no_pass_there (events.Tick node) h other = h
no_pass_there (events.Sample node base bits) h other = h
no_pass_there (events.Depart node port stamp) h other = h
no_pass_there (events.Arrive frame raw) h other = h
no_pass_there (events.Deliver frame) h other = h
no_pass_there (events.Noise node port octets raw) h other = h
no_pass_there (events.Down node) h other = h
no_pass_there (events.Up node off swaps) h other = h
no_pass_there (events.Cut link) h other = h
no_pass_there (events.Join link ms sm) h other = h

pub no_drift_there : (e : Event) (n : ℕ) → n < length (drifts_in e) → IsOther e → ⊥
no_drift_there (events.Pass dt drifts moves) n h other = other dt drifts moves refl
no_drift_there (events.Tick node) n h other = none_below n h
no_drift_there (events.Sample node base bits) n h other = none_below n h
no_drift_there (events.Depart node port stamp) n h other = none_below n h
no_drift_there (events.Arrive frame raw) n h other = none_below n h
no_drift_there (events.Deliver frame) n h other = none_below n h
no_drift_there (events.Noise node port octets raw) n h other = none_below n h
no_drift_there (events.Down node) n h other = none_below n h
no_drift_there (events.Up node off swaps) n h other = none_below n h
no_drift_there (events.Cut link) n h other = none_below n h
no_drift_there (events.Join link ms sm) n h other = none_below n h

pub no_move_there : (e : Event) (n : ℕ) → n < length (moves_in e) → IsOther e → ⊥
no_move_there (events.Pass dt drifts moves) n h other = other dt drifts moves refl
no_move_there (events.Tick node) n h other = no_move_below n h
no_move_there (events.Sample node base bits) n h other = no_move_below n h
no_move_there (events.Depart node port stamp) n h other = no_move_below n h
no_move_there (events.Arrive frame raw) n h other = no_move_below n h
no_move_there (events.Deliver frame) n h other = no_move_below n h
no_move_there (events.Noise node port octets raw) n h other = no_move_below n h
no_move_there (events.Down node) n h other = no_move_below n h
no_move_there (events.Up node off swaps) n h other = no_move_below n h
no_move_there (events.Cut link) n h other = no_move_below n h
no_move_there (events.Join link ms sm) n h other = no_move_below n h
