-- HOLDOVER, looking back over the list of calls (this project's profile).
use Rattle.std.specs.Prelude.{◌≡◌, ◌↔◌, ℕ, ◌+◌, ◌<◌, ◌≤◌, true, false, List, [], ◌∷◌, ◌++◌}
use Rattle.wrp_servo.specs.Table.{is_track}
use Rattle.wrp_servo.specs.Sampling.{is_holdover}
use Rattle.wrp_servo.specs.Call.{Call, CallTick, ServoSetting, run, is_reset}
use Rattle.wrp_servo.specs.LookBack.{leaves_track}

-- the ticks among these calls
abbrev pub ticks_among : List Call → ℕ
ticks_among [] = 0
ticks_among (CallTick ∷ calls) = ticks_among calls + 1
ticks_among (_ ∷ calls) = ticks_among calls

-- none of these calls is a reset
abbrev pub NoneResets : List Call → Type 0
NoneResets [] = Unit {0}
NoneResets (call ∷ calls) = (is_reset call ≡ false) × NoneResets calls

-- a call other than a reset left TRACK, and since then there were no reset and fewer than `holdover` ticks
pub record InHoldover (x : ServoSetting) (calls : List Call) : Type 0 where
  pub since : List Call
  pub leave : Call
  pub before : List Call
  pub splits : calls ≡ since ++ leave ∷ before
  pub stood : is_track (run x before).state ≡ true
  pub left : leaves_track x before leave ≡ true
  pub no_reset : is_reset leave ≡ false
  pub none_since : NoneResets since
  pub few_ticks : ticks_among since < x.set.holdover

-- HOLDOVER is entered from TRACK alone, and left at its `holdover`-th tick or by a reset
abbrev pub HoldoverSince : Type 0
HoldoverSince =
    (x : ServoSetting) (calls : List Call) → 1 ≤ x.set.holdover →
    (is_holdover (run x calls).state ≡ true) ↔ InHoldover x calls
