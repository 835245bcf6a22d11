-- Looking back over a list of calls, newest first: something holds if a call starts it and no later call ends it.
use Rattle.std.specs.Prelude.{◌≡◌, Bool, true, false, List, [], ◌∷◌, ◌++◌}
use Rattle.wrp_servo.specs.Call.{Call}

-- none of these calls, each after all the calls before it, ends it
abbrev pub NoneEnds : (List Call → Call → Bool) → List Call → List Call → Type 0
NoneEnds ends [] before = Unit {0}
NoneEnds ends (call ∷ since) before = (ends (since ++ before) call ≡ false) × NoneEnds ends since before

-- the list has a call that starts it, and no later call ends it
pub record Since (starts ends : List Call → Call → Bool) (calls : List Call) : Type 0 where
  pub since : List Call
  pub start : Call
  pub before : List Call
  pub splits : calls ≡ since ++ start ∷ before
  pub started : starts before start ≡ true
  pub stays : NoneEnds ends since (start ∷ before)
