-- The good samples since the loop's last restart, looking back.
use Rattle.std.specs.Prelude.{◌≡◌, ℕ, Bool, true, false, cond, not, ◌&&◌, Option, None, Some, List, [], ◌∷◌}
use Rattle.wrp_phase.specs.Unwrapping.{StandsFor, unwrapped}
use Rattle.wrp_servo.specs.declared.machine.Core.{Core}
use Rattle.wrp_servo.specs.Sampling.{hears, is_holdover, good_tag, is_far}
use Rattle.wrp_servo.specs.Call.{Call, CallSample, CallTick, CallCarrier, CallReset, ServoSetting, run}

-- the tag of a sample that comes after these calls, if it is good
abbrev pub heard_tag : ServoSetting → List Call → ℕ → ℕ → ℕ → Option ℕ
heard_tag x calls n base bits = cond (hears (run x calls)) (good_tag (run x calls).last n base bits) None

-- the tags with one more, newest first; one whose phase is out of range restarts the loop
abbrev pub with_more : ServoSetting → List ℕ → Option ℕ → List ℕ
with_more x tags None = tags
with_more x tags (Some tag) = cond (is_far (unwrapped x.set.clock (tag ∷ tags))) [] (tag ∷ tags)

-- the good tags since the loop's last restart, newest first: it restarts at a reset, at a carrier that
-- comes outside HOLDOVER, at the tick that ends HOLDOVER, and at a sample out of range
abbrev pub tags : ServoSetting → List Call → List ℕ
tags x [] = []
tags x (CallReset ∷ calls) = []
tags x (CallCarrier true ∷ calls) = cond (is_holdover (run x calls).state) (tags x calls) []
tags x (CallTick ∷ calls) = cond (is_holdover (run x calls).state && not (is_holdover (run x (CallTick ∷ calls)).state)) [] (tags x calls)
tags x (CallSample n base bits ∷ calls) = with_more x (tags x calls) (heard_tag x calls n base bits)
tags x (_ ∷ calls) = tags x calls

-- there are none
abbrev pub is_empty : List ℕ → Bool
is_empty [] = true
is_empty (t ∷ ts) = false

-- the loop of a servo has taken these tags since its last restart: u is the sum of their wrapped differences
pub record HasTaken (x : ServoSetting) (v : Core) (ts : List ℕ) : Type 0 where
  pub clock : v.phase.unwrap.clock ≡ x.set.clock
  pub stands : StandsFor v.phase.unwrap ts
  pub fresh : v.phase.fresh ≡ is_empty ts
  pub u : is_empty ts ≡ false → v.phase.u ≡ unwrapped x.set.clock ts

-- after any list of calls the loop has taken exactly the good tags since its last restart, and u, in tau, is what they add up to
abbrev pub PhaseIsSum : Type 0
PhaseIsSum = (x : ServoSetting) (calls : List Call) → HasTaken x (run x calls) (tags x calls)
