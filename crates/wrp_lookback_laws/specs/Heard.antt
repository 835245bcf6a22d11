-- What a servo heard, by looking back over the list of its calls, the newest first: which samples were good, their
-- tags, u, and the ticks since the last of them. Of the servo's running values only the state and the setpoint are used
-- (this project's profile).
use Rattle.std.specs.Prelude.{ℕ, ℤ, pos, ◌+◌, Bool, true, cond, not, ◌&&◌, nat_lt, max, is_some, Option, None, List, [], ◌∷◌}
use Rattle.wrp_base.specs.declared.link.ServoState.{ServoState}
use Rattle.wrp_phase.specs.Beat.{deglitched}
use Rattle.wrp_servo.specs.Call.{Call, CallSample, CallTick, CallCarrier, CallReset, ServoSetting, run}
use Rattle.wrp_servo.specs.LookBack.{phase_with}
use Rattle.wrp_servo.specs.Sampling.{is_holdover}
use Rattle.wrp_servo.specs.Tags.{with_more}
use Rattle.wrp_servo.specs.Told.{carrier_told}

-- ---- the two running values

-- the state after these calls
abbrev pub state_at : ServoSetting → List Call → ServoState
state_at x calls = (run x calls).state

-- the setpoint after these calls, in tau
abbrev pub setpoint_at : ServoSetting → List Call → ℤ
setpoint_at x calls = (run x calls).phase.s

-- ---- good samples

-- a sample that comes after these calls is heard: there is a carrier, and the state is not HOLDOVER
abbrev pub is_heard : ServoSetting → List Call → Bool
is_heard x calls = carrier_told calls && not (is_holdover (state_at x calls))

-- the greatest number of a sample that was heard since the last reset
abbrev pub greatest_heard : ServoSetting → List Call → ℕ
greatest_heard x [] = 0
greatest_heard x (CallReset ∷ calls) = 0
greatest_heard x (CallSample n base bits ∷ calls) =
    cond (is_heard x calls) (max (greatest_heard x calls) n) (greatest_heard x calls)
greatest_heard x (_ ∷ calls) = greatest_heard x calls

-- the tag of a sample that comes after these calls, if it is good: it is heard, newer than all before, and not glitched
abbrev pub tag_at : ServoSetting → List Call → ℕ → ℕ → ℕ → Option ℕ
tag_at x calls n base bits =
    cond (is_heard x calls) (cond (nat_lt (greatest_heard x calls) n) (deglitched base bits) None) None

-- the tag of the good sample that this call is, if it is one
abbrev pub tag_of : ServoSetting → List Call → Call → Option ℕ
tag_of x calls (CallSample n base bits) = tag_at x calls n base bits
tag_of x calls _ = None

-- ---- u

-- the good tags since the loop's last restart, newest first: it restarts at a reset, at a carrier that comes outside
-- HOLDOVER, at the tick that ends HOLDOVER, and at a sample out of range
abbrev pub tags_since : ServoSetting → List Call → List ℕ
tags_since x [] = []
tags_since x (CallReset ∷ calls) = []
tags_since x (CallCarrier true ∷ calls) = cond (is_holdover (state_at x calls)) (tags_since x calls) []
tags_since x (CallTick ∷ calls) =
    cond (is_holdover (state_at x calls) && not (is_holdover (state_at x (CallTick ∷ calls)))) [] (tags_since x calls)
tags_since x (CallSample n base bits ∷ calls) = with_more x (tags_since x calls) (tag_at x calls n base bits)
tags_since x (_ ∷ calls) = tags_since x calls

-- u after these calls, in tau: u at the last good sample since the last reset, and 0 if there is none
abbrev pub u_at : ServoSetting → List Call → ℤ
u_at x [] = pos 0
u_at x (CallReset ∷ calls) = pos 0
u_at x (CallSample n base bits ∷ calls) = phase_with x (tags_since x calls) (u_at x calls) (tag_at x calls n base bits)
u_at x (_ ∷ calls) = u_at x calls

-- ---- ticks

-- the ticks since the last good sample, or since the last reset if none came
abbrev pub ticks_without : ServoSetting → List Call → ℕ
ticks_without x [] = 0
ticks_without x (CallTick ∷ calls) = ticks_without x calls + 1
ticks_without x (CallReset ∷ calls) = 0
ticks_without x (CallSample n base bits ∷ calls) =
    cond (is_some (tag_at x calls n base bits)) 0 (ticks_without x calls)
ticks_without x (_ ∷ calls) = ticks_without x calls
