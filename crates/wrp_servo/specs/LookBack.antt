-- What a servo holds after a list of calls, by looking back over it, and the causes as judged there (this
-- project's profile).
use Rattle.std.specs.Prelude.{ℕ, ℤ, pos, ◌-◌, max, Bool, cond, not, ◌&&◌, ◌||◌, is_some, Option, None, Some, List, [], ◌∷◌}
use Rattle.wrp_phase.specs.Unwrapping.{last_tag, unwrapped}
use Rattle.wrp_servo.specs.declared.machine.Core.{Core}
use Rattle.wrp_servo.specs.Call.{Call, CallSample, CallReset, ServoSetting, run}
use Rattle.wrp_servo.specs.Chain.{ends, ends_chain, starts, strays_at}
use Rattle.wrp_servo.specs.Sampling.{hears}
use Rattle.wrp_servo.specs.Tags.{heard_tag, tags}
use Rattle.wrp_servo.specs.Told.{carrier_told, link_told, lease_told, ticks_told, ticks_since_good}
use Rattle.wrp_servo.specs.Tracking.{enters}

-- the phase after a sample, in tau: unchanged if it is not good; else the sum of the wrapped differences of the good
-- tags since the loop's last restart, this one among them
abbrev pub phase_with : ServoSetting → List ℕ → ℤ → Option ℕ → ℤ
phase_with x tags before None = before
phase_with x tags before (Some tag) = unwrapped x.set.clock (tag ∷ tags)

-- the phase u at the last good sample since the last reset, in tau: 0 if there was none
abbrev pub phase_told : ServoSetting → List Call → ℤ
phase_told x [] = pos 0
phase_told x (CallReset ∷ calls) = pos 0
phase_told x (CallSample n base bits ∷ calls) =
    phase_with x (tags x calls) (phase_told x calls) (heard_tag x calls n base bits)
phase_told x (_ ∷ calls) = phase_told x calls

-- the greatest number of a sample that was not ignored since the last reset
abbrev pub last_told : ServoSetting → List Call → ℕ
last_told x [] = 0
last_told x (CallReset ∷ calls) = 0
last_told x (CallSample n base bits ∷ calls) = cond (hears (run x calls)) (max (last_told x calls) n) (last_told x calls)
last_told x (_ ∷ calls) = last_told x calls

-- what a servo holds after a list of calls: carrier, link and lease as last given, the ticks and the ticks since the
-- last good sample as they are counted, the greatest number of a sample, and the phase as a sum of tags. The state, the
-- chain, the four, the calm count, the setpoint, its goal, the controller and the detector are as the rows have them.
abbrev pub seen : ServoSetting → List Call → Core
seen x calls = record (run x calls) {
  signals = record { carrier = carrier_told calls; link = link_told calls; lease = lease_told calls };
  last = last_told x calls;
  ticks = ticks_told calls;
  good_tick = ticks_told calls - ticks_since_good x calls;
  phase = record (run x calls).phase {
    unwrap = record {
      clock = x.set.clock;
      last = last_tag (tags x calls);
      answer = unwrapped x.set.clock (tags x calls);
    };
    u = phase_told x calls;
  };
}

-- a call starts a chain, if there is none
abbrev pub chain_starts : ServoSetting → List Call → Call → Bool
chain_starts x calls call = not (is_some (run x calls).first) && starts x (seen x calls) call

-- a call ends the chain
abbrev pub chain_ends : ServoSetting → List Call → Call → Bool
chain_ends x calls call = ends_chain x (seen x calls) call

-- a call enters TRACK
abbrev pub enters_track : ServoSetting → List Call → Call → Bool
enters_track x calls call = enters x (seen x calls) call

-- a call leaves TRACK: it ends the chain whatever the state, or by a cause of TRACK alone
abbrev pub leaves_track : ServoSetting → List Call → Call → Bool
leaves_track x calls call = ends x (seen x calls) call || strays_at x (seen x calls) call
