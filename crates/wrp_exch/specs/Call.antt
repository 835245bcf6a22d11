-- The calls of an exchange, one constructor for each, with what the call was given. A list of calls
-- has the newest call at its head, so that it is read looking back (this project's profile).
use Rattle.std.specs.Prelude.{ℕ, ℤ}
use Rattle.wrp_base.specs.declared.time.Stamp.{Stamp}

-- a call: the servo's chain starts at a good sample, or ends; a good sample with its unwrapped phase; and the pieces of both
-- pairs by sequenceId. Phases and times are in tau, `correction` is as the correctionField has it, `tick` counts node ticks
pub data Call : Type 0 where
  CallStart : (first : ℕ) → Call
  CallClear : Call
  CallSample : (number : ℕ) (phase : ℤ) → Call
  CallSync : (seq : ℕ) (correction : ℤ) (t2 : Stamp) (tick : ℕ) → Call
  CallFollowUp : (seq : ℕ) (precise : ℤ) → Call
  CallReqOut : (seq : ℕ) → Call
  CallReqSent : (seq : ℕ) (t3 : Stamp) (tick : ℕ) → Call
  CallResp : (seq : ℕ) (t4 : ℤ) → Call
