-- The phase loop of a servo: the setpoint, the loop's error, and what a good sample does to them.
use Rattle.std.specs.Prelude.{ℕ, ℤ, pos, ◌^◌, ◌+ℤ◌, ◌-ℤ◌, true, false, cond}
use Rattle.wrp_base.specs.Division.{floor_quotient}
use Rattle.wrp_base.specs.Held.{held_within}
use Rattle.wrp_phase.specs.Unwrapping.{pushed, untouched}
use Rattle.wrp_pi.specs.Loop.{rested as loop_rested, updated as loop_updated, value_at}
use Rattle.wrp_pi.specs.Lock.{rested as lock_rested, updated as lock_updated}
use Rattle.wrp_servo.specs.declared.phase_loop.PhaseLoop.{PhaseLoop}
use Rattle.wrp_servo.specs.declared.interface.ServoSet.{ServoSet}

-- a loop at rest
abbrev pub new_loop : ServoSet → PhaseLoop
new_loop set = record {
  unwrap = untouched set.clock;
  pi = loop_rested (record { kp = set.kp; ki = set.ki; bias = set.bias });
  lock = lock_rested (record { threshold = set.threshold; lock = set.lock_samples; delock = set.delock_samples });
  fresh = true;
  u = pos 0;
  s = pos 0;
  goal = pos 0;
  dac = set.bias;
}

-- the loop restarts: unwrapping, controller and lock detector forget what they took, and u, s and goal
-- become 0 at the next good sample
abbrev pub restarted : PhaseLoop → PhaseLoop
restarted l = record l {
  unwrap = untouched l.unwrap.clock;
  pi = loop_rested l.pi.gains;
  lock = lock_rested l.lock.limits;
  fresh = true;
}

-- the lock detector alone restarts
abbrev pub unlocked : PhaseLoop → PhaseLoop
unlocked l = record l { lock = lock_rested l.lock.limits }

-- a good sample's tag gives u; the first one since a restart sets s and goal to 0
abbrev pub taken : PhaseLoop → ℕ → PhaseLoop
taken l tag = record l {
  unwrap = pushed l.unwrap tag;
  fresh = false;
  u = (pushed l.unwrap tag).answer;
  s = cond l.fresh (pos 0) l.s;
  goal = cond l.fresh (pos 0) l.goal;
}

-- the setpoint moves towards its goal by at most `step`
abbrev pub moved_toward : ℤ → ℤ → ℤ → ℤ
moved_toward step s goal = s +ℤ held_within step (goal -ℤ s)

-- the loop with its setpoint at most `step` tau nearer to its goal
abbrev pub approached : ℤ → PhaseLoop → PhaseLoop
approached step l = record l { s = moved_toward step l.s l.goal }

-- the loop's error, in tau
abbrev pub e_tau : PhaseLoop → ℤ
e_tau l = l.u -ℤ l.s

-- whole steps of 1,000 tau, held within 2^20
abbrev pub held_error : ℤ → ℤ
held_error steps = held_within (pos (2 ^ 20)) steps

-- an error in tau as the controller and the lock detector take it: whole steps of 1,000 tau, rounded down, within 2^20
abbrev pub error_of : ℤ → ℤ
error_of e = held_error (floor_quotient e (pos 1000))

-- the loop's error goes to the controller and to the lock detector
abbrev pub controlled : PhaseLoop → PhaseLoop
controlled l = record l {
  pi = loop_updated l.pi (error_of (e_tau l));
  lock = lock_updated l.lock (error_of (e_tau l));
  dac = value_at l.pi (error_of (e_tau l));
}
