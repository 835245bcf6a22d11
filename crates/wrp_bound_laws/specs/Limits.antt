-- The limits of TRACK, in a run (this project's profile).
use Rattle.std.specs.Prelude.{◌≡◌, ◌≤◌, ◌+◌, ◌≤ℤ◌, ℕ, pos, unsigned_abs, List, Some}
use Rattle.wrp_base.specs.declared.link.ServoState.TheVariants.{Track}
use Rattle.wrp_network.specs.declared.network.LinkCfg.{LinkCfg}
use Rattle.wrp_network.specs.Network.{link_above}
use Rattle.wrp_node.specs.NodeAt.{servo_at, state_of}
use Rattle.wrp_servo.specs.declared.machine.Core.{Core}
use Rattle.wrp_servo.specs.declared.machine.Measurement.{Measurement}
use Rattle.wrp_servo.specs.Following.{e_tau}
use Rattle.wrp_servo.specs.Sampling.{residual}
use Rattle.wrp_course.specs.Run.{Happened, world_after}
use Rattle.wrp_course.specs.Runs.{IsRun}
use Rattle.wrp_course.specs.Setting.{Setting, node_setting_of}

-- a servo keeps the limits of TRACK, after this many ticks of its node since the start
pub record KeepsLimits (s : Setting) (v : Core) (ticks : ℕ) : Type 0 where
  -- the measurement that it holds: at the last tick its four was at most `age` ticks old
  pub kept : Measurement
  pub stands : v.kept ≡ Some kept
  pub young : ticks ≤ kept.four.tick + unsigned_abs s.cfg.age
  -- the loop's error, as the last good sample left it
  pub loop : pos (unsigned_abs (e_tau v.phase)) ≤ℤ s.cfg.loop_tau
  -- the residual, as that sample and the last measurement left it
  pub track : pos (unsigned_abs (residual v.phase kept)) ≤ℤ s.cfg.track_tau

-- the servo of each node in TRACK keeps them
abbrev pub TrackKeepsLimits : Type 0
TrackKeepsLimits =
    (s : Setting) (events : List Happened) (n : ℕ) (link : LinkCfg) → IsRun s events → link_above s.cfg n ≡ Some link →
    state_of (node_setting_of s n) ((world_after s events).node n) ≡ Track →
    KeepsLimits s (servo_at (node_setting_of s n) ((world_after s events).node n)) ((world_after s events).node n).ticks
