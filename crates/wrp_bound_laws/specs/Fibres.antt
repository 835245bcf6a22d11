-- The fibres of a run, while they are joined (this project's profile).
use Rattle.std.specs.Prelude.{◌≡◌, ◌≤◌, ◌*◌, ◌^◌, ◌≤ℤ◌, unsigned_abs, ℕ, pos, true, List, Some}
use Rattle.wrp_base.specs.declared.link.Role.TheVariants.{Master, Slave}
use Rattle.wrp_network.specs.declared.network.LinkCfg.{LinkCfg}
use Rattle.wrp_bounds.specs.Times.{reach}
use Rattle.wrp_course.specs.Premises.{asymmetry}
use Rattle.wrp_course.specs.Run.{Happened, world_after}
use Rattle.wrp_course.specs.Runs.{IsRun}
use Rattle.wrp_course.specs.Setting.{Setting, link_of}
use Rattle.wrp_course.specs.WorldAt.{WorldAt, delay_from}

-- a fibre: it takes time both ways, at most the reach with the ports' own, and the way down has its share of both
pub record IsFibre (s : Setting) (k : ℕ) (link : LinkCfg) (w : WorldAt) : Type 0 where
  pub down : pos 0 ≤ℤ (w.fibre k).ms
  pub up : pos 0 ≤ℤ (w.fibre k).sm
  pub reach_down : delay_from w k Master ≤ℤ pos (reach s.cfg)
  pub reach_up : delay_from w k Slave ≤ℤ pos (reach s.cfg)
  pub share : unsigned_abs (asymmetry link.kappa (w.fibre k).ms (w.fibre k).sm) ≤ 2 ^ 40 * link.e_asym

-- this holds of each joined fibre, in every run
abbrev pub FibresKeepTheirShare : Type 0
FibresKeepTheirShare =
    (s : Setting) (events : List Happened) (k : ℕ) (link : LinkCfg) → IsRun s events → link_of s k ≡ Some link →
    ((world_after s events).fibre k).joined ≡ true → IsFibre s k link (world_after s events)
