-- The delays of the ports of a link, in a run: while the link is on, its slave computes with the delays that the
-- database has of the modules in place (this project's profile).
use Rattle.std.specs.Prelude.{◌≡◌, ℕ, List, Some}
use Rattle.wrp_base.specs.declared.link.Deltas.{Deltas}
use Rattle.wrp_network.specs.declared.network.LinkCfg.{LinkCfg}
use Rattle.wrp_bounds.specs.Bounds.{numbers_of}
use Rattle.wrp_bounds.specs.declared.numbers.HopNumbers.{HopNumbers}
use Rattle.wrp_node.specs.NodeAt.{deltas_in}
use Rattle.wrp_tracking_laws.specs.ErrorSum.{FibreHolds}
use Rattle.wrp_course.specs.Run.{Happened, world_after}
use Rattle.wrp_course.specs.Runs.{IsRun}
use Rattle.wrp_course.specs.Setting.{Setting, link_of}
use Rattle.wrp_bound_laws.specs.Views.{moment_at}

-- each of the four is within the database's error of the true delay, and the fibre between the ports keeps its share
abbrev pub FibreHoldsWhileOn : Type 0
FibreHoldsWhileOn =
    (s : Setting) (events : List Happened) (k : ℕ) (link : LinkCfg) (hop : HopNumbers) (deltas : Deltas) → IsRun s events →
    link_of s k ≡ Some link → numbers_of s.cfg link.lower ≡ Some hop →
    deltas_in (s.set link.lower) ((world_after s events).node link.lower) ≡ Some deltas →
    FibreHolds hop (moment_at k link (world_after s events)) deltas
