-- Hops are kept after each event of an audit, a simulation and a run over a link, by the laws of every run.
use Rattle.std.proofs.Common.{List, [], ◌∷◌}
use Rattle.wrp_course.specs.Run.{Happened}
use Rattle.wrp_course.specs.Setting.{Setting}
use Rattle.wrp_bound_laws.specs.Bounds.{TrueRun}
use Rattle.wrp_bound_laws.specs.Hops.{SiblingsAgree, TracksAddUp, TracksFollow}
use Rattle.wrp_asked.specs.HopByHop.{HopByHop, HopsAreKept}
use Rattle.wrp_asked.proofs.TracksHold.{RunsNear, runs_before, true_run}

-- the laws that this rests on
pub record HopLaws : Type 0 where
  pub follows : TracksFollow
  pub siblings : SiblingsAgree
  pub way : TracksAddUp

kept_after : HopLaws → (s : Setting) (events : List Happened) → TrueRun s events → HopsAreKept s events
kept_after laws s events run = record {
  parent = λ n link above tracks. laws.follows s events n link run above tracks;
  siblings = λ m n one other above below same mine yours. laws.siblings s events m n one other run above below same mine yours;
  way = λ n links up. laws.way s events n links run up;
}

pub hops_hold : HopLaws → (s : Setting) (events : List Happened) → RunsNear s events → HopByHop s events
hops_hold laws s [] runs = tt
hops_hold laws s (h ∷ before) runs = (kept_after laws s (h ∷ before) (true_run s (h ∷ before) runs), hops_hold laws s before (runs_before s h before runs))
