-- What is true of each event of a run (this project's profile): about its links and about dropped frames, whatever the
-- events' numbers and the laws' answers are; and about how far its nodes are from true time, if the numbers fit the
-- types that hold them and the answers of the links' laws are near the exact fraction.
use Rattle.std.specs.Prelude.{List, ◌∷◌}
use Rattle.std.specs.List.{AllByRecursion}
use Rattle.wrp_course.specs.Dropped.{AllDropsLeaveACount}
use Rattle.wrp_course.specs.Earned.{AllHaveEarned, AreTrueReports}
use Rattle.wrp_course.specs.Judged.{AllAreJudged}
use Rattle.wrp_course.specs.Run.{Happened, steps_at, world_after}
use Rattle.wrp_course.specs.Runs.{IsRun}
use Rattle.wrp_course.specs.Setting.{Setting}
use Rattle.wrp_bound_laws.specs.Bounds.{AllAreBounded, IsTrueStep, TrueRun}
use Rattle.wrp_bound_laws.specs.Chains.{AllHaveConstants}

-- after the event, each port in WR_LINK_ON has earned it: its peer went through the required steps of that same
-- handshake, and a slave knows the deltas of the installed modules; each port is where its marks lead, and the verdict
-- on both histories is Ok exactly in WR_LINK_ON; each port that a node reports in the event to be in WR_LINK_ON is
-- there, and has earned it; a frame dropped for one of the reasons 1 to 12 changes one counter and nothing else
pub record LinksHold (s : Setting) (h : Happened) (before : List Happened) : Type 0 where
  pub handshakes : AllHaveEarned s (world_after s (h ∷ before))
  pub judged : AllAreJudged s (world_after s (h ∷ before))
  pub reports : AllByRecursion (AreTrueReports s (world_after s (h ∷ before))) (steps_at s before h)
  pub drops : AllDropsLeaveACount s before h

-- after the event, each node that is up is within its bound of true time, in TRACK and in HOLDOVER, ahead or behind;
-- each estimate that a node reports in it comes from a node in TRACK that is within its path, and is near the offset
-- from the parent; and each chain of good samples that has not ended has a constant
pub record TracksHold (s : Setting) (h : Happened) (before : List Happened) : Type 0 where
  pub offsets : AllAreBounded s (world_after s (h ∷ before))
  pub reports : AllByRecursion (IsTrueStep s (world_after s (h ∷ before))) (steps_at s before h)
  pub chains : AllHaveConstants s (h ∷ before)

-- this holds of each event of every run
abbrev pub LinksHoldInRuns : Type 0
LinksHoldInRuns = (s : Setting) (h : Happened) (before : List Happened) → IsRun s (h ∷ before) → LinksHold s h before

abbrev pub TracksHoldInRuns : Type 0
TracksHoldInRuns = (s : Setting) (h : Happened) (before : List Happened) → TrueRun s (h ∷ before) → TracksHold s h before
