-- What the histories of a link's two ends show of each of its ports, and how they are judged, after every event of
-- every run (this project's profile).
use Rattle.std.specs.Prelude.{◌≡◌, ◌≢◌, ℕ, List, Some, Result, Ok, Err}
use Rattle.wrp_base.specs.declared.link.LinkState.TheVariants.{LinkOn}
use Rattle.wrp_base.specs.Link.{other_of}
use Rattle.wrp_check.specs.declared.verdict.Verdict.{Verdict}
use Rattle.wrp_check.specs.declared.verdict.Verdict.TheVariants.{NotOn}
use Rattle.wrp_check.specs.Judged.{Judges}
use Rattle.wrp_handshake_laws.specs.Laws.{LeadsTo}
use Rattle.wrp_course.specs.declared.place.Place.{Place}
use Rattle.wrp_course.specs.Run.{Happened, world_after}
use Rattle.wrp_course.specs.Runs.{IsRun}
use Rattle.wrp_course.specs.SameHandshake.{state_at}
use Rattle.wrp_course.specs.Setting.{Setting, place_of}
use Rattle.wrp_course.specs.WorldAt.{WorldAt}

-- the verdict that is expected for an end of a link, from the histories of both ends
abbrev pub IsDue : WorldAt → Place → Result Unit Verdict → Type 0
IsDue w place verdict =
    Judges place.role (w.end_at place.link place.role).marks (w.end_at place.link (other_of place.role)).marks verdict

-- the marks of a port of a node are a history, which leads to its state, and the verdict is Ok in WR_LINK_ON and NotOn
-- elsewhere
pub record IsJudged (s : Setting) (w : WorldAt) (n p : ℕ) (place : Place) : Type 0 where
  pub marks : LeadsTo (state_at s w n p) (w.end_at place.link place.role).marks
  pub on : state_at s w n p ≡ LinkOn → IsDue w place (Ok tt)
  pub elsewhere : state_at s w n p ≢ LinkOn → IsDue w place (Err NotOn)

-- each port that is an end of a link
abbrev pub AllAreJudged : Setting → WorldAt → Type 0
AllAreJudged s w = (n p : ℕ) (place : Place) → place_of s n p ≡ Some place → IsJudged s w n p place

-- after every event
abbrev pub PortsAreJudged : Type 0
PortsAreJudged = (s : Setting) (events : List Happened) → IsRun s events → AllAreJudged s (world_after s events)
