-- The aim's part on how far nodes are from true time: each node keeps its bound in TRACK and in HOLDOVER; what a node reports of
-- TRACK is true, and so is each line that is written of that: the true offset is within the bound, and the estimate near the
-- offset from the parent (this project's profile).
use Rattle.std.specs.Prelude.{◌≡◌, ◌≤◌, ℕ, ℤ, pos, unsigned_abs, List, [], ◌∷◌, codes}
use Rattle.std.specs.Fmt.{signed_decimal}
use Rattle.std.specs.List.{AllByRecursion}
use Rattle.wrp_network.specs.Network.{name_at}
use Rattle.wrp_bounds.specs.Bounds.{path_of}
use Rattle.wrp_records.specs.Words.{line_of, IsWord}
use Rattle.wrp_bound_laws.specs.Bounds.{AllAreBounded, IsTrueReport, IsTrueStep}
use Rattle.wrp_course.specs.Run.{Happened, steps_at, world_after}
use Rattle.wrp_course.specs.Setting.{Setting}
use Rattle.wrp_course.specs.WorldAt.{WorldAt}
use Rattle.wrp_asked.specs.EventLines.{AtEachEvent, Writing}
use Rattle.wrp_records.specs.Lines.{lines_of}

-- these words are a node's name, an estimate, a bound and an offset from true time: the bound is the bound of the
-- node's path, the offset is the node's and is within it, and the estimate is near the node's offset from its parent
pub record TellsTruth (s : Setting) (w : WorldAt) (node est bound off : List ℕ) : Type 0 where
  pub number : ℕ
  pub estimate : ℤ
  pub most : ℕ
  pub offset : ℤ
  pub name_is : name_at s.cfg number ≡ node
  pub estimate_is : signed_decimal estimate ≡ est
  pub most_is : signed_decimal (pos most) ≡ bound
  pub offset_is : signed_decimal offset ≡ off
  pub within : unsigned_abs offset ≤ most
  pub path : most ≡ path_of s.cfg number
  pub own : offset ≡ (w.clock number).off
  pub report : IsTrueReport s w number estimate

-- a line that is written of an event which led to this world: if it says NODE TICK track EST BOUND true OFF, that is so
abbrev pub IsTrueLine : Setting → WorldAt → List ℕ → Type 0
IsTrueLine s w line =
    (node tick est bound off : List ℕ) → IsWord node → IsWord tick → IsWord est → IsWord bound → IsWord off →
    line ≡ line_of (node ∷ tick ∷ codes "track" ∷ est ∷ bound ∷ codes "true" ∷ off ∷ []) →
    TellsTruth s w node est bound off

-- after an event each node keeps its bound; in it each report of TRACK is true, and so is each line of one that is written of
-- the event
pub record IsTrueAt (write : Writing) (s : Setting) (before : List Happened) (h : Happened) : Type 0 where
  pub nodes : AllAreBounded s (world_after s (h ∷ before))
  pub reports : AllByRecursion (IsTrueStep s (world_after s (h ∷ before))) (steps_at s before h)
  pub lines : AllByRecursion (IsTrueLine s (world_after s (h ∷ before))) (lines_of (write s before h))

-- after each event, each node keeps its bound, and each report of TRACK in the event and each line written of one is true
abbrev pub TracksAreWithin : Writing → Setting → List Happened → Type 0
TracksAreWithin write s events = AtEachEvent (IsTrueAt write s) events
