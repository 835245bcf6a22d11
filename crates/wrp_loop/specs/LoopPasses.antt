-- What passes when the records of a run over a link are handled and the run then takes place (this project's
-- profile).
use Rattle.std.specs.Prelude.{◌≡◌, ◌⊎◌, ℕ, ℤ, Bool, true, Option, List, [], ◌++◌, map, take}
use Rattle.std.specs.Io.KnownBytes.{Appends, Consumes, IsAtEnd}
use Rattle.wrp_course.specs.Setting.{Setting}
use Rattle.wrp_io.specs.declared.link.LinkCall.{LinkCall}
use Rattle.wrp_loop.specs.declared.network.LoopCourse.{LoopCourse}
use Rattle.wrp_loop.specs.declared.network.LoopedNetwork.{LoopedNetwork}
use Rattle.wrp_loop.specs.Calls.{Grew}
use Rattle.wrp_loop.specs.LoopRun.{LoopAt, Plan}
use Rattle.wrp_loop.specs.SoFar.{CameSoFar}
use Rattle.wrp_records.specs.declared.status.Status.{Status}
use Rattle.wrp_records.specs.declared.status.Status.TheVariants.{Done, LinkFault, OutOfMemory, ReadFault, TooLarge, WriteFault}
use Rattle.wrp_records.specs.After.{After}
use Rattle.wrp_records.specs.ByLines.{of_lines}
use Rattle.wrp_records.specs.Engine.{Finishes}
use Rattle.wrp_records.specs.Lines.{content_of, lines_of}
use Rattle.wrp_records.specs.Passages.{FailsBy, Passage}
use Rattle.wrp_records.specs.Stream.{Handles}
use Rattle.wrp_loop.specs.Loops.{LoopBreaks, LoopCloses, closing_lines}
use Rattle.wrp_scene_records.specs.Scenarios.{IsScenario, SimAccepts, scenario_of}
use Rattle.wrp_scene.specs.Scenario.{SceneAt}

-- Before any call

-- a status that is about words, a network text, a record or the source: no link was called before it
abbrev pub IsUncalled : Status → Type 0
IsUncalled Done = ⊥
IsUncalled TooLarge = ⊥
IsUncalled WriteFault = ⊥
IsUncalled LinkFault = ⊥
IsUncalled OutOfMemory = ⊥
IsUncalled status = Unit {0}

-- After a scenario

-- what is expected if a loop by the scenario that these lines say ended with a status, and its link showed these
-- calls; nothing, if memory ran out before the loop began
abbrev pub RanDue : Setting → ℕ → List (List ℕ) → List LinkCall → Status → List ℕ → Type 0
RanDue s seed lines calls Done text = LoopCloses s seed calls lines text
RanDue s seed lines calls TooLarge text = LoopBreaks s seed calls lines TooLarge text
RanDue s seed lines calls OutOfMemory text =
    ((calls ≡ []) × (text ≡ [])) ⊎ LoopBreaks s seed calls lines OutOfMemory text
RanDue s seed lines calls _ text = ⊥

-- what was written: right before its link starts, a loop gives its sink an empty piece, and if the sink failed
-- there, no call was made and nothing is written; if it failed later, these are the first octets of what is
-- expected
abbrev pub RanSo : Setting → ℕ → List (List ℕ) → List LinkCall → Status → List ℕ → Type 0
RanSo s seed lines calls WriteFault text =
    ((calls ≡ []) × (text ≡ []))
    ⊎ ((status : Status) × (due : List ℕ) × (count : ℕ) × (text ≡ take count due) × RanDue s seed lines calls status due)
RanSo s seed lines calls LinkFault text = LoopBreaks s seed calls lines LinkFault text
RanSo s seed lines calls status text = RanDue s seed lines calls status text

-- a network ran by a scenario over a link, which showed the first calls before and the second calls after: these
-- calls were made, and this was written
pub record Ran (s : Setting) (scene : SceneAt) (seed : ℕ) (before told : Option (List LinkCall)) (held now : Option (List ℕ))
    (status : Status) : Type 0 where
  pub calls : List LinkCall
  pub text : List ℕ
  pub called : Grew before told calls
  pub wrote : Appends held now text
  pub so : (lines : List (List ℕ)) → IsScenario s lines scene → RanSo s seed lines calls status text

-- With its records

-- what the output is, given what was taken and whether the input ended with it: either the records do not all say a
-- scenario, or were not all taken, and no call was made; or they do, and the network ran
abbrev pub LoopAfter : Setting → ℕ → List ℕ → Bool → List LinkCall → Status → List ℕ → Type 0
LoopAfter s seed taken ended calls status text =
    ((calls ≡ []) × After (of_lines (scenario_of s)) taken ended [] status text)
    ⊎ ((ended ≡ true) × Handles (SimAccepts s) (lines_of taken) []
    × RanSo s seed (map content_of (lines_of taken)) calls status text)

-- after octets that were held, and an input that had ended or not, the records were handled, and the network ran
-- over the link
pub record LoopPasses (s : Setting) (seed : ℕ) (source sink : Passage (List ℕ)) (link : Passage (List LinkCall))
    (held : List ℕ) (had_ended ended : Bool) (status : Status) : Type 0 where
  pub given : List ℕ
  pub octets : List ℕ
  pub calls : List LinkCall
  pub taken : Consumes source.before source.now given
  pub wrote : Appends sink.before sink.now octets
  pub called : Grew link.before link.now calls
  pub stands : LoopAfter s seed (held ++ given) ended calls status octets
  pub at_end : ended ≡ true → IsAtEnd source.now
  pub stays : had_ended ≡ true → ended ≡ true
  pub read : FailsBy ReadFault status source
  pub write : FailsBy WriteFault status sink
  pub linked : FailsBy LinkFault status link

-- As it goes on

-- a loop came so far, and all lines of its events are written
pub record Rounding {F : Type 0} (post : F → ℤ → ℤ → Type 0) (x : Plan) (network : LoopedNetwork F) (course : LoopCourse)
    (before told : Option (List LinkCall)) (held now : Option (List ℕ)) (waiting : List ℕ) : Type 0 where
  pub written : List ℕ
  pub wrote : Appends held now written
  pub came : CameSoFar post x network course before told (written ++ waiting)

-- what closes a loop is written after what waits, or a part of that is written; or memory runs out
abbrev pub ClosesLoop : Setting → LoopAt → Status → Option (List ℕ) → Option (List ℕ) → List ℕ → Type 0
ClosesLoop s l status before now waiting =
    ((status ≡ OutOfMemory) × (now ≡ before)) ⊎ Finishes Done status before now (waiting ++ closing_lines s l)
