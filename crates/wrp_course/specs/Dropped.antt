-- What a frame changes if it is dropped whatever its kind, as no message or as a foreign one, in every event of every
-- run (this project's profile).
use Rattle.std.specs.Prelude.{◌≡◌, ◌≢◌, ℕ, ◌==◌, if◌then◌else◌, List, [], ◌∷◌, Some}
use Rattle.std.specs.List.{AllByRecursion}
use Rattle.wrp_base.specs.declared.link.Role.{Role}
use Rattle.wrp_data.specs.Counters.{counts_after}
use Rattle.wrp_node.specs.declared.interface.Input.{Input}
use Rattle.wrp_node.specs.declared.interface.Input.TheVariants.{Frame}
use Rattle.wrp_node.specs.Laws.{reason_of}
use Rattle.wrp_node.specs.NodeAt.{NodeAt}
use Rattle.wrp_course.specs.Given.{Given, given_by}
use Rattle.wrp_course.specs.Moved.{moved}
use Rattle.wrp_course.specs.Run.{Happened, steps_at, world_after}
use Rattle.wrp_course.specs.Setting.{Setting, node_setting_of}
use Rattle.wrp_course.specs.WorldAt.{WorldAt}

-- the inputs that an event gives the nodes, in their order
abbrev pub given_at : Setting → List Happened → Happened → List Given
given_at s before h = given_by s (world_after s before) (moved s (world_after s before) h.event) h.says h.event

-- a node that dropped one more frame at port p: its counter of the reason there is one more, as the table of counters
-- says, or stays if it is at 2^32 - 1, its greatest value; its other counters, at all ports, and all else of the node
-- stay as they are
abbrev pub with_count : ℕ → ℕ → NodeAt → NodeAt
with_count p reason n = record n { counters = λ q. if q == p then counts_after (n.counters q) reason else n.counters q }

-- a world in which that counter of a node is one more, or stays at its greatest value, and nothing else is changed,
-- except that one more event came, of which its node took an input: no node, no clock, no fibre, no frame, nor how many
-- departed, and at neither end of any link what waits there, what was ever put out there, and the history of the link's
-- state
pub record CountsAlone (n p reason : ℕ) (old new : WorldAt) : Type 0 where
  pub node : new.node n ≡ with_count p reason (old.node n)
  pub others : (m : ℕ) → m ≢ n → new.node m ≡ old.node m
  pub time : new.time ≡ old.time
  pub clocks : (m : ℕ) → new.clock m ≡ old.clock m
  pub fibres : (k : ℕ) → new.fibre k ≡ old.fibre k
  pub ends : (k : ℕ) (r : Role) → new.end_at k r ≡ old.end_at k r
  pub departed : new.departed ≡ old.departed
  pub frames : (i : ℕ) → new.frame i ≡ old.frame i

-- no node puts out anything in an event that hands a node such a frame, and the event changes only one counter of that
-- node
pub record LeavesACount (s : Setting) (before : List Happened) (h : Happened) (n p reason : ℕ) : Type 0 where
  pub silent : AllByRecursion (λ step. step.outs ≡ []) (steps_at s before h)
  pub counts : CountsAlone n p reason (world_after s before) (world_after s (h ∷ before))

-- if an input is a frame that its node drops for one of the reasons 1 to 12, its event leaves a count
abbrev pub DropsLeaveACount : Setting → List Happened → Happened → ℕ → Given → Input → Type 0
DropsLeaveACount s before h n g (Frame p octets raw sample) =
    (reason : ℕ) → reason_of (node_setting_of s n) ((world_after s before).node n) p g.says ≡ Some reason →
    LeavesACount s before h n p reason
DropsLeaveACount s before h n g _ = Unit {0}

-- this holds of all inputs of an event
abbrev pub AllDropsLeaveACount : Setting → List Happened → Happened → Type 0
AllDropsLeaveACount s before h = AllByRecursion (λ (g : Given). DropsLeaveACount s before h g.to g g.input) (given_at s before h)

-- in any event, after any others: a frame that its node drops for one of the reasons 1 to 12 raises one counter of that
-- node, up to 2^32 - 1, and changes nothing else, and no node outputs anything
abbrev pub DroppedFramesLeaveACount : Type 0
DroppedFramesLeaveACount = (s : Setting) (h : Happened) (before : List Happened) → AllDropsLeaveACount s before h
