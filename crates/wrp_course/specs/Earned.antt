-- What a port in WR_LINK_ON has earned, and what each report of such a port rests on, after every event of every run
-- (this project's profile).
use Rattle.std.specs.Prelude.{◌≡◌, ℕ, List, ◌∷◌, Some}
use Rattle.std.specs.List.{AllByRecursion}
use Rattle.wrp_base.specs.declared.link.LinkState.TheVariants.{LinkOn}
use Rattle.wrp_base.specs.declared.link.LinkWord.TheVariants.{In}
use Rattle.wrp_base.specs.declared.link.Role.TheVariants.{Master, Slave}
use Rattle.wrp_network.specs.declared.network.LinkCfg.{LinkCfg}
use Rattle.wrp_handshake_laws.specs.Deltas.{KnowsDeltas}
use Rattle.wrp_node.specs.declared.interface.Output.{Output}
use Rattle.wrp_node.specs.declared.interface.Output.TheVariants.{Report}
use Rattle.wrp_node.specs.declared.interface.Report.TheVariants.{Link}
use Rattle.wrp_course.specs.declared.place.Place.{Place}
use Rattle.wrp_course.specs.Given.{NodeStepAt}
use Rattle.wrp_course.specs.LinkEnds.{in_place, port_at}
use Rattle.wrp_course.specs.Run.{Happened, steps_at, world_after}
use Rattle.wrp_course.specs.Runs.{IsRun}
use Rattle.wrp_course.specs.SameHandshake.{IsInTheSameHandshake, state_at}
use Rattle.wrp_course.specs.Setting.{Setting, end_of, link_of, place_of}
use Rattle.wrp_course.specs.WorldAt.{WorldAt}

-- a slave knows the deltas of the modules that are now in place at both ends, and its master's two came in that same
-- handshake
abbrev pub KnowsTheDeltas : Setting → WorldAt → Place → Type 0
KnowsTheDeltas s w place =
    (link : LinkCfg) → place.role ≡ Slave → link_of s place.link ≡ Some link →
    KnowsDeltas (port_at s w place.link Slave (end_of Slave link)) (in_place s w place.link Master) (in_place s w place.link Slave)

-- its peer passed the required steps of that same handshake, and a slave knows the deltas
pub record HasEarned (s : Setting) (w : WorldAt) (place : Place) : Type 0 where
  pub handshake : IsInTheSameHandshake w place
  pub deltas : KnowsTheDeltas s w place

-- each port in WR_LINK_ON has earned it
abbrev pub AllHaveEarned : Setting → WorldAt → Type 0
AllHaveEarned s w = (n p : ℕ) (place : Place) → place_of s n p ≡ Some place → state_at s w n p ≡ LinkOn → HasEarned s w place

-- a port of a node is in WR_LINK_ON, and has earned it
pub record IsOn (s : Setting) (w : WorldAt) (n p : ℕ) : Type 0 where
  pub place : Place
  pub placed : place_of s n p ≡ Some place
  pub on : state_at s w n p ≡ LinkOn
  pub earned : HasEarned s w place

-- what a node puts out is no report of WR_LINK_ON, or one of a port that is there and has earned it
abbrev pub IsEarnedReport : Setting → WorldAt → ℕ → Output → Type 0
IsEarnedReport s w n (Report (Link p (In LinkOn))) = IsOn s w n p
IsEarnedReport s w n _ = Unit {0}

-- the same of all that a node puts out in a step
abbrev pub AreTrueReports : Setting → WorldAt → NodeStepAt → Type 0
AreTrueReports s w step = AllByRecursion (IsEarnedReport s w step.node) step.outs

-- after every event each port in WR_LINK_ON has earned it
abbrev pub EveryLinkOnIsEarned : Type 0
EveryLinkOnIsEarned = (s : Setting) (events : List Happened) → IsRun s events → AllHaveEarned s (world_after s events)

-- any port that the nodes report to be in WR_LINK_ON in an event is there after it, and has earned it
abbrev pub ReportsAreTrue : Type 0
ReportsAreTrue =
    (s : Setting) (h : Happened) (before : List Happened) → IsRun s (h ∷ before) →
    AllByRecursion (AreTrueReports s (world_after s (h ∷ before))) (steps_at s before h)
