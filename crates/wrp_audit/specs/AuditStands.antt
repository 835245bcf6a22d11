-- What an audited network stands for: the lines that it has taken (this project's profile).
use Rattle.std.specs.Prelude.{◌≡◌, ◌<◌, ℕ, ℤ, Option, None, Some, IfSome, List, Result}
use Rattle.std.specs.List.{flat_map}
use Rattle.wrp_base.specs.declared.message.PtpMsg.{PtpMsg}
use Rattle.wrp_network.specs.Network.{node_count}
use Rattle.wrp_frame.specs.declared.fault.FrameFault.{FrameFault}
use Rattle.wrp_course.specs.Checks.{told_of}
use Rattle.wrp_course.specs.declared.breach.Breach.{Breach}
use Rattle.wrp_course.specs.declared.event.Event.{Event}
use Rattle.wrp_course.specs.Given.{NodeStepAt, event_steps, world_step}
use Rattle.wrp_course.specs.Premises.{Accepts, checks_of}
use Rattle.wrp_course.specs.Run.{Happened, IsSaid, world_after}
use Rattle.wrp_course.specs.Setting.{Setting}
use Rattle.wrp_world.specs.StandsFor.{IsValid, StandsFor, WorldOf}
use Rattle.wrp_course.specs.WorldAt.{WorldAt}
use Rattle.wrp_audit.specs.declared.audit.AuditedNetwork.{AuditedNetwork}
use Rattle.wrp_records.specs.declared.machine.Refusal.TheVariants as refusal
use Rattle.wrp_records.specs.declared.machine.Taken.{Taken}
use Rattle.wrp_records.specs.declared.machine.Taken.TheVariants as taken
use Rattle.wrp_audit.specs.Audited.{IsAudit}
use Rattle.wrp_network_world.specs.NetworkSetting.{setting_in}
use Rattle.wrp_network_world.specs.LawsFit.{HasLawOf}
use Rattle.wrp_audit.specs.AuditText.{audit_lines, given_line, given_lines, step_lines}
use Rattle.wrp_network_world.specs.Bounds.{AreBounds}
use Rattle.wrp_audit.specs.Broken.{broken_line}

-- what is written for a node's step in an event that led to this world, and for all events: the input that the step
-- gave the node whose inputs are asked for, or, if none are asked for, the step's lines
abbrev pub line_by : Option ℕ → Setting → WorldAt → NodeStepAt → List ℕ
line_by None s w step = step_lines s w step
line_by (Some n) s w step = given_line s n step

abbrev pub lines_by : Option ℕ → Setting → List Happened → List ℕ
lines_by None s events = audit_lines s events
lines_by (Some n) s events = given_lines s n events

-- the world is in the state that these events led to, and the lines say these events
pub record AuditedSo {F : Type 0} (post : F → ℤ → ℤ → Type 0) (held : AuditedNetwork F)
    (lines : List (List ℕ)) (events : List Happened) : Type 0 where
  pub audit : IsAudit (setting_in held.world.plant.net) lines events
  pub stands :
      StandsFor post (setting_in held.world.plant.net)
      (world_after (setting_in held.world.plant.net) events) held.world

abbrev pub HasAudited : {F : Type 0} → (F → ℤ → ℤ → Type 0) → AuditedNetwork F → List (List ℕ) → Type 0
HasAudited post held lines = (events : List Happened) × AuditedSo post held lines events

-- it can take an event: its world was made by calls of the world, the law of each node is the law of the
-- link above it, the node whose inputs are asked for is one of the network, and the nodes' bounds are at
-- hand
pub record CanAudit {F : Type 0} (pre : F → ℤ → Type 0) (post : F → ℤ → ℤ → Type 0)
    (held : AuditedNetwork F) : Type 0 where
  pub valid : IsValid pre post held.world
  pub laws : HasLawOf post (setting_in held.world.plant.net) held.world
  pub emit : IfSome held.emit (λ n. n < node_count held.world.plant.net.cfg)
  pub bounds : AreBounds held.world.plant.net.cfg held.bounds.items

-- an event was taken in a world: it kept all premises, and the lines of its steps are written
pub record Took {F : Type 0} (post : F → ℤ → ℤ → Type 0) (emit : Option ℕ) (s : Setting) (w : WorldAt)
    (e : Event) (new : WorldOf F) (text : List ℕ) : Type 0 where
  pub says : Result PtpMsg FrameFault
  pub answer : ℤ
  pub said : IsSaid e says
  pub accepted : Accepts s w says e
  pub stands : StandsFor post s (world_step s says answer w e) new
  pub wrote :
      text ≡ flat_map (line_by emit s (world_step s says answer w e)) (event_steps s says answer w e)

-- an event breaks a premise in a world, and the line that gives both sides is written
pub record Broke (s : Setting) (w : WorldAt) (e : Event) (number : ℕ) (text : List ℕ) : Type 0 where
  pub says : Result PtpMsg FrameFault
  pub said : IsSaid e says
  pub breach : Breach
  pub told : told_of (checks_of s w says e) ≡ Some breach
  pub wrote : text ≡ broken_line number breach

-- what became of an event, by what is answered
abbrev pub Happens : {F : Type 0} → (F → ℤ → ℤ → Type 0) → Option ℕ → Setting → WorldAt → Event → ℕ → WorldOf F
    → List ℕ → Taken → Type 0
Happens post emit s w e number new text taken.Accepted = Took post emit s w e new text
Happens post emit s w e number new text (taken.Refused refusal.Broken) = Broke s w e number text
Happens post emit s w e number new text _ = ⊥
