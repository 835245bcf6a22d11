-- Events as their lines say them, without the unused room of their names, are the same run, and have the same
-- lines.
use Rattle.std.proofs.Common.{◌≡◌, ◌∙◌, refl, ap, ap₂, sym, subst, ℕ, List, [], ◌∷◌, ◌++◌, flat_map}
use Rattle.wrp_config.specs.Accepted.{HasNames}
use Rattle.wrp_course.specs.Checks.{AllHold}
use Rattle.wrp_course.specs.Given.{NodeStepAt, event_steps, world_step}
use Rattle.wrp_course.specs.Premises.{Accepts}
use Rattle.wrp_course.specs.Run.{AllAccepted, AllSaid, Happened, steps_at, world_after}
use Rattle.wrp_course.specs.Runs.{AllEvents}
use Rattle.wrp_course.specs.Setting.{Setting}
use Rattle.wrp_course.specs.WorldAt.{WorldAt}
use Rattle.wrp_network.specs.declared.configuration.NetCfg.{NetCfg}
use Rattle.wrp_trace.proofs.EventsReadBack.{events_back}
use Rattle.wrp_trace.specs.EventPrinting.{event_text}
use Rattle.wrp_trace.specs.Events.{bare}
use Rattle.wrp_bound_laws.specs.Chains.{AllFit}
use Rattle.wrp_audit.specs.Audited.{AreEvents}
use Rattle.wrp_audit.specs.AuditText.{audit_lines, event_lines, step_lines}
use Rattle.wrp_audit.proofs.OneAudit.{one_line}
use Rattle.wrp_audit.proofs.PlainEvents.{same_checks, same_said, same_steps, same_world}

-- an event as its line says it
abbrev pub plain_of : Happened → Happened
plain_of h = record h { event = bare h.event }

abbrev pub plain_events : List Happened → List Happened
plain_events [] = []
plain_events (h ∷ before) = plain_of h ∷ plain_events before

-- Worlds

pub plain_world : (s : Setting) (events : List Happened) → world_after s (plain_events events) ≡ world_after s events
plain_world s [] = refl
plain_world s (h ∷ before) =
    ap (λ (w : WorldAt). world_step s h.says h.answer w (bare h.event)) (plain_world s before)
    ∙ same_world s h.says h.answer (world_after s before) h.event

plain_steps : (s : Setting) (before : List Happened) (h : Happened) → steps_at s (plain_events before) (plain_of h) ≡ steps_at s before h
plain_steps s before h =
    ap (λ (w : WorldAt). event_steps s h.says h.answer w (bare h.event)) (plain_world s before)
    ∙ same_steps s h.says h.answer (world_after s before) h.event

-- Premises

pub plain_accepted : (s : Setting) (events : List Happened) → AllAccepted s events → AllAccepted s (plain_events events)
plain_accepted s [] all = tt
plain_accepted s (h ∷ before) all = (
  subst (λ (w : WorldAt). Accepts s w h.says (bare h.event)) (sym (plain_world s before))
      (subst AllHold (sym (same_checks s (world_after s before) h.says h.event)) all.0),
  plain_accepted s before all.1,
)

pub plain_said : (events : List Happened) → AllSaid events → AllSaid (plain_events events)
plain_said [] all = tt
plain_said (h ∷ before) all = (same_said h.event h.says all.0, plain_said before all.1)

-- Lines

plain_event_lines : (s : Setting) (before : List Happened) (h : Happened) → event_lines s (plain_events before) (plain_of h) ≡ event_lines s before h
plain_event_lines s before h =
    ap₂ (λ (w : WorldAt) (steps : List NodeStepAt). flat_map (step_lines s w) steps) (plain_world s (h ∷ before)) (plain_steps s before h)

pub plain_lines : (s : Setting) (events : List Happened) → audit_lines s (plain_events events) ≡ audit_lines s events
plain_lines s [] = refl
plain_lines s (h ∷ before) = ap₂ (λ (a b : List ℕ). a ++ b) (plain_lines s before) (plain_event_lines s before h)

-- what the lines of these events say, the oldest first
abbrev pub said_texts : NetCfg → List Happened → List (List ℕ)
said_texts cfg [] = []
said_texts cfg (h ∷ before) = said_texts cfg before ++ event_text cfg h.event ∷ []

pub plain_are : (s : Setting) → HasNames s.cfg → (events : List Happened) → AllEvents s.cfg events → AllFit events
    → AreEvents s (said_texts s.cfg events) (plain_events events)
plain_are s names [] each fit = refl
plain_are s names (h ∷ before) each fit =
    one_line s (said_texts s.cfg before) (plain_events before) (event_text s.cfg h.event) (plain_of h) (plain_are s names before each.1 fit.1)
    (events_back s.cfg h.event names each.0 fit.0)
