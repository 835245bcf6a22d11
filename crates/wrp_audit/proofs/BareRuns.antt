-- What is expected for the record lines of an audit does not depend on the unused room of names.
use Rattle.std.proofs.Common.{◌≡◌, ◌∙◌, refl, ap, ap₂, sym, subst, ℕ, pos, ◌==◌, ◌++◌, if◌then◌else◌, Some, List, [], ◌∷◌, map, flat_map, arith}
use Rattle.std.proofs.lemmas.List.{length-map}
use Rattle.wrp_network.specs.Network.{node_count}
use Rattle.wrp_config.specs.Same.{bare_node, bare_cfg}
use Rattle.wrp_lines.specs.Lines.{output_line_of}
use Rattle.wrp_node.specs.NodeRun.{AllSaid}
use Rattle.wrp_trace.specs.LineSetting.{line_setting_in}
use Rattle.wrp_course.specs.Checks.{AllHold, told_of}
use Rattle.wrp_course.specs.Premises.{checks_of}
use Rattle.wrp_course.specs.Run.{AllAccepted, Happened, world_after}
use Rattle.wrp_course.specs.Setting.{Setting}
use Rattle.wrp_course.specs.WorldAt.{WorldAt}
use Rattle.wrp_records.specs.declared.machine.Refusal.{Refusal}
use Rattle.wrp_records.specs.declared.machine.Refusal.TheVariants as refusals
use Rattle.wrp_records.specs.declared.status.Status.{Status}
use Rattle.wrp_audit.specs.Audited.{AllHeard, IsAudit}
use Rattle.wrp_audit.specs.Audits.{AuditRefuses, audit_of, emission_of}
use Rattle.wrp_audit.specs.AuditText.{audit_lines, given_line, given_lines, step_lines}
use Rattle.wrp_records.specs.RecordsAnswer.{RecordsAnswer}
use Rattle.wrp_network_world.proofs.BareWorld.{after_bare, bare_setting, checks_bare, steps_at_bare, answered_bare, counts_text}
use Rattle.wrp_network_world.proofs.BareEvents.{event_bare, line_bare}
use Rattle.wrp_replay.proofs.BareSetting.{name_bare, path_bare}
use Rattle.wrp_network_world.proofs.Leads.{due_so}

-- The run

tried_after : (s : Setting) (before : List Happened) (h : Happened)
    → checks_of (bare_setting s) (world_after (bare_setting s) before) h.says h.event ≡ checks_of s (world_after s before) h.says h.event
tried_after s before h =
    ap (λ (w : WorldAt). checks_of (bare_setting s) w h.says h.event) (after_bare s before) ∙ checks_bare s (world_after s before) h.says h.event

accepted_bare : (s : Setting) (events : List Happened) → AllAccepted s events → AllAccepted (bare_setting s) events
accepted_bare s [] all = tt
accepted_bare s (h ∷ before) all = (subst AllHold (sym (tried_after s before h)) all.0, accepted_bare s before all.1)

heard_bare : (s : Setting) (events : List Happened) → AllHeard s (world_after s events) → AllHeard (bare_setting s) (world_after (bare_setting s) events)
heard_bare s events all n below =
    let count : node_count (bare_cfg s.cfg) ≡ node_count s.cfg = length-map s.cfg.nodes.items bare_node in
    subst (λ (w : WorldAt). AllSaid (w.inputs n)) (sym (after_bare s events)) (all n (omega (arith, count, below)))

pub run_bare : (s : Setting) (lines : List (List ℕ)) (events : List Happened) → IsAudit s lines events → IsAudit (bare_setting s) lines events
run_bare s lines events audit = record {
  are = (λ i. map (λ line. event_bare s.cfg line i) lines) ∙ audit.are;
  run = record {
    accepted = accepted_bare s events audit.run.accepted;
    said = audit.run.said;
    answered = answered_bare s events audit.run.answered;
  };
  heard = heard_bare s events audit.heard;
}

-- What is written

pub steps_text : (s : Setting) → step_lines (bare_setting s) ≡ step_lines s
steps_text s = λ i w step.
    flat_map
    (λ o. output_line_of (name_bare s.cfg step.node i) (w.node step.node).ticks o (pos (path_bare s.cfg step.node i)) (Some (w.clock step.node).off)) step.outs

pub lines_text : (s : Setting) (events : List Happened) → audit_lines (bare_setting s) events ≡ audit_lines s events
lines_text s [] = refl
lines_text s (h ∷ before) =
    ap₂ (λ (earlier lines : List ℕ). earlier ++ lines) (lines_text s before)
    (λ i. flat_map (steps_text s i (after_bare s (h ∷ before) i)) (steps_at_bare s before h i))

given_text : (s : Setting) (n : ℕ) → given_line (bare_setting s) n ≡ given_line s n
given_text s n = λ i step. if step.node == n then line_bare (line_setting_in s n) step.input i ++ 10 ∷ [] else []

pub inputs_text : (s : Setting) (n : ℕ) (events : List Happened) → given_lines (bare_setting s) n events ≡ given_lines s n events
inputs_text s n [] = refl
inputs_text s n (h ∷ before) =
    ap₂ (λ (earlier lines : List ℕ). earlier ++ lines) (inputs_text s n before) (λ i. flat_map (given_text s n i) (steps_at_bare s before h i))

refused_bare : (s : Setting) (lines : List (List ℕ)) (line last : List ℕ) (refusal : Refusal) → AuditRefuses s lines line refusal last
    → AuditRefuses (bare_setting s) lines line refusal last
refused_bare s lines line last refusals.BadTrace h = (h.0, event_bare s.cfg line ∙ h.1, h.2)
refused_bare s lines line last refusals.Broken h = record {
  events = h.events;
  audit = run_bare s lines h.events h.audit;
  event = h.event;
  reads = event_bare s.cfg line ∙ h.reads;
  says = h.says;
  said = h.said;
  breach = h.breach;
  told =
      ap told_of
      (ap (λ (w : WorldAt). checks_of (bare_setting s) w h.says h.event) (after_bare s h.events) ∙ checks_bare s (world_after s h.events) h.says h.event)
      ∙ h.told;
  is = h.is;
}

-- What is expected

pub bare_answer : (s : Setting) (lines : List (List ℕ)) (status : Status) (octets : List ℕ) → RecordsAnswer (audit_of s) lines status octets
    → RecordsAnswer (audit_of (bare_setting s)) lines status octets
bare_answer s = due_so (audit_of s) (audit_of (bare_setting s)) (record {
  accepts = λ lines text h. (h.0, run_bare s lines h.0 h.1, h.2 ∙ sym (lines_text s h.0));
  refuses = refused_bare s;
  closes = λ lines last h. (h.0, run_bare s lines h.0 h.1, h.2 ∙ sym (counts_text s h.0));
  breaks_off = λ lines status last h. h;
})

pub bare_emission : (s : Setting) (n : ℕ) (lines : List (List ℕ)) (status : Status) (octets : List ℕ) → RecordsAnswer (emission_of s n) lines status octets
    → RecordsAnswer (emission_of (bare_setting s) n) lines status octets
bare_emission s n = due_so (emission_of s n) (emission_of (bare_setting s) n) (record {
  accepts = λ lines text h. (h.0, run_bare s lines h.0 h.1, h.2 ∙ sym (inputs_text s n h.0));
  refuses = refused_bare s;
  closes = λ lines last h. h;
  breaks_off = λ lines status last h. h;
})
