-- Events of lines, each accepted in its turn, are an audit; and an answer is expected for the lines of each audit,
-- and for the inputs that a node is given in it.
use Rattle.std.proofs.Common.{◌≡◌, ◌⊎◌, inl, inr, refl, ap, ℕ, ◌+◌, List, [], ◌∷◌, ◌++◌, flat_map, length, Some, Result, Ok, Err}
use Rattle.wrp_base.specs.declared.fault.TraceFault.{TraceFault}
use Rattle.wrp_base.specs.declared.message.PtpMsg.{PtpMsg}
use Rattle.wrp_config.specs.Accepted.{IsAccepted}
use Rattle.wrp_frame.specs.declared.fault.FrameFault.{FrameFault}
use Rattle.wrp_node.specs.Set.{set_of}
use Rattle.wrp_course.specs.declared.breach.Breach.{Breach}
use Rattle.wrp_course.specs.declared.event.Event.{Event}
use Rattle.wrp_course.specs.Checks.{told_of}
use Rattle.wrp_course.specs.Premises.{Accepts, checks_of}
use Rattle.wrp_course.specs.Run.{AllSaid, Happened, IsAnswered, IsSaid, steps_at, world_after}
use Rattle.wrp_course.specs.Setting.{Setting}
use Rattle.wrp_records.specs.declared.machine.Refusal.TheVariants as refusals
use Rattle.wrp_records.specs.declared.status.Status.TheVariants.{Done}
use Rattle.wrp_records.specs.Refusals.{bad_trace_line}
use Rattle.wrp_trace.specs.Events.{event_read}
use Rattle.wrp_audit.specs.Audited.{AreEvents, IsAudit}
use Rattle.wrp_network_world.specs.NetworkSetting.{answers_in}
use Rattle.wrp_audit.specs.Audits.{Audits, Breaks, Emits, audit_of, emission_of}
use Rattle.wrp_trace.specs.LineSetting.{line_setting_in}
use Rattle.wrp_replay.specs.DownLaw.{law_at}
use Rattle.wrp_audit.specs.AuditText.{event_lines, given_line}
use Rattle.wrp_network_world.specs.Counts.{all_counts}
use Rattle.wrp_audit.specs.Broken.{broken_line}
use Rattle.wrp_audit.proofs.OneAudit.{one_line}
use Rattle.wrp_projection_laws.proofs.Projected.{all_said}
use Rattle.wrp_due_laws.proofs.Happening.{event_answered, event_said, event_tried}
use Rattle.wrp_due_laws.proofs.Heard.{all_heard, lines_hand_on}
use Rattle.wrp_records.proofs.LinesAnswered.{GoesOn, IsTotal, Refused, lines_answered}
use Rattle.wrp_records.specs.RecordsAnswer.{HasAnswer}

-- A setting of an accepted network

pub record IsOfNetwork (s : Setting) : Type 0 where
  pub accepted : IsAccepted s.cfg s.db
  pub set : (n : ℕ) → s.set n ≡ set_of s.cfg n

-- One more event

pub one_more : (s : Setting) → IsOfNetwork s → (lines : List (List ℕ)) (line : List ℕ) (events : List Happened) (h : Happened) → IsAudit s lines events
    → event_read s.cfg line ≡ Ok h.event
    → IsSaid h.event h.says → Accepts s (world_after s events) h.says h.event → IsAnswered (answers_in s) s (world_after s (h ∷ events))
    → IsAudit s (lines ++ line ∷ []) (h ∷ events)
one_more s net lines line events h audit reads said accepts answered =
    let are : AreEvents s (lines ++ line ∷ []) (h ∷ events) = one_line s lines events line h audit.are reads in
    let all : AllSaid (h ∷ events) = (said, audit.run.said) in
    record {
      are = are;
      run = record { accepted = (accepts, audit.run.accepted); said = all; answered = answered };
      heard =
          λ n below. all_heard s net.accepted net.set (h ∷ events) (lines_hand_on s.cfg (h ∷ events) (all_said s (lines ++ line ∷ []) (h ∷ events) are)) all n;
    }

-- an event that keeps all premises
record Goes (s : Setting) (lines : List (List ℕ)) (line : List ℕ) (events : List Happened) : Type 0 where
  newest : Happened
  audit : IsAudit s (lines ++ line ∷ []) (newest ∷ events)

-- or one that breaks one
abbrev Decided : Setting → List (List ℕ) → List ℕ → List Happened → Type 0
Decided s lines line events = Goes s lines line events ⊎ ((last : List ℕ) × Breaks s lines line last)

tried : (s : Setting) → IsOfNetwork s → (lines : List (List ℕ)) (line : List ℕ) (events : List Happened) (e : Event) (says : Result PtpMsg FrameFault)
    → IsAudit s lines events
    → event_read s.cfg line ≡ Ok e → IsSaid e says
    → Accepts s (world_after s events) says e ⊎ ((breach : Breach) × (told_of (checks_of s (world_after s events) says e) ≡ Some breach))
    → Decided s lines line events
tried s net lines line events e says audit reads said (inr broken) =
    inr (
      broken_line (length lines + 1) broken.0,
      record { events = events; audit = audit; event = e; reads = reads; says = says; said = said; breach = broken.0; told = broken.1; is = refl },
    )
tried s net lines line events e says audit reads said (inl accepts) =
    let due = event_answered (λ n. law_at (line_setting_in s n)) s (world_after s events) says e audit.run.answered in
    let h : Happened = record { event = e; says = says; answer = due.0 } in
    inl (record { newest = h; audit = one_more s net lines line events h audit reads said accepts due.1 })

decided : (s : Setting) → IsOfNetwork s → (lines : List (List ℕ)) (line : List ℕ) (events : List Happened) (e : Event) → IsAudit s lines events
    → event_read s.cfg line ≡ Ok e → Decided s lines line events
decided s net lines line events e audit reads =
    let says = event_said e in
    tried s net lines line events e says.0 audit reads says.1 (event_tried s (world_after s events) says.0 e)

pub no_events : (s : Setting) → IsAudit s [] []
no_events s = record { are = refl; run = record { accepted = tt; said = tt; answered = λ n. tt }; heard = λ n below. tt }

-- Audits

audit_by : (s : Setting) (lines : List (List ℕ)) (line text : List ℕ) (accepted : Audits s lines text) → Decided s lines line accepted.0
    → GoesOn (audit_of s) lines line text ⊎ Refused (audit_of s) lines line
audit_by s lines line text accepted (inl goes) =
    inl (
      event_lines s accepted.0 goes.newest,
      (goes.newest ∷ accepted.0, goes.audit, ap (λ (l : List ℕ). l ++ event_lines s accepted.0 goes.newest) accepted.2),
    )
audit_by s lines line text accepted (inr broken) = inr (refusals.Broken, broken.0, broken.1)

audit_decides : (s : Setting) → IsOfNetwork s → (lines : List (List ℕ)) (line text : List ℕ) (r : Result Event TraceFault) → event_read s.cfg line ≡ r
    → Audits s lines text
    → GoesOn (audit_of s) lines line text ⊎ Refused (audit_of s) lines line
audit_decides s net lines line text (Err fault) reads accepted = inr (refusals.BadTrace, bad_trace_line (length lines + 1) fault, (fault, reads, refl))
audit_decides s net lines line text (Ok e) reads accepted = audit_by s lines line text accepted (decided s net lines line accepted.0 e accepted.1 reads)

audit_total : (s : Setting) → IsOfNetwork s → IsTotal (audit_of s)
audit_total s net = record {
  starts = ([], no_events s, refl);
  decides = λ lines line text accepted. audit_decides s net lines line text (event_read s.cfg line) refl accepted;
  ends = λ lines text accepted. (Done, all_counts s (world_after s accepted.0), (accepted.0, accepted.1, refl));
}

pub audit_answered : (s : Setting) → IsOfNetwork s → (lines : List (List ℕ)) → HasAnswer (audit_of s) lines
audit_answered s net lines = lines_answered (audit_of s) (audit_total s net) lines

-- The inputs of a node

emission_by : (s : Setting) (n : ℕ) (lines : List (List ℕ)) (line text : List ℕ) (accepted : Emits s n lines text) → Decided s lines line accepted.0
    → GoesOn (emission_of s n) lines line text ⊎ Refused (emission_of s n) lines line
emission_by s n lines line text accepted (inl goes) =
    let more : List ℕ = flat_map (given_line s n) (steps_at s accepted.0 goes.newest) in
    inl (more, (goes.newest ∷ accepted.0, goes.audit, ap (λ (l : List ℕ). l ++ more) accepted.2))
emission_by s n lines line text accepted (inr broken) = inr (refusals.Broken, broken.0, broken.1)

emission_decides : (s : Setting) → IsOfNetwork s → (n : ℕ) (lines : List (List ℕ)) (line text : List ℕ) (r : Result Event TraceFault)
    → event_read s.cfg line ≡ r → Emits s n lines text
    → GoesOn (emission_of s n) lines line text ⊎ Refused (emission_of s n) lines line
emission_decides s net n lines line text (Err fault) reads accepted = inr (refusals.BadTrace, bad_trace_line (length lines + 1) fault, (fault, reads, refl))
emission_decides s net n lines line text (Ok e) reads accepted =
    emission_by s n lines line text accepted (decided s net lines line accepted.0 e accepted.1 reads)

emission_total : (s : Setting) → IsOfNetwork s → (n : ℕ) → IsTotal (emission_of s n)
emission_total s net n = record {
  starts = ([], no_events s, refl);
  decides = λ lines line text accepted. emission_decides s net n lines line text (event_read s.cfg line) refl accepted;
  ends = λ lines text accepted. (Done, [], refl);
}

pub emission_answered : (s : Setting) → IsOfNetwork s → (n : ℕ) (lines : List (List ℕ)) → HasAnswer (emission_of s n) lines
emission_answered s net n lines = lines_answered (emission_of s n) (emission_total s net n) lines
