-- Lines that say events, each accepted in its turn, are an audit, and the whole of it is expected.
use Rattle.std.proofs.Common.{inl, refl, sym, subst, ℕ, List, [], ◌∷◌, ◌++◌, append_assoc, map}
use Rattle.std.proofs.lemmas.List.{append-nil}
use Rattle.wrp_network_text.specs.SameAnswer.{ReadingIsAccepted}
use Rattle.wrp_course.specs.declared.event.Event.{Event}
use Rattle.wrp_course.specs.Run.{Happened, world_after}
use Rattle.wrp_course.specs.Setting.{Setting}
use Rattle.wrp_due_laws.proofs.Happening.{event_answered, event_said}
use Rattle.wrp_due_laws.proofs.Heard.{all_heard, lines_hand_on}
use Rattle.wrp_records.specs.Lines.{content_of, lines_of}
use Rattle.wrp_trace.specs.LineSetting.{line_setting_in}
use Rattle.wrp_audit.specs.Audited.{IsAudit}
use Rattle.wrp_network_world.specs.NetworkSetting.{IsSettingOf}
use Rattle.wrp_replay.specs.DownLaw.{law_at}
use Rattle.wrp_asked.specs.Input.{behind_separator}
use Rattle.wrp_asked.specs.Tasks.{Audit}
use Rattle.wrp_answer_laws.proofs.Auditing.{IsOfNetwork, no_events, one_more}
use Rattle.wrp_projection_laws.proofs.Projected.{all_said}
use Rattle.wrp_answer_laws.specs.Accepted.{AcceptedIsAudit, AcceptedIsDone, EachIsAccepted, IsAccepted, RunOfLinesIsAudit}

-- the setting of a text that is read is the setting of an accepted network
pub of_text : ReadingIsAccepted → (text : List ℕ) (s : Setting) → IsSettingOf text s → IsOfNetwork s
of_text accepted text s setting = subst IsOfNetwork (sym setting.is) (record { accepted = accepted text setting.net setting.reads; set = λ n. refl })

abbrev Audited : Setting → List (List ℕ) → Type 0
Audited s lines = (events : List Happened) × IsAudit s lines events

-- one more line
accepted_more : (s : Setting) → IsOfNetwork s → (front : List (List ℕ)) (line : List ℕ) (events : List Happened) → IsAudit s front events
    → IsAccepted s front line → Audited s (front ++ line ∷ [])
accepted_more s net front line events audit accepted =
    let e : Event = accepted.0 in
    let says = event_said e in
    let due = event_answered (λ n. law_at (line_setting_in s n)) s (world_after s events) says.0 e audit.run.answered in
    let h : Happened = record { event = e; says = says.0; answer = due.0 } in
    (h ∷ events, one_more s net front line events h audit accepted.1 says.1 (accepted.2 events says.0 audit says.1) due.1)

-- line by line
accepted_on : (s : Setting) → IsOfNetwork s → (behind front : List (List ℕ)) (events : List Happened) → IsAudit s front events
    → EachIsAccepted s (front ++ behind) → Audited s (front ++ behind)
accepted_on s net [] front events audit each = subst (Audited s) (sym (append-nil front)) (events, audit)
accepted_on s net (line ∷ rest) front events audit each =
    let more = accepted_more s net front line events audit (each front rest line refl) in
    subst (Audited s) (append_assoc front (line ∷ []) rest)
    (accepted_on s net rest (front ++ line ∷ []) more.0 more.1 (subst (EachIsAccepted s) (sym (append_assoc front (line ∷ []) rest)) each))

pub accepted_is_audit : ReadingIsAccepted → AcceptedIsAudit
accepted_is_audit accepted text s lines setting each = accepted_on s (of_text accepted text s setting) lines [] [] (no_events s) each

pub run_of_lines_is_audit : ReadingIsAccepted → RunOfLinesIsAudit
run_of_lines_is_audit accepted text s lines events setting are run =
    let net : IsOfNetwork s = of_text accepted text s setting in
    record { are = are; run = run; heard = λ n below. all_heard s net.accepted net.set events (lines_hand_on s.cfg events (all_said s lines events are)) run.said n }

pub accepted_is_done : ReadingIsAccepted → AcceptedIsDone
accepted_is_done accepted asked input s asks sizes count each =
    let lines : List (List ℕ) = map content_of (behind_separator (lines_of input)) in
    let audited : Audited s lines = accepted_on s (of_text accepted _ s asks.2) lines [] [] (no_events s) each in (
      audited.0,
      audited.1,
      inl (
        Audit s,
        asks,
        record {
          written = _;
          last = _;
          handled = record { sizes = sizes; count = count; accepted = (audited.0, audited.1, refl) };
          closed = (audited.0, audited.1, refl);
          is = refl;
        },
        refl,
      ),
    )
