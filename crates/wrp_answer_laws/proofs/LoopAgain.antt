-- The event lines of a run over a link are records of an audit, which writes its other lines.
use Rattle.std.proofs.Common.{◌≡◌, ◌∙◌, inl, inr, refl, ap, ap₂, sym, subst, ℕ, ◌<◌, ◌≤◌, ◌^◌, List, ◌++◌, length, map}
use Rattle.std.specs.List.{AllByRecursion, concat}
use Rattle.wrp_config.specs.Accepted.{HasNames}
use Rattle.wrp_network_text.specs.SameAnswer.{ReadingIsAccepted}
use Rattle.wrp_course.specs.Run.{Happened, IsAnswered, world_after}
use Rattle.wrp_course.specs.Setting.{Setting}
use Rattle.wrp_course.specs.WorldAt.{WorldAt}
use Rattle.wrp_io.specs.declared.link.LinkCall.{LinkCall}
use Rattle.wrp_loop.specs.Laws.{LoopIsAudited}
use Rattle.wrp_loop.specs.LoopRun.{events_at, place}
use Rattle.wrp_loop.specs.LoopText.{told_lines}
use Rattle.wrp_projection_laws.specs.Law.{HasRecords}
use Rattle.wrp_records.proofs.Reaching.{lines_alone}
use Rattle.wrp_records.specs.declared.status.Status.TheVariants.{Done}
use Rattle.wrp_records.specs.Lines.{content_of, lines_of}
use Rattle.wrp_records.specs.RecordsAnswer.{IsWholly}
use Rattle.wrp_records.specs.Stream.{IsWithin}
use Rattle.wrp_commands.specs.Request.{CommandLine}
use Rattle.wrp_asked.specs.Answer.{Answer}
use Rattle.wrp_audit.specs.Audited.{IsAudit}
use Rattle.wrp_network_world.specs.NetworkSetting.{IsSettingOf, answers_in}
use Rattle.wrp_audit.specs.Audits.{audit_of}
use Rattle.wrp_audit.specs.AuditText.{audit_lines, event_lines}
use Rattle.wrp_network_world.specs.Counts.{all_counts}
use Rattle.wrp_asked.specs.Headline.{CarriesRun}
use Rattle.wrp_asked.specs.Input.{behind_separator, network_limit, network_text}
use Rattle.wrp_asked.specs.LoopHeadline.{IsLoopDue, IsToldApart, LoopOf, LoopedEventsCarryParts, came_lines}
use Rattle.wrp_loop.specs.Loops.{plan_of}
use Rattle.wrp_asked.specs.Tasks.{Audit, IsAuditing, IsLooping}
use Rattle.wrp_asked.proofs.LoopedParts.{loops_few}
use Rattle.wrp_asked.proofs.LoopTold.{loop_answer, told_apart}
use Rattle.wrp_answer_laws.proofs.AcceptedLines.{run_of_lines_is_audit}
use Rattle.wrp_answer_laws.proofs.EventRecords.{told_count, told_says, told_whole, told_within}
use Rattle.wrp_answer_laws.proofs.EventSizes.{small_network}
use Rattle.wrp_answer_laws.proofs.PlainRuns.{plain_accepted, plain_are, plain_events, plain_lines, plain_said, plain_world}
use Rattle.wrp_answer_laws.specs.LoopAgain.{IsAuditedAgain, LoopIsAuditedAgain, event_records}

-- What is expected for the run

the_loop : (asked : CommandLine) (input octets : List ℕ) (calls : List LinkCall) → IsLoopDue asked input calls Done octets → LoopOf asked input calls Done octets
the_loop asked input octets calls (inl none) = absurd none.0
the_loop asked input octets calls (inr (inl scene)) = absurd scene.is
the_loop asked input octets calls (inr (inr (inl link))) = absurd link
the_loop asked input octets calls (inr (inr (inr loop))) = loop

loop_due : (asked : CommandLine) (seed : ℕ) (input octets : List ℕ) (calls : List LinkCall) → IsLooping asked seed → Answer asked input calls Done octets → LoopOf asked input calls Done octets
loop_due asked seed input octets calls looping answer = the_loop asked input octets calls (loop_answer asked seed input calls Done octets looping answer)

-- The audit

-- the events that came, as their lines say them, are an audit
audit_is : ReadingIsAccepted → (asked : CommandLine) (input octets : List ℕ) (calls : List LinkCall) (loop : LoopOf asked input calls Done octets) → CarriesRun event_lines loop.setting (events_at (place loop.last)) →
    IsAudit loop.setting (map content_of (told_lines loop.setting (events_at (place loop.last)))) (plain_events (events_at (place loop.last)))
audit_is accepted asked input octets calls loop carried =
    let s : Setting = loop.setting in
    let events : List Happened = events_at (place loop.last) in
    let names : HasNames s.cfg = carried.run.network.accepted.names in
    let answered = loop.came.answered in
    subst (λ (lines : List (List ℕ)). IsAudit s lines (plain_events events)) (sym (told_says s names events carried.run.each carried.fit))
    (run_of_lines_is_audit accepted (network_text input) s _ (plain_events events) loop.came.asks.2 (plain_are s names events carried.run.each carried.fit)
    (record {
      accepted = plain_accepted s events carried.run.accepted;
      said = plain_said events loop.came.loops.said;
      answered = subst (λ (w : WorldAt). IsAnswered (answers_in s) s w) (sym (plain_world s events)) answered;
    }))

wholly : (s : Setting) (lines : List (List ℕ)) (events : List Happened) (text : List ℕ) → IsAudit s (map content_of lines) events → AllByRecursion IsWithin lines → length lines < 2 ^ 32
    → text ≡ audit_lines s events ++ all_counts s (world_after s events) → IsWholly (audit_of s) lines text
wholly s lines events text audit sizes count is = record {
  written = audit_lines s events;
  last = all_counts s (world_after s events);
  handled = record { sizes = sizes; count = count; accepted = (events, audit, refl) };
  closed = (events, audit, refl);
  is = is;
}

again_due : ReadingIsAccepted → (asked auditing : CommandLine) (input again octets : List ℕ) (calls : List LinkCall) (loop : LoopOf asked input calls Done octets) → IsAuditing auditing →
    CarriesRun event_lines loop.setting (events_at (place loop.last)) → IsToldApart loop.setting loop.last octets → HasRecords input (event_records octets) again → IsAuditedAgain auditing again octets (place loop.last).forged
again_due accepted asked auditing input again octets calls loop audits carried apart has =
    let s : Setting = loop.setting in
    let events : List Happened = events_at (place loop.last) in
    let names : HasNames s.cfg = carried.run.network.accepted.names in
    let told : List (List ℕ) = told_lines s events in
    let records : behind_separator (lines_of again) ≡ told =
    has.lines ∙ ap (λ (lines : List (List ℕ)). lines_of (concat lines)) apart.marked ∙ lines_alone told (told_whole s names events carried.run.each carried.fit) in
    let few : length told < 2 ^ 32 =
    subst (λ (n : ℕ). n < 2 ^ 32) (sym (told_count s events)) (loops_few (plan_of s loop.came.scene loop.came.seed) loop.came.first loop.last loop.came.loops) in
    let text : List ℕ = audit_lines s events ++ all_counts s (world_after s events) in
    let due : IsWholly (audit_of s) told text =
    wholly s told (plain_events events) text (audit_is accepted asked input octets calls loop carried)
    (told_within s names (small_network (network_text input) s loop.came.asks.2) events carried.run.each carried.fit) few
    (ap₂ (λ (lines : List ℕ) (w : WorldAt). lines ++ all_counts s w) (sym (plain_lines s events)) (sym (plain_world s events))) in
    record {
      text = text;
      due = inl (
        Audit s,
        (
          subst (λ (t : List ℕ). length t ≤ network_limit) (sym has.network) loop.came.asks.0,
          audits,
          subst (λ (t : List ℕ). IsSettingOf t s) (sym has.network) loop.came.asks.2,
        ),
        subst (λ (lines : List (List ℕ)). IsWholly (audit_of s) lines text) (sym records) due,
        refl,
      );
      lines = apart.others;
    }

-- The law

pub loop_audited_again : ReadingIsAccepted → LoopIsAudited → LoopedEventsCarryParts → LoopIsAuditedAgain
loop_audited_again accepted audited parts looping auditing seed input again octets calls loops audits answer has =
    let loop : LoopOf looping input calls Done octets = loop_due looping seed input octets calls loops answer in
    let carried : CarriesRun event_lines loop.setting (events_at (place loop.last)) = parts looping input calls loop.setting loop.last loop.came in
    let is = loop.is ∙ ap (λ (l : List ℕ). came_lines loop.setting (events_at (place loop.last)) ++ l) loop.ends.2 in
    (loop, again_due accepted looping auditing input again octets calls loop audits carried (told_apart audited loop.setting loop.last octets carried is) has)
