-- If an audit is expected to end with Done, the inputs of a listed node in it are too, and so is their
-- replay.
use Rattle.std.proofs.Common.{◌≡◌, ◌∙◌, inl, inr, refl, sym, ap, ℕ, ◌<◌, ◌≤◌, Some, Ok, List, [], append-nil, length, map}
use Rattle.std.specs.List.{AllByRecursion}
use Rattle.wrp_network.specs.declared.configuration.NetCfg.{NetCfg}
use Rattle.wrp_network_text.proofs.OneReading.{one_reading}
use Rattle.wrp_config.specs.Names.{node_named}
use Rattle.wrp_course.specs.Run.{Happened}
use Rattle.wrp_course.specs.Setting.{Setting}
use Rattle.wrp_projection_laws.specs.Law.{ReplayOfEmittedInputs}
use Rattle.wrp_records.specs.declared.status.Status.TheVariants.{Done}
use Rattle.wrp_records.specs.Lines.{content_of, lines_of}
use Rattle.wrp_records.specs.RecordsAnswer.{RecordsAnswer}
use Rattle.wrp_records.specs.Stream.{IsWithin, number_limit}
use Rattle.wrp_commands.specs.Request.{CommandLine}
use Rattle.wrp_commands.specs.Request as requests
use Rattle.wrp_asked.specs.Answer.{Answer}
use Rattle.wrp_audit.specs.Audited.{IsAudit}
use Rattle.wrp_network_world.specs.NetworkSetting.{IsSettingOf}
use Rattle.wrp_audit.specs.AuditText.{given_lines}
use Rattle.wrp_asked.specs.Input.{behind_separator, network_limit, network_text}
use Rattle.wrp_asked.specs.Tasks.{AsksFor, Audit, Emit, IsAuditing, IsEmission, Task, meaning_at, task_row}
use Rattle.wrp_replay.proofs.BareSetting.{named_bare}
use Rattle.wrp_asked.proofs.WordLemmas.{alone_unnetworked, one_command}
use Rattle.wrp_answer_laws.specs.Listed.{IsListed, ReplayOfListedInputs}

-- an audit that ends with Done
record DoneAudit (input : List ℕ) : Type 0 where
  s : Setting
  setting : IsSettingOf (network_text input) s
  within : length (network_text input) ≤ network_limit
  sizes : AllByRecursion IsWithin (behind_separator (lines_of input))
  count : length (behind_separator (lines_of input)) < number_limit
  events : List Happened
  audit : IsAudit s (map content_of (behind_separator (lines_of input))) events

audited : (asked : CommandLine) (input audit : List ℕ) → IsAuditing asked → Answer asked input [] Done audit → DoneAudit input
audited asked input audit asks (inr (inl alone)) = absurd (alone_unnetworked asked alone.0 alone.1 (requests.Audit, asks))
audited asked input audit asks (inr (inr looped)) =
    let bad : requests.Audit ≡ requests.Loop looped.1 = one_command asked requests.Audit (requests.Loop looped.1) asks looped.2.1 in
    absurd (cc)
audited asked input audit asks (inl p) = go p.0 p.1 p.2
  where
    go : (task : Task) → AsksFor asked (network_text input) task → RecordsAnswer (meaning_at task) (behind_separator (lines_of input)) Done audit
        → DoneAudit input
    go (Audit s) q h =
        record { s = s; setting = q.2; within = q.0; sizes = h.handled.sizes; count = h.handled.count; events = h.handled.accepted.0; audit = h.handled.accepted.1 }
    go task q h = let bad : requests.Audit ≡ (task_row task).command = one_command asked requests.Audit (task_row task).command asks q.1 in absurd (cc)

-- the listed node is the node of the audit's network
named_there : (input name : List ℕ) (a : DoneAudit input) (listed : IsListed (network_text input) name) → node_named a.s.cfg name ≡ Some listed.node
named_there input name a listed =
    let nets = one_reading (network_text input) (Ok a.setting.net) (Ok listed.net) a.setting.reads listed.reads in
    ap (λ (s : Setting). node_named s.cfg name) a.setting.is ∙ sym (named_bare a.setting.net.cfg name) ∙ ap (λ (cfg : NetCfg). node_named cfg name) nets.0
    ∙ named_bare listed.net.cfg name ∙ listed.named

-- the inputs of the node
emitted : (asked : CommandLine) (input name : List ℕ) (a : DoneAudit input) (n : ℕ) → IsEmission asked name → node_named a.s.cfg name ≡ Some n
    → Answer asked input [] Done (given_lines a.s n a.events)
emitted asked input name a n asks named =
    inl (
      Emit name a.s n,
      (a.within, asks, (a.setting, named)),
      record {
        written = given_lines a.s n a.events;
        last = [];
        handled = record { sizes = a.sizes; count = a.count; accepted = (a.events, a.audit, refl) };
        closed = refl;
        is = sym (append-nil (given_lines a.s n a.events));
      },
      refl,
    )

pub replay_of_listed : ReplayOfEmittedInputs → ReplayOfListedInputs
replay_of_listed law auditing emitting replaying name input audit audits emits replays due listed =
    let a : DoneAudit input = audited auditing input audit audits due in
    let emission = emitted emitting input name a listed.node emits (named_there input name a listed) in (
      given_lines a.s listed.node a.events,
      emission,
      λ replayed few has. law auditing emitting replaying name input replayed audit (given_lines a.s listed.node a.events) audits emits replays due emission few has,
    )
