-- An audit and the inputs that it gives a node belong to one run, and the replay on these inputs is the node's part
-- of it.
use Rattle.std.proofs.Common.{◌≡◌, ◌∙◌, inl, inr, refl, ap, ap₂, sym, subst, append-nil, ℕ, ◌<◌, ◌≤◌, ◌^◌, ◌==◌, Some, Ok, List, [], ◌∷◌, ◌++◌, map, reverse, length, arith}
use Rattle.std.specs.List.{AllByRecursion}
use Rattle.std.proofs.lemmas.List.{length-map, length-reverse, reverse-reverse}
use Rattle.wrp_network.specs.declared.configuration.NetCfg.{NetCfg}
use Rattle.wrp_network.specs.declared.network.NodeCfg.{NodeCfg}
use Rattle.wrp_network.specs.Network.{name_at, node_count}
use Rattle.wrp_caldb.specs.Database.{Database}
use Rattle.wrp_caldb.specs.Name.{same_name}
use Rattle.wrp_config.proofs.Lists.{found_place}
use Rattle.wrp_config.specs.declared.network.Network.{Network}
use Rattle.wrp_config.specs.Names.{node_named}
use Rattle.wrp_config.specs.Same.{bare_cfg}
use Rattle.wrp_network_text.specs.SameAnswer.{ReadingIsAccepted}
use Rattle.wrp_node.specs.declared.interface.Input.{Input}
use Rattle.wrp_node.specs.NodeAt.{NodeAt, Taken, servo_setting_of}
use Rattle.wrp_node.specs.NodeRun.{AllSaid, node_after}
use Rattle.wrp_node.specs.OneRun.{answers_by}
use Rattle.wrp_recorded_laws.specs.Recorded.{AllSaidByLines, InputsAreRecorded, IsRecorded, IsSaidRun}
use Rattle.wrp_servo.specs.Servo.{AllAnswered}
use Rattle.wrp_trace.specs.Events.{event_read}
use Rattle.wrp_trace.specs.Inputs.{read_of}
use Rattle.wrp_trace.specs.Printing.{line_of}
use Rattle.wrp_trace.specs.LineSetting.{LineSetting, line_setting_in}
use Rattle.wrp_course.specs.Run.{Happened, world_after}
use Rattle.wrp_course.specs.Setting.{Setting}
use Rattle.wrp_course.specs.WorldAt.{WorldAt}
use Rattle.wrp_records.specs.declared.status.Status.TheVariants.{Done}
use Rattle.wrp_commands.specs.Request.{CommandLine}
use Rattle.wrp_commands.specs.Request as requests
use Rattle.wrp_asked.specs.Answer.{Answer}
use Rattle.wrp_audit.specs.Audited.{AreEvents, IsAudit}
use Rattle.wrp_network_world.specs.NetworkSetting.{IsSettingOf, setting_at}
use Rattle.wrp_audit.specs.AuditLaws.{OneAudit}
use Rattle.wrp_audit.specs.AuditText.{audit_lines, given_lines}
use Rattle.wrp_network_world.specs.Counts.{all_counts}
use Rattle.wrp_replay.specs.DownLaw.{node_setting_at, law_at}
use Rattle.wrp_asked.specs.Input.{behind_separator, network_limit, network_text}
use Rattle.wrp_records.specs.Lines.{content_of, lines_of}
use Rattle.wrp_replay.specs.NodeText.{node_counts}
use Rattle.wrp_records.specs.RecordsAnswer.{IsWholly, RecordsAnswer}
use Rattle.wrp_replay.specs.Replays.{Accepts, AreInputs, Closes, IsNetworkOf, meaning_of}
use Rattle.wrp_asked.specs.Tasks.{AsksFor, Audit, Emit, IsAuditing, IsEmission, IsReplay, Replay, Task, meaning_at, task_row}
use Rattle.wrp_network_world.proofs.WorldRuns.{made_after}
use Rattle.wrp_network_world.proofs.BareWorld.{after_bare, bare_is, bare_setting, counts_text}
use Rattle.wrp_network_world.proofs.BareEvents.{line_bare}
use Rattle.wrp_audit.proofs.BareRuns.{inputs_text, lines_text, run_bare}
use Rattle.wrp_replay.proofs.BareSetting.{name_bare, named_bare, read_bare}
use Rattle.wrp_asked.proofs.OneSetting.{one_setting}
use Rattle.wrp_audit.proofs.OneAudit.{read}
use Rattle.wrp_records.proofs.Reaching.{lines_alone}
use Rattle.wrp_asked.proofs.WordLemmas.{alone_unnetworked, one_command}
use Rattle.wrp_projection_laws.specs.Law.{FrontWithRecords, HasRecords, ReplayOfEmittedInputs}
use Rattle.wrp_projection_laws.specs.Projection.{IsProjection, IsProjectionTo}
use Rattle.wrp_projection_laws.proofs.Own.{audit_is, given_are, own_lines, put_out_by}
use Rattle.wrp_projection_laws.proofs.Shown.{by_octets, named_alone, names_are_words}
use Rattle.wrp_projection_laws.proofs.Texts.{IsWord}
use Rattle.wrp_projection_laws.proofs.Written.{AllRecorded, all_turned, are_inputs, records_of, said_records, whole_records, within_records, writes, written}

-- What is asked for

-- an audit that ends with Done: its run, and its text
record TheAudit (input audit : List ℕ) : Type 0 where
  s : Setting
  setting : IsSettingOf (network_text input) s
  within : length (network_text input) ≤ network_limit
  few : length (behind_separator (lines_of input)) < 2 ^ 32
  events : List Happened
  run : IsAudit s (map content_of (behind_separator (lines_of input))) events
  is : audit ≡ audit_lines s events ++ all_counts s (world_after s events)

audited : OneAudit → (asked : CommandLine) (input audit : List ℕ) → IsAuditing asked → Answer asked input [] Done audit → TheAudit input audit
audited one asked input audit asks (inr (inl alone)) = absurd (alone_unnetworked asked alone.0 alone.1 (requests.Audit, asks))
audited one asked input audit asks (inr (inr looped)) =
    let bad : requests.Audit ≡ requests.Loop looped.1 = one_command asked requests.Audit (requests.Loop looped.1) asks looped.2.1 in
    absurd (cc)
audited one asked input audit asks (inl p) = go p.0 p.1 p.2
  where
    go : (task : Task) → AsksFor asked (network_text input) task → RecordsAnswer (meaning_at task) (behind_separator (lines_of input)) Done audit
        → TheAudit input audit
    go (Audit s) q h = record {
      s = s;
      setting = q.2;
      within = q.0;
      few = h.handled.count;
      events = h.handled.accepted.0;
      run = h.handled.accepted.1;
      is = h.is
          ∙ ap₂ (λ (a b : List ℕ). a ++ b) h.handled.accepted.2
          (h.closed.2 ∙ (one s (map content_of (behind_separator (lines_of input))) h.closed.0 h.handled.accepted.0 h.closed.1 h.handled.accepted.1).counts);
    }
    go task q h = let bad : requests.Audit ≡ (task_row task).command = one_command asked requests.Audit (task_row task).command asks q.1 in absurd (cc)

-- the inputs of a node in an audit that ends with Done
record TheEmission (input name records : List ℕ) : Type 0 where
  s : Setting
  node : ℕ
  setting : IsSettingOf (network_text input) s
  named : node_named s.cfg name ≡ Some node
  events : List Happened
  run : IsAudit s (map content_of (behind_separator (lines_of input))) events
  is : records ≡ given_lines s node events

emitted : (asked : CommandLine) (input name records : List ℕ) → IsEmission asked name → Answer asked input [] Done records → TheEmission input name records
emitted asked input name records asks (inr (inl alone)) = absurd (alone_unnetworked asked alone.0 alone.1 (requests.Emit name, asks))
emitted asked input name records asks (inr (inr looped)) =
    let bad : requests.Emit name ≡ requests.Loop looped.1 = one_command asked (requests.Emit name) (requests.Loop looped.1) asks looped.2.1 in
    absurd (cc)
emitted asked input name records asks (inl p) = go p.0 p.1 p.2
  where
    go : (task : Task) → AsksFor asked (network_text input) task → RecordsAnswer (meaning_at task) (behind_separator (lines_of input)) Done records
        → TheEmission input name records
    go (Emit own s n) q h =
        let same : requests.Emit own ≡ requests.Emit name = one_command asked (requests.Emit own) (requests.Emit name) q.1 asks in
        let names : own ≡ name = cc in
        record {
          s = s;
          node = n;
          setting = q.2.0;
          named = subst (λ (m : List ℕ). node_named s.cfg m ≡ Some n) names q.2.1;
          events = h.handled.accepted.0;
          run = h.handled.accepted.1;
          is = h.is ∙ ap₂ (λ (a b : List ℕ). a ++ b) h.handled.accepted.2 h.closed ∙ append-nil (given_lines s n h.handled.accepted.0);
        }
    go task q h = let bad : requests.Emit name ≡ (task_row task).command = one_command asked (requests.Emit name) (task_row task).command asks q.1 in absurd (cc)

-- The events of an audit are a run that lines say

abbrev SaidByLine : NetCfg → Happened → Type 0
SaidByLine cfg h = (line : List ℕ) × (event_read cfg line ≡ Ok h.event)

said_each : (cfg : NetCfg) (lines : List (List ℕ)) (events : List Happened) → map (event_read cfg) lines ≡ map read events
    → AllByRecursion (SaidByLine cfg) events
said_each cfg [] [] e = tt
said_each cfg [] (h ∷ events) e = absurd (cc)
said_each cfg (line ∷ lines) [] e = absurd (cc)
said_each cfg (line ∷ lines) (h ∷ events) e =
    let head : event_read cfg line ≡ read h = cc in
    let rest : map (event_read cfg) lines ≡ map read events = cc in
    ((line, head), said_each cfg lines events rest)

pub all_said : (s : Setting) (lines : List (List ℕ)) (events : List Happened) → AreEvents s lines events → AllSaidByLines s.cfg events
all_said s lines events are =
    subst (AllByRecursion (SaidByLine s.cfg)) (reverse-reverse events)
    (all_turned (SaidByLine s.cfg) (reverse events) (said_each s.cfg lines (reverse events) are))

counted : (s : Setting) (lines : List (List ℕ)) (events : List Happened) → AreEvents s lines events → length events ≡ length lines
counted s lines events are =
    sym (length-reverse events) ∙ sym (length-map (reverse events) read) ∙ sym (ap length are) ∙ length-map lines (event_read s.cfg)

said_run : ReadingIsAccepted → (input audit : List ℕ) (a : TheAudit input audit) → IsSaidRun (setting_at a.setting.net.cfg a.setting.net.db) a.events
said_run accepted input audit a =
    let lines : List (List ℕ) = map content_of (behind_separator (lines_of input)) in
    let s : Setting = setting_at a.setting.net.cfg a.setting.net.db in
    let run : IsAudit s lines a.events = subst (λ (k : Setting). IsAudit k lines a.events) a.setting.is a.run in
    let count : length a.events ≡ length lines = counted s lines a.events run.are in
    let size : length lines ≡ length (behind_separator (lines_of input)) = length-map (behind_separator (lines_of input)) content_of in
    let few = a.few in
    record {
      network = accepted (network_text input) a.setting.net a.setting.reads;
      said = all_said s lines a.events run.are;
      accepted = run.run.accepted;
      few = omega (arith, count, size, few);
    }

-- Records in a network whose names are without their unused room

abbrev bare_at : NetCfg → Database → Setting
bare_at cfg db = setting_at (bare_cfg cfg) db

recorded_bare : (site bare : LineSetting) (x : Input) → line_of bare x ≡ line_of site x → read_of bare (line_of site x) ≡ read_of site (line_of site x)
    → IsRecorded site x → IsRecorded bare x
recorded_bare site bare x line reads recorded = record {
  reads = ap (read_of bare) line ∙ reads ∙ recorded.reads;
  size = subst (λ (l : List ℕ). length l ≤ 8_192) (sym line) recorded.size;
}

all_bare : (cfg : NetCfg) (db : Database) (n : ℕ) (inputs : List Taken) → AllRecorded (line_setting_in (setting_at cfg db) n) inputs
    → AllRecorded (line_setting_in (bare_at cfg db) n) inputs
all_bare cfg db n [] h = tt
all_bare cfg db n (t ∷ inputs) h =
    let site : LineSetting = line_setting_in (setting_at cfg db) n in
    (recorded_bare site (line_setting_in (bare_at cfg db) n) t.input (line_bare site t.input) (read_bare site (line_of site t.input)) h.0, all_bare cfg db n inputs h.1)

-- The replay of the inputs that a run gave a node

record Replayed (site : LineSetting) (inputs : List Taken) (last : NodeAt) : Type 0 where
  accepts : Accepts site (map content_of (records_of site inputs)) (written site inputs)
  closes : Closes site (map content_of (records_of site inputs)) (node_counts site last)

replayed_so : (site : LineSetting) (inputs : List Taken) (last : NodeAt) → AllRecorded site inputs → AllSaid inputs
    → last ≡ node_after (node_setting_at site) inputs
    → AllAnswered (answers_by (law_at site)) (servo_setting_of (node_setting_at site)) last.calls → Replayed site inputs last
replayed_so site inputs last recorded said made answered =
    let are : AreInputs site (map content_of (records_of site inputs)) inputs =
    subst (λ (lines : List (List ℕ)). AreInputs site lines inputs) (sym (said_records site inputs recorded)) (are_inputs site inputs recorded) in
    let by_law : AllAnswered (answers_by (law_at site)) (servo_setting_of (node_setting_at site)) (node_after (node_setting_at site) inputs).calls =
    subst (λ (node : NodeAt). AllAnswered (answers_by (law_at site)) (servo_setting_of (node_setting_at site)) node.calls) made answered in
    record {
      accepts = (inputs, are, writes site inputs said by_law);
      closes = (inputs, are, record { said = said; answered = by_law }, ap (node_counts site) made);
    }

-- the replay of the records for these inputs is expected to end with this
wholly : (site : LineSetting) (inputs : List Taken) (last : NodeAt) (lines : List (List ℕ)) → lines ≡ records_of site inputs → length lines < 2 ^ 32
    → AllRecorded site inputs → Replayed site inputs last
    → IsWholly (meaning_of site) lines (written site inputs ++ node_counts site last)
wholly site inputs last lines are few recorded replayed =
    subst (λ (ls : List (List ℕ)). IsWholly (meaning_of site) ls (written site inputs ++ node_counts site last)) (sym are)
    (record {
      written = written site inputs;
      last = node_counts site last;
      handled = record {
        sizes = within_records site inputs recorded;
        count = subst (λ (ls : List (List ℕ)). length ls < 2 ^ 32) are few;
        accepted = replayed.accepts;
      };
      closed = replayed.closes;
      is = refl;
    })

-- One run

-- the audit and the emission, in one network whose names are without their unused room
record OneOfBoth (input name audit records : List ℕ) : Type 0 where
  net : Network
  site : LineSetting
  network : IsNetworkOf (network_text input) site
  named : node_named site.cfg name ≡ Some site.node
  cfg : NetCfg
  db : Database
  site_is : site ≡ line_setting_in (setting_at cfg db) site.node
  words : (m : ℕ) → IsWord (name_at cfg m)
  alone : (m : ℕ) → same_name (name_at cfg m) name ≡ (m == site.node)
  events : List Happened
  run : IsAudit (setting_at cfg db) (map content_of (behind_separator (lines_of input))) events
  recorded : AllRecorded (line_setting_in (setting_at cfg db) site.node) ((world_after (setting_at cfg db) events).inputs site.node)
  audit_is : audit ≡ audit_lines (setting_at cfg db) events ++ all_counts (setting_at cfg db) (world_after (setting_at cfg db) events)
  records_are : records ≡ given_lines (setting_at cfg db) site.node events

both_of : InputsAreRecorded → ReadingIsAccepted → OneAudit → (input name audit records : List ℕ) → TheAudit input audit → TheEmission input name records
    → OneOfBoth input name audit records
both_of inputs accepted one input name audit records a e =
    let lines : List (List ℕ) = map content_of (behind_separator (lines_of input)) in
    let net : Network = a.setting.net in
    let own : Setting = setting_at net.cfg net.db in
    let c : Setting = bare_at net.cfg net.db in
    let to : bare_setting a.s ≡ c = ap bare_setting a.setting.is ∙ sym (bare_is net.cfg net.db) in
    let from : bare_setting e.s ≡ c = sym (one_setting (network_text input) a.s e.s a.setting e.setting) ∙ to in
    let run : IsAudit c lines a.events = subst (λ (k : Setting). IsAudit k lines a.events) to (run_bare a.s lines a.events a.run) in
    let other : IsAudit c lines e.events = subst (λ (k : Setting). IsAudit k lines e.events) from (run_bare e.s lines e.events e.run) in
    let world : world_after own a.events ≡ world_after c a.events =
    sym (ap (λ (k : Setting). world_after k a.events) (bare_is net.cfg net.db) ∙ after_bare own a.events) in
    let named : node_named (bare_cfg net.cfg) name ≡ Some e.node = ap (λ (k : Setting). node_named k.cfg name) (sym from) ∙ named_bare e.s.cfg name ∙ e.named in
    let said : IsSaidRun own a.events = said_run accepted input audit a in
    record {
      net = net;
      site = line_setting_in c e.node;
      network = record { net = net; reads = a.setting.reads; cfg = refl; db = refl };
      named = named;
      words = λ m. subst IsWord (sym (name_bare net.cfg m)) (names_are_words net.cfg said.network.names m);
      alone = λ m. ap (λ (l : List ℕ). same_name l name) (name_bare net.cfg m)
          ∙ named_alone net.cfg name e.node said.network.names (sym (named_bare net.cfg name) ∙ named) m;
      cfg = bare_cfg net.cfg;
      db = net.db;
      site_is = refl;
      events = a.events;
      run = run;
      recorded = subst (λ (w : WorldAt). AllRecorded (line_setting_in c e.node) (w.inputs e.node)) world
          (all_bare net.cfg net.db e.node ((world_after own a.events).inputs e.node) (inputs own a.events e.node said));
      audit_is = a.is ∙ ap₂ (λ (x y : List ℕ). x ++ y) (sym (lines_text a.s a.events)) (sym (counts_text a.s a.events))
          ∙ ap (λ (k : Setting). audit_lines k a.events ++ all_counts k (world_after k a.events)) to;
      records_are = e.is ∙ sym (inputs_text e.s e.node e.events) ∙ ap (λ (k : Setting). given_lines k e.node e.events) from
          ∙ (one c lines e.events a.events other run).given e.node;
    }

-- The law

replay_is : (replaying : CommandLine) (name input replayed audit records : List ℕ) → IsReplay replaying name → length (network_text input) ≤ network_limit
    → length (lines_of records) < 2 ^ 32 → HasRecords input records replayed → OneOfBoth input name audit records
    → (text : List ℕ) × Answer replaying replayed [] Done text × IsProjectionTo (network_text input) name audit text
replay_is replaying name input replayed audit records asks within few has b =
    let s : Setting = setting_at b.cfg b.db in
    let n : ℕ = b.site.node in
    let site : LineSetting = line_setting_in s n in
    let w : WorldAt = world_after s b.events in
    let taken : List Taken = w.inputs n in
    let named : node_named s.cfg name ≡ Some n = ap (λ (k : LineSetting). node_named k.cfg name) (sym b.site_is) ∙ b.named in
    let within_nodes : n < node_count s.cfg = (found_place (λ (node : NodeCfg). same_name node.name.bytes name) s.cfg.nodes.items n named).within in
    let said : AllSaid taken = b.run.heard n within_nodes in
    let again : Replayed site taken (w.node n) = replayed_so site taken (w.node n) b.recorded said (made_after s b.events n) (b.run.run.answered n) in
    let lines : lines_of records ≡ records_of site taken =
    ap lines_of (b.records_are ∙ given_are s n b.events) ∙ lines_alone (records_of site taken) (whole_records site taken b.recorded) in
    let due : IsWholly (meaning_of site) (behind_separator (lines_of replayed)) (written site taken ++ node_counts site (w.node n)) =
    wholly site taken (w.node n) (behind_separator (lines_of replayed)) (has.lines ∙ lines)
    (subst (λ (ls : List (List ℕ)). length ls < 2 ^ 32) (sym has.lines) few) b.recorded again in
    let network : IsNetworkOf (network_text input) site = subst (IsNetworkOf (network_text input)) b.site_is b.network in
    let is : IsProjection site audit (written site taken ++ node_counts site (w.node n)) = record {
      outs = put_out_by s b.events;
      last = w.node;
      of_all = b.audit_is ∙ ap (λ (l : List ℕ). l ++ all_counts s w) (audit_is s b.events);
      of_one = ap (λ (l : List ℕ). l ++ node_counts site (w.node n)) (sym (own_lines b.cfg b.db n b.events));
    } in (
      written site taken ++ node_counts site (w.node n),
      inl (
        Replay name site,
        (
          subst (λ (t : List ℕ). length t ≤ network_limit) (sym has.network) within,
          asks,
          (subst (λ (t : List ℕ). IsNetworkOf t site) (sym has.network) network, named),
        ),
        due,
        refl,
      ),
      record {
        site = site;
        network = network;
        named = named;
        is = is;
        octets = by_octets site name audit (written site taken ++ node_counts site (w.node n)) b.words b.alone within_nodes is;
      },
    )

pub replay_of_emitted : InputsAreRecorded → ReadingIsAccepted → OneAudit → ReplayOfEmittedInputs
replay_of_emitted inputs accepted one auditing emitting replaying name input replayed audit records audits emits replays due_audit due_records few has =
    let a : TheAudit input audit = audited one auditing input audit audits due_audit in
    let e : TheEmission input name records = emitted emitting input name records emits due_records in
    replay_is replaying name input replayed audit records replays a.within few has (both_of inputs accepted one input name audit records a e)

-- An input with these records

pub front_with_records : FrontWithRecords
front_with_records front back text records divides = record {
  network = (divides records).0 ∙ sym (divides back).0;
  lines = (divides records).1;
}
