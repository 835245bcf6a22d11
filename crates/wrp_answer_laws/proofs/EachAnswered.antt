-- An answer is expected for whatever is asked and for every input.
use Rattle.std.proofs.Common.{◌≡◌, ◌∙◌, inl, inr, refl, ℕ, ◌≤◌, List, [], length, Option, None, Some, Result, Ok, Err}
use Rattle.std.proofs.lemmas.Bool.{cases_lt}
use Rattle.wrp_base.specs.declared.fault.ConfFault.{ConfFault}
use Rattle.wrp_base.specs.declared.fault.ConfFault.TheVariants.{Fault, Memory}
use Rattle.wrp_network_text.proofs.EachRead.{each_is_read}
use Rattle.wrp_config.specs.declared.network.Network.{Network}
use Rattle.wrp_config.specs.Names.{node_named}
use Rattle.wrp_network_text.specs.Reading.{IsReadingOf}
use Rattle.wrp_config.specs.Same.{bare_cfg}
use Rattle.wrp_network_text.specs.SameAnswer.{IsSettled, ReadingIsAccepted}
use Rattle.wrp_records.specs.declared.status.Status.{Status}
use Rattle.wrp_records.specs.declared.status.Status.TheVariants.{Done, Usage, BadNetwork, BadTrace, Broken, ReadFault, WriteFault, LinkFault, TooLarge, OutOfMemory, BadCapture, BadCalib}
use Rattle.wrp_records.specs.Lines.{lines_of}
use Rattle.wrp_records.specs.declared.machine.Refusal.TheVariants as refusals
use Rattle.wrp_records.specs.Stream.{Handles}
use Rattle.wrp_records.specs.RecordsAnswer.{IsLarge, IsRefused, RecordsAnswer, HasAnswer}
use Rattle.wrp_records.specs.Refusals.{bad_network_line, too_large_line}
use Rattle.wrp_scene_records.specs.Scenarios.{scenario_of}
use Rattle.wrp_simulate.specs.Simulates.{simulation_of}
use Rattle.wrp_course.specs.Setting.{Setting}
use Rattle.wrp_trace.specs.LineSetting.{LineSetting}
use Rattle.wrp_commands.specs.Request.{CommandLine, Request}
use Rattle.wrp_commands.specs.Request as requests
use Rattle.wrp_asked.specs.Answer.{AloneAnswer, Answer, IsNetworked, IsOfNode, TaskAnswer}
use Rattle.wrp_network_world.specs.NetworkSetting.{setting_at}
use Rattle.wrp_asked.specs.Input.{behind_separator, network_limit, network_text}
use Rattle.wrp_asked.specs.Tasks.{AsksFor, Audit, Emit, IsAuditing, IsEmission, IsLooping, IsReplay, IsSimulation, Loop, Replay, Simulate, Task, meaning_at}
use Rattle.wrp_replay.proofs.BareSetting.{named_bare}
use Rattle.wrp_answer_laws.proofs.Auditing.{IsOfNetwork, audit_answered, emission_answered}
use Rattle.wrp_asked.proofs.AloneTable.{facts_of}
use Rattle.wrp_asked.proofs.WordLemmas.{asks_nothing}
use Rattle.wrp_answer_laws.proofs.Replaying.{each_replay_has_answer}
use Rattle.wrp_answer_laws.proofs.Simulating.{simulation_answered}
use Rattle.wrp_answer_laws.proofs.StandingAlone.{each_stands_alone_with_answer}
use Rattle.wrp_answer_laws.specs.EachAnswer.{EachHasAnswer}
use Rattle.wrp_answer_laws.specs.LinkAnswers.{GivesFrames, HasAnswerOver, LinkAnswers}
use Rattle.wrp_answer_laws.proofs.LoopAnswered.{IsAskedBy, loop_answered}

abbrev Answered : CommandLine → List ℕ → Type 0
Answered asked input = (status : Status) × (octets : List ℕ) × Answer asked input [] status octets

-- then an answer is expected over each link, with no call made
uncalled : (asked : CommandLine) (input : List ℕ) (link : LinkAnswers) → Answered asked input → HasAnswerOver link asked input
uncalled asked input link it = record { calls = []; status = it.0; octets = it.1; follows = tt; due = inl it.2 }

-- what is expected of a task, or of a command that stands alone, is expected
due_of_task : (asked : CommandLine) (input : List ℕ) (status : Status) (octets : List ℕ) → TaskAnswer asked input [] status octets → Answer asked input [] status octets
due_of_task asked input Usage octets due = absurd due.2
due_of_task asked input BadNetwork octets due = absurd due.2
due_of_task asked input TooLarge octets due = inr (inl due)
due_of_task asked input Done octets due = inl due
due_of_task asked input BadTrace octets due = inl due
due_of_task asked input Broken octets due = inl due
due_of_task asked input ReadFault octets due = inl due
due_of_task asked input WriteFault octets due = inl due
due_of_task asked input LinkFault octets due = inl due
due_of_task asked input OutOfMemory octets due = inl due
due_of_task asked input BadCapture octets due = inl due
due_of_task asked input BadCalib octets due = inl due

due_alone : (asked : CommandLine) (input : List ℕ) (status : Status) (octets : List ℕ) → AloneAnswer asked input [] status octets → Answer asked input [] status octets
due_alone asked input Usage octets due = absurd ((facts_of due.0).no_usage input octets due.2)
due_alone asked input BadNetwork octets due = inr due
due_alone asked input TooLarge octets due = inr (inr (inl due))
due_alone asked input Done octets due = inr (inl due)
due_alone asked input BadTrace octets due = inr (inl due)
due_alone asked input Broken octets due = inr (inl due)
due_alone asked input ReadFault octets due = inr (inl due)
due_alone asked input WriteFault octets due = inr (inl due)
due_alone asked input LinkFault octets due = inr (inl due)
due_alone asked input OutOfMemory octets due = inr (inl due)
due_alone asked input BadCapture octets due = inr (inl due)
due_alone asked input BadCalib octets due = inr (inl due)

-- a task whose record lines are answered
of_task : (asked : CommandLine) (input : List ℕ) (task : Task) → AsksFor asked (network_text input) task → HasAnswer (meaning_at task) (behind_separator (lines_of input)) → Answered asked input
of_task asked input task asks due = (due.0, due.1, due_of_task asked input due.0 due.1 (task, asks, due.2, refl))

-- no node has this name
unnamed : (asked : CommandLine) (input name : List ℕ) (net : Network) → IsOfNode asked name → length (network_text input) ≤ network_limit → IsReadingOf (network_text input) (Ok net)
    → node_named net.cfg name ≡ None → Answered asked input
unnamed asked input name net asks within reads none =
    (Usage, asked.usage, (inr (record { name = name; asks = asks; within = within; net = net; reads = reads; none = none }), refl, refl))

network_of : ReadingIsAccepted → (text : List ℕ) (net : Network) → IsReadingOf text (Ok net) → IsOfNetwork (setting_at net.cfg net.db)
network_of accepted text net reads = record { accepted = accepted text net reads; set = λ n. refl }

-- The tasks, in an accepted network

replay_in : (asked : CommandLine) (input name : List ℕ) (net : Network) → IsReplay asked name → length (network_text input) ≤ network_limit → IsReadingOf (network_text input) (Ok net)
    → (o : Option ℕ) → node_named net.cfg name ≡ o → Answered asked input
replay_in asked input name net asks within reads None is = unnamed asked input name net (requests.Replay name, asks, refl) within reads is
replay_in asked input name net asks within reads (Some node) is =
    let site : LineSetting = record { cfg = bare_cfg net.cfg; db = net.db; node = node } in
    of_task asked input (Replay name site) (within, asks, (record { net = net; reads = reads; cfg = refl; db = refl }, named_bare net.cfg name ∙ is))
    (each_replay_has_answer site (behind_separator (lines_of input)))

emission_in : ReadingIsAccepted → (asked : CommandLine) (input name : List ℕ) (net : Network) → IsEmission asked name → length (network_text input) ≤ network_limit → IsReadingOf (network_text input) (Ok net)
    → (o : Option ℕ) → node_named net.cfg name ≡ o → Answered asked input
emission_in accepted asked input name net asks within reads None is = unnamed asked input name net (requests.Emit name, asks, refl) within reads is
emission_in accepted asked input name net asks within reads (Some node) is =
    let s : Setting = setting_at net.cfg net.db in
    of_task asked input (Emit name s node) (within, asks, (record { net = net; reads = reads; is = refl }, is))
    (emission_answered s (network_of accepted (network_text input) net reads) node (behind_separator (lines_of input)))

audit_in : ReadingIsAccepted → (asked : CommandLine) (input : List ℕ) (net : Network) → IsAuditing asked → length (network_text input) ≤ network_limit → IsReadingOf (network_text input) (Ok net) → Answered asked input
audit_in accepted asked input net asks within reads =
    let s : Setting = setting_at net.cfg net.db in
    of_task asked input (Audit s) (within, asks, record { net = net; reads = reads; is = refl })
    (audit_answered s (network_of accepted (network_text input) net reads) (behind_separator (lines_of input)))

simulation_in : (asked : CommandLine) (input : List ℕ) (seed : ℕ) (net : Network) → IsSimulation asked seed → length (network_text input) ≤ network_limit → IsReadingOf (network_text input) (Ok net) → Answered asked input
simulation_in asked input seed net asks within reads =
    let s : Setting = setting_at net.cfg net.db in
    of_task asked input (Simulate s seed) (within, asks, record { net = net; reads = reads; is = refl }) (simulation_answered s seed (behind_separator (lines_of input)))

-- a run over a link is answered by its records, or runs by their scenario
asked_by : (asked : CommandLine) (input : List ℕ) (s : Setting) (seed : ℕ) (text : List ℕ) → AsksFor asked (network_text input) (Loop s seed)
    → (h : Handles (simulation_of s seed).accepts (behind_separator (lines_of input)) text) → IsAskedBy asked input s seed h.accepted.0
asked_by asked input s seed text asks h = record { asks = asks; sizes = h.sizes; count = h.count; said = h.accepted.1 }

refused_scene : (s : Setting) (seed : ℕ) (lines : List (List ℕ)) (octets : List ℕ) → IsRefused (simulation_of s seed) refusals.BadTrace lines octets → IsRefused (scenario_of s) refusals.BadTrace lines octets
refused_scene s seed lines octets h = record {
  before = h.before;
  line = h.line;
  behind = h.behind;
  written = h.written;
  last = h.last;
  divided = h.divided;
  handled = record { sizes = h.handled.sizes; count = h.handled.count; accepted = h.handled.accepted };
  within = h.within;
  number = h.number;
  refused = h.refused;
  is = h.is;
}

large_scene : (s : Setting) (seed : ℕ) (lines : List (List ℕ)) (octets : List ℕ) → IsLarge (simulation_of s seed) lines octets → IsLarge (scenario_of s) lines octets
large_scene s seed lines octets h = record {
  before = h.before;
  line = h.line;
  behind = h.behind;
  written = h.written;
  divided = h.divided;
  handled = record { sizes = h.handled.sizes; count = h.handled.count; accepted = h.handled.accepted };
  large = h.large;
  is = h.is;
}

loop_by : (asked : CommandLine) (input : List ℕ) (link : LinkAnswers) (s : Setting) (seed : ℕ) (status : Status) (octets : List ℕ)
    → GivesFrames link → AsksFor asked (network_text input) (Loop s seed)
    → RecordsAnswer (simulation_of s seed) (behind_separator (lines_of input)) status octets → HasAnswerOver link asked input
loop_by asked input link s seed Done octets given asks h =
    loop_answered asked input s seed h.handled.accepted.0 link given (asked_by asked input s seed h.written asks h.handled)
loop_by asked input link s seed BadTrace octets given asks h =
    uncalled asked input link (BadTrace, octets, inl (Loop s seed, asks, refused_scene s seed (behind_separator (lines_of input)) octets h, refl))
loop_by asked input link s seed TooLarge octets given asks (inl h) =
    uncalled asked input link (TooLarge, octets, inr (inl (Loop s seed, asks, inl (large_scene s seed (behind_separator (lines_of input)) octets h), refl)))
loop_by asked input link s seed TooLarge octets given asks (inr h) =
    loop_answered asked input s seed h.handled.accepted.0 link given (asked_by asked input s seed h.written asks h.handled)
loop_by asked input link s seed Broken octets given asks h = absurd h.refused
loop_by asked input link s seed BadCalib octets given asks h = absurd h.broken
loop_by asked input link s seed _ octets given asks h = absurd h

loop_in : (asked : CommandLine) (input : List ℕ) (link : LinkAnswers) (seed : ℕ) (net : Network) → GivesFrames link → IsLooping asked seed
    → length (network_text input) ≤ network_limit → IsReadingOf (network_text input) (Ok net) → HasAnswerOver link asked input
loop_in asked input link seed net given asks within reads =
    let s : Setting = setting_at net.cfg net.db in
    let due = simulation_answered s seed (behind_separator (lines_of input)) in
    loop_by asked input link s seed due.0 due.1 given (within, asks, record { net = net; reads = reads; is = refl }) due.2

-- The network text before the records

-- what is expected in the network that it describes
abbrev InNetwork : CommandLine → List ℕ → LinkAnswers → Type 0
InNetwork asked input link =
    (net : Network) → length (network_text input) ≤ network_limit → IsReadingOf (network_text input) (Ok net) → HasAnswerOver link asked input

read_as : (asked : CommandLine) (input : List ℕ) (link : LinkAnswers) → IsNetworked asked → InNetwork asked input link
    → length (network_text input) ≤ network_limit
    → (due : Result Network ConfFault) → IsSettled due → IsReadingOf (network_text input) due → HasAnswerOver link asked input
read_as asked input link asks inside within (Ok net) settled reads = inside net within reads
read_as asked input link asks inside within (Err (Fault code place)) settled reads =
    uncalled asked input link (BadNetwork, bad_network_line code place.bytes, inl (asks, within, (code, place, reads, refl), refl))
read_as asked input link asks inside within (Err (Memory e)) settled reads = absurd settled

networked : (asked : CommandLine) (input : List ℕ) (link : LinkAnswers) → IsNetworked asked → InNetwork asked input link → HasAnswerOver link asked input
networked asked input link asks inside =
    elim (cases_lt network_limit (length (network_text input))) [
      | inl long ↦ uncalled asked input link (TooLarge, too_large_line, inl (asks, long, refl, refl))
      | inr within ↦
          let due = each_is_read (network_text input) in
          read_as asked input link asks inside within due.0 due.1 due.2
    ]

-- What is asked

pub each_has_answer : ReadingIsAccepted → EachHasAnswer
each_has_answer accepted asked input link given = go asked.request refl
  where
    go : (request : Option Request) → asked.request ≡ request → HasAnswerOver link asked input
    go None is = uncalled asked input link (Usage, asked.usage, (inl (asks_nothing asked is), refl, refl))
    go (Some (requests.OnNetwork requests.Audit)) is =
        networked asked input link (requests.Audit, is) (λ net within reads. uncalled asked input link (audit_in accepted asked input net is within reads))
    go (Some (requests.OnNetwork (requests.Replay name))) is =
        networked asked input link (requests.Replay name, is)
        (λ net within reads. uncalled asked input link (replay_in asked input name net is within reads (node_named net.cfg name) refl))
    go (Some (requests.OnNetwork (requests.Emit name))) is =
        networked asked input link (requests.Emit name, is)
        (λ net within reads. uncalled asked input link (emission_in accepted asked input name net is within reads (node_named net.cfg name) refl))
    go (Some (requests.OnNetwork (requests.Simulate seed))) is =
        networked asked input link (requests.Simulate seed, is)
        (λ net within reads. uncalled asked input link (simulation_in asked input seed net is within reads))
    go (Some (requests.OnNetwork (requests.Loop seed))) is =
        networked asked input link (requests.Loop seed, is) (λ net within reads. loop_in asked input link seed net given is within reads)
    go (Some (requests.StandAlone alone)) is =
        let due = each_stands_alone_with_answer alone input in
        uncalled asked input link (due.0, due.1, due_alone asked input due.0 due.1 (alone, is, due.2))
