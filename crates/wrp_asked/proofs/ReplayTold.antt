-- What a replay wrote are the lines of what its node puts out, and what is written after them, by its status; and its dropped frames
-- leave a count each.
use Rattle.std.proofs.Common.{◌≡◌, ◌⊎◌, inl, inr, ◌∙◌, refl, ap, sym, subst, ℕ, ◌+◌, Option, None, Some, IfSome, List, [], ◌∷◌, ◌++◌, append-nil, append_assoc, length, map}
use Rattle.std.specs.Io.KnownBytes.{Appends}
use Rattle.std.specs.List.{concat}
use Rattle.wrp_io.specs.declared.link.LinkCall.{LinkCall}
use Rattle.wrp_lookback_laws.specs.Drops.{DropsOnlyCount}
use Rattle.wrp_node.specs.declared.interface.Input.{Input}
use Rattle.wrp_node.specs.declared.interface.Input.TheVariants.{Tick, Sample, Frame, Sent, Carrier, Reset}
use Rattle.wrp_node.specs.Laws.{LeavesACount}
use Rattle.wrp_node.specs.NodeAt.{Taken}
use Rattle.wrp_node.specs.NodeRun.{node_after}
use Rattle.wrp_node.specs.OneRun.{IsRun, OneNode, OneRun}
use Rattle.wrp_node.specs.Telling.{Step}
use Rattle.wrp_trace.specs.LineSetting.{LineSetting}
use Rattle.wrp_records.specs.declared.machine.Refusal.TheVariants as refusals
use Rattle.wrp_records.specs.declared.status.Status.{Status}
use Rattle.wrp_records.specs.declared.status.Status.TheVariants.{Done, BadTrace, Broken, ReadFault, TooLarge, OutOfMemory, BadCalib}
use Rattle.wrp_records.specs.Lines.{content_of, lines_of}
use Rattle.wrp_records.specs.RecordsAnswer.{AreFirst, IsLarge, IsRefused, IsWholly, RecordsAnswer, StandsFirst}
use Rattle.wrp_records.specs.Stream.{CutHandled, large_line}
use Rattle.wrp_records.proofs.Reaching.{lines_behind}
use Rattle.wrp_replay.specs.DownLaw.{law_at, node_setting_at}
use Rattle.wrp_replay.specs.NodeText.{Writes, node_counts}
use Rattle.wrp_replay.specs.Replays.{Accepts, AreInputs, Closes, meaning_of}
use Rattle.wrp_replay.proofs.OneReplay.{exact_replay}
use Rattle.wrp_commands.specs.Request.{CommandLine}
use Rattle.wrp_commands.specs.Request as requests
use Rattle.wrp_asked.specs.Answer.{CutTask}
use Rattle.wrp_asked.specs.EmitHeadline.{LacksNode}
use Rattle.wrp_asked.specs.Ends.{Run}
use Rattle.wrp_asked.specs.Headline.{ReachesNone}
use Rattle.wrp_asked.specs.Input.{Divides, behind_separator, network_text}
use Rattle.wrp_asked.specs.ReplayHeadline.{EndsInputs, FramesOnlyCount, LeavesOneCountIf, OutputsOf, ReplayHeadline, ReplaysAreTold}
use Rattle.wrp_asked.specs.Tasks.{Task, Replay, AsksFor, IsReplay, meaning_at, task_row}
use Rattle.wrp_asked.proofs.DueTold.{IsDueSo, PrintsDue, not_linked, prints}
use Rattle.wrp_asked.proofs.WordLemmas.{one_command}

-- Dropped frames

one_count : DropsOnlyCount → (site : LineSetting) (before : List Taken) (t : Taken) (input : Input) → t.input ≡ input → LeavesOneCountIf site before t input
one_count law site before t (Frame p octets raw sample) is = λ reason why.
    let it : LeavesACount (node_setting_at site) t (node_after (node_setting_at site) before) p reason =
    law (node_setting_at site) before t p octets.items raw sample reason is why in
    record { node = ap (λ (s : Step). s.node) it.node; silent = it.silent }
one_count law site before t Tick is = tt
one_count law site before t (Sample number base bits) is = tt
one_count law site before t (Sent p seq delay stamp) is = tt
one_count law site before t (Carrier p up own_module) is = tt
one_count law site before t Reset is = tt

frames_only_count : DropsOnlyCount → (site : LineSetting) (inputs : List Taken) → FramesOnlyCount site inputs
frames_only_count law site [] = tt
frames_only_count law site (t ∷ before) = (one_count law site before t t.input refl, frames_only_count law site before)

-- Records

-- where inputs write something they are a run
run_of : (site : LineSetting) (inputs : List Taken) (text : List ℕ) → Writes site inputs text → IsRun (law_at site) (node_setting_at site) inputs
run_of site [] text h = record { said = tt; answered = tt }
run_of site (t ∷ before) text h = record { said = h.3.said; answered = h.3.answered }

-- the first records of an input say inputs, which write this; and this is written after that
record Tells (input : List ℕ) (site : LineSetting) (status : Status) (octets : List ℕ) : Type 0 where
  front : List (List ℕ)
  rest : List (List ℕ)
  divided : behind_separator (lines_of input) ≡ front ++ rest
  inputs : List Taken
  are : AreInputs site (map content_of front) inputs
  written : List ℕ
  writes : Writes site inputs written
  last : List ℕ
  ends : EndsInputs status site inputs front rest last
  is : octets ≡ written ++ last

outputs_told : (asked : CommandLine) (input : List ℕ) (status : Status) (octets name : List ℕ) (site : LineSetting)
    → AsksFor asked (network_text input) (Replay name site) → Tells input site status octets → OutputsOf asked input status octets
outputs_told asked input status octets name site asks told = record {
  site = site;
  inputs = told.inputs;
  came = record {
    name = name;
    asks = asks;
    front = told.front;
    rest = told.rest;
    divided = told.divided;
    are = told.are;
    run = run_of site told.inputs told.written told.writes;
  };
  written = told.written;
  writes = told.writes;
  last = told.last;
  ends = told.ends;
  is = told.is;
}

-- at the end these inputs leave one list of counters
counts_told : OneRun → OneNode → (site : LineSetting) (lines : List (List ℕ)) (inputs : List Taken) (text last : List ℕ) → AreInputs site lines inputs
    → Writes site inputs text → Closes site lines last → last ≡ node_counts site (node_after (node_setting_at site) inputs)
counts_told one node site lines inputs text last are writes closes =
    ((exact_replay one node site).one_end lines Done Done last (node_counts site (node_after (node_setting_at site) inputs)) closes (inputs, are, run_of site inputs text writes, refl)).1

wholly : OneRun → OneNode → (input octets : List ℕ) (site : LineSetting) → IsWholly (meaning_of site) (behind_separator (lines_of input)) octets
    → Tells input site Done octets
wholly one node input octets site h =
    let told : Accepts site (map content_of (behind_separator (lines_of input))) h.written = h.handled.accepted in
    record {
      front = behind_separator (lines_of input);
      rest = [];
      divided = sym (append-nil (behind_separator (lines_of input)));
      inputs = told.0;
      are = told.1;
      written = h.written;
      writes = told.2;
      last = h.last;
      ends = (refl, counts_told one node site (map content_of (behind_separator (lines_of input))) told.0 h.written h.last told.1 told.2 h.closed);
      is = h.is;
    }

refused : (input octets : List ℕ) (site : LineSetting) → IsRefused (meaning_of site) refusals.BadTrace (behind_separator (lines_of input)) octets
    → Tells input site BadTrace octets
refused input octets site h =
    let told : Accepts site (map content_of h.before) h.written = h.handled.accepted in
    record {
      front = h.before;
      rest = h.line ∷ h.behind;
      divided = h.divided;
      inputs = told.0;
      are = told.1;
      written = h.written;
      writes = told.2;
      last = h.last;
      ends = (h.line, h.behind, refl, h.refused);
      is = h.is;
    }

large : (input octets : List ℕ) (site : LineSetting) → IsLarge (meaning_of site) (behind_separator (lines_of input)) octets → Tells input site TooLarge octets
large input octets site h =
    let told : Accepts site (map content_of h.before) h.written = h.handled.accepted in
    record {
      front = h.before;
      rest = h.line ∷ h.behind;
      divided = h.divided;
      inputs = told.0;
      are = told.1;
      written = h.written;
      writes = told.2;
      last = large_line (length h.before + 1);
      ends = (h.line, h.behind, refl, (h.large, refl));
      is = h.is;
    }

firsts : (input octets : List ℕ) (site : LineSetting) → AreFirst (meaning_of site) (behind_separator (lines_of input)) octets
    → Tells input site OutOfMemory octets
firsts input octets site h =
    let told : Accepts site (map content_of h.front) octets = h.handled.accepted in
    record {
      front = h.front;
      rest = h.behind;
      divided = h.divided;
      inputs = told.0;
      are = told.1;
      written = octets;
      writes = told.2;
      last = [];
      ends = refl;
      is = sym (append-nil octets);
    }

records_told : OneRun → OneNode → (input : List ℕ) (status : Status) (octets : List ℕ) (site : LineSetting)
    → RecordsAnswer (meaning_of site) (behind_separator (lines_of input)) status octets → Tells input site status octets
records_told one node input Done octets site h = wholly one node input octets site h
records_told one node input BadTrace octets site h = refused input octets site h
records_told one node input Broken octets site h = absurd h.refused
records_told one node input TooLarge octets site (inl big) = large input octets site big
records_told one node input TooLarge octets site (inr off) = absurd off.broken
records_told one node input BadCalib octets site h = absurd h.broken
records_told one node input _ octets site h = absurd h

first_told : (input octets : List ℕ) (site : LineSetting) → StandsFirst (meaning_of site) (behind_separator (lines_of input)) octets
    → Tells input site OutOfMemory octets
first_told input octets site (inl first) = firsts input octets site first
first_told input octets site (inr off) = absurd off.broken

-- if the source failed: the network text of the whole input is the one that came, and the whole records among what was
-- taken are reported
cut_told : (input taken left octets : List ℕ) (site : LineSetting) (front back text : List ℕ) → input ≡ taken ++ left → taken ≡ front ++ back
    → Divides front text → CutHandled (Accepts site) back octets →
    (network_text input ≡ text) × Tells input site ReadFault octets
cut_told input taken left octets site front back text all goes divides cut =
    let is : input ≡ front ++ (back ++ left) = all ∙ ap (λ (l : List ℕ). l ++ left) goes ∙ append_assoc front back left in
    let parts : (network_text (front ++ (back ++ left)) ≡ text) × (behind_separator (lines_of (front ++ (back ++ left))) ≡ lines_of (back ++ left)) =
    divides (back ++ left) in
    let lines_are : lines_of (back ++ left) ≡ cut.lines ++ lines_of (cut.cut ++ left) =
    ap (λ (l : List ℕ). lines_of (l ++ left)) cut.all ∙ ap lines_of (append_assoc (concat cut.lines) cut.cut left)
    ∙ lines_behind cut.lines (cut.cut ++ left) cut.whole in
    let told : Accepts site (map content_of cut.lines) octets = cut.handled.accepted in (
      ap network_text is ∙ parts.0,
      record {
        front = cut.lines;
        rest = lines_of (cut.cut ++ left);
        divided = ap (λ (l : List ℕ). behind_separator (lines_of l)) is ∙ parts.1 ∙ lines_are;
        inputs = told.0;
        are = told.1;
        written = octets;
        writes = told.2;
        last = [];
        ends = refl;
        is = sym (append-nil octets);
      },
    )

-- The task

abbrev pub IsOutputDue : CommandLine → List ℕ → List LinkCall → Status → List ℕ → Type 0
IsOutputDue asked input calls status due = LacksNode asked input status due ⊎ (ReachesNone input status due ⊎ OutputsOf asked input status due)

-- if a replay is asked for, what holds of every task holds if it does of a replay
only_replay : (asked : CommandLine) (name text : List ℕ) (P : Task → Type 0) (Q : Type 0) → IsReplay asked name
    → ((own : List ℕ) (site : LineSetting) → AsksFor asked text (Replay own site) → P (Replay own site) → Q) → (task : Task) → AsksFor asked text task → P task
    → Q
only_replay asked name text P Q replays f (Replay own site) asks h = f own site asks h
only_replay asked name text P Q replays f task asks h = let bad : requests.Replay name ≡ (task_row task).command = one_command asked (requests.Replay name) (task_row task).command replays asks.1 in absurd (cc)

unlooped : (name : List ℕ) (seed : ℕ) → requests.Replay name ≡ requests.Loop seed → ⊥
unlooped name seed e = cc

task_due : OneRun → OneNode → (asked : CommandLine) (name input : List ℕ) (status : Status) (octets : List ℕ) (task : Task) → IsReplay asked name
    → AsksFor asked (network_text input) task →
    RecordsAnswer (meaning_at task) (behind_separator (lines_of input)) status octets → IsOutputDue asked input [] status octets
task_due one node asked name input status octets task replays asks due =
    inr (inr (only_replay asked name (network_text input) (λ task. RecordsAnswer (meaning_at task) (behind_separator (lines_of input)) status octets) (OutputsOf asked input status octets) replays
    (λ own site asks due. outputs_told asked input status octets own site asks (records_told one node input status octets site due)) task asks due))

task_first : (asked : CommandLine) (name input octets : List ℕ) (task : Task) → IsReplay asked name → AsksFor asked (network_text input) task
    → StandsFirst (meaning_at task) (behind_separator (lines_of input)) octets →
    IsOutputDue asked input [] OutOfMemory octets
task_first asked name input octets task replays asks first =
    inr (inr (only_replay asked name (network_text input) (λ t. StandsFirst (meaning_at t) (behind_separator (lines_of input)) octets) (OutputsOf asked input OutOfMemory octets) replays
    (λ own site asks due. outputs_told asked input OutOfMemory octets own site asks (first_told input octets site due)) task asks first))

cut_outputs : (asked : CommandLine) (input taken left octets own : List ℕ) (site : LineSetting) → input ≡ taken ++ left → (h : CutTask asked taken octets)
    → AsksFor asked h.text (Replay own site) → CutHandled (Accepts site) h.back octets →
    OutputsOf asked input ReadFault octets
cut_outputs asked input taken left octets own site all h asks cut =
    let both = cut_told input taken left octets site h.front h.back h.text all h.all h.divides cut in
    outputs_told asked input ReadFault octets own site (subst (λ (t : List ℕ). AsksFor asked t (Replay own site)) (sym both.0) asks) both.1

task_cut : (asked : CommandLine) (name input taken left octets : List ℕ) → IsReplay asked name → input ≡ taken ++ left → CutTask asked taken octets
    → IsOutputDue asked input [] ReadFault octets
task_cut asked name input taken left octets replays all h =
    inr (inr (only_replay asked name h.text (λ task. CutHandled (meaning_at task).accepts h.back octets) (OutputsOf asked input ReadFault octets) replays
    (λ own site asks cut. cut_outputs asked input taken left octets own site all h asks cut) h.task h.asks h.handled))

-- A run

outputs_so : OneRun → OneNode → (asked : CommandLine) (name : List ℕ) → IsReplay asked name → IsDueSo asked (IsOutputDue asked)
outputs_so one node asked name replays = record {
  command = requests.Replay name;
  on = replays;
  no_node = λ input none. inl (none, refl);
  none = λ input status octets none. inr (inl none);
  task = λ input status octets task asks due. task_due one node asked name input status octets task replays asks due;
  first = λ input octets task asks first. task_first asked name input octets task replays asks first;
  cut = λ input taken left octets all cut. task_cut asked name input taken left octets replays all cut;
  linked = λ input calls status octets loop. absurd (not_linked asked (requests.Replay name) replays (unlooped name) loop.1 loop.2.1);
  short = λ input calls octets loop. absurd (not_linked asked (requests.Replay name) replays (unlooped name) loop.1 loop.2.1);
  failed = λ input calls octets loop. absurd (not_linked asked (requests.Replay name) replays (unlooped name) loop.1 loop.2.1);
}

-- what it wrote is what the aim says
abbrev pub IsReplayedSo : CommandLine → (held now : Option (List ℕ)) → Status → List ℕ → Type 0
IsReplayedSo asked held now status input = (octets : List ℕ) × Appends held now octets × ReplayHeadline asked input status octets

headline_of : DropsOnlyCount → (run : Run) (input : List ℕ) (status : Status) → PrintsDue (IsOutputDue run.asked) run status input
    → IsReplayedSo run.asked run.sink.before run.sink.now status input
headline_of drops run input status h =
    (h.0, h.2, record { prints = h.4; drops = λ site inputs came. frames_only_count drops site inputs })

pub replays_are_told : OneRun → OneNode → DropsOnlyCount → ReplaysAreTold
replays_are_told one node drops run status name ends replays = go run.source.before refl
  where
    go : (o : Option (List ℕ)) → run.source.before ≡ o → IfSome o (IsReplayedSo run.asked run.sink.before run.sink.now status)
    go None is = tt
    go (Some input) is =
        headline_of drops run input status (prints run input status (IsOutputDue run.asked) (outputs_so one node run.asked name replays) is ends)
