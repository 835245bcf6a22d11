-- The lines that end an output, after the lines of events or alone: counters, sums, and the line that names what is
-- refused. If a property holds of each such line, it holds of all lines that end an output.
use Rattle.std.proofs.Common.{◌≡◌, ◌∙◌, refl, ap, sym, subst, append-nil, ℕ, ℤ, pos, ◌+◌, ◌==◌, Bool, true, false, if◌then◌else◌, List, [], ◌∷◌, ◌++◌, length, codes, flat_map}
use Rattle.std.specs.Fmt.{decimal, signed_decimal}
use Rattle.std.specs.List.{AllByRecursion, concat}
use Rattle.wrp_base.specs.declared.fault.TraceFault.{TraceFault}
use Rattle.wrp_base.specs.declared.fault.TraceFault.TheVariants.{Fields, Kind, Number, Name, Memory}
use Rattle.wrp_base.specs.declared.link.ServoState.{ServoState}
use Rattle.wrp_network.specs.Network.{name_at}
use Rattle.wrp_base.proofs.Lists.{all_append}
use Rattle.wrp_bounds.specs.Bounds.{path_of}
use Rattle.wrp_course.specs.declared.breach.Breach.{Breach}
use Rattle.wrp_course.specs.Run.{Happened, world_after}
use Rattle.wrp_course.specs.Runs.{IsNetwork}
use Rattle.wrp_course.specs.Setting.{Setting, node_setting_of, nodes_of}
use Rattle.wrp_course.specs.WorldAt.{WorldAt}
use Rattle.wrp_data.specs.Counters.{count_at}
use Rattle.wrp_data.specs.declared.reason.Reason.{Reason}
use Rattle.wrp_data.specs.Reason.{number_of, reasons}
use Rattle.wrp_io.specs.declared.link.LinkCall.{LinkCall}
use Rattle.wrp_lines.specs.Lines.{count_line_of, count_words, sum_line_of, sum_words}
use Rattle.wrp_lines.specs.Words.{reason_word, servo_word}
use Rattle.wrp_loop.specs.LoopRun.{Going, LoopAt, Plan, events_at, place}
use Rattle.wrp_loop.specs.LoopText.{forged_lines}
use Rattle.wrp_loop.specs.Loops.{closing_lines}
use Rattle.wrp_node.specs.NodeAt.{state_of}
use Rattle.wrp_records.specs.declared.status.Status.{Status}
use Rattle.wrp_records.specs.declared.status.Status.TheVariants.{Done, BadNetwork, BadTrace, Broken, LinkFault, OutOfMemory, ReadFault, TooLarge}
use Rattle.wrp_records.specs.Lines.{lines_of}
use Rattle.wrp_records.specs.Refusals.{bad_network_line, bad_trace_line, code_name, code_of, field_of, name_of, too_large_line}
use Rattle.wrp_records.specs.Stream.{large_line}
use Rattle.wrp_records.specs.Words.{line_of, IsWord}
use Rattle.wrp_records.proofs.Reaching.{lines_alone, lines_behind}
use Rattle.wrp_records.proofs.WordLemmas.{AreWords, decimal_word, either_word, line_in_front, line_whole, signed_word}
use Rattle.wrp_replay.specs.NodeText.{port_numbers}
use Rattle.wrp_replay.specs.Replays.{IsRefusedBy}
use Rattle.wrp_scene.specs.EventLimit.{event_limit}
use Rattle.wrp_scene.specs.Scenario.{SceneAt}
use Rattle.wrp_sim.specs.SimAt.{SimAt}
use Rattle.wrp_simulate.specs.SimText.{count_of, node_sum, sum_lines, tracked, worst_of}
use Rattle.wrp_trace.specs.LineSetting.{has_port, line_setting_in}
use Rattle.wrp_audit.specs.Broken.{broken_line, premise_name}
use Rattle.wrp_network_world.specs.Counts.{all_counts}
use Rattle.wrp_commands.specs.Request.{CommandLine}
use Rattle.wrp_asked.specs.Headline.{EndsEvents, ReachesNone}
use Rattle.wrp_asked.specs.Input.{network_text}
use Rattle.wrp_asked.specs.LoopHeadline.{LacksLink, StandsBehind}
use Rattle.wrp_asked.specs.SimHeadline.{NamesLine, StandsAfter}
use Rattle.wrp_lines.proofs.LineWords.{at_word, servo_are}
use Rattle.wrp_asked.proofs.PlaceWords.{place_word}
use Rattle.wrp_asked.proofs.ToldApart.{count_if, count_lines, counts_text, flat_all, node_lines, port_if}
use Rattle.wrp_asked.proofs.ToldWhole.{counts_whole, forged_whole, reason_is}

-- Their words

premise_word : (p : ℕ) → IsWord (premise_name p)
unfolding premise_name
premise_word p =
    either_word (p == 1) (codes "TickEarly") _ refl (either_word (p == 2) (codes "TickLate") _ refl
    (either_word (p == 3) (codes "Rate") _ refl (either_word (p == 4) (codes "FibreRate") _ refl
    (either_word (p == 5) (codes "Fibre") _ refl (either_word (p == 6) (codes "Module") _ refl
    (either_word (p == 7) (codes "TxStamp") _ refl (either_word (p == 8) (codes "RxRaw") _ refl
    (either_word (p == 9) (codes "Beat") _ refl (either_word (p == 10) (codes "TooOld") _ refl
    (either_word (p == 11) (codes "NotSent") _ refl (either_word (p == 12) (codes "Forged") _ refl
    (either_word (p == 13) (codes "NotUp") [] refl refl))))))))))))

fault_word : (fault : TraceFault) → IsWord (name_of fault)
fault_word Fields = refl
fault_word Kind = refl
fault_word (Number field) = refl
fault_word (Name field) = refl
fault_word (Memory e) = refl

code_word : (code : ℕ) → IsWord (code_name code)
unfolding code_name
code_word code =
    either_word (code == 1) (codes "Syntax") _ refl (either_word (code == 2) (codes "UnknownKey") _ refl
    (either_word (code == 3) (codes "Missing") _ refl (either_word (code == 4) (codes "Range") _ refl
    (either_word (code == 5) (codes "Twice") _ refl (either_word (code == 7) (codes "NotATree") _ refl
    (either_word (code == 8) (codes "TwoSlaves") _ refl (either_word (code == 9) (codes "TooDeep") _ refl
    (either_word (code == 10) (codes "Clash") [] refl refl))))))))

pub large_words : (n : ℕ) → AreWords (codes "too-large" ∷ decimal n ∷ [])
large_words n = (refl, (decimal_word n, tt))

pub trace_words : (n : ℕ) (fault : TraceFault)
    → AreWords (codes "bad-trace" ∷ decimal n ∷ decimal (code_of fault) ∷ name_of fault ∷ decimal (field_of fault) ∷ [])
trace_words n fault = (refl, (decimal_word n, (decimal_word (code_of fault), (fault_word fault, (decimal_word (field_of fault), tt)))))

pub broken_words : (n : ℕ) (breach : Breach)
    → AreWords
    (codes "broken" ∷ decimal n ∷ decimal breach.premise ∷ premise_name breach.premise ∷ signed_decimal breach.shown ∷ signed_decimal breach.bound ∷ [])
broken_words n breach =
    (refl, (decimal_word n, (decimal_word breach.premise, (premise_word breach.premise, (signed_word breach.shown, (signed_word breach.bound, tt))))))

pub network_words : (code : ℕ) (place : List ℕ) → IsWord place → AreWords (codes "bad-network" ∷ decimal code ∷ code_name code ∷ place ∷ [])
network_words code place h = (refl, (decimal_word code, (code_word code, (h, tt))))

pub forged_words : (count : ℕ) → AreWords (codes "forged" ∷ decimal count ∷ [])
forged_words count = (refl, (decimal_word count, tt))

pub counter_words : (name : List ℕ) (port : ℕ) (reason : Reason) (value : ℕ) → IsWord name
    → AreWords (name ∷ count_words port (reason_word (number_of reason)) value)
counter_words name port reason value h = (h, (refl, (decimal_word port, (reason_is reason, (decimal_word value, tt)))))

pub run_words : (name : List ℕ) (ticks tracks worst : ℕ) (bound : ℤ) (state : ServoState) → IsWord name
    → AreWords (name ∷ sum_words ticks tracks worst bound (servo_word state))
run_words name ticks tracks worst bound state h =
    (h, (refl, (decimal_word ticks, (decimal_word tracks, (decimal_word worst, (signed_word bound, (servo_are state, tt)))))))

-- One line, or none

-- the property has each line that can end an output
pub record HasLastLines (P : List ℕ → Type 0) : Type 0 where
  pub large : (n : ℕ) → P (large_line n)
  pub text : P too_large_line
  pub trace : (n : ℕ) (fault : TraceFault) → P (bad_trace_line n fault)
  pub broken : (n : ℕ) (breach : Breach) → P (broken_line n breach)
  pub network : (code : ℕ) (place : List ℕ) → IsWord place → P (bad_network_line code place)
  pub forged : (count : ℕ) → P (line_of (codes "forged" ∷ decimal count ∷ []))
  pub count : (name : List ℕ) (port : ℕ) (reason : Reason) (value : ℕ) → IsWord name → P (count_line_of name port (number_of reason) value)
  pub sum :
      (name : List ℕ) (ticks tracks worst : ℕ) (bound : ℤ) (state : ServoState) → IsWord name → P (sum_line_of name ticks tracks worst bound state)

pub no_line : (P : List ℕ → Type 0) (last : List ℕ) → last ≡ [] → AllByRecursion P (lines_of last)
no_line P last is = subst (λ (l : List ℕ). AllByRecursion P (lines_of l)) (sym is) tt

pub told_as : (P : List ℕ → Type 0) (last line : List ℕ) → last ≡ line → AllByRecursion P (lines_of line) → AllByRecursion P (lines_of last)
told_as P last line is told = subst (λ (l : List ℕ). AllByRecursion P (lines_of l)) (sym is) told

one_line : (P : List ℕ → Type 0) (words : List (List ℕ)) → AreWords words → P (line_of words) → (last : List ℕ) → last ≡ line_of words
    → AllByRecursion P (lines_of last)
one_line P words are told last is =
    let line : List ℕ = line_of words in
    let cut : lines_of last ≡ line ∷ [] = ap lines_of (is ∙ sym (append-nil line)) ∙ lines_alone (line ∷ []) (line_whole words are, tt) in
    subst (AllByRecursion P) (sym cut) (told, tt)

-- the line that names what is refused
large : (P : List ℕ → Type 0) → HasLastLines P → (n : ℕ) (last : List ℕ) → last ≡ large_line n → AllByRecursion P (lines_of last)
large P all n last is = one_line P (codes "too-large" ∷ decimal n ∷ []) (large_words n) (all.large n) last is

bad_trace : (P : List ℕ → Type 0) → HasLastLines P → (n : ℕ) (fault : TraceFault) (last : List ℕ) → last ≡ bad_trace_line n fault
    → AllByRecursion P (lines_of last)
bad_trace P all n fault last is =
    one_line P (codes "bad-trace" ∷ decimal n ∷ decimal (code_of fault) ∷ name_of fault ∷ decimal (field_of fault) ∷ []) (trace_words n fault)
    (all.trace n fault) last is

broken : (P : List ℕ → Type 0) → HasLastLines P → (n : ℕ) (breach : Breach) (last : List ℕ) → last ≡ broken_line n breach
    → AllByRecursion P (lines_of last)
broken P all n breach last is =
    one_line P
    (codes "broken" ∷ decimal n ∷ decimal breach.premise ∷ premise_name breach.premise ∷ signed_decimal breach.shown ∷ signed_decimal breach.bound ∷ [])
    (broken_words n breach) (all.broken n breach) last is

refused : (P : List ℕ → Type 0) → HasLastLines P → (text last : List ℕ) → IsRefusedBy text last → AllByRecursion P (lines_of last)
refused P all text last (code, place, reads, is) =
    let word : IsWord place.bytes = place_word text code place reads in
    one_line P (codes "bad-network" ∷ decimal code ∷ code_name code ∷ place.bytes ∷ []) (network_words code place.bytes word)
    (all.network code place.bytes word) last is

-- Counters

count_told : (P : List ℕ → Type 0) → HasLastLines P → (name : List ℕ) → IsWord name → (port : ℕ) (reason : Reason) (none : Bool) (value : ℕ)
    → AllByRecursion P (count_if name port reason none value)
count_told P all name h port reason true value = tt
count_told P all name h port reason false value = (all.count name port reason value h, tt)

port_told : (P : List ℕ → Type 0) → HasLastLines P → (name : List ℕ) → IsWord name → (has : Bool) (port : ℕ) (counters : List ℕ)
    → AllByRecursion P (port_if name has port counters)
port_told P all name h true port counters =
    flat_all P (λ reason. count_if name port reason (count_at counters (number_of reason) == 0) (count_at counters (number_of reason)))
    (λ reason. count_told P all name h port reason (count_at counters (number_of reason) == 0) (count_at counters (number_of reason))) reasons
port_told P all name h false port counters = tt

counts_told : (P : List ℕ → Type 0) → HasLastLines P → (s : Setting) → IsNetwork s → (w : WorldAt) → AllByRecursion P (count_lines s w)
counts_told P all s net w =
    flat_all P (node_lines s w)
    (λ n. flat_all P (λ port. port_if (name_at s.cfg n) (has_port (line_setting_in s n) port) port ((w.node n).counters port))
    (λ port. port_told P all (name_at s.cfg n) (at_word s.cfg net.accepted.names n) (has_port (line_setting_in s n) port) port ((w.node n).counters port))
    port_numbers) (nodes_of s)

pub all_told : (P : List ℕ → Type 0) → HasLastLines P → (s : Setting) → IsNetwork s → (w : WorldAt) → AllByRecursion P (lines_of (all_counts s w))
all_told P all s net w =
    let cut : lines_of (all_counts s w) ≡ count_lines s w =
    ap lines_of (sym (counts_text s w)) ∙ lines_alone (count_lines s w) (counts_whole s net w) in
    subst (AllByRecursion P) (sym cut) (counts_told P all s net w)

forged_told : (P : List ℕ → Type 0) → HasLastLines P → (count : ℕ) (none : Bool)
    → AllByRecursion P (if none then [] else line_of (codes "forged" ∷ decimal count ∷ []) ∷ [])
forged_told P all count true = tt
forged_told P all count false = (all.forged count, tt)

closing_told : (P : List ℕ → Type 0) → HasLastLines P → (s : Setting) → IsNetwork s → (l : LoopAt) → AllByRecursion P (lines_of (closing_lines s l))
closing_told P all s net l =
    let w : WorldAt = world_after s (events_at l) in
    let forged : List (List ℕ) = forged_lines l.forged in
    let cut : lines_of (closing_lines s l) ≡ count_lines s w ++ forged =
    ap (λ (t : List ℕ). lines_of (t ++ concat forged)) (sym (counts_text s w))
    ∙ lines_behind (count_lines s w) (concat forged) (counts_whole s net w)
    ∙ ap (λ (ls : List (List ℕ)). count_lines s w ++ ls) (lines_alone forged (forged_whole l.forged (l.forged == 0))) in
    subst (AllByRecursion P) (sym cut)
    (all_append P (count_lines s w) forged (counts_told P all s net w) (forged_told P all l.forged (l.forged == 0)))

-- Sums

sum_in_front : (P : List ℕ → Type 0) → HasLastLines P → (name : List ℕ) (ticks tracks worst : ℕ) (bound : ℤ) (state : ServoState) (rest : List ℕ) → IsWord name
    → AllByRecursion P (lines_of rest) → AllByRecursion P (lines_of (sum_line_of name ticks tracks worst bound state ++ rest))
sum_in_front P all name ticks tracks worst bound state rest h told =
    line_in_front P (sum_line_of name ticks tracks worst bound state) rest
    (line_whole (name ∷ sum_words ticks tracks worst bound (servo_word state)) (run_words name ticks tracks worst bound state h))
    (all.sum name ticks tracks worst bound state h) told

sums_told : (P : List ℕ → Type 0) → HasLastLines P → (s : Setting) → IsNetwork s → (events : List Happened) (nodes : List ℕ)
    → AllByRecursion P (lines_of (flat_map (node_sum s events) nodes))
sums_told P all s net events [] = tt
sums_told P all s net events (n ∷ nodes) =
    let node = (world_after s events).node n in
    let offs = tracked s n events in
    sum_in_front P all (name_at s.cfg n) node.ticks (count_of offs) (worst_of offs) (pos (path_of s.cfg n)) (state_of (node_setting_of s n) node)
    (flat_map (node_sum s events) nodes) (at_word s.cfg net.accepted.names n) (sums_told P all s net events nodes)

-- What is expected after events, or alone

-- if no record was reached
pub none_tells : (P : List ℕ → Type 0) → HasLastLines P → (input : List ℕ) (status : Status) (octets : List ℕ) → ReachesNone input status octets
    → AllByRecursion P (lines_of octets)
none_tells P all input BadNetwork octets none = refused P all (network_text input) octets none.1
none_tells P all input TooLarge octets none = one_line P (codes "too-large" ∷ codes "0" ∷ []) (refl, (refl, tt)) all.text octets none.1
none_tells P all input ReadFault octets none = no_line P octets none
none_tells P all input OutOfMemory octets none = no_line P octets none
none_tells P all input status octets none = absurd none

-- after the expected counters, if the property holds of them
pub last_tells : (P : List ℕ → Type 0) → HasLastLines P → (status : Status) (s : Setting) (front behind : List (List ℕ)) (counts last : List ℕ)
    → AllByRecursion P (lines_of counts) → EndsEvents status s front behind counts last → AllByRecursion P (lines_of last)
last_tells P all Done s front behind counts last told ends = told_as P last counts ends.1 told
last_tells P all BadTrace s front behind counts last told ends = bad_trace P all _ ends.3.0 last ends.3.2
last_tells P all Broken s front behind counts last told ends = broken P all _ ends.3.breach last ends.3.is
last_tells P all TooLarge s front behind counts last told ends = large P all (length front + 1) last ends.3.1
last_tells P all ReadFault s front behind counts last told ends = no_line P last ends
last_tells P all OutOfMemory s front behind counts last told ends = no_line P last ends
last_tells P all status s front behind counts last told ends = absurd ends

-- of a scenario that is refused
pub names_tells : (P : List ℕ → Type 0) → HasLastLines P → (status : Status) (s : Setting) (front : List (List ℕ)) (line octets : List ℕ)
    → NamesLine status s front line octets → AllByRecursion P (lines_of octets)
names_tells P all BadTrace s front line octets is = bad_trace P all _ is.2 octets is.4
names_tells P all TooLarge s front line octets is = large P all (length front + 1) octets is.1
names_tells P all status s front line octets is = absurd is

-- of a simulation
pub after_tells : (P : List ℕ → Type 0) → HasLastLines P → (status : Status) (s : Setting) (scene : SceneAt) (events : List Happened) (at : SimAt)
    (last : List ℕ) → IsNetwork s → StandsAfter status s scene events at last → AllByRecursion P (lines_of last)
after_tells P all Done s scene events at last net ends = told_as P last (sum_lines s events) ends.1 (sums_told P all s net events (nodes_of s))
after_tells P all TooLarge s scene events at last net ends = large P all (length events + 1) last ends.3
after_tells P all OutOfMemory s scene events at last net ends = no_line P last ends
after_tells P all status s scene events at last net ends = absurd ends

-- of a run over a link
pub loop_tells : (P : List ℕ → Type 0) → HasLastLines P → (status : Status) (x : Plan) (calls later : List LinkCall) (last : Going) (text : List ℕ)
    → IsNetwork x.setting → StandsBehind status x calls later last text → AllByRecursion P (lines_of text)
loop_tells P all Done x calls later last text net ends =
    told_as P text (closing_lines x.setting (place last)) ends.2 (closing_told P all x.setting net (place last))
loop_tells P all TooLarge x calls later last text net ends = large P all event_limit text ends.2
loop_tells P all LinkFault x calls later last text net ends = no_line P text ends.1
loop_tells P all OutOfMemory x calls later last text net ends = no_line P text ends.1
loop_tells P all status x calls later last text net ends = absurd ends

-- of a link that was not started
pub link_tells : (P : List ℕ → Type 0) (asked : CommandLine) (input : List ℕ) (calls : List LinkCall) (status : Status) (octets : List ℕ)
    → LacksLink asked input calls status octets → AllByRecursion P (lines_of octets)
link_tells P asked input calls LinkFault octets lacks = no_line P octets lacks.none
link_tells P asked input calls status octets lacks = absurd lacks
