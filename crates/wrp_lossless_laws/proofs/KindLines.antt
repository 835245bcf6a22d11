-- Of the same events a loop and a simulation print the same lines of the kinds step, link, servo and track: the lines of the outputs that
-- a simulation prints. Event lines, counters and sums are of none of these kinds.
use Rattle.std.proofs.Common.{◌≡◌, ◌∙◌, refl, ap, ap₂, sym, ℕ, zero, suc, ◌+◌, ◌/◌, ◌%◌, ◌<◌, ◌≤◌, ◌==◌, nat_lt, ℤ, pos, not, Bool, true, false, if◌then◌else◌, List, [], ◌∷◌, ◌++◌, append-nil, codes, cond, filter, flat_map, map, Option, Some, arith}
use Rattle.std.proofs.lemmas.Bool.{and_parts, ne_eqb, not-true}
use Rattle.std.proofs.lemmas.List.Elements.{filter-append}
use Rattle.std.proofs.lemmas.List.Folds.{concat-append}
use Rattle.std.proofs.lemmas.List.Splits.{slice_split_at}
use Rattle.std.proofs.lemmas.List.Sums.{AllPass-from_list_all}
use Rattle.std.specs.Fmt.{decimal, digit_glyph, digits, digits_onto, signed_decimal}
use Rattle.std.specs.List.{All, AllByRecursion, concat}
use Rattle.std.specs.Prelude.{slice_index_or}
use Rattle.wrp_base.specs.declared.link.ServoState.{ServoState}
use Rattle.wrp_network.specs.Network.{name_at}
use Rattle.wrp_base.proofs.Lists.{all_append}
use Rattle.wrp_bounds.specs.Bounds.{path_of}
use Rattle.wrp_config.specs.Accepted.{HasNames}
use Rattle.wrp_course.specs.declared.event.Event.{Event}
use Rattle.wrp_course.specs.EventAt.{IsEventOf}
use Rattle.wrp_course.specs.Given.{NodeStepAt}
use Rattle.wrp_course.specs.Run.{Happened, steps_at, world_after}
use Rattle.wrp_course.specs.Runs.{AllEvents, IsNetwork}
use Rattle.wrp_course.specs.Setting.{Setting, node_setting_of, nodes_of}
use Rattle.wrp_course.specs.WorldAt.{WorldAt}
use Rattle.wrp_data.specs.Counters.{count_at}
use Rattle.wrp_data.specs.declared.reason.Reason.{Reason}
use Rattle.wrp_data.specs.Reason.{number_of, reasons}
use Rattle.wrp_lines.specs.Lines.{output_line, output_words, sum_line, sum_words}
use Rattle.wrp_lines.specs.Words.{reason_word, servo_word}
use Rattle.wrp_lines.proofs.LineWords.{at_word, servo_are}
use Rattle.wrp_loop.specs.LoopText.{all_lines, forged_lines, loop_lines, loop_text, marked_line, step_lines, steps_lines}
use Rattle.wrp_node.specs.declared.interface.Output.{Output}
use Rattle.wrp_node.specs.declared.interface.Output.TheVariants.{Send, Step, Dac, Report}
use Rattle.wrp_node.specs.declared.interface.Report.TheVariants.{Link, Servo, Track}
use Rattle.wrp_node.specs.NodeAt.{state_of}
use Rattle.wrp_printed_laws.specs.Laws.{lines_at, lines_in, output_lines}
use Rattle.wrp_printed_laws.specs.Laws as printed
use Rattle.wrp_printed_laws.specs.Words.{gap_parts, is_gap}
use Rattle.wrp_printed_laws.proofs.Words.{output_reads, reads}
use Rattle.wrp_records.specs.Lines.{IsWhole, lines_of}
use Rattle.wrp_records.specs.Words.{IsWord, is_word_octet, line_of}
use Rattle.wrp_records.specs.Stream.{large_line}
use Rattle.wrp_records.proofs.Reaching.{lines_alone, lines_behind}
use Rattle.wrp_records.proofs.WordLemmas.{decimal_word, head_of, large_line_whole, line_whole, signed_word}
use Rattle.wrp_replay.specs.NodeText.{port_numbers}
use Rattle.wrp_simulate.specs.SimText.{count_of, is_printed, node_sum, printed_line, printed_lines, sim_lines, sum_lines, tracked, worst_of}
use Rattle.wrp_trace.specs.EventPrinting.{event_text}
use Rattle.wrp_bound_laws.specs.Chains.{AllFit}
use Rattle.wrp_trace.specs.LineSetting.{has_port, line_setting_in}
use Rattle.wrp_asked.proofs.EventLines.{whole_line}
use Rattle.wrp_asked.proofs.EventWords.{event_word}
use Rattle.wrp_asked.proofs.ToldApart.{all_text, count_if, count_lines, flat_all, node_lines, port_if}
use Rattle.wrp_asked.proofs.ToldWhole.{all_whole}
use Rattle.wrp_network_world.specs.Counts.{all_counts}
use Rattle.wrp_lossless_laws.specs.Kinds.{has_kind, is_kind, is_of_kind, kinds_in}

-- Lines of outputs

by_output : (name tick : List ℕ) (o : Output) (bound : ℤ) (truth : Option ℤ) → has_kind ((name ∷ (tick ∷ output_words o bound truth)) ++ [] ∷ []) ≡ is_printed o
by_output name tick (Send port frame) bound truth = refl
by_output name tick (Step cycles) bound truth = refl
by_output name tick (Dac value) bound truth = refl
by_output name tick (Report (Link port word)) bound truth = refl
by_output name tick (Report (Servo state)) bound truth = refl
by_output name tick (Report (Track est)) bound truth = refl

-- the line of an output is of one of the kinds if and only if a simulation prints it
output_kind : (s : Setting) (n tick : ℕ) (o : Output) (truth : Option ℤ) → HasNames s.cfg → is_of_kind (output_line s.cfg n tick o truth) ≡ is_printed o
output_kind s n tick o truth names =
    ap has_kind (output_reads (name_at s.cfg n) tick o (pos (path_of s.cfg n)) truth (at_word s.cfg names n))
    ∙ by_output (name_at s.cfg n) (decimal tick) o (pos (path_of s.cfg n)) truth

kept_so : (b : Bool) (line : List ℕ) (rest : List (List ℕ)) → cond b (line ∷ rest) rest ≡ (if b then line ∷ [] else []) ++ rest
kept_so true line rest = refl
kept_so false line rest = refl

outs_kinds : (s : Setting) (w : WorldAt) (n : ℕ) (outs : List Output) → HasNames s.cfg →
    filter is_of_kind (map (λ o. output_line s.cfg n (w.node n).ticks o (Some (w.clock n).off)) outs) ≡ flat_map (output_lines is_printed s w n) outs
outs_kinds s w n [] names = refl
outs_kinds s w n (o ∷ outs) names =
    let line : List ℕ = output_line s.cfg n (w.node n).ticks o (Some (w.clock n).off) in
    let rest : List (List ℕ) = filter is_of_kind (map (λ o. output_line s.cfg n (w.node n).ticks o (Some (w.clock n).off)) outs) in
    ap (λ (b : Bool). cond b (line ∷ rest) rest) (output_kind s n (w.node n).ticks o (Some (w.clock n).off) names)
    ∙ kept_so (is_printed o) line rest
    ∙ ap (λ (l : List (List ℕ)). output_lines is_printed s w n o ++ l) (outs_kinds s w n outs names)

steps_kinds : (s : Setting) (w : WorldAt) (steps : List NodeStepAt) → HasNames s.cfg →
    filter is_of_kind (flat_map (step_lines s w) steps) ≡ flat_map (printed.step_lines is_printed s w) steps
steps_kinds s w [] names = refl
steps_kinds s w (step ∷ steps) names =
    filter-append is_of_kind (step_lines s w step) (flat_map (step_lines s w) steps)
    ∙ ap₂ (λ (a b : List (List ℕ)). a ++ b) (outs_kinds s w step.node step.outs names) (steps_kinds s w steps names)

-- Lines of events

-- an event line is `= ` and one word
marked_kind : (s : Setting) (e : Event) → HasNames s.cfg → IsEventOf s.cfg e → is_of_kind (marked_line s.cfg e) ≡ false
marked_kind s e names is = ap has_kind (reads (61 ∷ []) (event_text s.cfg e ∷ []) (refl, (event_word s.cfg e names is, tt)))

-- the lines of these kinds among the lines of a loop's events
loop_kinds : (s : Setting) (events : List Happened) → HasNames s.cfg → AllEvents s.cfg events →
    filter is_of_kind (loop_lines s events) ≡ lines_in is_printed s events
loop_kinds s [] names each = refl
loop_kinds s (h ∷ before) names each =
    let steps : List (List ℕ) = steps_lines s before h in
    filter-append is_of_kind (loop_lines s before) (marked_line s.cfg h.event ∷ steps)
    ∙ ap₂ (λ (a b : List (List ℕ)). a ++ b) (loop_kinds s before names each.1)
    (ap (λ (b : Bool). cond b (marked_line s.cfg h.event ∷ filter is_of_kind steps) (filter is_of_kind steps)) (marked_kind s h.event names each.0)
    ∙ steps_kinds s (world_after s (h ∷ before)) (steps_at s before h) names)

-- Lines whose third word is a number

abbrev IsSmall : List ℕ → Type 0
IsSmall text = head_of text ≤ 107

glyph_by : (d : ℕ) (b : Bool) → d < 10 → (if b then 48 + d else (if false then 55 + d else 87 + d)) ≤ 107
glyph_by d true small = omega (arith, small)
glyph_by d false small = omega (arith, small)

glyph_small : (d : ℕ) → d < 10 → digit_glyph false d ≤ 107
glyph_small d small = glyph_by d (nat_lt d 10) small

either_small : (b : Bool) (x y : List ℕ) → IsSmall x → IsSmall y → IsSmall (if b then x else y)
either_small true x y h k = h
either_small false x y h k = k

digits_small : (k n : ℕ) (acc : List ℕ) → IsSmall acc → IsSmall (digits_onto k 10 false n acc)
digits_small zero n acc h = h
digits_small (suc k) n acc h =
    let small : n % 10 < 10 = omega arith in
    let first : IsSmall (digit_glyph false (n % 10) ∷ acc) = glyph_small (n % 10) small in
    either_small (n / 10 == 0) (digit_glyph false (n % 10) ∷ acc) (digits_onto k 10 false (n / 10) (digit_glyph false (n % 10) ∷ acc)) first
    (digits_small k (n / 10) (digit_glyph false (n % 10) ∷ acc) first)

decimal_small : (n : ℕ) → IsSmall (decimal n)
unfolding digits
decimal_small n = let none : 0 ≤ 107 = omega arith in digits_small 64 n [] none

small_kind : (word : List ℕ) → IsSmall word → is_kind word ≡ false
small_kind [] small = refl
small_kind (c ∷ cs) small =
    let no_s : (c == 115) ≡ false = ne_eqb c 115 (λ e. omega (arith, small, e)) in
    let no_l : (c == 108) ≡ false = ne_eqb c 108 (λ e. omega (arith, small, e)) in
    let no_t : (c == 116) ≡ false = ne_eqb c 116 (λ e. omega (arith, small, e)) in
    rw (no_s, no_l, no_t) refl

decimal_kind : (n : ℕ) → is_kind (decimal n) ≡ false
decimal_kind n = small_kind (decimal n) (decimal_small n)

no_gap : (c : ℕ) → is_word_octet c ≡ true → is_gap c ≡ false
no_gap c is =
    let both = and_parts (not (c == 32)) (not (c == 10)) is in
    rw (not-true (c == 32) both.0, not-true (c == 10) both.1) refl

gap_free : (word : List ℕ) → IsWord word → All (λ c. is_gap c ≡ false) word
gap_free word is k d below = no_gap (slice_index_or word k d) (AllPass-from_list_all is_word_octet word is k d below)

one_part : (word rest : List ℕ) → IsWord word → gap_parts (word ++ 32 ∷ rest) ≡ word ∷ gap_parts rest
one_part word rest is = slice_split_at is_gap word 32 rest (gap_free word is) refl

third_number : (name second rest : List ℕ) (n : ℕ) → IsWord name → IsWord second → is_of_kind (name ++ 32 ∷ (second ++ 32 ∷ (decimal n ++ 32 ∷ rest))) ≡ false
third_number name second rest n is also =
    ap has_kind
    (one_part name (second ++ 32 ∷ (decimal n ++ 32 ∷ rest)) is
    ∙ ap (λ (l : List (List ℕ)). name ∷ l)
    (one_part second (decimal n ++ 32 ∷ rest) also ∙ ap (λ (l : List (List ℕ)). second ∷ l) (one_part (decimal n) rest (decimal_word n))))
    ∙ decimal_kind n

-- a line of none of the kinds
abbrev IsOther : List ℕ → Type 0
IsOther line = is_of_kind line ≡ false

none_kept : (lines : List (List ℕ)) → AllByRecursion IsOther lines → filter is_of_kind lines ≡ []
none_kept [] h = refl
none_kept (line ∷ lines) h = ap (λ (b : Bool). cond b (line ∷ filter is_of_kind lines) (filter is_of_kind lines)) h.0 ∙ none_kept lines h.1

-- Counters

count_other : (s : Setting) → HasNames s.cfg → (n port : ℕ) (reason : Reason) (none : Bool) (value : ℕ) →
    AllByRecursion IsOther (count_if (name_at s.cfg n) port reason none value)
count_other s names n port reason true value = tt
count_other s names n port reason false value =
    (third_number (name_at s.cfg n) (codes "count") (line_of (reason_word (number_of reason) ∷ (decimal value ∷ []))) port (at_word s.cfg names n) refl, tt)

port_other : (s : Setting) → HasNames s.cfg → (n : ℕ) (has : Bool) (port : ℕ) (counters : List ℕ) →
    AllByRecursion IsOther (port_if (name_at s.cfg n) has port counters)
port_other s names n true port counters =
    flat_all IsOther (λ reason. count_if (name_at s.cfg n) port reason (count_at counters (number_of reason) == 0) (count_at counters (number_of reason)))
    (λ reason. count_other s names n port reason (count_at counters (number_of reason) == 0) (count_at counters (number_of reason))) reasons
port_other s names n false port counters = tt

counts_other : (s : Setting) → HasNames s.cfg → (w : WorldAt) → AllByRecursion IsOther (count_lines s w)
counts_other s names w =
    flat_all IsOther (node_lines s w)
    (λ n. flat_all IsOther (λ port. port_if (name_at s.cfg n) (has_port (line_setting_in s n) port) port ((w.node n).counters port))
    (λ port. port_other s names n (has_port (line_setting_in s n) port) port ((w.node n).counters port)) port_numbers) (nodes_of s)

forged_other : (count : ℕ) (none : Bool) → AllByRecursion IsOther (if none then [] else line_of (codes "forged" ∷ (decimal count ∷ [])) ∷ [])
forged_other count true = tt
forged_other count false = (ap has_kind (reads (codes "forged") (decimal count ∷ []) (refl, (decimal_word count, tt))), tt)

-- What a loop prints

pub loop_prints : (s : Setting) → IsNetwork s → (events : List Happened) (forged : ℕ) → AllEvents s.cfg events → AllFit events →
    kinds_in (loop_text s events ++ (all_counts s (world_after s events) ++ concat (forged_lines forged))) ≡ lines_in is_printed s events
loop_prints s net events forged each fit =
    let names : HasNames s.cfg = net.accepted.names in
    let counts : List (List ℕ) = count_lines s (world_after s events) in
    let lines : lines_of (loop_text s events ++ (all_counts s (world_after s events) ++ concat (forged_lines forged))) ≡
    (loop_lines s events ++ counts) ++ forged_lines forged =
    ap lines_of (all_text s events forged) ∙ lines_alone (all_lines s events counts forged) (all_whole s net events each fit forged) in
    ap (filter is_of_kind) lines
    ∙ filter-append is_of_kind (loop_lines s events ++ counts) (forged_lines forged)
    ∙ ap₂ (λ (a b : List (List ℕ)). a ++ b) (filter-append is_of_kind (loop_lines s events) counts)
    (none_kept (forged_lines forged) (forged_other forged (forged == 0)))
    ∙ append-nil (filter is_of_kind (loop_lines s events) ++ filter is_of_kind counts)
    ∙ ap₂ (λ (a b : List (List ℕ)). a ++ b) (loop_kinds s events names each) (none_kept counts (counts_other s names (world_after s events)))
    ∙ append-nil (lines_in is_printed s events)

-- The line that ends a run whose next event has too great a number
left_all : (P : List ℕ → Type 0) (a b : List (List ℕ)) → AllByRecursion P (a ++ b) → AllByRecursion P a
left_all P [] b h = tt
left_all P (line ∷ a) b h = (h.0, left_all P a b h.1)

large_other : (number : ℕ) → IsOther (large_line number)
large_other number = ap has_kind (reads (codes "too-large") (decimal number ∷ []) (refl, (decimal_word number, tt)))

-- lines of events, and then that line
large_prints : (lines : List (List ℕ)) (number : ℕ) → AllByRecursion IsWhole lines → kinds_in (concat lines ++ large_line number) ≡ filter is_of_kind lines
large_prints lines number whole =
    ap (filter is_of_kind) (lines_behind lines (large_line number) whole ∙ ap (λ (l : List (List ℕ)). lines ++ l) (one_line number))
    ∙ filter-append is_of_kind lines (large_line number ∷ [])
    ∙ ap (λ (l : List (List ℕ)). filter is_of_kind lines ++ l) (none_kept (large_line number ∷ []) (large_other number, tt))
    ∙ append-nil (filter is_of_kind lines)
  where
    one_line : (number : ℕ) → lines_of (large_line number) ≡ large_line number ∷ []
    one_line number = ap lines_of (sym (append-nil (large_line number))) ∙ lines_alone (large_line number ∷ []) (large_line_whole number, tt)

pub loop_prints_large : (s : Setting) → IsNetwork s → (events : List Happened) (number : ℕ) → AllEvents s.cfg events → AllFit events →
    kinds_in (loop_text s events ++ large_line number) ≡ lines_in is_printed s events
loop_prints_large s net events number each fit =
    let counts : List (List ℕ) = count_lines s (world_after s events) in
    large_prints (loop_lines s events) number
    (left_all IsWhole (loop_lines s events) counts (left_all IsWhole (loop_lines s events ++ counts) (forged_lines 0) (all_whole s net events each fit 0)))
    ∙ loop_kinds s events net.accepted.names each

-- What a simulation prints

flat_text : {A : Type 0} (f : A → List (List ℕ)) (g : A → List ℕ) → ((a : A) → concat (f a) ≡ g a) → (xs : List A) → concat (flat_map f xs) ≡ flat_map g xs
flat_text f g same [] = refl
flat_text f g same (x ∷ xs) = concat-append (f x) (flat_map f xs) ∙ ap₂ (λ (a b : List ℕ). a ++ b) (same x) (flat_text f g same xs)

map_text : {A : Type 0} (g : A → List ℕ) (xs : List A) → concat (map g xs) ≡ flat_map g xs
map_text g [] = refl
map_text g (x ∷ xs) = ap (λ (rest : List ℕ). g x ++ rest) (map_text g xs)

maybe_text : (b : Bool) (line : List ℕ) → concat (if b then line ∷ [] else []) ≡ (if b then line else [])
maybe_text true line = append-nil line
maybe_text false line = refl

sim_text : (s : Setting) (events : List Happened) → concat (lines_in is_printed s events) ≡ sim_lines s events
sim_text s [] = refl
sim_text s (h ∷ before) =
    let w : WorldAt = world_after s (h ∷ before) in
    concat-append (lines_in is_printed s before) (lines_at is_printed s before h)
    ∙ ap₂ (λ (a b : List ℕ). a ++ b) (sim_text s before)
    (flat_text (printed.step_lines is_printed s w) (printed_lines s w)
    (λ (step : NodeStepAt). flat_text (output_lines is_printed s w step.node) (printed_line s w step.node)
    (λ (o : Output). maybe_text (is_printed o) (output_line s.cfg step.node (w.node step.node).ticks o (Some (w.clock step.node).off))) step.outs)
    (steps_at s before h))

maybe_whole : (b : Bool) (line : List ℕ) → IsWhole line → AllByRecursion IsWhole (if b then line ∷ [] else [])
maybe_whole true line whole = (whole, tt)
maybe_whole false line whole = tt

flat_each : {A : Type 0} (P : List ℕ → Type 0) (f : A → List (List ℕ)) → ((a : A) → AllByRecursion P (f a)) → (xs : List A) → AllByRecursion P (flat_map f xs)
flat_each P f each [] = tt
flat_each P f each (x ∷ xs) = all_append P (f x) (flat_map f xs) (each x) (flat_each P f each xs)

events_whole : (s : Setting) → HasNames s.cfg → (events : List Happened) → AllByRecursion IsWhole (lines_in is_printed s events)
events_whole s names [] = tt
events_whole s names (h ∷ before) =
    let w : WorldAt = world_after s (h ∷ before) in
    all_append IsWhole (lines_in is_printed s before) (lines_at is_printed s before h) (events_whole s names before)
    (flat_each IsWhole (printed.step_lines is_printed s w)
    (λ (step : NodeStepAt). flat_each IsWhole (output_lines is_printed s w step.node)
    (λ (o : Output). maybe_whole (is_printed o) (output_line s.cfg step.node (w.node step.node).ticks o (Some (w.clock step.node).off))
    (whole_line s step.node (w.node step.node).ticks o (Some (w.clock step.node).off) names)) step.outs)
    (steps_at s before h))

-- its lines of events are all of the kinds
maybe_stays : (b : Bool) (line : List ℕ) → is_of_kind line ≡ b → filter is_of_kind (if b then line ∷ [] else []) ≡ (if b then line ∷ [] else [])
maybe_stays true line is = ap (λ (b : Bool). cond b (line ∷ []) []) is
maybe_stays false line is = refl

flat_stays : {A : Type 0} (f : A → List (List ℕ)) → ((a : A) → filter is_of_kind (f a) ≡ f a) → (xs : List A) →
    filter is_of_kind (flat_map f xs) ≡ flat_map f xs
flat_stays f same [] = refl
flat_stays f same (x ∷ xs) = filter-append is_of_kind (f x) (flat_map f xs) ∙ ap₂ (λ (a b : List (List ℕ)). a ++ b) (same x) (flat_stays f same xs)

events_stay : (s : Setting) → HasNames s.cfg → (events : List Happened) → filter is_of_kind (lines_in is_printed s events) ≡ lines_in is_printed s events
events_stay s names [] = refl
events_stay s names (h ∷ before) =
    let w : WorldAt = world_after s (h ∷ before) in
    filter-append is_of_kind (lines_in is_printed s before) (lines_at is_printed s before h)
    ∙ ap₂ (λ (a b : List (List ℕ)). a ++ b) (events_stay s names before)
    (flat_stays (printed.step_lines is_printed s w)
    (λ (step : NodeStepAt). flat_stays (output_lines is_printed s w step.node)
    (λ (o : Output). maybe_stays (is_printed o) (output_line s.cfg step.node (w.node step.node).ticks o (Some (w.clock step.node).off))
    (output_kind s step.node (w.node step.node).ticks o (Some (w.clock step.node).off) names)) step.outs)
    (steps_at s before h))

-- its sums are of none of the kinds
sum_whole : (s : Setting) → HasNames s.cfg → (n ticks tracks worst : ℕ) (state : ServoState) → IsWhole (sum_line s.cfg n ticks tracks worst state)
sum_whole s names n ticks tracks worst state =
    line_whole (name_at s.cfg n ∷ sum_words ticks tracks worst (pos (path_of s.cfg n)) (servo_word state)) (
      at_word s.cfg names n,
      (refl, (decimal_word ticks, (decimal_word tracks, (decimal_word worst, (signed_word (pos (path_of s.cfg n)), (servo_are state, tt)))))),
    )

sum_other : (s : Setting) → HasNames s.cfg → (n ticks tracks worst : ℕ) (state : ServoState) → IsOther (sum_line s.cfg n ticks tracks worst state)
sum_other s names n ticks tracks worst state =
    third_number (name_at s.cfg n) (codes "sum")
    (line_of (decimal tracks ∷ (decimal worst ∷ (signed_decimal (pos (path_of s.cfg n)) ∷ (servo_word state ∷ []))))) ticks (at_word s.cfg names n) refl

map_each : {A : Type 0} (P : List ℕ → Type 0) (f : A → List ℕ) → ((a : A) → P (f a)) → (xs : List A) → AllByRecursion P (map f xs)
map_each P f each [] = tt
map_each P f each (x ∷ xs) = (each x, map_each P f each xs)

pub sim_prints : (s : Setting) → IsNetwork s → (events : List Happened) → kinds_in (sim_lines s events ++ sum_lines s events) ≡ lines_in is_printed s events
sim_prints s net events =
    let names : HasNames s.cfg = net.accepted.names in
    let w : WorldAt = world_after s events in
    let sums : List (List ℕ) = map (node_sum s events) (nodes_of s) in
    let text : sim_lines s events ++ sum_lines s events ≡ concat (lines_in is_printed s events ++ sums) =
    sym (concat-append (lines_in is_printed s events) sums ∙ ap₂ (λ (a b : List ℕ). a ++ b) (sim_text s events) (map_text (node_sum s events) (nodes_of s))) in
    let whole : AllByRecursion IsWhole (lines_in is_printed s events ++ sums) =
    all_append IsWhole (lines_in is_printed s events) sums (events_whole s names events)
    (map_each IsWhole (node_sum s events)
    (λ n. sum_whole s names n (w.node n).ticks (count_of (tracked s n events)) (worst_of (tracked s n events)) (state_of (node_setting_of s n) (w.node n)))
    (nodes_of s)) in
    let other : AllByRecursion IsOther sums =
    map_each IsOther (node_sum s events)
    (λ n. sum_other s names n (w.node n).ticks (count_of (tracked s n events)) (worst_of (tracked s n events)) (state_of (node_setting_of s n) (w.node n)))
    (nodes_of s) in
    ap (λ (octets : List ℕ). filter is_of_kind (lines_of octets)) text
    ∙ ap (filter is_of_kind) (lines_alone (lines_in is_printed s events ++ sums) whole)
    ∙ filter-append is_of_kind (lines_in is_printed s events) sums
    ∙ ap₂ (λ (a b : List (List ℕ)). a ++ b) (events_stay s names events) (none_kept sums other)
    ∙ append-nil (lines_in is_printed s events)

pub sim_prints_large : (s : Setting) → IsNetwork s → (events : List Happened) (number : ℕ) →
    kinds_in (sim_lines s events ++ large_line number) ≡ lines_in is_printed s events
sim_prints_large s net events number =
    ap (λ (l : List ℕ). kinds_in (l ++ large_line number)) (sym (sim_text s events))
    ∙ large_prints (lines_in is_printed s events) number (events_whole s net.accepted.names events)
    ∙ events_stay s net.accepted.names events
