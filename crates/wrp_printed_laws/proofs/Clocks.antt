-- The clock of a node moves in an event as the event line and the printed lines say.
use Rattle.std.proofs.Common.{◌≡◌, ◌⊎◌, inl, inr, ◌∙◌, refl, ap, ap₂, sym, ℕ, ◌+◌, ◌*◌, ◌<◌, ◌≤◌, ◌^◌, ◌==◌, ℤ, pos, ◌+ℤ◌, ◌*ℤ◌, unsigned_abs, Bool, true, false, if◌then◌else◌, List, [], ◌∷◌, ◌++◌, flat_map, Option, None, Some, Result, arith}
use Rattle.std.specs.Prelude.{unwrap_or}
use Rattle.std.specs.Fmt.{decimal, signed_decimal}
use Rattle.std.specs.List.{AllByRecursion}
use Rattle.std.proofs.lemmas.Bool.Decides.{eqb_tells}
use Rattle.std.proofs.lemmas.Int.{ints}
use Rattle.std.proofs.lemmas.Option.{none-some}
use borrow.Author.Differences.{up, down}
use Rattle.wrp_base.specs.Clock.{period_of}
use Rattle.wrp_base.specs.declared.message.PtpMsg.{PtpMsg}
use Rattle.wrp_network.specs.Network.{name_at, node_count}
use Rattle.wrp_bounds.specs.Bounds.{path_of}
use Rattle.wrp_caldb.specs.Name.{same_name}
use Rattle.wrp_config.specs.Accepted.{HasNames}
use Rattle.wrp_fields.specs.Numbers.{number_of}
use Rattle.wrp_frame.specs.declared.fault.FrameFault.{FrameFault}
use Rattle.wrp_lines.specs.Lines.{output_line, output_words}
use Rattle.wrp_node.specs.declared.interface.Input.{Input}
use Rattle.wrp_node.specs.declared.interface.Input.TheVariants.{Reset}
use Rattle.wrp_node.specs.declared.interface.Output.{Output}
use Rattle.wrp_node.specs.declared.interface.Output.TheVariants.{Send, Step, Dac, Report}
use Rattle.wrp_node.specs.declared.interface.Report.TheVariants.{Link, Servo, Track}
use Rattle.wrp_node.specs.NodeAt.{numbers_of}
use Rattle.wrp_node.specs.StepLaws.{CommandsAreHeld, is_frame}
use Rattle.wrp_course.specs.declared.event.Event.{Event}
use Rattle.wrp_course.specs.declared.event.Event.TheVariants.{Pass, Tick, Sample, Depart, Arrive, Deliver, Noise, Down, Up, Cut, Join}
use Rattle.wrp_course.specs.declared.event.Swap.{Swap}
use Rattle.arrayvec.specs.ArrayVec.{ArrayVec as Items}
use Rattle.wrp_course.specs.Given.{Given, at_ports, clock_told, comes_from, given_by, given_plain, gives, gives_all, node_step_of, step_of, steps_of, taken_of, world_step}
use Rattle.wrp_course.specs.Moved.{clock_after, moved}
use Rattle.wrp_course.specs.Run.{Happened, world_after}
use Rattle.wrp_course.specs.Setting.{Setting, node_setting_of}
use Rattle.wrp_course.specs.WorldAt.{WorldAt}
use Rattle.wrp_course.proofs.DroppedFrames.{still}
use Rattle.wrp_course.proofs.RunGifts.{AllGiven, comes_all, ports_all as ports_given}
use Rattle.wrp_trace.proofs.SignedLemmas.{number_in_back}
use Rattle.wrp_printed_laws.specs.Laws.{lines_at, output_lines, step_lines}
use Rattle.wrp_printed_laws.specs.Offsets.{cycles_in, total}
use Rattle.wrp_printed_laws.specs.Words.{gap_parts}
use Rattle.wrp_printed_laws.proofs.Events.{drift_by, start_by}
use Rattle.wrp_printed_laws.proofs.Names.{number_is, same_names}
use Rattle.wrp_printed_laws.proofs.Outputs.{Others, outputs_all, outputs_total, periods, track_all}
use Rattle.wrp_printed_laws.proofs.Words.{output_reads}
use Rattle.wrp_lines.proofs.LineWords.{at_word}

-- Sums

abbrev pub own : Bool → ℤ → ℤ
own b z = if b then z else pos 0

own_sum : (b : Bool) (x y : ℤ) → own b x +ℤ own b y ≡ own b (x +ℤ y)
own_sum true x y = refl
own_sum false x y = refl

total_both : {A : Type 0} (f : A → ℤ) (xs ys : List A) → total f (xs ++ ys) ≡ total f xs +ℤ total f ys
total_both f [] ys = omega (arith, ints)
total_both f (x ∷ xs) ys = let more : total f (xs ++ ys) ≡ total f xs +ℤ total f ys = total_both f xs ys in omega (arith, ints, more)

-- a product with a sum
product_sum : (x y f : ℤ) → (x +ℤ y) *ℤ f ≡ (x *ℤ f) +ℤ (y *ℤ f)
product_sum x y f =
    let e : up (x +ℤ y) + down x + down y ≡ down (x +ℤ y) + up x + up y = omega (arith, ints) in
    omega (arith, ints, ap (λ (n : ℕ). n * up f) e, ap (λ (n : ℕ). n * down f) e)

-- One line

abbrev pub cycles_of : List ℕ → List ℕ → ℤ
cycles_of node line = cycles_in node (gap_parts line)

-- a number of periods that a node may command
abbrev IsHeld : Output → Type 0
IsHeld (Step cycles) = unsigned_abs cycles ≤ 2 ^ 62
IsHeld _ = Unit {0}

cycles_back : (cycles : ℤ) → unsigned_abs cycles ≤ 2 ^ 62 → number_of (signed_decimal cycles) ≡ Some cycles
cycles_back cycles held =
    number_is cycles cycles (signed_decimal cycles) cycles
    (number_in_back cycles cycles cycles (omega (arith, ints)) (omega (arith, ints)) (omega (arith, held)))

either_nothing : (b : Bool) → pos 0 ≡ own b (pos 0)
either_nothing true = refl
either_nothing false = refl

own_number : (b : Bool) (o : Option ℤ) (cycles : ℤ) → o ≡ Some cycles → (if b then unwrap_or o (pos 0) else pos 0) ≡ own b cycles
own_number b o cycles e = ap (λ (x : Option ℤ). if b then unwrap_or x (pos 0) else pos 0) e

words_cycles : (node name : List ℕ) (tick : List ℕ) (o : Output) (bound : ℤ) (truth : Option ℤ) → IsHeld o →
    cycles_in node ((name ∷ tick ∷ output_words o bound truth) ++ [] ∷ []) ≡ own (same_name name node) (periods o)
words_cycles node name tick (Send port frame) bound truth held = either_nothing (same_name name node)
words_cycles node name tick (Step cycles) bound truth held =
    own_number (same_name name node) (number_of (signed_decimal cycles)) cycles (cycles_back cycles held)
words_cycles node name tick (Dac value) bound truth held = either_nothing (same_name name node)
words_cycles node name tick (Report (Link port word)) bound truth held = either_nothing (same_name name node)
words_cycles node name tick (Report (Servo state)) bound truth held = either_nothing (same_name name node)
words_cycles node name tick (Report (Track est)) bound truth held = either_nothing (same_name name node)

abbrev line_of_output : Setting → WorldAt → ℕ → Output → List ℕ
line_of_output s w m o = output_line s.cfg m (w.node m).ticks o (Some (w.clock m).off)

line_cycles : (s : Setting) (w : WorldAt) (m n : ℕ) (o : Output) → HasNames s.cfg → n < node_count s.cfg → IsHeld o
    → cycles_of (name_at s.cfg n) (line_of_output s w m o) ≡ own (n == m) (periods o)
line_cycles s w m n o names below held =
    ap (cycles_in (name_at s.cfg n)) (output_reads (name_at s.cfg m) (w.node m).ticks o (pos (path_of s.cfg m)) (Some (w.clock m).off) (at_word s.cfg names m))
    ∙ words_cycles (name_at s.cfg n) (name_at s.cfg m) (decimal (w.node m).ticks) o (pos (path_of s.cfg m)) (Some (w.clock m).off) held
    ∙ ap (λ (b : Bool). own b (periods o)) (same_names s.cfg names m n below)

-- All lines of a step

outs_cycles : (s : Setting) (w : WorldAt) (m n : ℕ) (outs : List Output) → HasNames s.cfg → n < node_count s.cfg → AllByRecursion IsHeld outs →
    total (cycles_of (name_at s.cfg n)) (flat_map (output_lines (λ o. true) s w m) outs) ≡ own (n == m) (total periods outs)
outs_cycles s w m n [] names below held = either_nothing (n == m)
outs_cycles s w m n (o ∷ outs) names below held =
    ap₂ (λ (x y : ℤ). x +ℤ y) (line_cycles s w m n o names below held.0) (outs_cycles s w m n outs names below held.1)
    ∙ own_sum (n == m) (periods o) (total periods outs)

others_held : Others IsHeld
others_held (Step cycles) h = absurd h
others_held (Send p frame) h = tt
others_held (Dac value) h = tt
others_held (Report (Link p word)) h = tt
others_held (Report (Servo state)) h = absurd h
others_held (Report (Track est)) h = absurd h

step_cycles : CommandsAreHeld → (s : Setting) (y : ℤ) (w v : WorldAt) (g : Given) (n : ℕ) → HasNames s.cfg → n < node_count s.cfg →
    total (cycles_of (name_at s.cfg n)) (step_lines (λ o. true) s w (node_step_of s y v g)) ≡ own (n == g.to) (step_of s y v g).cycles
step_cycles commands s y w v g n names below =
    outs_cycles s w g.to n (node_step_of s y v g).outs names below
    (outputs_all IsHeld others_held (λ state. tt) (node_setting_of s g.to) g.input (v.node g.to) (step_of s y v g) (commands (node_setting_of s g.to) (taken_of y g) (v.node g.to)).held
    (track_all IsHeld (λ est. tt) (node_setting_of s g.to) g.input (step_of s y v g).node))
    ∙ ap (own (n == g.to)) (outputs_total (node_setting_of s g.to) g.input (v.node g.to) (step_of s y v g))

-- An input moves the clock by the periods that its lines give

own_moves : (s : Setting) (y : ℤ) (v : WorldAt) (g : Given) (n : ℕ) (b : Bool)
    → (if b then clock_told s v g (step_of s y v g).cycles (v.clock n) else v.clock n).off ≡ (v.clock n).off +ℤ (own b (step_of s y v g).cycles *ℤ pos (period_of s.cfg.clock))
own_moves s y v g n true = refl
own_moves s y v g n false = sym (still (v.clock n).off (period_of s.cfg.clock))

both_move : (off one more : ℤ) (period : ℕ) (mid after : ℤ) → mid ≡ off +ℤ (one *ℤ pos period) → after ≡ mid +ℤ (more *ℤ pos period)
    → after ≡ off +ℤ ((one +ℤ more) *ℤ pos period)
both_move off one more period mid after e f =
    let product : (one +ℤ more) *ℤ pos period ≡ (one *ℤ pos period) +ℤ (more *ℤ pos period) = product_sum one more (pos period) in
    sum_up off (one *ℤ pos period) (more *ℤ pos period) ((one +ℤ more) *ℤ pos period) mid after e f product
  where
    sum_up : (off a b c mid after : ℤ) → mid ≡ off +ℤ a → after ≡ mid +ℤ b → c ≡ a +ℤ b → after ≡ off +ℤ c
    sum_up off a b c mid after e f g = omega (arith, ints, e, f, g)

pub given_moves : CommandsAreHeld → (s : Setting) (y : ℤ) (w : WorldAt) (gs : List Given) (v : WorldAt) (n : ℕ) → HasNames s.cfg → n < node_count s.cfg →
    ((gives_all s y v gs).clock n).off
    ≡ (v.clock n).off +ℤ (total (cycles_of (name_at s.cfg n)) (flat_map (step_lines (λ o. true) s w) (steps_of s y v gs)) *ℤ pos (period_of s.cfg.clock))
given_moves commands s y w [] v n names below = sym (still (v.clock n).off (period_of s.cfg.clock))
given_moves commands s y w (g ∷ gs) v n names below =
    let next : WorldAt = gives s y v g in
    let one : List (List ℕ) = step_lines (λ o. true) s w (node_step_of s y v g) in
    let more : List (List ℕ) = flat_map (step_lines (λ o. true) s w) (steps_of s y next gs) in
    let f : List ℕ → ℤ = cycles_of (name_at s.cfg n) in
    let period : ℕ = period_of s.cfg.clock in
    let moves : (next.clock n).off ≡ (v.clock n).off +ℤ (total f one *ℤ pos period) =
    own_moves s y v g n (n == g.to) ∙ ap (λ (c : ℤ). (v.clock n).off +ℤ (c *ℤ pos period)) (sym (step_cycles commands s y w v g n names below)) in
    both_move (v.clock n).off (total f one) (total f more) period (next.clock n).off ((gives_all s y next gs).clock n).off moves
    (given_moves commands s y w gs next n names below)
    ∙ ap (λ (c : ℤ). (v.clock n).off +ℤ (c *ℤ pos period)) (sym (total_both f one more))

-- An event

-- the periods that its lines give for a node
abbrev pub cycles_at : Setting → List Happened → Happened → ℕ → ℤ
cycles_at s before h n = total (cycles_of (name_at s.cfg n)) (lines_at (λ o. true) s before h)

event_moves : CommandsAreHeld → (s : Setting) (before : List Happened) (h : Happened) (n : ℕ) → HasNames s.cfg → n < node_count s.cfg →
    ((world_after s (h ∷ before)).clock n).off ≡ (clock_after (world_after s before) h.event n).off +ℤ (cycles_at s before h n *ℤ pos (period_of s.cfg.clock))
event_moves commands s before h n names below =
    let w : WorldAt = world_after s before in
    given_moves commands s h.answer (world_after s (h ∷ before)) (given_by s w (moved s w h.event) h.says h.event) (moved s w h.event) n names below

plus_none : (off : ℤ) → off ≡ off +ℤ pos 0
plus_none off = omega (arith, ints)

-- an event that does not start the node moves its clock by its drift
moves_by : (w : WorldAt) (e : Event) (n : ℕ) → start_by e n ≡ None → (clock_after w e n).off ≡ (w.clock n).off +ℤ drift_by e n
moves_by w (Pass dt drifts fibres) n h = refl
moves_by w (Tick m) n h = plus_none (w.clock n).off
moves_by w (Sample m base bits) n h = same_off (n == m) ∙ plus_none (w.clock n).off
  where
    same_off : (b : Bool) → (if b then record (w.clock n) { samples = (w.clock n).samples + 1 } else w.clock n).off ≡ (w.clock n).off
    same_off true = refl
    same_off false = refl
moves_by w (Depart m p stamp) n h = plus_none (w.clock n).off
moves_by w (Arrive i raw) n h = plus_none (w.clock n).off
moves_by w (Deliver i) n h = plus_none (w.clock n).off
moves_by w (Noise m p octets raw) n h = plus_none (w.clock n).off
moves_by w (Down m) n h = same_off (n == m) ∙ plus_none (w.clock n).off
  where
    same_off : (b : Bool) → (if b then record (w.clock n) { up = false } else w.clock n).off ≡ (w.clock n).off
    same_off true = refl
    same_off false = refl
moves_by w (Up m off swaps) n h = started (n == m) h ∙ plus_none (w.clock n).off
  where
    started : (b : Bool) → (if b then Some off else None) ≡ None
        → (if b then record { up = true; off = off; ticked = w.time; samples = 0 } else w.clock n).off ≡ (w.clock n).off
    started true e = absurd (none-some off (sym e))
    started false e = refl
moves_by w (Cut k) n h = plus_none (w.clock n).off
moves_by w (Join k ms sm) n h = plus_none (w.clock n).off

pub drifts_on : CommandsAreHeld → (s : Setting) (before : List Happened) (h : Happened) (n : ℕ) → HasNames s.cfg → n < node_count s.cfg
    → start_by h.event n ≡ None →
    ((world_after s (h ∷ before)).clock n).off
    ≡ ((world_after s before).clock n).off +ℤ (drift_by h.event n +ℤ (cycles_at s before h n *ℤ pos (period_of s.cfg.clock)))
drifts_on commands s before h n names below none =
    sums ((world_after s before).clock n).off (drift_by h.event n) (cycles_at s before h n *ℤ pos (period_of s.cfg.clock)) _ _
    (moves_by (world_after s before) h.event n none) (event_moves commands s before h n names below)
  where
    sums : (off a b mid after : ℤ) → mid ≡ off +ℤ a → after ≡ mid +ℤ b → after ≡ off +ℤ (a +ℤ b)
    sums off a b mid after e f = omega (arith, ints, e, f)

-- A start: none of its inputs is a frame, so no step of a clock is commanded

abbrev IsNoFrame : Input → Type 0
IsNoFrame input = is_frame input ≡ false

unmoved : CommandsAreHeld → (s : Setting) (y : ℤ) (gs : List Given) (v : WorldAt) (n : ℕ) → AllGiven IsNoFrame gs
    → ((gives_all s y v gs).clock n).off ≡ (v.clock n).off
unmoved commands s y [] v n h = refl
unmoved commands s y (g ∷ gs) v n h =
    let period : ℕ = period_of s.cfg.clock in
    let none : (step_of s y v g).cycles ≡ pos 0 = (commands (node_setting_of s g.to) (taken_of y g) (v.node g.to)).by_frame h.0 in
    unmoved commands s y gs (gives s y v g) n h.1
    ∙ own_moves s y v g n (n == g.to)
    ∙ ap (λ (c : ℤ). (v.clock n).off +ℤ (own (n == g.to) c *ℤ pos period)) none
    ∙ ap (λ (c : ℤ). (v.clock n).off +ℤ (c *ℤ pos period)) (sym (either_nothing (n == g.to)))
    ∙ still (v.clock n).off period

pub starts_at : CommandsAreHeld → (s : Setting) (says : Result PtpMsg FrameFault) (y : ℤ) (w : WorldAt) (n : ℕ) (off : ℤ) (swaps : Items Swap)
    → ((world_step s says y w (Up n off swaps)).clock n).off ≡ off
starts_at commands s says y w n off swaps =
    let v : WorldAt = moved s w (Up n off swaps) in
    unmoved commands s y (given_plain n Reset ∷ at_ports s v (comes_from s v) n) v n
    (refl, ports_given IsNoFrame s v (comes_from s v) n (numbers_of (s.set n)) (comes_all IsNoFrame (λ p m. refl) s v))
    ∙ here (eqb_tells n n)
  where
    here : ((n == n) ≡ true × (n ≡ n)) ⊎ ((n == n) ≡ false × ((n ≡ n) → ⊥)) → (clock_after w (Up n off swaps) n).off ≡ off
    here (inl x) = ap (λ (b : Bool). (if b then record { up = true; off = off; ticked = w.time; samples = 0 } else w.clock n).off) x.0
    here (inr x) = absurd (x.1 refl)
