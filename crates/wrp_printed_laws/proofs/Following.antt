-- Each track line follows from the event lines and the step lines since the last start of its node.
use Rattle.std.proofs.Common.{◌≡◌, ◌⊎◌, inl, inr, ◌∙◌, refl, ap, ap₂, sym, subst, ℕ, ◌+◌, ◌<◌, ◌==◌, ℤ, pos, ◌+ℤ◌, ◌*ℤ◌, not, Bool, true, false, if◌then◌else◌, List, [], ◌∷◌, ◌++◌, flat_map, Option, None, Some, Result, arith, codes}
use Rattle.std.specs.Fmt.{decimal, signed_decimal}
use Rattle.std.specs.List.{AllByRecursion}
use Rattle.std.proofs.lemmas.Bool.{true≢false}
use Rattle.std.proofs.lemmas.Bool.Decides.{eqb_tells}
use Rattle.std.proofs.lemmas.Int.{ints}
use Rattle.std.proofs.lemmas.Option.{none-some}
use Rattle.wrp_base.specs.Clock.{period_of}
use Rattle.wrp_base.specs.declared.message.PtpMsg.{PtpMsg}
use Rattle.wrp_base.specs.Lines.{parts_of}
use Rattle.wrp_network.specs.Network.{name_at, node_count}
use Rattle.wrp_base.proofs.Lists.{all_append}
use Rattle.wrp_base.proofs.Naturals.{eq_self}
use Rattle.wrp_bounds.specs.Bounds.{path_of}
use Rattle.wrp_config.specs.Accepted.{HasNames}
use Rattle.wrp_frame.specs.declared.fault.FrameFault.{FrameFault}
use Rattle.wrp_node.specs.declared.interface.Input.TheVariants.{Tick as TickInput}
use Rattle.wrp_node.specs.declared.interface.Output.{Output}
use Rattle.wrp_node.specs.declared.interface.Output.TheVariants.{Send, Step, Dac, Report}
use Rattle.wrp_node.specs.declared.interface.Report.TheVariants.{Link, Servo, Track}
use Rattle.wrp_node.specs.StepLaws.{CommandsAreHeld, TicksAreCounted}
use Rattle.wrp_course.specs.declared.event.Event.{Event}
use Rattle.wrp_course.specs.declared.event.Event.TheVariants.{Pass, Tick, Sample, Depart, Arrive, Deliver, Noise, Down, Up, Cut, Join}
use Rattle.wrp_course.specs.EventAt.{IsEventOf}
use Rattle.wrp_course.specs.Given.{Given, given_by, given_plain, gives, node_step_of, step_of, steps_of, world_step}
use Rattle.wrp_course.specs.Moved.{clock_after, moved}
use Rattle.wrp_course.specs.Premises.{Accepts}
use Rattle.wrp_course.specs.Run.{Happened, world_after}
use Rattle.wrp_course.specs.Runs.{IsRun}
use Rattle.wrp_course.specs.Setting.{Setting, node_setting_of}
use Rattle.wrp_course.specs.WorldAt.{WorldAt}
use Rattle.wrp_course.proofs.RunGifts.{AllGiven}
use Rattle.wrp_printed_laws.specs.Laws.{AreSeen, OffsetsFollow, SaysEvent, lines_at, output_lines, step_lines}
use Rattle.wrp_printed_laws.specs.Offsets.{AllFollow, Follows, IsSince, Seen, TellsTicks, TracksFollow, moved_by, ticks_in, total}
use Rattle.wrp_printed_laws.specs.Words.{Reads}
use Rattle.wrp_printed_laws.proofs.Clocks.{cycles_at, cycles_of, drifts_on, starts_at}
use Rattle.wrp_printed_laws.proofs.Events.{drift_by, event_stands, no_tick_given, start_by}
use Rattle.wrp_printed_laws.proofs.Fields.{TellsEvent, event_fields}
use Rattle.wrp_printed_laws.proofs.Outputs.{IsNoTick, IsOther, no_track, outputs_all, track_all}
use Rattle.wrp_printed_laws.proofs.Ticks.{all_counted, event_tells}
use Rattle.wrp_printed_laws.proofs.Words.{at_reads, line_at, words_at}

-- Since the last start

-- what is seen since the last start of a node that is up: its offset
record Since (s : Setting) (w : WorldAt) (seen : List Seen) (n : ℕ) : Type 0 where
  since : List Seen
  start : ℤ
  is : IsSince (name_at s.cfg n) seen since start
  off : (w.clock n).off ≡ start +ℤ total (moved_by (period_of s.cfg.clock) (name_at s.cfg n)) since

abbrev IfUp : Setting → WorldAt → List Seen → ℕ → Type 0
IfUp s w seen n = (w.clock n).up ≡ true → Since s w seen n

-- an event starts a node, or it does not
start_or_not : (e : Event) (n : ℕ) → ((off : ℤ) × (start_by e n ≡ Some off)) ⊎ (start_by e n ≡ None)
start_or_not e n = by (start_by e n) refl
  where
    by : (o : Option ℤ) → start_by e n ≡ o → ((off : ℤ) × (start_by e n ≡ Some off)) ⊎ (start_by e n ≡ None)
    by None is = inr is
    by (Some off) is = inl (off, is)

-- an event that does not start a node leaves it down if it is down
stays_up : (w : WorldAt) (e : Event) (n : ℕ) → start_by e n ≡ None → (clock_after w e n).up ≡ true → (w.clock n).up ≡ true
stays_up w (Sample m base bits) n none up = by (n == m) up
  where
    by : (b : Bool) → (if b then record (w.clock n) { samples = (w.clock n).samples + 1 } else w.clock n).up ≡ true → (w.clock n).up ≡ true
    by true e = e
    by false e = e
stays_up w (Down m) n none up = by (n == m) up
  where
    by : (b : Bool) → (if b then record (w.clock n) { up = false } else w.clock n).up ≡ true → (w.clock n).up ≡ true
    by true e = absurd (true≢false (sym e))
    by false e = e
stays_up w (Up m off swaps) n none up = by (n == m) none up
  where
    by : (b : Bool) → (if b then Some off else None) ≡ None → (if b then record { up = true; off = off; ticked = w.time; samples = 0 } else w.clock n).up ≡ true → (w.clock n).up ≡ true
    by true f e = absurd (none-some off (sym f))
    by false f e = e
stays_up w (Pass dt drifts fibres) n none up = up
stays_up w (Tick m) n none up = up
stays_up w (Depart m p stamp) n none up = up
stays_up w (Arrive i raw) n none up = up
stays_up w (Deliver i) n none up = up
stays_up w (Noise m p octets raw) n none up = up
stays_up w (Cut k) n none up = up
stays_up w (Join k ms sm) n none up = up

-- What a start and another event make of the offset

-- an event line and what is printed of it
record IsSeen (s : Setting) (it : Seen) (before : List Happened) (h : Happened) : Type 0 where
  says : SaysEvent s.cfg it.event h.event
  lines : it.lines ≡ lines_at (λ o. true) s before h

tells : (s : Setting) (it : Seen) (before : List Happened) (h : Happened) (n : ℕ) → HasNames s.cfg → n < node_count s.cfg → IsSeen s it before h → TellsEvent (name_at s.cfg n) n (parts_of it.event) h.event
tells s it before h n names below seen = event_fields s.cfg it.event h.event n names below seen.says

abbrev Started : Setting → List Happened → Happened → ℕ → ℤ → Type 0
Started s before h n off = ((world_after s (h ∷ before)).clock n).off ≡ off

started : CommandsAreHeld → (s : Setting) (before : List Happened) (says : Result PtpMsg FrameFault) (y : ℤ) (e : Event) (n : ℕ) (off : ℤ) → start_by e n ≡ Some off →
    Started s before (record { event = e; says = says; answer = y }) n off
started commands s before says y (Up m started_with swaps) n off is = elim (eqb_tells n m) [
  | inl x ↦
      let w : WorldAt = world_after s before in
      let same : Some started_with ≡ Some off = sym (ap (λ (b : Bool). if b then Some started_with else None) x.0) ∙ is in
      let with_off : started_with ≡ off = cc in
      ap (λ (i : ℕ). ((world_step s says y w (Up m started_with swaps)).clock i).off) x.1 ∙ starts_at commands s says y w m started_with swaps ∙ with_off
  | inr x ↦ absurd (none-some off (sym (ap (λ (b : Bool). if b then Some started_with else None) x.0) ∙ is))
]
started commands s before says y (Pass dt drifts fibres) n off is = absurd (none-some off is)
started commands s before says y (Tick m) n off is = absurd (none-some off is)
started commands s before says y (Sample m base bits) n off is = absurd (none-some off is)
started commands s before says y (Depart m p stamp) n off is = absurd (none-some off is)
started commands s before says y (Arrive i raw) n off is = absurd (none-some off is)
started commands s before says y (Deliver i) n off is = absurd (none-some off is)
started commands s before says y (Noise m p octets raw) n off is = absurd (none-some off is)
started commands s before says y (Down m) n off is = absurd (none-some off is)
started commands s before says y (Cut k) n off is = absurd (none-some off is)
started commands s before says y (Join k ms sm) n off is = absurd (none-some off is)

start_alone : (start off : ℤ) → off ≡ start → off ≡ start +ℤ pos 0
start_alone start off e = omega (arith, ints, e)

at_start : CommandsAreHeld → (s : Setting) (before : List Happened) (h : Happened) (it : Seen) (older : List Seen) (n : ℕ) (off : ℤ) →
    TellsEvent (name_at s.cfg n) n (parts_of it.event) h.event → start_by h.event n ≡ Some off → Since s (world_after s (h ∷ before)) (it ∷ older) n
at_start commands s before h it older n off told is =
    let now : Started s before h n off = started commands s before h.says h.answer h.event n off is in
    record {
      since = [];
      start = off;
      is = record { up = it; earlier = older; divided = refl; starts = told.starts ∙ is; last = tt };
      off = start_alone off ((world_after s (h ∷ before)).clock n).off now;
    }

added : (start sum more off after : ℤ) → off ≡ start +ℤ sum → after ≡ off +ℤ more → after ≡ start +ℤ (more +ℤ sum)
added start sum more off after e f = omega (arith, ints, e, f)

later : CommandsAreHeld → (s : Setting) (before : List Happened) (h : Happened) (it : Seen) (older : List Seen) (n : ℕ) → HasNames s.cfg → n < node_count s.cfg → IsSeen s it before h →
    TellsEvent (name_at s.cfg n) n (parts_of it.event) h.event → start_by h.event n ≡ None → Since s (world_after s before) older n → Since s (world_after s (h ∷ before)) (it ∷ older) n
later commands s before h it older n names below seen told none old =
    let node : List ℕ = name_at s.cfg n in
    let period : ℕ = period_of s.cfg.clock in
    let drift : drift_by h.event n +ℤ (cycles_at s before h n *ℤ pos period) ≡ moved_by period node it =
    ap₂ (λ (x y : ℤ). x +ℤ (y *ℤ pos period)) (sym told.passes) (ap (total (cycles_of node)) (sym seen.lines)) in
    let moves : ((world_after s (h ∷ before)).clock n).off ≡ ((world_after s before).clock n).off +ℤ moved_by period node it =
    drifts_on commands s before h n names below none ∙ ap (λ (z : ℤ). ((world_after s before).clock n).off +ℤ z) drift in
    record {
      since = it ∷ old.since;
      start = old.start;
      is =
          record {
            up = old.is.up;
            earlier = old.is.earlier;
            divided = ap (λ (l : List Seen). it ∷ l) old.is.divided;
            starts = old.is.starts;
            last = (told.starts ∙ none, old.is.last);
          };
      off = added old.start (total (moved_by period node) old.since) (moved_by period node it) ((world_after s before).clock n).off ((world_after s (h ∷ before)).clock n).off old.off moves;
    }

next_since : CommandsAreHeld → (s : Setting) (before : List Happened) (h : Happened) (it : Seen) (older : List Seen) (n : ℕ) → HasNames s.cfg → n < node_count s.cfg → IsSeen s it before h →
    IfUp s (world_after s before) older n → IfUp s (world_after s (h ∷ before)) (it ∷ older) n
next_since commands s before h it older n names below seen old up =
    let told : TellsEvent (name_at s.cfg n) n (parts_of it.event) h.event = tells s it before h n names below seen in
    let w : WorldAt = world_after s before in
    elim (start_or_not h.event n) [
      | inl start ↦ at_start commands s before h it older n start.0 told start.1
      | inr none ↦
          later commands s before h it older n names below seen told none
          (old (stays_up w h.event n none (sym (event_stands s h.says h.answer w h.event n) ∙ up)))
    ]

all_since : CommandsAreHeld → (s : Setting) (events : List Happened) (seen : List Seen) (n : ℕ) → HasNames s.cfg → n < node_count s.cfg → AreSeen s seen events → IfUp s (world_after s events) seen n
all_since commands s [] [] n names below are up = absurd (true≢false (sym up))
all_since commands s [] (it ∷ seen) n names below are up = absurd are
all_since commands s (h ∷ before) [] n names below are up = absurd are
all_since commands s (h ∷ before) (it ∷ seen) n names below are up =
    next_since commands s before h it seen n names below (record { says = are.0; lines = are.1 }) (all_since commands s before seen n names below are.2) up

-- Track lines

-- what follows if a line is a track line
abbrev Claims : Setting → Seen → List Seen → List ℕ → Type 0
Claims s it older line =
    (node tick est bound off : List ℕ) → Reads line (node ∷ tick ∷ codes "track" ∷ est ∷ bound ∷ codes "true" ∷ off ∷ []) →
    Follows s.cfg it older node bound off

abbrev first_of : List (List ℕ) → List ℕ
first_of [] = []
first_of (word ∷ words) = word

abbrev rest_of : List (List ℕ) → List (List ℕ)
rest_of [] = []
rest_of (word ∷ words) = words

abbrev octet_of : List ℕ → ℕ
octet_of [] = 0
octet_of (c ∷ cs) = c

-- the first octet of the third word
abbrev kind_octet : List (List ℕ) → ℕ
kind_octet words = octet_of (first_of (rest_of (rest_of words)))

abbrev IsNoTrack : Output → Type 0
IsNoTrack (Report (Track est)) = ⊥
IsNoTrack _ = Unit {0}

others_are : (o : Output) → IsOther o → IsNoTrack o
others_are (Send p frame) h = tt
others_are (Step cycles) h = tt
others_are (Dac value) h = tt
others_are (Report (Link p word)) h = tt
others_are (Report (Servo state)) h = tt
others_are (Report (Track est)) h = absurd h

-- the line of any other output is not a track line
other_claims : (s : Setting) (w : WorldAt) (it : Seen) (older : List Seen) (m : ℕ) (o : Output) → HasNames s.cfg → IsNoTrack o → Claims s it older (line_at s w m o)
other_claims s w it older m (Send p frame) names h node tick est bound off is = absurd (let f : 115 ≡ 116 = ap kind_octet (sym (at_reads s w m (Send p frame) names) ∙ is) in omega (arith, f))
other_claims s w it older m (Step cycles) names h node tick est bound off is = absurd (let f : 115 ≡ 116 = ap kind_octet (sym (at_reads s w m (Step cycles) names) ∙ is) in omega (arith, f))
other_claims s w it older m (Dac value) names h node tick est bound off is = absurd (let f : 100 ≡ 116 = ap kind_octet (sym (at_reads s w m (Dac value) names) ∙ is) in omega (arith, f))
other_claims s w it older m (Report (Link p word)) names h node tick est bound off is =
    absurd (let f : 108 ≡ 116 = ap kind_octet (sym (at_reads s w m (Report (Link p word)) names) ∙ is) in omega (arith, f))
other_claims s w it older m (Report (Servo state)) names h node tick est bound off is =
    absurd (let f : 115 ≡ 116 = ap kind_octet (sym (at_reads s w m (Report (Servo state)) names) ∙ is) in omega (arith, f))
other_claims s w it older m (Report (Track est)) names h node tick words bound off is = absurd h

-- a track line follows, if the event is a tick of its node, which is up
record IsTicked (s : Setting) (w : WorldAt) (it : Seen) (older : List Seen) (m : ℕ) : Type 0 where
  there : m < node_count s.cfg
  since : Since s w (it ∷ older) m
  tick : ticks_in (name_at s.cfg m) (parts_of it.event) ≡ 1

track_claims : (s : Setting) (w : WorldAt) (it : Seen) (older : List Seen) (m : ℕ) (est : ℤ) → HasNames s.cfg → IsTicked s w it older m → Claims s it older (line_at s w m (Report (Track est)))
track_claims s w it older m est names ticked node tick words bound off is =
    let same : words_at s w m (Report (Track est)) ++ [] ∷ [] ≡ (node ∷ tick ∷ codes "track" ∷ words ∷ bound ∷ codes "true" ∷ off ∷ []) ++ [] ∷ [] =
    sym (at_reads s w m (Report (Track est)) names) ∙ is in
    let node_is : name_at s.cfg m ≡ node = ap first_of same in
    let bound_is : decimal (path_of s.cfg m) ≡ bound = ap (λ (l : List (List ℕ)). first_of (rest_of (rest_of (rest_of (rest_of l))))) same in
    let off_is : signed_decimal (w.clock m).off ≡ off = ap (λ (l : List (List ℕ)). first_of (rest_of (rest_of (rest_of (rest_of (rest_of (rest_of l))))))) same in
    let since : Since s w (it ∷ older) m = ticked.since in
    subst (λ (name : List ℕ). Follows s.cfg it older name bound off) node_is
    (record {
      number = m;
      there = ticked.there;
      name = refl;
      since = since.since;
      start = since.start;
      is_since = since.is;
      ticks = ticked.tick;
      bound_is = bound_is;
      off_is = ap signed_decimal (sym since.off) ∙ off_is;
    })

-- All lines of an event

outs_claim : (s : Setting) (w : WorldAt) (it : Seen) (older : List Seen) (m : ℕ) (outs : List Output) → AllByRecursion (λ (o : Output). Claims s it older (line_at s w m o)) outs →
    AllByRecursion (Claims s it older) (flat_map (output_lines (λ o. true) s w m) outs)
outs_claim s w it older m [] are = tt
outs_claim s w it older m (o ∷ outs) are = (are.0, outs_claim s w it older m outs are.1)

step_claims : (s : Setting) (y : ℤ) (w v : WorldAt) (it : Seen) (older : List Seen) (g : Given) → HasNames s.cfg → IsNoTick g.input → AllByRecursion (Claims s it older) (step_lines (λ o. true) s w (node_step_of s y v g))
step_claims s y w v it older g names none =
    let P : Output → Type 0 = λ o. Claims s it older (line_at s w g.to o) in
    outs_claim s w it older g.to (node_step_of s y v g).outs
    (outputs_all P (λ o other. other_claims s w it older g.to o names (others_are o other)) (λ state. other_claims s w it older g.to (Report (Servo state)) names tt)
    (node_setting_of s g.to) g.input (v.node g.to) (step_of s y v g) (other_claims s w it older g.to (Step (step_of s y v g).cycles) names tt)
    (no_track P (node_setting_of s g.to) g.input (step_of s y v g).node none))

steps_claim : (s : Setting) (y : ℤ) (w : WorldAt) (it : Seen) (older : List Seen) (gs : List Given) (v : WorldAt) → HasNames s.cfg → AllGiven IsNoTick gs →
    AllByRecursion (Claims s it older) (flat_map (step_lines (λ o. true) s w) (steps_of s y v gs))
steps_claim s y w it older [] v names none = tt
steps_claim s y w it older (g ∷ gs) v names none =
    all_append (Claims s it older) (step_lines (λ o. true) s w (node_step_of s y v g)) (flat_map (step_lines (λ o. true) s w) (steps_of s y (gives s y v g) gs))
    (step_claims s y w v it older g names none.0) (steps_claim s y w it older gs (gives s y v g) names none.1)

tick_claims : (s : Setting) (y : ℤ) (w v : WorldAt) (it : Seen) (older : List Seen) (m : ℕ) → HasNames s.cfg → IsTicked s w it older m →
    AllByRecursion (Claims s it older) (flat_map (step_lines (λ o. true) s w) (steps_of s y v (given_plain m TickInput ∷ [])))
tick_claims s y w v it older m names ticked =
    let g : Given = given_plain m TickInput in
    let P : Output → Type 0 = λ o. Claims s it older (line_at s w m o) in
    all_append (Claims s it older) (step_lines (λ o. true) s w (node_step_of s y v g)) []
    (outs_claim s w it older m (node_step_of s y v g).outs
    (outputs_all P (λ o other. other_claims s w it older m o names (others_are o other)) (λ state. other_claims s w it older m (Report (Servo state)) names tt)
    (node_setting_of s m) TickInput (v.node m) (step_of s y v g) (other_claims s w it older m (Step (step_of s y v g).cycles) names tt)
    (track_all P (λ est. track_claims s w it older m est names ticked) (node_setting_of s m) TickInput (step_of s y v g).node)))
    tt

-- a tick comes only to a node that is up
not_down : (b : Bool) → not b ≡ false → b ≡ true
not_down true e = refl
not_down false e = absurd (true≢false e)

event_claims : (s : Setting) (before : List Happened) (says : Result PtpMsg FrameFault) (y : ℤ) (e : Event) (it : Seen) (older : List Seen) → HasNames s.cfg → IsEventOf s.cfg e →
    Accepts s (world_after s before) says e → SaysEvent s.cfg it.event e →
    ((n : ℕ) → n < node_count s.cfg → IfUp s (world_after s (record { event = e; says = says; answer = y } ∷ before)) (it ∷ older) n) →
    AllByRecursion (Claims s it older) (lines_at (λ o. true) s before (record { event = e; says = says; answer = y }))
event_claims s before says y (Tick m) it older names is accepts said since =
    let h : Happened = record { event = Tick m; says = says; answer = y } in
    let w : WorldAt = world_after s before in
    let was : (w.clock m).up ≡ true = not_down (w.clock m).up accepts.1.0 in
    let up : ((world_after s (h ∷ before)).clock m).up ≡ true = event_stands s says y w (Tick m) m ∙ was in
    tick_claims s y (world_after s (h ∷ before)) (moved s w (Tick m)) it older m names (record {
      there = is;
      since = since m is up;
      tick = (event_fields s.cfg it.event (Tick m) m names is said).ticks ∙ ap (λ (b : Bool). if b then 1 else 0) (eq_self m);
    })
event_claims s before says y (Pass dt drifts fibres) it older names is accepts said since = tt
event_claims s before says y (Arrive i raw) it older names is accepts said since = tt
event_claims s before says y e it older names is accepts said since =
    let w : WorldAt = world_after s before in
    steps_claim s y (world_after s (record { event = e; says = says; answer = y } ∷ before)) it older (given_by s w (moved s w e) says e) (moved s w e) names (no_tick_given s w (moved s w e) says e tt)

claims_are : (s : Setting) (it : Seen) (older : List Seen) (lines : List (List ℕ)) → it.lines ≡ lines → AllByRecursion (Claims s it older) lines → TracksFollow s.cfg it older
claims_are s it older lines e are = subst (AllByRecursion (Claims s it older)) (sym e) are

follow : CommandsAreHeld → TicksAreCounted → (s : Setting) (events : List Happened) (seen : List Seen) → IsRun s events → AreSeen s seen events → AllFollow s.cfg seen
follow commands counted s [] [] run are = tt
follow commands counted s [] (it ∷ seen) run are = absurd are
follow commands counted s (h ∷ before) [] run are = absurd are
follow commands counted s (h ∷ before) (it ∷ seen) run are = (
  subst (AllByRecursion (TellsTicks s.cfg (it ∷ seen))) (sym are.1)
      (event_tells s before h (it ∷ seen) run.network run.each.0 (all_counted counted s (h ∷ before) (it ∷ seen) run.network.accepted.names are)),
  claims_are s it seen (lines_at (λ o. true) s before h) are.1
      (event_claims s before h.says h.answer h.event it seen run.network.accepted.names run.each.0 run.accepted.0 are.0
      (λ n below. all_since commands s (h ∷ before) (it ∷ seen) n run.network.accepted.names below are)),
  follow commands counted s before seen (record { network = run.network; each = run.each.1; accepted = run.accepted.1 }) are.2,
)

pub offsets_follow : CommandsAreHeld → TicksAreCounted → OffsetsFollow
offsets_follow commands counted s events seen run are = follow commands counted s events seen run are
