-- TICK in each printed line counts the ticks of its node since its last start.
use Rattle.std.proofs.Common.{◌≡◌, ◌∙◌, refl, ap, ap₂, sym, ℕ, ◌+◌, ◌<◌, ◌==◌, ℤ, pos, Bool, true, false, if◌then◌else◌, List, [], ◌∷◌, ◌++◌, flat_map, Option, None, Some, arith}
use Rattle.std.specs.Prelude.{is_some}
use Rattle.std.specs.Fmt.{decimal}
use Rattle.std.specs.List.{AllByRecursion}
use Rattle.wrp_base.specs.Lines.{parts_of}
use Rattle.wrp_network.specs.Network.{name_at, node_count}
use Rattle.wrp_base.proofs.Lists.{all_append}
use Rattle.wrp_bounds.specs.Bounds.{path_of}
use Rattle.wrp_config.specs.Accepted.{HasNames}
use Rattle.wrp_lines.specs.Lines.{output_words}
use Rattle.wrp_node.specs.declared.interface.Output.{Output}
use Rattle.wrp_node.specs.StepLaws.{TicksAreCounted}
use Rattle.wrp_course.specs.declared.event.Event.{Event}
use Rattle.wrp_course.specs.declared.event.Event.TheVariants.{Pass, Tick, Sample, Depart, Arrive, Deliver, Noise, Down, Up, Cut, Join}
use Rattle.wrp_course.specs.EventAt.{IsEventOf}
use Rattle.wrp_course.specs.Given.{Given, given_by, gives, node_step_of, steps_of}
use Rattle.wrp_course.specs.Moved.{moved}
use Rattle.wrp_course.specs.Run.{Happened, world_after}
use Rattle.wrp_course.specs.Runs.{IsNetwork}
use Rattle.wrp_course.specs.Setting.{Setting}
use Rattle.wrp_course.specs.WorldAt.{WorldAt}
use Rattle.wrp_printed_laws.specs.Laws.{AreSeen, SaysEvent, lines_at, output_lines, step_lines}
use Rattle.wrp_printed_laws.specs.Offsets.{Seen, TellsTicks, ticks_since}
use Rattle.wrp_printed_laws.proofs.Events.{count_by, event_count, start_by, tick_by}
use Rattle.wrp_printed_laws.proofs.Fields.{TellsEvent, event_fields}
use Rattle.wrp_printed_laws.proofs.There.{AllThere, given_there}
use Rattle.wrp_printed_laws.proofs.Words.{at_reads, line_at}

-- The ticks of each node are seen

counts_on : (e : Event) (n ticks : ℕ) → count_by e n ticks ≡ (if is_some (start_by e n) then 0 else tick_by e n + ticks)
counts_on (Tick m) n ticks = by (n == m)
  where
    by : (b : Bool) → (if b then ticks + 1 else ticks) ≡ (if b then 1 else 0) + ticks
    by true = omega arith
    by false = omega arith
counts_on (Up m off swaps) n ticks = by (n == m)
  where
    by : (b : Bool) → (if b then 0 else ticks) ≡ (if is_some (if b then Some off else None) then 0 else 0 + ticks)
    by true = refl
    by false = omega arith
counts_on (Pass dt drifts fibres) n ticks = omega arith
counts_on (Sample m base bits) n ticks = omega arith
counts_on (Depart m p stamp) n ticks = omega arith
counts_on (Arrive i raw) n ticks = omega arith
counts_on (Deliver i) n ticks = omega arith
counts_on (Noise m p octets raw) n ticks = omega arith
counts_on (Down m) n ticks = omega arith
counts_on (Cut k) n ticks = omega arith
counts_on (Join k ms sm) n ticks = omega arith

abbrev pub AreCounted : Setting → WorldAt → List Seen → Type 0
AreCounted s w seen = (n : ℕ) → n < node_count s.cfg → (w.node n).ticks ≡ ticks_since (name_at s.cfg n) seen

next_counted : TicksAreCounted → (s : Setting) (before : List Happened) (h : Happened) (it : Seen) (older : List Seen) → HasNames s.cfg →
    SaysEvent s.cfg it.event h.event → AreCounted s (world_after s before) older → AreCounted s (world_after s (h ∷ before)) (it ∷ older)
next_counted counted s before h it older names says old n below =
    let node : List ℕ = name_at s.cfg n in
    let told : TellsEvent node n (parts_of it.event) h.event = event_fields s.cfg it.event h.event n names below says in
    event_count counted s h.says h.answer (world_after s before) h.event n
    ∙ counts_on h.event n ((world_after s before).node n).ticks
    ∙ ap (λ (ticks : ℕ). if is_some (start_by h.event n) then 0 else tick_by h.event n + ticks) (old n below)
    ∙ sym (ap₂ (λ (start : Option ℤ) (ticks : ℕ). if is_some start then 0 else ticks + ticks_since node older) told.starts told.ticks)

pub all_counted : TicksAreCounted → (s : Setting) (events : List Happened) (seen : List Seen) → HasNames s.cfg → AreSeen s seen events →
    AreCounted s (world_after s events) seen
all_counted counted s [] [] names are n below = refl
all_counted counted s [] (it ∷ seen) names are n below = absurd are
all_counted counted s (h ∷ before) [] names are n below = absurd are
all_counted counted s (h ∷ before) (it ∷ seen) names are n below =
    next_counted counted s before h it seen names are.0 (all_counted counted s before seen names are.2) n below

-- So does each line of an event

line_tells : (s : Setting) (w : WorldAt) (seen : List Seen) (m : ℕ) (o : Output) → HasNames s.cfg → AreCounted s w seen → m < node_count s.cfg →
    TellsTicks s.cfg seen (line_at s w m o)
line_tells s w seen m o names counted there =
    let more : List (List ℕ) = output_words o (pos (path_of s.cfg m)) (Some (w.clock m).off) ++ [] ∷ [] in (
      m,
      more,
      there,
      at_reads s w m o names ∙ ap (λ (ticks : ℕ). name_at s.cfg m ∷ decimal ticks ∷ more) (counted m there),
    )

outs_tell : (s : Setting) (w : WorldAt) (seen : List Seen) (m : ℕ) (outs : List Output) → HasNames s.cfg →
    AreCounted s w seen → m < node_count s.cfg →
    AllByRecursion (TellsTicks s.cfg seen) (flat_map (output_lines (λ o. true) s w m) outs)
outs_tell s w seen m [] names counted there = tt
outs_tell s w seen m (o ∷ outs) names counted there =
    (line_tells s w seen m o names counted there, outs_tell s w seen m outs names counted there)

steps_tell : (s : Setting) (y : ℤ) (w : WorldAt) (seen : List Seen) (gs : List Given) (v : WorldAt) → HasNames s.cfg →
    AreCounted s w seen → AllThere s gs →
    AllByRecursion (TellsTicks s.cfg seen) (flat_map (step_lines (λ o. true) s w) (steps_of s y v gs))
steps_tell s y w seen [] v names counted there = tt
steps_tell s y w seen (g ∷ gs) v names counted there =
    all_append (TellsTicks s.cfg seen) (step_lines (λ o. true) s w (node_step_of s y v g))
    (flat_map (step_lines (λ o. true) s w) (steps_of s y (gives s y v g) gs))
    (outs_tell s w seen g.to (node_step_of s y v g).outs names counted there.0) (steps_tell s y w seen gs (gives s y v g) names counted there.1)

pub event_tells : (s : Setting) (before : List Happened) (h : Happened) (seen : List Seen) → IsNetwork s → IsEventOf s.cfg h.event →
    AreCounted s (world_after s (h ∷ before)) seen → AllByRecursion (TellsTicks s.cfg seen) (lines_at (λ o. true) s before h)
event_tells s before h seen net is counted =
    let w : WorldAt = world_after s before in
    let v : WorldAt = moved s w h.event in
    steps_tell s h.answer (world_after s (h ∷ before)) seen (given_by s w v h.says h.event) v net.accepted.names counted
    (given_there s net w v h.says h.event is)
