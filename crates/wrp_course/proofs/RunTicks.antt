-- The time of a node's last tick, or of its start, after every event of every run.
use Rattle.std.proofs.Common.{◌≡◌, ◌⊎◌, inl, inr, ◌∙◌, refl, ap, sym, subst, ℕ, ◌==◌, ℤ, pos, ◌+ℤ◌, ◌≤ℤ◌, Bool, true, false, if◌then◌else◌, List, [], ◌∷◌, Result}
use Rattle.std.proofs.lemmas.Bool.Decides.{eqb_tells}
use Rattle.arrayvec.specs.ArrayVec.{ArrayVec as Items}
use Rattle.std.specs.List.{AllByRecursion}
use Rattle.wrp_base.specs.declared.link.Role.TheVariants.{Master}
use Rattle.wrp_base.specs.declared.message.PtpMsg.{PtpMsg}
use Rattle.wrp_bounds.specs.Times.{shortest_tick}
use Rattle.wrp_frame.specs.declared.fault.FrameFault.{FrameFault}
use Rattle.wrp_node.specs.declared.interface.Input.{Input}
use Rattle.wrp_node.specs.declared.interface.Input.TheVariants.{Tick as TickInput, Sample as SampleInput, Frame, Sent, Carrier, Reset}
use Rattle.wrp_node.specs.NodeAt.{numbers_of}
use Rattle.wrp_course.specs.declared.clocks.ClockState.{ClockState}
use Rattle.wrp_course.specs.declared.event.Event.{Event}
use Rattle.wrp_course.specs.declared.event.Event.TheVariants.{Pass, Tick, Sample, Depart, Arrive, Deliver, Noise, Down, Up, Cut, Join}
use Rattle.wrp_course.specs.declared.event.Swap.{Swap}
use Rattle.wrp_course.specs.Given.{Given, at_ports, clock_told, comes_from, delivered, given, given_by, given_plain, gives, gives_all, goes_from, step_of, ticked_by, world_step}
use Rattle.wrp_course.specs.Moved.{moved, waiting_at}
use Rattle.wrp_course.specs.Premises.{Accepts}
use Rattle.wrp_course.specs.Run.{world_after}
use Rattle.wrp_course.specs.RunLaws.{TickOrStart, TicksAreApart}
use Rattle.wrp_course.specs.Setting.{Setting, place_of}
use Rattle.wrp_course.specs.WorldAt.{WorldAt, has_carrier}
use Rattle.wrp_course.proofs.RunGifts.{all_if, comes_all, delivered_all, goes_all, ports_all, sent_all}
use Rattle.wrp_course.proofs.RunHanded.{not_early}
use Rattle.wrp_course.proofs.RunMoves.{moved_ticked, ticked_after}
use Rattle.wrp_course.proofs.RunTimes.{all_given_time}

-- Inputs that are no tick

abbrev pub NoTick : Input → Type 0
NoTick TickInput = ⊥
NoTick _ = Unit {0}

no_tick : (input : Input) (time before : ℤ) → NoTick input → ticked_by input time before ≡ before
no_tick TickInput time before h = absurd h
no_tick (SampleInput number base bits) time before h = refl
no_tick (Frame p octets raw sample) time before h = refl
no_tick (Sent p seq delay stamp) time before h = refl
no_tick (Carrier p up own_module) time before h = refl
no_tick Reset time before h = refl

pub told_same : (b : Bool) (c d : ClockState) → c.ticked ≡ d.ticked → (if b then c else d).ticked ≡ d.ticked
told_same true c d e = e
told_same false c d e = refl

given_ticked : (s : Setting) (y : ℤ) (v : WorldAt) (g : Given) (n : ℕ) → NoTick g.input → ((gives s y v g).clock n).ticked ≡ (v.clock n).ticked
given_ticked s y v g n h = told_same (n == g.to) (clock_told s v g (step_of s y v g).cycles (v.clock n)) (v.clock n) (no_tick g.input v.time (v.clock n).ticked h)

all_given_ticked : (s : Setting) (y : ℤ) (gs : List Given) (v : WorldAt) (n : ℕ) → AllByRecursion (λ g. NoTick g.input) gs → ((gives_all s y v gs).clock n).ticked ≡ (v.clock n).ticked
all_given_ticked s y [] v n h = refl
all_given_ticked s y (g ∷ gs) v n h = all_given_ticked s y gs (gives s y v g) n h.1 ∙ given_ticked s y v g n h.0

-- One event

abbrev Stepped : Setting → (old now after : ℤ) → ℕ → Event → Type 0
Stepped s old now after n e = (after ≡ old) ⊎ ((after ≡ now) × TickOrStart (shortest_tick s.cfg) n old now e)

-- only a start changes it
stays : (s : Setting) (y : ℤ) (gs : List Given) (w v : WorldAt) (e : Event) (n : ℕ) → AllByRecursion (λ g. NoTick g.input) gs → (v.clock n).ticked ≡ (w.clock n).ticked →
    Stepped s (w.clock n).ticked (gives_all s y v gs).time ((gives_all s y v gs).clock n).ticked n e
stays s y gs w v e n h same = inl (all_given_ticked s y gs v n h ∙ same)

starts : (s : Setting) (y : ℤ) (gs : List Given) (w : WorldAt) (m n : ℕ) (off : ℤ) (swaps : Items Swap) → AllByRecursion (λ g. NoTick g.input) gs → (v : WorldAt) → v ≡ moved s w (Up m off swaps) →
    Stepped s (w.clock n).ticked (gives_all s y v gs).time ((gives_all s y v gs).clock n).ticked n (Up m off swaps)
starts s y gs w m n off swaps h v is =
    let after : ((gives_all s y v gs).clock n).ticked ≡ ticked_after w (Up m off swaps) n =
    all_given_ticked s y gs v n h ∙ ap (λ (x : WorldAt). (x.clock n).ticked) is ∙ moved_ticked s w (Up m off swaps) n in
    let now : (gives_all s y v gs).time ≡ w.time = all_given_time s y gs v ∙ ap (λ (x : WorldAt). x.time) is in
    elim (eqb_tells n m) [
      | inl x ↦ inr (after ∙ ap (λ b. if b then w.time else (w.clock n).ticked) x.0 ∙ sym now, sym x.1)
      | inr x ↦ inl (after ∙ ap (λ b. if b then w.time else (w.clock n).ticked) x.0)
    ]

ticks : (s : Setting) (y : ℤ) (w : WorldAt) (says : Result PtpMsg FrameFault) (m n : ℕ) → Accepts s w says (Tick m) →
    Stepped s (w.clock n).ticked w.time ((gives s y (moved s w (Tick m)) (given_plain m TickInput)).clock n).ticked n (Tick m)
ticks s y w says m n a =
    let g : Given = given_plain m TickInput in
    let told : ClockState = clock_told s (moved s w (Tick m)) g (step_of s y (moved s w (Tick m)) g).cycles (w.clock n) in
    elim (eqb_tells n m) [
      | inl x ↦
          inr (
            ap (λ b. (if b then told else w.clock n).ticked) x.0,
            (
              sym x.1,
              subst (λ i. ((w.clock i).ticked +ℤ pos (shortest_tick s.cfg)) ≤ℤ w.time) (sym x.1)
                  (not_early (w.clock m).up w.time (w.clock m).ticked (shortest_tick s.cfg) a.1.0 a.0),
            ),
          )
      | inr x ↦ inl (ap (λ b. (if b then told else w.clock n).ticked) x.0)
    ]

stepped : (s : Setting) (says : Result PtpMsg FrameFault) (y : ℤ) (w : WorldAt) (e : Event) (n : ℕ) → Accepts s w says e →
    Stepped s (w.clock n).ticked (world_step s says y w e).time ((world_step s says y w e).clock n).ticked n e
stepped s says y w (Pass dt drifts fibres) n a = inl refl
stepped s says y w (Tick m) n a = ticks s y w says m n a
stepped s says y w (Sample m base bits) n a =
    stays s y (given_by s w (moved s w (Sample m base bits)) says (Sample m base bits)) w (moved s w (Sample m base bits)) (Sample m base bits) n (tt, tt) (moved_ticked s w (Sample m base bits) n)
stepped s says y w (Depart m p stamp) n a =
    stays s y (given_by s w (moved s w (Depart m p stamp)) says (Depart m p stamp)) w (moved s w (Depart m p stamp)) (Depart m p stamp) n
    (sent_all NoTick (λ q seq delay t. tt) m p stamp (w.clock m).samples (waiting_at w (place_of s m p))) refl
stepped s says y w (Arrive i raw) n a = inl refl
stepped s says y w (Deliver i) n a =
    stays s y (delivered s (w.frame i)) w (moved s w (Deliver i)) (Deliver i) n (delivered_all NoTick (λ p octets raw sample. tt) s (w.frame i)) refl
stepped s says y w (Noise m p octets raw) n a =
    stays s y (given m (Frame p octets raw (w.clock m).samples) says ∷ []) w (moved s w (Noise m p octets raw)) (Noise m p octets raw) n (tt, tt) refl
stepped s says y w (Down m) n a =
    stays s y (at_ports s w (goes_from s) m) w (moved s w (Down m)) (Down m) n (ports_all NoTick s w (goes_from s) m (numbers_of (s.set m)) (goes_all NoTick (λ p. tt) s)) (moved_ticked s w (Down m) n)
stepped s says y w (Up m off swaps) n a =
    let v : WorldAt = moved s w (Up m off swaps) in
    starts s y (given_plain m Reset ∷ at_ports s v (comes_from s v) m) w m n off swaps (tt, ports_all NoTick s v (comes_from s v) m (numbers_of (s.set m)) (comes_all NoTick (λ p m2. tt) s v)) v refl
stepped s says y w (Cut k) n a =
    stays s y (if has_carrier s w k then goes_from s k Master else []) w (moved s w (Cut k)) (Cut k) n (all_if NoTick (has_carrier s w k) (goes_from s k Master) (goes_all NoTick (λ p. tt) s k Master)) refl
stepped s says y w (Join k ms sm) n a =
    let v : WorldAt = moved s w (Join k ms sm) in
    stays s y (if has_carrier s v k then comes_from s v k Master else []) w v (Join k ms sm) n (all_if NoTick (has_carrier s v k) (comes_from s v k Master) (comes_all NoTick (λ p m2. tt) s v k Master)) refl

pub ticks_are_apart : TicksAreApart
ticks_are_apart s h before n run = stepped s h.says h.answer (world_after s before) h.event n run.accepted.0
