-- What an event says of a node, and what it makes of the node's clock and of its tick count.
use Rattle.std.proofs.Common.{◌≡◌, inl, inr, ◌∙◌, refl, ap, sym, ℕ, ◌+◌, ◌==◌, ℤ, pos, Bool, true, false, if◌then◌else◌, List, [], ◌∷◌, Option, None, Some, Result}
use Rattle.std.proofs.lemmas.Bool.Decides.{eqb_tells}
use Rattle.wrp_base.specs.declared.link.Role.TheVariants.{Master}
use Rattle.wrp_base.specs.declared.message.PtpMsg.{PtpMsg}
use Rattle.wrp_frame.specs.declared.fault.FrameFault.{FrameFault}
use Rattle.wrp_node.specs.declared.interface.Input.{Input}
use Rattle.wrp_node.specs.declared.interface.Input.TheVariants.{Tick as TickInput, Sample as SampleInput, Frame, Sent, Carrier, Reset}
use Rattle.wrp_node.specs.NodeAt.{numbers_of}
use Rattle.wrp_node.specs.StepLaws.{TicksAreCounted, ticks_by}
use Rattle.wrp_course.specs.declared.event.Event.{Event}
use Rattle.wrp_course.specs.declared.event.Event.TheVariants.{Pass, Tick, Sample, Depart, Arrive, Deliver, Noise, Down, Up, Cut, Join}
use Rattle.wrp_course.specs.Given.{Given, at_ports, comes_from, given_by, given_plain, gives, gives_all, goes_from, step_of, taken_of, world_step}
use Rattle.wrp_course.specs.Moved.{clock_after, drift_of, moved, waiting_at}
use Rattle.wrp_course.specs.Setting.{Setting, node_setting_of, place_of}
use Rattle.wrp_course.specs.WorldAt.{WorldAt, has_carrier}
use Rattle.wrp_course.proofs.RunGifts.{AllGiven, all_if, comes_all, delivered_all, goes_all, ports_all, sent_all}
use Rattle.wrp_course.proofs.RunSettled.{given_up}
use Rattle.wrp_printed_laws.proofs.Outputs.{IsNoTick}

-- What it says

abbrev pub start_by : Event → ℕ → Option ℤ
start_by (Up m off swaps) n = if n == m then Some off else None
start_by _ n = None

abbrev pub drift_by : Event → ℕ → ℤ
drift_by (Pass dt drifts fibres) n = drift_of drifts.items n
drift_by _ n = pos 0

abbrev pub tick_by : Event → ℕ → ℕ
tick_by (Tick m) n = if n == m then 1 else 0
tick_by _ n = 0

-- Inputs that leave the tick count

abbrev IsCalm : Input → Type 0
IsCalm TickInput = ⊥
IsCalm Reset = ⊥
IsCalm _ = Unit {0}

-- all inputs that an event gives are calm, except the first input of a tick and of a start
abbrev IsQuiet : Event → Type 0
IsQuiet (Tick m) = ⊥
IsQuiet (Up m off swaps) = ⊥
IsQuiet _ = Unit {0}

carriers_come : (s : Setting) (v : WorldAt) (n : ℕ) → AllGiven IsCalm (at_ports s v (comes_from s v) n)
carriers_come s v n = ports_all IsCalm s v (comes_from s v) n (numbers_of (s.set n)) (comes_all IsCalm (λ p m. tt) s v)

quiet_given : (s : Setting) (w v : WorldAt) (says : Result PtpMsg FrameFault) (e : Event) → IsQuiet e → AllGiven IsCalm (given_by s w v says e)
quiet_given s w v says (Pass dt drifts fibres) h = tt
quiet_given s w v says (Tick m) h = absurd h
quiet_given s w v says (Sample m base bits) h = (tt, tt)
quiet_given s w v says (Depart m p stamp) h = sent_all IsCalm (λ q seq delay t. tt) m p stamp (w.clock m).samples (waiting_at w (place_of s m p))
quiet_given s w v says (Arrive i raw) h = tt
quiet_given s w v says (Deliver i) h = delivered_all IsCalm (λ p octets raw sample. tt) s (w.frame i)
quiet_given s w v says (Noise m p octets raw) h = (tt, tt)
quiet_given s w v says (Down m) h = ports_all IsCalm s w (goes_from s) m (numbers_of (s.set m)) (goes_all IsCalm (λ p. tt) s)
quiet_given s w v says (Up m off swaps) h = absurd h
quiet_given s w v says (Cut k) h = all_if IsCalm (has_carrier s w k) (goes_from s k Master) (goes_all IsCalm (λ p. tt) s k Master)
quiet_given s w v says (Join k ms sm) h = all_if IsCalm (has_carrier s v k) (comes_from s v k Master) (comes_all IsCalm (λ p m. tt) s v k Master)

calm_by : (input : Input) (ticks : ℕ) → IsCalm input → ticks_by input ticks ≡ ticks
calm_by TickInput ticks h = absurd h
calm_by (SampleInput number base bits) ticks h = refl
calm_by (Frame p octets raw sample) ticks h = refl
calm_by (Sent p seq delay stamp) ticks h = refl
calm_by (Carrier p up own_module) ticks h = refl
calm_by Reset ticks h = absurd h

-- the tick count of a node after an input
one_count : TicksAreCounted → (s : Setting) (y : ℤ) (v : WorldAt) (g : Given) (n : ℕ)
    → ((gives s y v g).node n).ticks ≡ (if n == g.to then ticks_by g.input (v.node n).ticks else (v.node n).ticks)
one_count counted s y v g n = elim (eqb_tells n g.to) [
  | inl x ↦
      ap (λ (b : Bool). (if b then (step_of s y v g).node else v.node n).ticks) x.0
      ∙ counted (node_setting_of s g.to) (taken_of y g) (v.node g.to)
      ∙ ap (λ (i : ℕ). ticks_by g.input (v.node i).ticks) (sym x.1)
      ∙ sym (ap (λ (b : Bool). if b then ticks_by g.input (v.node n).ticks else (v.node n).ticks) x.0)
  | inr x ↦
      ap (λ (b : Bool). (if b then (step_of s y v g).node else v.node n).ticks) x.0
      ∙ sym (ap (λ (b : Bool). if b then ticks_by g.input (v.node n).ticks else (v.node n).ticks) x.0)
]

same_either : (b : Bool) (x y : ℕ) → x ≡ y → (if b then x else y) ≡ y
same_either true x y e = e
same_either false x y e = refl

calm_count : TicksAreCounted → (s : Setting) (y : ℤ) (gs : List Given) (v : WorldAt) (n : ℕ) → AllGiven IsCalm gs
    → ((gives_all s y v gs).node n).ticks ≡ (v.node n).ticks
calm_count counted s y [] v n h = refl
calm_count counted s y (g ∷ gs) v n h =
    calm_count counted s y gs (gives s y v g) n h.1 ∙ one_count counted s y v g n
    ∙ same_either (n == g.to) (ticks_by g.input (v.node n).ticks) (v.node n).ticks (calm_by g.input (v.node n).ticks h.0)

-- and after an event
abbrev pub count_by : Event → ℕ → ℕ → ℕ
count_by (Tick m) n ticks = if n == m then ticks + 1 else ticks
count_by (Up m off swaps) n ticks = if n == m then 0 else ticks
count_by _ n ticks = ticks

quiet_count : TicksAreCounted → (s : Setting) (says : Result PtpMsg FrameFault) (y : ℤ) (w : WorldAt) (e : Event) (n : ℕ) → IsQuiet e
    → ((world_step s says y w e).node n).ticks ≡ (w.node n).ticks
quiet_count counted s says y w e n h = calm_count counted s y (given_by s w (moved s w e) says e) (moved s w e) n (quiet_given s w (moved s w e) says e h)

pub event_count : TicksAreCounted → (s : Setting) (says : Result PtpMsg FrameFault) (y : ℤ) (w : WorldAt) (e : Event) (n : ℕ)
    → ((world_step s says y w e).node n).ticks ≡ count_by e n (w.node n).ticks
event_count counted s says y w (Tick m) n = one_count counted s y (moved s w (Tick m)) (given_plain m TickInput) n
event_count counted s says y w (Up m off swaps) n =
    let v : WorldAt = moved s w (Up m off swaps) in
    calm_count counted s y (at_ports s v (comes_from s v) m) (gives s y v (given_plain m Reset)) n (carriers_come s v m)
    ∙ one_count counted s y v (given_plain m Reset) n
event_count counted s says y w (Pass dt drifts fibres) n = quiet_count counted s says y w (Pass dt drifts fibres) n tt
event_count counted s says y w (Sample m base bits) n = quiet_count counted s says y w (Sample m base bits) n tt
event_count counted s says y w (Depart m p stamp) n = quiet_count counted s says y w (Depart m p stamp) n tt
event_count counted s says y w (Arrive i raw) n = quiet_count counted s says y w (Arrive i raw) n tt
event_count counted s says y w (Deliver i) n = quiet_count counted s says y w (Deliver i) n tt
event_count counted s says y w (Noise m p octets raw) n = quiet_count counted s says y w (Noise m p octets raw) n tt
event_count counted s says y w (Down m) n = quiet_count counted s says y w (Down m) n tt
event_count counted s says y w (Cut k) n = quiet_count counted s says y w (Cut k) n tt
event_count counted s says y w (Join k ms sm) n = quiet_count counted s says y w (Join k ms sm) n tt

-- Whether a node is up

given_stands : (s : Setting) (y : ℤ) (gs : List Given) (v : WorldAt) (n : ℕ) → ((gives_all s y v gs).clock n).up ≡ (v.clock n).up
given_stands s y [] v n = refl
given_stands s y (g ∷ gs) v n = given_stands s y gs (gives s y v g) n ∙ given_up s y v g n

pub event_stands : (s : Setting) (says : Result PtpMsg FrameFault) (y : ℤ) (w : WorldAt) (e : Event) (n : ℕ)
    → ((world_step s says y w e).clock n).up ≡ (clock_after w e n).up
event_stands s says y w e n = given_stands s y (given_by s w (moved s w e) says e) (moved s w e) n

-- Inputs that are not a tick

calm_not : (gs : List Given) → AllGiven IsCalm gs → AllGiven IsNoTick gs
calm_not [] h = tt
calm_not (g ∷ gs) h = (by g.input h.0, calm_not gs h.1)
  where
    by : (input : Input) → IsCalm input → IsNoTick input
    by TickInput k = absurd k
    by (SampleInput number base bits) k = tt
    by (Frame p octets raw sample) k = tt
    by (Sent p seq delay stamp) k = tt
    by (Carrier p up own_module) k = tt
    by Reset k = absurd k

abbrev pub IsNoTickEvent : Event → Type 0
IsNoTickEvent (Tick m) = ⊥
IsNoTickEvent _ = Unit {0}

quiet_not : (s : Setting) (w v : WorldAt) (says : Result PtpMsg FrameFault) (e : Event) → IsQuiet e → AllGiven IsNoTick (given_by s w v says e)
quiet_not s w v says e h = calm_not (given_by s w v says e) (quiet_given s w v says e h)

pub no_tick_given : (s : Setting) (w v : WorldAt) (says : Result PtpMsg FrameFault) (e : Event) → IsNoTickEvent e → AllGiven IsNoTick (given_by s w v says e)
no_tick_given s w v says (Tick m) h = absurd h
no_tick_given s w v says (Up m off swaps) h = (tt, calm_not (at_ports s v (comes_from s v) m) (carriers_come s v m))
no_tick_given s w v says (Pass dt drifts fibres) h = tt
no_tick_given s w v says (Sample m base bits) h = quiet_not s w v says (Sample m base bits) tt
no_tick_given s w v says (Depart m p stamp) h = quiet_not s w v says (Depart m p stamp) tt
no_tick_given s w v says (Arrive i raw) h = tt
no_tick_given s w v says (Deliver i) h = quiet_not s w v says (Deliver i) tt
no_tick_given s w v says (Noise m p octets raw) h = quiet_not s w v says (Noise m p octets raw) tt
no_tick_given s w v says (Down m) h = quiet_not s w v says (Down m) tt
no_tick_given s w v says (Cut k) h = quiet_not s w v says (Cut k) tt
no_tick_given s w v says (Join k ms sm) h = quiet_not s w v says (Join k ms sm) tt
