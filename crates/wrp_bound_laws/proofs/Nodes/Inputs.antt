-- What an event does to a node: the node's steps at the inputs that it is given.
use Rattle.std.proofs.Common.{◌≡◌, inl, inr, ◌∙◌, refl, ap, sym, subst, ℕ, ℤ, Bool, true, false, if◌then◌else◌, List, [], ◌∷◌, Option, None, Result, ◌⊎◌}
use Rattle.std.proofs.lemmas.Bool.Decides.{eqb_tells}
use Rattle.std.specs.List.{AllByRecursion}
use Rattle.wrp_base.specs.declared.link.Module.{Module}
use Rattle.wrp_base.specs.declared.link.Role.TheVariants.{Master}
use Rattle.wrp_base.specs.declared.message.PtpMsg.{PtpMsg}
use Rattle.wrp_base.specs.declared.time.Raw.{Raw}
use Rattle.wrp_base.specs.declared.time.Stamp.{Stamp}
use Rattle.wrp_frame.specs.declared.fault.FrameFault.{FrameFault}
use Rattle.wrp_node.specs.declared.interface.Input.{Input}
use Rattle.wrp_node.specs.declared.interface.Input.TheVariants.{Tick as TickInput, Sample as SampleInput, Frame, Sent, Carrier, Reset}
use Rattle.wrp_node.specs.NodeAt.{NodeAt, Taken, numbers_of}
use Rattle.wrp_node.specs.NodeStep.{node_step}
use Rattle.wrp_course.specs.declared.clocks.ClockState.{ClockState}
use Rattle.wrp_course.specs.declared.event.Event.{Event}
use Rattle.wrp_course.specs.declared.event.Event.TheVariants.{Pass, Tick, Sample, Depart, Arrive, Deliver, Noise, Down, Up, Cut, Join}
use Rattle.wrp_course.proofs.RunSettled.{given_up}
use Rattle.wrp_course.specs.Given.{Given, at_ports, clock_told, comes_from, delivered, given_by, gives, gives_all, goes_from, step_of, taken_of, ticked_by, world_step}
use Rattle.wrp_course.specs.Moved.{moved, waiting_at}
use Rattle.wrp_course.specs.Setting.{Setting, node_setting_of, place_of}
use Rattle.wrp_course.specs.WorldAt.{WorldAt, has_carrier}
use Rattle.wrp_course.proofs.RunGifts.{AllGiven, all_if, comes_all, delivered_all, goes_all, ports_all, sent_all}
use Rattle.arrayvec.specs.ArrayVec.{ArrayVec as Items}

-- One input

pub node_given : (P : NodeAt → Type 0) (s : Setting) (y : ℤ) (v : WorldAt) (g : Given) (n : ℕ) → (n ≡ g.to → P (node_step (node_setting_of s n) (taken_of y g) (v.node n)).node) → P (v.node n) → P ((gives s y v g).node n)
node_given P s y v g n here there =
    elim (eqb_tells n g.to) [
      | inl x ↦
          subst (λ b. P (if b then (step_of s y v g).node else v.node n)) (sym x.0)
          (subst (λ i. P (node_step (node_setting_of s i) (taken_of y g) (v.node i)).node) x.1 (here x.1))
      | inr x ↦ subst (λ b. P (if b then (step_of s y v g).node else v.node n)) (sym x.0) there
    ]

-- inputs that are given to a node
abbrev pub To : (Input → Type 0) → ℕ → List Given → Type 0
To Q n gs = AllByRecursion (λ g. n ≡ g.to → Q g.input) gs

pub all_to : (Q : Input → Type 0) (n : ℕ) (gs : List Given) → AllGiven Q gs → To Q n gs
all_to Q n [] h = tt
all_to Q n (g ∷ gs) h = (λ e. h.0, all_to Q n gs h.1)

pub node_given_all : (P : NodeAt → Type 0) (Q : Input → Type 0) (s : Setting) (y : ℤ) (n : ℕ) → ((t : Taken) (m : NodeAt) → Q t.input → P m → P (node_step (node_setting_of s n) t m).node) → (gs : List Given) (v : WorldAt) → To Q n gs →
    P (v.node n) → P ((gives_all s y v gs).node n)
node_given_all P Q s y n step [] v h p = p
node_given_all P Q s y n step (g ∷ gs) v h p =
    node_given_all P Q s y n step gs (gives s y v g) h.1 (node_given P s y v g n (λ e. step (taken_of y g) (v.node n) (h.0 e) p) p)

-- An event

-- the inputs that an event gives to a node are of this kind
abbrev pub GivesTo : (Input → Type 0) → ℕ → Event → Type 0
GivesTo Q n (Tick m) = n ≡ m → Q TickInput
GivesTo Q n (Sample m base bits) = n ≡ m → (number : ℕ) → Q (SampleInput number base bits)
GivesTo Q n (Depart m p stamp) = (q seq : ℕ) (delay : Bool) (t : Stamp) → Q (Sent q seq delay t)
GivesTo Q n (Deliver i) = (q : ℕ) (octets : Items ℕ) (raw : Raw) (sample : ℕ) → Q (Frame q octets raw sample)
GivesTo Q n (Noise m p octets raw) = (sample : ℕ) → Q (Frame p octets raw sample)
GivesTo Q n (Down m) = (q : ℕ) → Q (Carrier q false None)
GivesTo Q n (Up m off swaps) = (n ≡ m → Q Reset) × ((q : ℕ) (own_module : Option Module) → Q (Carrier q true own_module))
GivesTo Q n (Cut k) = (q : ℕ) → Q (Carrier q false None)
GivesTo Q n (Join k ms sm) = (q : ℕ) (own_module : Option Module) → Q (Carrier q true own_module)
GivesTo Q n _ = Unit {0}

pub gives_to : (Q : Input → Type 0) (s : Setting) (w v : WorldAt) (says : Result PtpMsg FrameFault) (n : ℕ) (e : Event) → GivesTo Q n e → To Q n (given_by s w v says e)
gives_to Q s w v says n (Pass dt drifts fibres) h = tt
gives_to Q s w v says n (Tick m) h = (h, tt)
gives_to Q s w v says n (Sample m base bits) h = (λ e. h e (v.clock m).samples, tt)
gives_to Q s w v says n (Depart m p stamp) h =
    all_to Q n (given_by s w v says (Depart m p stamp)) (sent_all Q h m p stamp (w.clock m).samples (waiting_at w (place_of s m p)))
gives_to Q s w v says n (Arrive i raw) h = tt
gives_to Q s w v says n (Deliver i) h = all_to Q n (delivered s (w.frame i)) (delivered_all Q h s (w.frame i))
gives_to Q s w v says n (Noise m p octets raw) h = (λ e. h (w.clock m).samples, tt)
gives_to Q s w v says n (Down m) h =
    all_to Q n (at_ports s w (goes_from s) m) (ports_all Q s w (goes_from s) m (numbers_of (s.set m)) (goes_all Q h s))
gives_to Q s w v says n (Up m off swaps) h = (
  h.0,
  all_to Q n (at_ports s v (comes_from s v) m) (ports_all Q s v (comes_from s v) m (numbers_of (s.set m)) (comes_all Q h.1 s v)),
)
gives_to Q s w v says n (Cut k) h =
    all_to Q n (if has_carrier s w k then goes_from s k Master else []) (all_if Q (has_carrier s w k) (goes_from s k Master) (goes_all Q h s k Master))
gives_to Q s w v says n (Join k ms sm) h =
    all_to Q n (if has_carrier s v k then comes_from s v k Master else []) (all_if Q (has_carrier s v k) (comes_from s v k Master) (comes_all Q h s v k Master))

-- what inputs of these kinds keep of a node is kept by an event that gives it no others
pub node_kept : (P : NodeAt → Type 0) (Q : Input → Type 0) (s : Setting) (says : Result PtpMsg FrameFault) (y : ℤ) (w : WorldAt) (e : Event) (n : ℕ) →
    ((t : Taken) (m : NodeAt) → Q t.input → P m → P (node_step (node_setting_of s n) t m).node) → GivesTo Q n e → P (w.node n) → P ((world_step s says y w e).node n)
node_kept P Q s says y w e n step h p =
    node_given_all P Q s y n step (given_by s w (moved s w e) says e) (moved s w e) (gives_to Q s w (moved s w e) says n e h) p

-- The node's clock

-- inputs that are no tick
abbrev pub IsNoTick : Input → Type 0
IsNoTick TickInput = ⊥
IsNoTick _ = Unit {0}

no_tick : (input : Input) (time before : ℤ) → IsNoTick input → ticked_by input time before ≡ before
no_tick TickInput time before h = absurd h
no_tick (SampleInput number base bits) time before h = refl
no_tick (Frame p octets raw sample) time before h = refl
no_tick (Sent p seq delay stamp) time before h = refl
no_tick (Carrier p up own_module) time before h = refl
no_tick Reset time before h = refl

given_last : (s : Setting) (y : ℤ) (v : WorldAt) (g : Given) (n : ℕ) → (n ≡ g.to → IsNoTick g.input) → ((gives s y v g).clock n).ticked ≡ (v.clock n).ticked
given_last s y v g n h =
    let told : ClockState = clock_told s v g (step_of s y v g).cycles (v.clock n) in
    elim (eqb_tells n g.to) [
      | inl x ↦ ap (λ b. (if b then told else v.clock n).ticked) x.0 ∙ no_tick g.input v.time (v.clock n).ticked (h x.1)
      | inr x ↦ ap (λ b. (if b then told else v.clock n).ticked) x.0
    ]

pub all_given_last : (s : Setting) (y : ℤ) (gs : List Given) (v : WorldAt) (n : ℕ) → To IsNoTick n gs → ((gives_all s y v gs).clock n).ticked ≡ (v.clock n).ticked
all_given_last s y [] v n h = refl
all_given_last s y (g ∷ gs) v n h = all_given_last s y gs (gives s y v g) n h.1 ∙ given_last s y v g n h.0

pub all_given_stands : (s : Setting) (y : ℤ) (gs : List Given) (v : WorldAt) (n : ℕ) → ((gives_all s y v gs).clock n).up ≡ (v.clock n).up
all_given_stands s y [] v n = refl
all_given_stands s y (g ∷ gs) v n = all_given_stands s y gs (gives s y v g) n ∙ given_up s y v g n

-- an event in which a node does not tick
abbrev pub IsNoTickOf : ℕ → Event → Type 0
IsNoTickOf n (Tick m) = n ≡ m → ⊥
IsNoTickOf n _ = Unit {0}

pub no_tick_to : (n : ℕ) (e : Event) → IsNoTickOf n e → GivesTo IsNoTick n e
no_tick_to n (Tick m) h = h
no_tick_to n (Sample m base bits) h = λ is number. tt
no_tick_to n (Depart m p stamp) h = λ q seq delay t. tt
no_tick_to n (Deliver i) h = λ q octets raw sample. tt
no_tick_to n (Noise m p octets raw) h = λ sample. tt
no_tick_to n (Down m) h = λ q. tt
no_tick_to n (Up m off swaps) h = (λ e. tt, λ q own_module. tt)
no_tick_to n (Cut k) h = λ q. tt
no_tick_to n (Join k ms sm) h = λ q own_module. tt
no_tick_to n (Pass dt drifts fibres) h = tt
no_tick_to n (Arrive i raw) h = tt

pub no_tick_last : (s : Setting) (says : Result PtpMsg FrameFault) (y : ℤ) (w : WorldAt) (e : Event) (n : ℕ) → IsNoTickOf n e → ((world_step s says y w e).clock n).ticked ≡ ((moved s w e).clock n).ticked
no_tick_last s says y w e n h =
    all_given_last s y (given_by s w (moved s w e) says e) (moved s w e) n (gives_to IsNoTick s w (moved s w e) says n e (no_tick_to n e h))

pub tick_or_not : (n : ℕ) (e : Event) → (e ≡ Tick n) ⊎ IsNoTickOf n e
tick_or_not n (Tick m) = elim (eqb_tells n m) [ inl same ↦ inl (ap Tick (sym same.1)) | inr other ↦ inr other.1 ]
tick_or_not n _ = inr tt
