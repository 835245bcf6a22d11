-- What an event does to the offset of a node that commands no step.
use Rattle.std.proofs.Common.{◌≡◌, inl, inr, ◌∙◌, refl, ap, sym, subst, ℕ, ◌+◌, ◌==◌, ℤ, pos, ◌+ℤ◌, ◌*ℤ◌, Bool, true, false, if◌then◌else◌, List, [], ◌∷◌, Option, None, Some, Result, Ok}
use Rattle.std.proofs.lemmas.Bool.Decides.{eqb_tells}
use Rattle.std.specs.Option.{option_map_or}
use Rattle.wrp_base.specs.Clock.{period_of}
use Rattle.wrp_base.specs.declared.message.PtpMsg.{PtpMsg}
use Rattle.wrp_network.specs.Network.{End}
use Rattle.wrp_base.specs.Link.{other_of}
use Rattle.wrp_base.proofs.Naturals.{eq_self}
use Rattle.wrp_frame.specs.declared.fault.FrameFault.{FrameFault}
use Rattle.wrp_frame.specs.SentOctets.{octets_of}
use Rattle.wrp_node.specs.declared.interface.Input.{Input}
use Rattle.wrp_node.specs.declared.interface.Input.TheVariants.{Frame}
use Rattle.wrp_node.specs.NodeAt.{NodeAt, Taken}
use Rattle.wrp_node.specs.NodeStep.{node_step}
use Rattle.wrp_node.specs.StepLaws.{CommandsAreHeld, is_frame}
use Rattle.wrp_course.specs.declared.clocks.ClockState.{ClockState}
use Rattle.wrp_course.specs.declared.event.Event.{Event}
use Rattle.wrp_course.specs.declared.event.Event.TheVariants.{Pass, Tick, Sample, Depart, Arrive, Deliver, Noise, Down, Up, Cut, Join}
use Rattle.wrp_course.proofs.DroppedFrames.{still as no_move}
use Rattle.wrp_course.specs.Given.{Given, clock_told, delivered, delivered_by, delivered_to, given, given_by, gives, gives_all, step_of, taken_of, world_step}
use Rattle.wrp_course.specs.Moved.{clock_after, moved}
use Rattle.wrp_course.specs.Setting.{Setting, end_at, node_setting_of}
use Rattle.wrp_course.specs.WorldAt.{Arrival, FrameAt, WorldAt}
use Rattle.wrp_bound_laws.proofs.Nodes.Inputs.{GivesTo, To, gives_to}

-- One input

given_off : (s : Setting) (y : ℤ) (v : WorldAt) (g : Given) (n : ℕ) → (n ≡ g.to → (step_of s y v g).cycles ≡ pos 0) → ((gives s y v g).clock n).off ≡ (v.clock n).off
given_off s y v g n h =
    let told : ClockState = clock_told s v g (step_of s y v g).cycles (v.clock n) in
    elim (eqb_tells n g.to) [
      | inl x ↦
          ap (λ b. (if b then told else v.clock n).off) x.0
          ∙ ap (λ c. (v.clock n).off +ℤ (c *ℤ pos (period_of s.cfg.clock))) (h x.1)
          ∙ no_move (v.clock n).off (period_of s.cfg.clock)
      | inr x ↦ ap (λ b. (if b then told else v.clock n).off) x.0
    ]

-- inputs that are no frame
abbrev pub IsNoFrame : Input → Type 0
IsNoFrame input = is_frame input ≡ false

all_given_off : CommandsAreHeld → (s : Setting) (y : ℤ) (gs : List Given) (v : WorldAt) (n : ℕ) → To IsNoFrame n gs → ((gives_all s y v gs).clock n).off ≡ (v.clock n).off
all_given_off held s y [] v n h = refl
all_given_off held s y (g ∷ gs) v n h =
    all_given_off held s y gs (gives s y v g) n h.1 ∙ given_off s y v g n (λ e. (held (node_setting_of s g.to) (taken_of y g) (v.node g.to)).by_frame (h.0 e))

-- Events

-- events in which no frame is handed over
abbrev pub HandsNone : Event → Type 0
HandsNone (Deliver i) = ⊥
HandsNone (Noise m p octets raw) = ⊥
HandsNone _ = Unit {0}

pub none_to : (n : ℕ) (e : Event) → HandsNone e → GivesTo IsNoFrame n e
none_to n (Tick m) h = λ is. refl
none_to n (Sample m base bits) h = λ is number. refl
none_to n (Depart m p stamp) h = λ q seq delay t. refl
none_to n (Deliver i) h = absurd h
none_to n (Noise m p octets raw) h = absurd h
none_to n (Down m) h = λ q. refl
none_to n (Up m off swaps) h = (λ is. refl, λ q own_module. refl)
none_to n (Cut k) h = λ q. refl
none_to n (Join k ms sm) h = λ q own_module. refl
none_to n (Pass dt drifts fibres) h = tt
none_to n (Arrive i raw) h = tt

-- a node commands no step at an input, if what it becomes is of this kind
abbrev pub IsStill : Setting → WorldAt → ℕ → (NodeAt → Type 0) → Type 0
IsStill s w n K = (t : Taken) → K (node_step (node_setting_of s n) t (w.node n)).node → (node_step (node_setting_of s n) t (w.node n)).cycles ≡ pos 0

one_off : (s : Setting) (y : ℤ) (w v : WorldAt) (g : Given) (n : ℕ) (K : NodeAt → Type 0) → v.node ≡ w.node → IsStill s w n K → K ((gives s y v g).node n) → ((gives s y v g).clock n).off ≡ (v.clock n).off
one_off s y w v g n K same still h =
    given_off s y v g n (λ e.
    let here : (n == g.to) ≡ true = ap (λ i. i == g.to) e ∙ eq_self g.to in
    let node : (gives s y v g).node n ≡ (node_step (node_setting_of s n) (taken_of y g) (w.node n)).node =
    ap (λ b. if b then (step_of s y v g).node else v.node n) here ∙ ap (λ i. (node_step (node_setting_of s i) (taken_of y g) (v.node i)).node) (sym e)
    ∙ ap (λ (f : ℕ → NodeAt). (node_step (node_setting_of s n) (taken_of y g) (f n)).node) same in
    ap (λ i. (node_step (node_setting_of s i) (taken_of y g) (v.node i)).cycles) (sym e)
    ∙ ap (λ (f : ℕ → NodeAt). (node_step (node_setting_of s n) (taken_of y g) (f n)).cycles) same
    ∙ still (taken_of y g) (subst K node h))

end_off : (s : Setting) (y : ℤ) (w v : WorldAt) (f : FrameAt) (a : Arrival) (o : Option End) (n : ℕ) (K : NodeAt → Type 0) → v.node ≡ w.node → IsStill s w n K →
    K ((gives_all s y v (option_map_or (λ end. delivered_to f a end.node end.port) o [])).node n) →
    ((gives_all s y v (option_map_or (λ end. delivered_to f a end.node end.port) o [])).clock n).off ≡ (v.clock n).off
end_off s y w v f a None n K same still h = refl
end_off s y w v f a (Some end) n K same still h =
    one_off s y w v (record { to = end.node; input = Frame end.port (record { items = octets_of f.sending.message }) a.raw a.sample; says = Ok f.sending.message; at = f.sending.at }) n K same still h

arrival_off : (s : Setting) (y : ℤ) (w v : WorldAt) (f : FrameAt) (o : Option Arrival) (n : ℕ) (K : NodeAt → Type 0) → v.node ≡ w.node → IsStill s w n K → K ((gives_all s y v (delivered_by s f o)).node n) →
    ((gives_all s y v (delivered_by s f o)).clock n).off ≡ (v.clock n).off
arrival_off s y w v f None n K same still h = refl
arrival_off s y w v f (Some a) n K same still h = end_off s y w v f a (end_at s f.link (other_of f.by)) n K same still h

frame_off : (s : Setting) (y : ℤ) (w v : WorldAt) (o : Option FrameAt) (n : ℕ) (K : NodeAt → Type 0) → v.node ≡ w.node → IsStill s w n K → K ((gives_all s y v (delivered s o)).node n) → ((gives_all s y v (delivered s o)).clock n).off ≡ (v.clock n).off
frame_off s y w v None n K same still h = refl
frame_off s y w v (Some f) n K same still h = arrival_off s y w v f f.arrival n K same still h

pub plain_off : CommandsAreHeld → (s : Setting) (says : Result PtpMsg FrameFault) (y : ℤ) (w : WorldAt) (e : Event) (n : ℕ) → HandsNone e → ((world_step s says y w e).clock n).off ≡ (clock_after w e n).off
plain_off held s says y w e n h = all_given_off held s y (given_by s w (moved s w e) says e) (moved s w e) n (gives_to IsNoFrame s w (moved s w e) says n e (none_to n e h))

-- the offset is the one that the event makes by itself
pub event_off : CommandsAreHeld → (s : Setting) (says : Result PtpMsg FrameFault) (y : ℤ) (w : WorldAt) (e : Event) (n : ℕ) (K : NodeAt → Type 0) → IsStill s w n K → K ((world_step s says y w e).node n) →
    ((world_step s says y w e).clock n).off ≡ (clock_after w e n).off
event_off held s says y w (Deliver i) n K still h = frame_off s y w (moved s w (Deliver i)) (w.frame i) n K refl still h
event_off held s says y w (Noise m p octets raw) n K still h =
    one_off s y w (moved s w (Noise m p octets raw)) (given m (Frame p octets raw (w.clock m).samples) says) n K refl still h
event_off held s says y w (Pass dt drifts fibres) n K still h = refl
event_off held s says y w (Arrive i raw) n K still h = refl
event_off held s says y w e n K still h = plain_off held s says y w e n tt

-- no time passes, and the node does not start
abbrev pub IsAtOnce : ℕ → Event → Type 0
IsAtOnce n (Pass dt drifts fibres) = ⊥
IsAtOnce n (Up m off swaps) = n ≡ m → ⊥
IsAtOnce n _ = Unit {0}

off_where : (b : Bool) (c d : ClockState) → c.off ≡ d.off → (if b then c else d).off ≡ d.off
off_where true c d e = e
off_where false c d e = refl

-- the event by itself leaves it then
pub same_off : (w : WorldAt) (e : Event) (n : ℕ) → IsAtOnce n e → (clock_after w e n).off ≡ (w.clock n).off
same_off w (Pass dt drifts fibres) n h = absurd h
same_off w (Sample m base bits) n h = off_where (n == m) (record (w.clock n) { samples = (w.clock n).samples + 1 }) (w.clock n) refl
same_off w (Down m) n h = off_where (n == m) (record (w.clock n) { up = false }) (w.clock n) refl
same_off w (Up m off swaps) n h = elim (eqb_tells n m) [
  | inl x ↦ absurd (h x.1)
  | inr x ↦ ap (λ b. (if b then record { up = true; off = off; ticked = w.time; samples = 0 } else w.clock n).off) x.0
]
same_off w e n h = refl
