-- What an event gives a port of a node.
use Rattle.std.proofs.Common.{◌≡◌, ◌∙◌, refl, ap, sym, subst, ℕ, ◌+◌, ◌==◌, ℤ, Bool, true, false, if◌then◌else◌, List, [], ◌∷◌, Option, None, Some, Result, Ok}
use Rattle.std.specs.Option.{option_map_or}
use Rattle.arrayvec.specs.ArrayVec.{ArrayVec as Items}
use Rattle.wrp_base.specs.declared.message.Body.{Body}
use Rattle.wrp_base.specs.declared.message.Body.TheVariants.{Sync, DelayReq, FollowUp, DelayResp, Announce, Signal}
use Rattle.wrp_base.specs.declared.message.PtpMsg.{PtpMsg}
use Rattle.wrp_base.specs.declared.time.Raw.{Raw}
use Rattle.wrp_base.specs.declared.time.Stamp.{Stamp}
use Rattle.wrp_network.specs.Network.{End}
use Rattle.wrp_base.specs.Link.{other_of}
use Rattle.wrp_base.proofs.Naturals.{eq_self}
use Rattle.wrp_frame.specs.declared.fault.FrameFault.{FrameFault}
use Rattle.wrp_frame.specs.SentOctets.{octets_of}
use Rattle.wrp_node.specs.declared.interface.Input.TheVariants.{Tick as TickInput, Sample as SampleInput, Frame, Reset, Sent}
use Rattle.wrp_node.specs.NodeAt.{NodeAt, numbers_of}
use Rattle.wrp_node.specs.NodeStep.{message_of, node_step, servo_ticked, stepped, tick_of}
use Rattle.wrp_node.specs.Telling.{answer_of, heard_of}
use Rattle.wrp_port.specs.declared.interface.PortIn.{PortIn}
use Rattle.wrp_port.specs.declared.interface.PortIn.TheVariants.{Reset as PortReset, Sent as PortSent}
use Rattle.wrp_servo.specs.Call.{CallSample}
use Rattle.wrp_course.specs.declared.event.Event.{Event}
use Rattle.wrp_course.specs.declared.event.Event.TheVariants.{Pass, Tick, Sample, Depart, Arrive, Deliver, Noise, Down, Up, Cut, Join}
use Rattle.wrp_course.specs.declared.event.Swap.{Swap}
use Rattle.wrp_course.specs.Given.{Given, at_ports, comes_from, delivered, delivered_by, delivered_to, given, given_plain, gives, gives_all, step_of, sent_oldest, taken_of, told_sending, world_step}
use Rattle.wrp_course.specs.Moved.{moved, waiting_at}
use Rattle.wrp_course.specs.Setting.{Setting, end_at, node_setting_of, place_of}
use Rattle.wrp_course.specs.WorldAt.{Arrival, FrameAt, Sending, WorldAt}
use Rattle.wrp_course.proofs.RunGifts.{comes_all, ports_all}
use Rattle.wrp_bound_laws.proofs.Nodes.StepTold.{Hears, IsTurn, KeptByNews, KeptByTurns, frame_told, sample_told, sent_told, settled_told, tick_told, turn_told}
use Rattle.wrp_bound_laws.proofs.Nodes.Inputs.{GivesTo, all_to, node_given, node_given_all, node_kept}
use Rattle.wrp_bound_laws.proofs.Nodes.StepSends.{IsRequest}

-- what an event brings to a port of a node, other than carriers, keeps this
abbrev pub Brings : (P : List PortIn → Type 0) → Setting → WorldAt → Result PtpMsg FrameFault → (n p : ℕ) → Event → Type 0
Brings P s w says n p (Tick m) = n ≡ m → P (tick_of (node_setting_of s n) (servo_ticked (node_setting_of s n) (w.node n)).node ∷ (servo_ticked (node_setting_of s n) (w.node n)).node.told p)
Brings P s w says n p (Sample m base bits) =
    n ≡ m → P (heard_of (answer_of (node_setting_of s n) (Some (CallSample ((w.clock n).samples + 1) base bits)) (w.node n).calls) ((w.clock n).samples + 1) ((w.node n).told p))
Brings P s w says n p (Depart m q stamp) =
    n ≡ m → p ≡ q → (x : Sending) (rest : List Sending) (delay : Bool) → waiting_at w (place_of s m q) ≡ x ∷ rest → (delay ≡ true → IsRequest x.message.body) →
    P (PortSent delay x.message.head.seq (record { value = stamp; sample = (w.clock m).samples }) (w.node n).ticks ∷ (w.node n).told p)
Brings P s w says n p (Deliver i) =
    (f : FrameAt) (a : Arrival) (end : End) → w.frame i ≡ Some f → f.arrival ≡ Some a → end_at s f.link (other_of f.by) ≡ Some end → n ≡ end.node → p ≡ end.port → Hears (node_setting_of s n) (w.node n) p f.sending.message →
    P (message_of (node_setting_of s n) (w.node n) p f.sending.message a.raw a.sample ∷ (w.node n).told p)
Brings P s w says n p (Noise m q octets raw) =
    (x : PtpMsg) → n ≡ m → p ≡ q → says ≡ Ok x → Hears (node_setting_of s n) (w.node n) p x → P (message_of (node_setting_of s n) (w.node n) p x raw (w.clock m).samples ∷ (w.node n).told p)
Brings P s w says n p _ = Unit {0}

-- Each kind

turn_event : (P : List PortIn → Type 0) → KeptByNews P → KeptByTurns P → (s : Setting) (says : Result PtpMsg FrameFault) (y : ℤ) (w : WorldAt) (e : Event) (n p : ℕ) → GivesTo IsTurn n e → P ((w.node n).told p) → P (((world_step s says y w e).node n).told p)
turn_event P k turns s says y w e n p gives h =
    node_kept (λ (m : NodeAt). P (m.told p)) IsTurn s says y w e n (λ t m is old. turn_told P k turns (node_setting_of s n) t m p is old) gives h

tick_event : (P : List PortIn → Type 0) → KeptByNews P → (s : Setting) (says : Result PtpMsg FrameFault) (y : ℤ) (w : WorldAt) (m n p : ℕ) → Brings P s w says n p (Tick m) → P ((w.node n).told p) → P (((world_step s says y w (Tick m)).node n).told p)
tick_event P k s says y w m n p brings h =
    let g : Given = given_plain m TickInput in
    node_given (λ (z : NodeAt). P (z.told p)) s y (moved s w (Tick m)) g n (λ e. tick_told P k (node_setting_of s n) (taken_of y g) (w.node n) p refl (brings e)) h

sample_event : (P : List PortIn → Type 0) → KeptByNews P → (s : Setting) (says : Result PtpMsg FrameFault) (y : ℤ) (w : WorldAt) (m base bits n p : ℕ) → Brings P s w says n p (Sample m base bits) → P ((w.node n).told p) →
    P (((world_step s says y w (Sample m base bits)).node n).told p)
sample_event P k s says y w m base bits n p brings h =
    let v : WorldAt = moved s w (Sample m base bits) in
    let g : Given = given_plain m (SampleInput (v.clock m).samples base bits) in
    let number : (v.clock m).samples ≡ (w.clock m).samples + 1 = ap (λ b. (if b then record (w.clock m) { samples = (w.clock m).samples + 1 } else w.clock m).samples) (eq_self m) in
    node_given (λ (z : NodeAt). P (z.told p)) s y v g n
    (λ e.
    let here : (v.clock m).samples ≡ (w.clock n).samples + 1 = number ∙ ap (λ i. (w.clock i).samples + 1) (sym e) in
    sample_told P k (node_setting_of s n) g.says y (w.node n) p (v.clock m).samples base bits
    (subst (λ i. P (heard_of (answer_of (node_setting_of s n) (Some (CallSample i base bits)) (w.node n).calls) i ((w.node n).told p))) (sym here) (brings e)) h) h

-- a departure
told_event : (P : List PortIn → Type 0) → KeptByNews P → (s : Setting) (y : ℤ) (v : WorldAt) (m q seq samples n p : ℕ) (stamp : ℤ) (body : Body) →
    ((delay : Bool) → n ≡ m → p ≡ q → (delay ≡ true → IsRequest body) → P (PortSent delay seq (record { value = stamp; sample = samples }) (v.node n).ticks ∷ (v.node n).told p)) → P ((v.node n).told p) →
    P (((gives_all s y v (told_sending m q seq stamp samples body)).node n).told p)
told_event P k s y v m q seq samples n p stamp (DelayReq origin) brings h =
    let t3 : Stamp = record { value = stamp; sample = samples } in
    let g : Given = given_plain m (Sent q seq true t3) in
    node_given (λ (z : NodeAt). P (z.told p)) s y v g n (λ e. sent_told P k (node_setting_of s n) (v.node n) p q seq true t3 (λ same. brings true e same (λ is. tt)) h) h
told_event P k s y v m q seq samples n p stamp (Sync origin) brings h =
    let t1 : Stamp = record { value = stamp; sample = samples } in
    let g : Given = given_plain m (Sent q seq false t1) in
    node_given (λ (z : NodeAt). P (z.told p)) s y v g n (λ e. sent_told P k (node_setting_of s n) (v.node n) p q seq false t1 (λ same. brings false e same (λ is. absurd cc)) h) h
told_event P k s y v m q seq samples n p stamp (FollowUp precise) brings h = h
told_event P k s y v m q seq samples n p stamp (DelayResp receive requesting) brings h = h
told_event P k s y v m q seq samples n p stamp (Announce origin utc p1 quality p2 gm steps source suffix) brings h = h
told_event P k s y v m q seq samples n p stamp (Signal target message) brings h = h

oldest_event : (P : List PortIn → Type 0) → KeptByNews P → (s : Setting) (y : ℤ) (v : WorldAt) (m q samples n p : ℕ) (stamp : ℤ) (queue : List Sending) →
    ((x : Sending) (rest : List Sending) (delay : Bool) → queue ≡ x ∷ rest → n ≡ m → p ≡ q → (delay ≡ true → IsRequest x.message.body) →
    P (PortSent delay x.message.head.seq (record { value = stamp; sample = samples }) (v.node n).ticks ∷ (v.node n).told p)) → P ((v.node n).told p) →
    P (((gives_all s y v (sent_oldest m q stamp samples queue)).node n).told p)
oldest_event P k s y v m q samples n p stamp [] brings h = h
oldest_event P k s y v m q samples n p stamp (x ∷ rest) brings h =
    told_event P k s y v m q x.message.head.seq samples n p stamp x.message.body (λ delay at_node at_port is. brings x rest delay refl at_node at_port is) h

-- a frame that is handed over
handed_event : (P : List PortIn → Type 0) → KeptByNews P → (s : Setting) (y : ℤ) (v : WorldAt) (n p : ℕ) (f : FrameAt) (a : Arrival) (o : Option End) →
    ((end : End) → o ≡ Some end → n ≡ end.node → p ≡ end.port → Hears (node_setting_of s n) (v.node n) p f.sending.message → P (message_of (node_setting_of s n) (v.node n) p f.sending.message a.raw a.sample ∷ (v.node n).told p)) →
    P ((v.node n).told p) → P (((gives_all s y v (option_map_or (λ end. delivered_to f a end.node end.port) o [])).node n).told p)
handed_event P k s y v n p f a None brings h = h
handed_event P k s y v n p f a (Some end) brings h =
    let g : Given = record {
      to = end.node;
      input = Frame end.port (record { items = octets_of f.sending.message }) a.raw a.sample;
      says = Ok f.sending.message;
      at = f.sending.at;
    } in
    node_given (λ (z : NodeAt). P (z.told p)) s y v g n
    (λ e.
    frame_told P k (node_setting_of s n) (v.node n) p end.port (Ok f.sending.message) a.raw a.sample y
    (λ x says same hears.
    let is : f.sending.message ≡ x = ok_is f.sending.message x says in
    subst (λ z. P (message_of (node_setting_of s n) (v.node n) p z a.raw a.sample ∷ (v.node n).told p)) is
    (brings end refl e same (subst (λ z. Hears (node_setting_of s n) (v.node n) p z) (sym is) hears))) h) h
  where
    ok_is : (a b : PtpMsg) → ◌≡◌ {A = Result PtpMsg FrameFault} (Ok a) (Ok b) → a ≡ b
    ok_is a b e = cc

arrival_event : (P : List PortIn → Type 0) → KeptByNews P → (s : Setting) (y : ℤ) (v : WorldAt) (n p : ℕ) (f : FrameAt) (o : Option Arrival) →
    ((a : Arrival) (end : End) → o ≡ Some a → end_at s f.link (other_of f.by) ≡ Some end → n ≡ end.node → p ≡ end.port → Hears (node_setting_of s n) (v.node n) p f.sending.message →
    P (message_of (node_setting_of s n) (v.node n) p f.sending.message a.raw a.sample ∷ (v.node n).told p)) → P ((v.node n).told p) → P (((gives_all s y v (delivered_by s f o)).node n).told p)
arrival_event P k s y v n p f None brings h = h
arrival_event P k s y v n p f (Some a) brings h = handed_event P k s y v n p f a (end_at s f.link (other_of f.by)) (λ end is. brings a end refl is) h

deliver_event : (P : List PortIn → Type 0) → KeptByNews P → (s : Setting) (y : ℤ) (v : WorldAt) (n p : ℕ) (o : Option FrameAt) →
    ((f : FrameAt) (a : Arrival) (end : End) → o ≡ Some f → f.arrival ≡ Some a → end_at s f.link (other_of f.by) ≡ Some end → n ≡ end.node → p ≡ end.port → Hears (node_setting_of s n) (v.node n) p f.sending.message →
    P (message_of (node_setting_of s n) (v.node n) p f.sending.message a.raw a.sample ∷ (v.node n).told p)) → P ((v.node n).told p) → P (((gives_all s y v (delivered s o)).node n).told p)
deliver_event P k s y v n p None brings h = h
deliver_event P k s y v n p (Some f) brings h = arrival_event P k s y v n p f f.arrival (λ a end. brings f a end refl) h

noise_event : (P : List PortIn → Type 0) → KeptByNews P → (s : Setting) (says : Result PtpMsg FrameFault) (y : ℤ) (w : WorldAt) (m q : ℕ) (octets : Items ℕ) (raw : Raw) (n p : ℕ) → Brings P s w says n p (Noise m q octets raw) → P ((w.node n).told p) →
    P (((world_step s says y w (Noise m q octets raw)).node n).told p)
noise_event P k s says y w m q octets raw n p brings h =
    let g : Given = given m (Frame q octets raw (w.clock m).samples) says in
    node_given (λ (z : NodeAt). P (z.told p)) s y (moved s w (Noise m q octets raw)) g n
    (λ e. frame_told P k (node_setting_of s n) (w.node n) p q says raw (w.clock m).samples y (λ x is same hears. brings x e same is hears) h) h

-- if news of the chain, carriers and resets keep it, and all else that an event brings keeps it, the event keeps it
pub event_told : (P : List PortIn → Type 0) → KeptByNews P → KeptByTurns P → (s : Setting) (says : Result PtpMsg FrameFault) (y : ℤ) (w : WorldAt) (e : Event) (n p : ℕ) → Brings P s w says n p e → P ((w.node n).told p) →
    P (((world_step s says y w e).node n).told p)
event_told P k turns s says y w (Tick m) n p brings h = tick_event P k s says y w m n p brings h
event_told P k turns s says y w (Sample m base bits) n p brings h = sample_event P k s says y w m base bits n p brings h
event_told P k turns s says y w (Depart m q stamp) n p brings h =
    oldest_event P k s y (moved s w (Depart m q stamp)) m q (w.clock m).samples n p stamp (waiting_at w (place_of s m q)) (λ x rest delay at at_node at_port is. brings at_node at_port x rest delay at is) h
event_told P k turns s says y w (Deliver i) n p brings h = deliver_event P k s y (moved s w (Deliver i)) n p (w.frame i) brings h
event_told P k turns s says y w (Noise m q octets raw) n p brings h = noise_event P k s says y w m q octets raw n p brings h
event_told P k turns s says y w (Down m) n p brings h = turn_event P k turns s says y w (Down m) n p (λ q. tt) h
event_told P k turns s says y w (Up m off swaps) n p brings h = turn_event P k turns s says y w (Up m off swaps) n p (λ is. tt, λ q own_module. tt) h
event_told P k turns s says y w (Cut l) n p brings h = turn_event P k turns s says y w (Cut l) n p (λ q. tt) h
event_told P k turns s says y w (Join l ms sm) n p brings h = turn_event P k turns s says y w (Join l ms sm) n p (λ q own_module. tt) h
event_told P k turns s says y w (Pass dt drifts fibres) n p brings h = h
event_told P k turns s says y w (Arrive i raw) n p brings h = h

-- A node that is given an input

pub given_node : (s : Setting) (y : ℤ) (v : WorldAt) (g : Given) (n : ℕ) → n ≡ g.to → (gives s y v g).node n ≡ (node_step (node_setting_of s n) (taken_of y g) (v.node n)).node
given_node s y v g n same =
    ap (λ b. if b then (step_of s y v g).node else v.node n) (ap (λ i. i == g.to) same ∙ eq_self g.to)
    ∙ ap (λ i. (node_step (node_setting_of s i) (taken_of y g) (v.node i)).node) (sym same)

-- it starts
pub start_told : (P : List PortIn → Type 0) → KeptByNews P → KeptByTurns P → (s : Setting) (says : Result PtpMsg FrameFault) (y : ℤ) (w : WorldAt) (m : ℕ) (off : ℤ) (swaps : Items Swap) (n p : ℕ) → n ≡ m → P (PortReset ∷ (w.node n).told p) →
    P (((world_step s says y w (Up m off swaps)).node n).told p)
start_told P k turns s says y w m off swaps n p same h =
    let v : WorldAt = moved s w (Up m off swaps) in
    let g : Given = given_plain m Reset in
    let first : P (((gives s y v g).node n).told p) =
    subst (λ (z : NodeAt). P (z.told p)) (sym (given_node s y v g n same)) (settled_told P k (node_setting_of s n) (stepped (node_setting_of s n) Reset g.says y (w.node n)) p h) in
    node_given_all (λ (z : NodeAt). P (z.told p)) IsTurn s y n (λ t z is old. turn_told P k turns (node_setting_of s n) t z p is old) (at_ports s v (comes_from s v) m) (gives s y v g)
    (all_to IsTurn n (at_ports s v (comes_from s v) m) (ports_all IsTurn s v (comes_from s v) m (numbers_of (s.set m)) (comes_all IsTurn (λ q own_module. tt) s v))) first
