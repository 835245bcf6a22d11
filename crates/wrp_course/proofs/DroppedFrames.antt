-- A frame that is dropped whatever its kind leaves a count in its world, and nothing else.
use Rattle.std.proofs.Common.{◌≡◌, ◌≢◌, ◌∙◌, refl, ap, sym, subst, ℕ, ℤ, pos, ◌+ℤ◌, ◌*ℤ◌, ◌==◌, ◌&&◌, ◌||◌, Bool, true, false, if◌then◌else◌, List, [], ◌∷◌, append-nil, Option, None, Some, option_map, is_some, Result, Ok, arith}
use Rattle.std.proofs.lemmas.Int.{ints}
use Rattle.std.specs.List.{AllByRecursion}
use Rattle.std.specs.Option.{option_map_or}
use Rattle.arrayvec.specs.ArrayVec.{ArrayVec as Items}
use Rattle.wrp_base.specs.Clock.{period_of}
use Rattle.wrp_base.specs.declared.link.LinkState.{LinkState}
use Rattle.wrp_base.specs.declared.link.Role.{Role}
use Rattle.wrp_base.specs.declared.link.Role.TheVariants.{Master, Slave}
use Rattle.wrp_base.specs.declared.message.PtpMsg.{PtpMsg}
use Rattle.wrp_base.specs.declared.time.Raw.{Raw}
use Rattle.wrp_network.specs.Network.{End}
use Rattle.wrp_base.specs.Link.{other_of}
use Rattle.wrp_base.proofs.Lists.{all_weaker}
use Rattle.wrp_base.proofs.Naturals.{eq_self}
use Rattle.wrp_frame.specs.declared.fault.FrameFault.{FrameFault}
use Rattle.wrp_frame.specs.SentOctets.{octets_of}
use Rattle.wrp_link.proofs.Deltas.{is_same_self}
use Rattle.wrp_node.specs.declared.interface.Input.{Input}
use Rattle.wrp_node.specs.declared.interface.Input.TheVariants.{Tick as TickInput, Sample as SampleInput, Frame, Sent, Carrier, Reset}
use Rattle.wrp_node.specs.declared.interface.NodeSet.{NodeSet}
use Rattle.wrp_node.specs.Laws.{DroppedLeavesACount, IsSettled, LeavesACount as NodeLeavesACount, StepSettles, reason_of}
use Rattle.wrp_node.specs.NodeAt.{NodeSetting, NodeAt, deltas_at, is_fresh_at, is_fresh_in, link_at, numbers_of, port_of, slave_of}
use Rattle.wrp_node.specs.NodeRun.{new_node}
use Rattle.wrp_node.specs.NodeStep.{dropped}
use Rattle.wrp_node.specs.StepLaws.{is_frame}
use Rattle.wrp_node.specs.Telling.{Step}
use Rattle.wrp_servo.specs.Call.{Call, CallLease, CallLink}
use Rattle.wrp_node.proofs.Sends.{not_equal}
use Rattle.wrp_course.specs.declared.clocks.ClockState.{ClockState}
use Rattle.wrp_course.specs.declared.event.Event.{Event}
use Rattle.wrp_course.specs.declared.event.Event.TheVariants.{Pass, Tick, Sample, Depart, Arrive, Deliver, Noise, Down, Up, Cut, Join}
use Rattle.wrp_course.specs.Dropped.{AllDropsLeaveACount, CountsAlone, DroppedFramesLeaveACount, DropsLeaveACount, given_at, with_count}
use Rattle.wrp_course.specs.Given.{Given, clock_told, comes_from, delivered, delivered_by, delivered_to, end_by, end_given, end_told, given, given_by, gives, gives_all, goes_from, mover_of, step_of, stepped_by, steps_of, taken_of, ticked_by}
use Rattle.wrp_course.specs.Moved.{loses, moved, removed, waiting_at}
use Rattle.wrp_course.specs.Run.{Happened, world_after}
use Rattle.wrp_course.specs.Setting.{Setting, end_at, node_setting_of, is_of, place_of}
use Rattle.wrp_course.specs.WorldAt.{Arrival, EndAt, FrameAt, WorldAt, has_carrier, is_on_fibre}
use Rattle.wrp_course.proofs.RunGifts.{AllGiven, all_if, comes_all, goes_all, ports_all, sent_all}

-- Between inputs the servo of each node knows of the lease and of WR_LINK_ON

fresh_new : (set : NodeSet) (o : Option ℕ) → is_fresh_at set new_node o ≡ false
fresh_new set None = refl
fresh_new set (Some p) = refl

some_new : (set : NodeSet) (p : ℕ) (r : Role) → (port_of set p).role ≡ r → is_some (deltas_at set new_node (Some p)) ≡ false
some_new set p Master e = rw e refl
some_new set p Slave e = rw e refl

deltas_new : (set : NodeSet) (o : Option ℕ) → is_some (deltas_at set new_node o) ≡ false
deltas_new set None = refl
deltas_new set (Some p) = some_new set p (port_of set p).role refl

nothing_new : (has changes : Bool) (call : Call) → changes ≡ false → (if has then (if changes then Some call else None) else None) ≡ None
nothing_new true changes call e = ap (λ (b : Bool). if b then Some call else None) e
nothing_new false changes call e = refl

new_settled : (fixed : NodeSetting) → IsSettled fixed new_node
new_settled fixed = record {
  lease = nothing_new (is_some (slave_of fixed.set)) (is_fresh_in fixed.set new_node) (CallLease (is_fresh_in fixed.set new_node)) (fresh_new fixed.set (slave_of fixed.set));
  link = nothing_new (is_some (slave_of fixed.set)) (is_some (deltas_at fixed.set new_node (slave_of fixed.set))) (CallLink (deltas_at fixed.set new_node (slave_of fixed.set))) (deltas_new fixed.set (slave_of fixed.set));
}

abbrev AllSettled : Setting → WorldAt → Type 0
AllSettled s w = (n : ℕ) → IsSettled (node_setting_of s n) (w.node n)

own_settled : (s : Setting) (n m : ℕ) (b : Bool) (one other : NodeAt) → (n == m) ≡ b → (n ≡ m → IsSettled (node_setting_of s n) one) → IsSettled (node_setting_of s n) other → IsSettled (node_setting_of s n) (if b then one else other)
own_settled s n m true one other e h k = h (let same : (n == m) ≡ true = e in grind (arith, same))
own_settled s n m false one other e h k = k

given_settled : StepSettles → (s : Setting) (y : ℤ) (v : WorldAt) (g : Given) → AllSettled s v → AllSettled s (gives s y v g)
given_settled settles s y v g h n =
    own_settled s n g.to (n == g.to) (step_of s y v g).node (v.node n) refl
    (λ same. subst (λ (m : ℕ). IsSettled (node_setting_of s m) (step_of s y v g).node) (sym same) (settles (node_setting_of s g.to) (taken_of y g) (v.node g.to))) (h n)

all_given_settled : StepSettles → (s : Setting) (y : ℤ) (gs : List Given) (v : WorldAt) → AllSettled s v → AllSettled s (gives_all s y v gs)
all_given_settled settles s y [] v h = h
all_given_settled settles s y (g ∷ gs) v h = all_given_settled settles s y gs (gives s y v g) (given_settled settles s y v g h)

run_settled : StepSettles → (s : Setting) (events : List Happened) → AllSettled s (world_after s events)
run_settled settles s [] = λ n. new_settled (node_setting_of s n)
run_settled settles s (h ∷ before) =
    let w : WorldAt = world_after s before in
    all_given_settled settles s h.answer (given_by s w (moved s w h.event) h.says h.event) (moved s w h.event) (run_settled settles s before)

-- What a dropped frame does to the rest of the world

end_same : (v : WorldAt) (g : Given) (state : LinkState) (e : EndAt) → end_told v g state state [] e ≡ e
end_same v g state e = λ i. record {
  name = e.name;
  tx = e.tx;
  rx = e.rx;
  waiting = append-nil e.waiting i;
  sent = e.sent;
  marks = ap (λ (b : Bool). if b then e.marks else record { at = v.time; from = state; to = state; by = mover_of g g.input } ∷ e.marks) (is_same_self state) i;
}

end_where : (s : Setting) (v : WorldAt) (g : Given) (p reason : ℕ) (k : ℕ) (r : Role) (o : Option End) (b : Bool) →
    (if b then option_map_or (λ end. end_given s v g (dropped p reason (v.node g.to)) k r end.port) o (v.end_at k r) else v.end_at k r) ≡ v.end_at k r
end_where s v g p reason k r None true = refl
end_where s v g p reason k r (Some end) true = end_same v g (link_at (s.set g.to) (v.node g.to) end.port).state (v.end_at k r)
end_where s v g p reason k r o false = refl

pub still : (off : ℤ) (period : ℕ) → off +ℤ (pos 0 *ℤ pos period) ≡ off
still off period = omega (arith, ints)

clock_where : (s : Setting) (v : WorldAt) (g : Given) (p : ℕ) (octets : Items ℕ) (raw : Raw) (sample : ℕ) (b : Bool) (c : ClockState) → g.input ≡ Frame p octets raw sample →
    (if b then clock_told s v g (pos 0) c else c) ≡ c
clock_where s v g p octets raw sample true c e = λ i. record {
  up = c.up;
  off = still c.off (period_of s.cfg.clock) i;
  ticked = ap (λ (input : Input). ticked_by input v.time c.ticked) e i;
  samples = c.samples;
}
clock_where s v g p octets raw sample false c e = refl

-- an event that hands a frame over changes nothing by itself
record IsUnmoved (w v : WorldAt) : Type 0 where
  node : (m : ℕ) → v.node m ≡ w.node m
  time : v.time ≡ w.time
  clocks : (m : ℕ) → v.clock m ≡ w.clock m
  fibres : (k : ℕ) → v.fibre k ≡ w.fibre k
  ends : (k : ℕ) (r : Role) → v.end_at k r ≡ w.end_at k r
  departed : v.departed ≡ w.departed
  frames : (i : ℕ) → v.frame i ≡ w.frame i

or_false : (b : Bool) → (b || false) ≡ b
or_false true = refl
or_false false = refl

gone_same : (f : FrameAt) (b : Bool) → b ≡ f.gone → record f { gone = b } ≡ f
gone_same f b e = ap (λ (x : Bool). record f { gone = x }) e

kept : (f : FrameAt) → record f { gone = f.gone || false } ≡ f
kept f = gone_same f (f.gone || false) (or_false f.gone)

not_removed : (s : Setting) (e : Event) (o : Option FrameAt) → ((k : ℕ) → loses s e k ≡ false) → option_map (removed s e) o ≡ o
not_removed s e None h = refl
not_removed s e (Some f) h =
    ap (λ (b : Bool). Some (record f { gone = f.gone || (b && is_on_fibre (Some f)) })) (h f.link) ∙ ap (λ (x : FrameAt). Some x) (kept f)

deliver_unmoved : (s : Setting) (w : WorldAt) (i : ℕ) → IsUnmoved w (moved s w (Deliver i))
deliver_unmoved s w i = record {
  node = λ m. refl;
  time = refl;
  clocks = λ m. refl;
  fibres = λ k. refl;
  ends = λ k r. refl;
  departed = refl;
  frames = λ j. not_removed s (Deliver i) (w.frame j) (λ k. refl);
}

noise_unmoved : (s : Setting) (w : WorldAt) (n p : ℕ) (octets : Items ℕ) (raw : Raw) → IsUnmoved w (moved s w (Noise n p octets raw))
noise_unmoved s w n p octets raw = record {
  node = λ m. refl;
  time = refl;
  clocks = λ m. refl;
  fibres = λ k. refl;
  ends = λ k r. refl;
  departed = refl;
  frames = λ j. not_removed s (Noise n p octets raw) (w.frame j) (λ k. refl);
}

-- One frame

node_same : (s : Setting) (y : ℤ) (v : WorldAt) (g : Given) (x : Step) → (stepped_by s v g (taken_of y g) x).node g.to ≡ x.node
node_same s y v g x = ap (λ (b : Bool). if b then x.node else v.node g.to) (eq_self g.to)

node_other : (s : Setting) (y : ℤ) (v : WorldAt) (g : Given) (x : Step) (m : ℕ) → m ≢ g.to → (stepped_by s v g (taken_of y g) x).node m ≡ v.node m
node_other s y v g x m h = ap (λ (b : Bool). if b then x.node else v.node m) (not_equal m g.to h)

counts_alone : (s : Setting) (y : ℤ) (w v : WorldAt) (g : Given) (p : ℕ) (octets : Items ℕ) (raw : Raw) (sample reason : ℕ) (x : Step) → IsUnmoved w v → g.input ≡ Frame p octets raw sample →
    x ≡ dropped p reason (v.node g.to) → CountsAlone g.to p reason w (stepped_by s v g (taken_of y g) x)
counts_alone s y w v g p octets raw sample reason x same e is = record {
  node = node_same s y v g x ∙ ap (λ (z : Step). z.node) is ∙ ap (with_count p reason) (same.node g.to);
  others = λ m h. node_other s y v g x m h ∙ same.node m;
  time = same.time;
  clocks = λ m.
      ap (λ (z : Step). if m == g.to then clock_told s v g z.cycles (v.clock m) else v.clock m) is
      ∙ clock_where s v g p octets raw sample (m == g.to) (v.clock m) e ∙ same.clocks m;
  fibres = same.fibres;
  ends = λ k r.
      ap (λ (z : Step). end_by s v g z k r) is ∙ end_where s v g p reason k r (end_at s k r) (is_of g.to (end_at s k r)) ∙ same.ends k r;
  departed = same.departed;
  frames = same.frames;
}

-- of inputs of an event, of which one is such a frame
record Leaves (s : Setting) (y : ℤ) (w v : WorldAt) (gs : List Given) (n p reason : ℕ) : Type 0 where
  silent : AllByRecursion (λ step. step.outs ≡ []) (steps_of s y v gs)
  counts : CountsAlone n p reason w (gives_all s y v gs)

abbrev LeavesIf : Setting → ℤ → (w v : WorldAt) → List Given → Given → Input → Type 0
LeavesIf s y w v gs g (Frame p octets raw sample) =
    (reason : ℕ) → reason_of (node_setting_of s g.to) (w.node g.to) p g.says ≡ Some reason → Leaves s y w v gs g.to p reason
LeavesIf s y w v gs g _ = Unit {0}

abbrev AllLeave : Setting → ℤ → (w v : WorldAt) → List Given → Type 0
AllLeave s y w v gs = AllByRecursion (λ (g : Given). LeavesIf s y w v gs g g.input) gs

one_leaves : DroppedLeavesACount → (s : Setting) (y : ℤ) (w v : WorldAt) (g : Given) (p : ℕ) (octets : Items ℕ) (raw : Raw) (sample reason : ℕ) → AllSettled s w → IsUnmoved w v →
    g.input ≡ Frame p octets raw sample → reason_of (node_setting_of s g.to) (w.node g.to) p g.says ≡ Some reason → Leaves s y w v (g ∷ []) g.to p reason
one_leaves law s y w v g p octets raw sample reason settled same e why =
    let here : v.node g.to ≡ w.node g.to = same.node g.to in
    let it : NodeLeavesACount (node_setting_of s g.to) (taken_of y g) (v.node g.to) p reason =
    law (node_setting_of s g.to) (taken_of y g) (v.node g.to) p octets.items raw sample reason e (subst (IsSettled (node_setting_of s g.to)) (sym here) (settled g.to))
    (ap (λ (n : NodeAt). reason_of (node_setting_of s g.to) n p g.says) here ∙ why) in
    record {
      silent = (it.silent, tt);
      counts = counts_alone s y w v g p octets raw sample reason (step_of s y v g) same e it.node;
    }

frame_leaves : DroppedLeavesACount → (s : Setting) (y : ℤ) (w v : WorldAt) (g : Given) (input : Input) → AllSettled s w → IsUnmoved w v → g.input ≡ input → LeavesIf s y w v (g ∷ []) g input
frame_leaves law s y w v g (Frame p octets raw sample) settled same e = λ reason why. one_leaves law s y w v g p octets raw sample reason settled same e why
frame_leaves law s y w v g TickInput settled same e = tt
frame_leaves law s y w v g (SampleInput number base bits) settled same e = tt
frame_leaves law s y w v g (Sent p seq delay stamp) settled same e = tt
frame_leaves law s y w v g (Carrier p up own_module) settled same e = tt
frame_leaves law s y w v g Reset settled same e = tt

single : DroppedLeavesACount → (s : Setting) (y : ℤ) (w v : WorldAt) (g : Given) → AllSettled s w → IsUnmoved w v → AllLeave s y w v (g ∷ [])
single law s y w v g settled same = (frame_leaves law s y w v g g.input settled same refl, tt)

handed : DroppedLeavesACount → (s : Setting) (y : ℤ) (w v : WorldAt) (f : FrameAt) (arrival : Arrival) (o : Option End) → AllSettled s w → IsUnmoved w v →
    AllLeave s y w v (option_map_or (λ end. delivered_to f arrival end.node end.port) o [])
handed law s y w v f arrival None settled same = tt
handed law s y w v f arrival (Some end) settled same =
    let g : Given = record {
      to = end.node;
      input = Frame end.port (record { items = octets_of f.sending.message }) arrival.raw arrival.sample;
      says = Ok f.sending.message;
      at = f.sending.at;
    } in
    single law s y w v g settled same

arrived : DroppedLeavesACount → (s : Setting) (y : ℤ) (w v : WorldAt) (f : FrameAt) (o : Option Arrival) → AllSettled s w → IsUnmoved w v → AllLeave s y w v (delivered_by s f o)
arrived law s y w v f None settled same = tt
arrived law s y w v f (Some arrival) settled same = handed law s y w v f arrival (end_at s f.link (other_of f.by)) settled same

all_delivered : DroppedLeavesACount → (s : Setting) (y : ℤ) (w v : WorldAt) (o : Option FrameAt) → AllSettled s w → IsUnmoved w v → AllLeave s y w v (delivered s o)
all_delivered law s y w v None settled same = tt
all_delivered law s y w v (Some f) settled same = arrived law s y w v f f.arrival settled same

-- Each event

abbrev came : Event → Result PtpMsg FrameFault → ℤ → Happened
came e says y = record { event = e; says = says; answer = y }

leaves_so : (s : Setting) (before : List Happened) (e : Event) (says : Result PtpMsg FrameFault) (y : ℤ) (gs : List Given) → gs ≡ given_at s before (came e says y) → (g : Given) (input : Input) →
    LeavesIf s y (world_after s before) (moved s (world_after s before) e) gs g input → DropsLeaveACount s before (came e says y) g.to g input
leaves_so s before e says y gs is g (Frame p octets raw sample) h = λ reason why.
    let it : Leaves s y (world_after s before) (moved s (world_after s before) e) (given_at s before (came e says y)) g.to p reason =
    subst (λ (xs : List Given). Leaves s y (world_after s before) (moved s (world_after s before) e) xs g.to p reason) is (h reason why) in
    record { silent = it.silent; counts = it.counts }
leaves_so s before e says y gs is g TickInput h = tt
leaves_so s before e says y gs is g (SampleInput number base bits) h = tt
leaves_so s before e says y gs is g (Sent p seq delay stamp) h = tt
leaves_so s before e says y gs is g (Carrier p up own_module) h = tt
leaves_so s before e says y gs is g Reset h = tt

all_so : (s : Setting) (before : List Happened) (e : Event) (says : Result PtpMsg FrameFault) (y : ℤ) →
    AllLeave s y (world_after s before) (moved s (world_after s before) e) (given_at s before (came e says y)) → AllDropsLeaveACount s before (came e says y)
all_so s before e says y h =
    let gs : List Given = given_at s before (came e says y) in
    all_weaker (λ (g : Given). LeavesIf s y (world_after s before) (moved s (world_after s before) e) gs g g.input) (λ (g : Given). DropsLeaveACount s before (came e says y) g.to g g.input)
    (λ g. leaves_so s before e says y gs refl g g.input) gs h

abbrev pub NoFrame : Input → Type 0
NoFrame input = is_frame input ≡ false

none_so : (s : Setting) (before : List Happened) (h : Happened) (g : Given) (input : Input) → NoFrame input → DropsLeaveACount s before h g.to g input
none_so s before h g (Frame p octets raw sample) e = absurd (let f : true ≡ false = e in cc)
none_so s before h g TickInput e = tt
none_so s before h g (SampleInput number base bits) e = tt
none_so s before h g (Sent p seq delay stamp) e = tt
none_so s before h g (Carrier p up own_module) e = tt
none_so s before h g Reset e = tt

no_frames : (s : Setting) (before : List Happened) (h : Happened) → AllGiven NoFrame (given_at s before h) → AllDropsLeaveACount s before h
no_frames s before h none =
    all_weaker (λ (g : Given). NoFrame g.input) (λ (g : Given). DropsLeaveACount s before h g.to g g.input) (λ g. none_so s before h g g.input) (given_at s before h) none

event_leaves : DroppedLeavesACount → StepSettles → (s : Setting) (before : List Happened) (e : Event) (says : Result PtpMsg FrameFault) (y : ℤ) → AllDropsLeaveACount s before (came e says y)
event_leaves law settles s before (Pass dt drifts fibres) says y = tt
event_leaves law settles s before (Tick n) says y = no_frames s before (came (Tick n) says y) (refl, tt)
event_leaves law settles s before (Sample n base bits) says y = no_frames s before (came (Sample n base bits) says y) (refl, tt)
event_leaves law settles s before (Depart n p stamp) says y =
    let w : WorldAt = world_after s before in
    no_frames s before (came (Depart n p stamp) says y) (sent_all NoFrame (λ q seq delay t. refl) n p stamp (w.clock n).samples (waiting_at w (place_of s n p)))
event_leaves law settles s before (Arrive i raw) says y = tt
event_leaves law settles s before (Deliver i) says y =
    let w : WorldAt = world_after s before in
    all_so s before (Deliver i) says y (all_delivered law s y w (moved s w (Deliver i)) (w.frame i) (run_settled settles s before) (deliver_unmoved s w i))
event_leaves law settles s before (Noise n p octets raw) says y =
    let w : WorldAt = world_after s before in
    all_so s before (Noise n p octets raw) says y (single law s y w (moved s w (Noise n p octets raw)) (given n (Frame p octets raw (w.clock n).samples) says) (run_settled settles s before) (noise_unmoved s w n p octets raw))
event_leaves law settles s before (Down n) says y =
    let w : WorldAt = world_after s before in
    no_frames s before (came (Down n) says y) (ports_all NoFrame s w (goes_from s) n (numbers_of (s.set n)) (goes_all NoFrame (λ p. refl) s))
event_leaves law settles s before (Up n off swaps) says y =
    let v : WorldAt = moved s (world_after s before) (Up n off swaps) in
    no_frames s before (came (Up n off swaps) says y) (refl, ports_all NoFrame s v (comes_from s v) n (numbers_of (s.set n)) (comes_all NoFrame (λ p m. refl) s v))
event_leaves law settles s before (Cut k) says y =
    let w : WorldAt = world_after s before in
    no_frames s before (came (Cut k) says y) (all_if NoFrame (has_carrier s w k) (goes_from s k Master) (goes_all NoFrame (λ p. refl) s k Master))
event_leaves law settles s before (Join k ms sm) says y =
    let v : WorldAt = moved s (world_after s before) (Join k ms sm) in
    no_frames s before (came (Join k ms sm) says y) (all_if NoFrame (has_carrier s v k) (comes_from s v k Master) (comes_all NoFrame (λ p m. refl) s v k Master))

pub dropped_frames_leave_a_count : DroppedLeavesACount → StepSettles → DroppedFramesLeaveACount
dropped_frames_leave_a_count law settles s h before = event_leaves law settles s before h.event h.says h.answer
