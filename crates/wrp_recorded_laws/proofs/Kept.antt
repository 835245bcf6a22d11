-- What every run keeps of the numbers that its world hands on: samples are counted by events, raw stamps that came are
-- in their ranges, and so are the sequenceIds of the frames that wait.
use Rattle.std.proofs.Common.{◌≡◌, refl, ℕ, ℤ, ◌+◌, ◌==◌, ◌≤◌, Bool, true, false, if◌then◌else◌, List, [], ◌∷◌, ◌++◌, map, length, Option, None, Some, IfSome, option_map, arith}
use Rattle.std.specs.List.{AllByRecursion}
use Rattle.std.specs.Option.{option_map_or}
use Rattle.wrp_base.specs.declared.link.Role.{Role}
use Rattle.wrp_base.specs.declared.message.PtpMsg.{PtpMsg}
use Rattle.wrp_base.specs.declared.time.Raw.{Raw}
use Rattle.wrp_network.specs.Network.{End}
use Rattle.wrp_base.specs.Link.{other_of}
use Rattle.wrp_base.proofs.Naturals.{le_later}
use Rattle.wrp_node.specs.Telling.{Step}
use Rattle.wrp_course.specs.declared.clocks.ClockState.{ClockState}
use Rattle.wrp_course.specs.declared.event.Event.{Event}
use Rattle.wrp_course.specs.declared.event.Event.TheVariants.{Pass, Tick, Sample, Depart, Arrive, Deliver, Noise, Down, Up, Cut, Join}
use Rattle.wrp_course.specs.declared.event.Swap.{Swap}
use Rattle.wrp_course.specs.declared.place.Place.{Place}
use Rattle.wrp_course.specs.EventAt.{IsRaw}
use Rattle.wrp_course.specs.Given.{Given, clock_told, end_given, given_by, gives, gives_all, sending, step_of, taken_of}
use Rattle.wrp_course.specs.Moved.{arrived, behind_first, clock_after, departing, end_after, frame_after, is_place, loses, moved, port_number, removed, samples_at, swap_at, waiting_at, with_swap}
use Rattle.wrp_course.specs.Run.{Happened, world_after}
use Rattle.wrp_course.specs.Setting.{Setting, end_at, node_setting_of, is_of, place_of}
use Rattle.wrp_course.specs.WorldAt.{Arrival, EndAt, FrameAt, Sending, WorldAt}
use Rattle.wrp_recorded_laws.specs.Ranges.{IsRanged}
use Rattle.wrp_recorded_laws.specs.Recorded.{AllSaidByLines}
use Rattle.wrp_recorded_laws.proofs.EventRanges.{event_ranged}
use Rattle.wrp_recorded_laws.proofs.Sends.{AreShort, IsShort, node_short}

-- what waits at an end
abbrev pub WaitShort : List Sending → Type 0
WaitShort waiting = AllByRecursion (λ (x : Sending). IsShort x.message) waiting

-- a frame that arrived, if this many events came
abbrev pub CameSo : ℕ → Option Arrival → Type 0
CameSo count arrival = IfSome arrival (λ (a : Arrival). IsRaw a.raw × (a.sample ≤ count))

abbrev pub FrameSo : ℕ → Option FrameAt → Type 0
FrameSo count frame = IfSome frame (λ (f : FrameAt). CameSo count f.arrival)

pub record Keeps (w : WorldAt) : Type 0 where
  pub samples : (n : ℕ) → (w.clock n).samples ≤ w.count
  pub waiting : (k : ℕ) (r : Role) → WaitShort (w.end_at k r).waiting
  pub frames : (i : ℕ) → FrameSo w.count (w.frame i)

-- What an event changes by itself

clock_if : (b : Bool) (c d : ClockState) (count : ℕ) → c.samples ≤ count → d.samples ≤ count → (if b then c else d).samples ≤ count
clock_if true c d count h k = h
clock_if false c d count h k = k

samples_more : (w : WorldAt) (e : Event) (m : ℕ) → (w.clock m).samples ≤ w.count → (clock_after w e m).samples ≤ w.count + 1
samples_more w (Pass dt drifts fibres) m h = le_later (w.clock m).samples w.count h
samples_more w (Sample n base bits) m h =
    clock_if (m == n) (record (w.clock m) { samples = (w.clock m).samples + 1 }) (w.clock m) (w.count + 1) (omega (arith, h)) (le_later (w.clock m).samples w.count h)
samples_more w (Down n) m h =
    clock_if (m == n) (record (w.clock m) { up = false }) (w.clock m) (w.count + 1) (le_later (w.clock m).samples w.count h) (le_later (w.clock m).samples w.count h)
samples_more w (Up n off swaps) m h =
    clock_if (m == n) (record { up = true; off = off; ticked = w.time; samples = 0 }) (w.clock m) (w.count + 1) (omega arith) (le_later (w.clock m).samples w.count h)
samples_more w (Tick n) m h = le_later (w.clock m).samples w.count h
samples_more w (Depart n p stamp) m h = le_later (w.clock m).samples w.count h
samples_more w (Arrive i raw) m h = le_later (w.clock m).samples w.count h
samples_more w (Deliver i) m h = le_later (w.clock m).samples w.count h
samples_more w (Noise n p octets raw) m h = le_later (w.clock m).samples w.count h
samples_more w (Cut k) m h = le_later (w.clock m).samples w.count h
samples_more w (Join k ms sm) m h = le_later (w.clock m).samples w.count h

end_if : (b : Bool) (x y : EndAt) → WaitShort x.waiting → WaitShort y.waiting → WaitShort (if b then x else y).waiting
end_if true x y h k = h
end_if false x y h k = k

behind : (waiting : List Sending) → WaitShort waiting → WaitShort (behind_first waiting)
behind [] h = tt
behind (first ∷ rest) h = h.1

swapped : (swap : Option Swap) (e : EndAt) → WaitShort e.waiting → WaitShort (with_swap swap e).waiting
swapped None e h = h
swapped (Some swap) e h = h

lost : (b : Bool) (e : EndAt) → WaitShort e.waiting → WaitShort (if b then record e { waiting = [] } else e).waiting
lost true e h = tt
lost false e h = h

waiting_more : (s : Setting) (w : WorldAt) (e : Event) (k : ℕ) (r : Role) → WaitShort (w.end_at k r).waiting → WaitShort (end_after s w e k r).waiting
waiting_more s w (Depart n p stamp) k r h =
    end_if (is_place (place_of s n p) k r) (record (w.end_at k r) { waiting = behind_first (w.end_at k r).waiting }) (w.end_at k r) (behind (w.end_at k r).waiting h) h
waiting_more s w (Up n off swaps) k r h =
    end_if (is_of n (end_at s k r)) (with_swap (swap_at (port_number s k r) swaps.items) (w.end_at k r)) (w.end_at k r) (swapped (swap_at (port_number s k r) swaps.items) (w.end_at k r) h) h
waiting_more s w (Pass dt drifts fibres) k r h = h
waiting_more s w (Tick n) k r h = h
waiting_more s w (Sample n base bits) k r h = h
waiting_more s w (Arrive i raw) k r h = h
waiting_more s w (Deliver i) k r h = h
waiting_more s w (Noise n p octets raw) k r h = h
waiting_more s w (Down n) k r h = lost (loses s (Down n) k) (w.end_at k r) h
waiting_more s w (Cut l) k r h = lost (loses s (Cut l) k) (w.end_at k r) h
waiting_more s w (Join l ms sm) k r h = h

came_later : (count : ℕ) (o : Option Arrival) → CameSo count o → CameSo (count + 1) o
came_later count None h = tt
came_later count (Some a) h = (h.0, le_later a.sample count h.1)

frame_later : (count : ℕ) (o : Option FrameAt) → FrameSo count o → FrameSo (count + 1) o
frame_later count None h = tt
frame_later count (Some f) h = came_later count f.arrival h

frame_if : (b : Bool) (x y : Option FrameAt) (count : ℕ) → FrameSo count x → FrameSo count y → FrameSo count (if b then x else y)
frame_if true x y count h k = h
frame_if false x y count h k = k

departing_so : (w : WorldAt) (o : Option Place) (stamp : ℤ) (waiting : List Sending) (i count : ℕ) → FrameSo count (w.frame i) → FrameSo count (departing w o stamp waiting i)
departing_so w None stamp waiting i count h = h
departing_so w (Some place) stamp [] i count h = h
departing_so w (Some place) stamp (oldest ∷ rest) i count h = frame_if (i == (w.departed + 1)) _ (w.frame i) count tt h

arriving_if : (b : Bool) (x y : FrameAt) (count : ℕ) → CameSo count x.arrival → CameSo count y.arrival → CameSo count (if b then x else y).arrival
arriving_if true x y count h k = h
arriving_if false x y count h k = k

samples_by : (w : WorldAt) (o : Option End) (count : ℕ) → ((n : ℕ) → (w.clock n).samples ≤ count) → option_map_or (λ (end : End). (w.clock end.node).samples) o 0 ≤ count
samples_by w None count h = omega arith
samples_by w (Some end) count h = h end.node

arrived_so : (s : Setting) (w : WorldAt) (j : ℕ) (raw : Raw) (o : Option FrameAt) (i : ℕ) (p : Option FrameAt) → IsRaw raw → ((n : ℕ) → (w.clock n).samples ≤ w.count) → FrameSo w.count p
    → FrameSo (w.count + 1) (arrived s w j raw o i p)
arrived_so s w j raw None i p is samples h = frame_later w.count p h
arrived_so s w j raw (Some g) i None is samples h = tt
arrived_so s w j raw (Some g) i (Some f) is samples h =
    arriving_if (i == j) _ _ (w.count + 1)
    (is, le_later (samples_at s w g) w.count (samples_by w (end_at s g.link (other_of g.by)) w.count samples)) (came_later w.count f.arrival h)

removed_so : (s : Setting) (e : Event) (o : Option FrameAt) (count : ℕ) → FrameSo count o → FrameSo (count + 1) (option_map (removed s e) o)
removed_so s e None count h = tt
removed_so s e (Some f) count h = came_later count f.arrival h

frames_more : (s : Setting) (w : WorldAt) (e : Event) (i : ℕ) → IsRanged e → ((n : ℕ) → (w.clock n).samples ≤ w.count) → FrameSo w.count (w.frame i) → FrameSo (w.count + 1) (frame_after s w e i)
frames_more s w (Depart n p stamp) i is samples h =
    departing_so w (place_of s n p) stamp (waiting_at w (place_of s n p)) i (w.count + 1) (frame_later w.count (w.frame i) h)
frames_more s w (Arrive j raw) i is samples h = arrived_so s w j raw (w.frame j) i (w.frame i) is samples h
frames_more s w (Pass dt drifts fibres) i is samples h = removed_so s (Pass dt drifts fibres) (w.frame i) w.count h
frames_more s w (Tick n) i is samples h = removed_so s (Tick n) (w.frame i) w.count h
frames_more s w (Sample n base bits) i is samples h = removed_so s (Sample n base bits) (w.frame i) w.count h
frames_more s w (Deliver j) i is samples h = removed_so s (Deliver j) (w.frame i) w.count h
frames_more s w (Noise n p octets raw) i is samples h = removed_so s (Noise n p octets raw) (w.frame i) w.count h
frames_more s w (Down n) i is samples h = removed_so s (Down n) (w.frame i) w.count h
frames_more s w (Up n off swaps) i is samples h = removed_so s (Up n off swaps) (w.frame i) w.count h
frames_more s w (Cut k) i is samples h = removed_so s (Cut k) (w.frame i) w.count h
frames_more s w (Join k ms sm) i is samples h = removed_so s (Join k ms sm) (w.frame i) w.count h

pub moved_keeps : (s : Setting) (w : WorldAt) (e : Event) → IsRanged e → Keeps w → Keeps (moved s w e)
moved_keeps s w e is keeps = record {
  samples = λ n. samples_more w e n (keeps.samples n);
  waiting = λ k r. waiting_more s w e k r (keeps.waiting k r);
  frames = λ i. frames_more s w e i is keeps.samples (keeps.frames i);
}

-- What a node's step changes

told_samples : (b : Bool) (s : Setting) (v : WorldAt) (g : Given) (cycles : ℤ) (c : ClockState) → (if b then clock_told s v g cycles c else c).samples ≡ c.samples
told_samples true s v g cycles c = refl
told_samples false s v g cycles c = refl

wait_both : (xs ys : List Sending) → WaitShort xs → WaitShort ys → WaitShort (xs ++ ys)
wait_both [] ys h k = k
wait_both (x ∷ xs) ys h k = (h.0, wait_both xs ys h.1 k)

sendings_short : (v : WorldAt) (messages : List PtpMsg) → AreShort messages → WaitShort (map (sending v) messages)
sendings_short v [] h = tt
sendings_short v (m ∷ ms) h = (h.0, sendings_short v ms h.1)

end_short : (b : Bool) (s : Setting) (v : WorldAt) (g : Given) (step : Step) (k : ℕ) (r : Role) (o : Option End) → WaitShort (v.end_at k r).waiting → ((p : ℕ) → AreShort (step.sends p))
    → WaitShort (if b then option_map_or (λ (end : End). end_given s v g step k r end.port) o (v.end_at k r) else v.end_at k r).waiting
end_short false s v g step k r o h sends = h
end_short true s v g step k r None h sends = h
end_short true s v g step k r (Some end) h sends =
    wait_both (v.end_at k r).waiting (map (sending v) (step.sends end.port)) h (sendings_short v (step.sends end.port) (sends end.port))

given_keeps : (s : Setting) (y : ℤ) (v : WorldAt) (g : Given) → Keeps v → Keeps (gives s y v g)
given_keeps s y v g keeps =
    let step : Step = step_of s y v g in
    record {
      samples = λ n. let same = told_samples (n == g.to) s v g step.cycles (v.clock n) in let old = keeps.samples n in omega (arith, same, old);
      waiting = λ k r. end_short (is_of g.to (end_at s k r)) s v g step k r (end_at s k r) (keeps.waiting k r) (λ p. node_short (node_setting_of s g.to) (taken_of y g) (v.node g.to) p);
      frames = λ i. keeps.frames i;
    }

pub all_keep : (s : Setting) (y : ℤ) (v : WorldAt) (gs : List Given) → Keeps v → Keeps (gives_all s y v gs)
all_keep s y v [] keeps = keeps
all_keep s y v (g ∷ gs) keeps = all_keep s y (gives s y v g) gs (given_keeps s y v g keeps)

-- Every run

pub kept_after : (s : Setting) (events : List Happened) → AllSaidByLines s.cfg events → Keeps (world_after s events)
kept_after s [] said = record { samples = λ n. omega arith; waiting = λ k r. tt; frames = λ i. tt }
kept_after s (h ∷ before) said =
    let w : WorldAt = world_after s before in
    let ranged : IsRanged h.event = event_ranged s.cfg said.0.0 h.event said.0.1 in
    all_keep s h.answer (moved s w h.event) (given_by s w (moved s w h.event) h.says h.event) (moved_keeps s w h.event ranged (kept_after s before said.1))

-- events are counted
all_counted : (s : Setting) (y : ℤ) (v : WorldAt) (gs : List Given) → (gives_all s y v gs).count ≡ v.count
all_counted s y v [] = refl
all_counted s y v (g ∷ gs) = all_counted s y (gives s y v g) gs

pub counted_after : (s : Setting) (events : List Happened) → (world_after s events).count ≡ length events
counted_after s [] = refl
counted_after s (h ∷ before) =
    let w : WorldAt = world_after s before in
    let one : (world_after s (h ∷ before)).count ≡ w.count + 1 = all_counted s h.answer (moved s w h.event) (given_by s w (moved s w h.event) h.says h.event) in
    let rest : w.count ≡ length before = counted_after s before in
    omega (arith, one, rest)
