-- Frames that wait and frames that departed were put out by their port.
use Rattle.std.proofs.Common.{◌≡◌, ◌⊎◌, inl, inr, refl, sym, subst, ℕ, ◌+◌, ◌==◌, ◌&&◌, ◌||◌, ℤ, nat_lt, Bool, true, false, if◌then◌else◌, List, [], ◌∷◌, ◌++◌, map, Option, None, Some, option_map}
use Rattle.std.proofs.lemmas.Option.{none-some, same_Some}
use Rattle.wrp_base.specs.declared.link.Role.{Role}
use Rattle.wrp_base.specs.declared.time.Raw.{Raw}
use Rattle.wrp_network.specs.Network.{End}
use Rattle.wrp_node.specs.Telling.{Step}
use Rattle.wrp_course.specs.declared.event.Event.{Event}
use Rattle.wrp_course.specs.declared.event.Event.TheVariants.{Pass, Tick, Sample, Depart, Arrive, Deliver, Noise, Down, Up, Cut, Join}
use Rattle.wrp_course.specs.declared.event.Swap.{Swap}
use Rattle.wrp_course.specs.declared.place.Place.{Place}
use Rattle.wrp_course.specs.Given.{Given, end_given, gives, gives_all, put_out, sending, step_of}
use Rattle.wrp_course.specs.Moved.{arrived, arriving, behind_first, departing, end_after, frame_after, is_place, loses, moved, port_number, removed, samples_at, swap_at, waiting_at, with_swap}
use Rattle.wrp_course.specs.Runs.{WasPutOut}
use Rattle.wrp_course.specs.Setting.{Setting, end_at, is_of, is_role, place_of}
use Rattle.wrp_course.specs.WorldAt.{EndAt, FrameAt, Sending, WorldAt, is_on_fibre}
use Rattle.wrp_course.proofs.RunPorts.{told_end, one_of}

-- what is known of a frame, if there is one
abbrev pub FrameOf : WorldAt → Option FrameAt → Type 0
FrameOf w None = Unit {0}
FrameOf w (Some f) = WasPutOut f.sending (w.end_at f.link f.by).sent

pub record FramesKeep (w : WorldAt) : Type 0 where
  pub departed : (i : ℕ) → FrameOf w (w.frame i)
  pub waits : (k : ℕ) (r : Role) (x : Sending) → WasPutOut x (w.end_at k r).waiting → WasPutOut x (w.end_at k r).sent

-- A list of what was put out

pub in_put : (x : Sending) (ms sent : List Sending) → WasPutOut x sent → WasPutOut x (put_out ms sent)
in_put x [] sent h = h
in_put x (m ∷ ms) sent h = in_put x ms (m ∷ sent) (inr h)

pub new_put : (x : Sending) (ms sent : List Sending) → WasPutOut x ms → WasPutOut x (put_out ms sent)
new_put x [] sent h = absurd h
new_put x (m ∷ ms) sent h = elim h [ inl e ↦ in_put x ms (m ∷ sent) (inl e) | inr t ↦ new_put x ms (m ∷ sent) t ]

in_either : (x : Sending) (xs ys : List Sending) → WasPutOut x (xs ++ ys) → WasPutOut x xs ⊎ WasPutOut x ys
in_either x [] ys h = inr h
in_either x (z ∷ xs) ys h = elim h [ inl e ↦ inl (inl e) | inr t ↦ elim (in_either x xs ys t) [ inl a ↦ inl (inr a) | inr b ↦ inr b ] ]

-- An input

-- the end of a node that was given an input, or one that stays
told_where : (Q : EndAt → Type 0) (s : Setting) (v : WorldAt) (g : Given) (step : Step) (k : ℕ) (r : Role) (end : End) (b : Bool) → Q (v.end_at k r) → Q (end_given s v g step k r end.port) →
    Q (if b then end_given s v g step k r end.port else v.end_at k r)
told_where Q s v g step k r end true h f = f
told_where Q s v g step k r end false h f = h

pub told_either : (Q : EndAt → Type 0) (s : Setting) (v : WorldAt) (g : Given) (step : Step) (k : ℕ) (r : Role) (o : Option End) → Q (v.end_at k r) →
    ((end : End) → Q (end_given s v g step k r end.port)) → Q (told_end s v g step k r o)
told_either Q s v g step k r None h f = h
told_either Q s v g step k r (Some end) h f = told_where Q s v g step k r end (end.node == g.to) h (f end)

pub sent_stays : (s : Setting) (y : ℤ) (v : WorldAt) (g : Given) (k : ℕ) (r : Role) (x : Sending) → WasPutOut x (v.end_at k r).sent → WasPutOut x ((gives s y v g).end_at k r).sent
sent_stays s y v g k r x h =
    told_either (λ e. WasPutOut x e.sent) s v g (step_of s y v g) k r (end_at s k r) h
    (λ end. in_put x (map (sending v) ((step_of s y v g).sends end.port)) (v.end_at k r).sent h)

waiting_told : (s : Setting) (y : ℤ) (v : WorldAt) (g : Given) (k : ℕ) (r : Role) (x : Sending) → (WasPutOut x (v.end_at k r).waiting → WasPutOut x (v.end_at k r).sent) →
    WasPutOut x ((gives s y v g).end_at k r).waiting → WasPutOut x ((gives s y v g).end_at k r).sent
waiting_told s y v g k r x h =
    told_either (λ e. WasPutOut x e.waiting → WasPutOut x e.sent) s v g (step_of s y v g) k r (end_at s k r) h
    (λ end t. elim (in_either x (v.end_at k r).waiting (map (sending v) ((step_of s y v g).sends end.port)) t) [
      | inl a ↦ in_put x (map (sending v) ((step_of s y v g).sends end.port)) (v.end_at k r).sent (h a)
      | inr b ↦ new_put x (map (sending v) ((step_of s y v g).sends end.port)) (v.end_at k r).sent b
    ])

frame_told : (s : Setting) (y : ℤ) (v : WorldAt) (g : Given) (o : Option FrameAt) → FrameOf v o → FrameOf (gives s y v g) o
frame_told s y v g None h = tt
frame_told s y v g (Some f) h = sent_stays s y v g f.link f.by f.sending h

pub given_frames : (s : Setting) (y : ℤ) (v : WorldAt) (g : Given) → FramesKeep v → FramesKeep (gives s y v g)
given_frames s y v g h = record {
  departed = λ i. frame_told s y v g (v.frame i) (h.departed i);
  waits = λ k r x. waiting_told s y v g k r x (h.waits k r x);
}

pub all_given_frames : (s : Setting) (y : ℤ) (gs : List Given) (v : WorldAt) → FramesKeep v → FramesKeep (gives_all s y v gs)
all_given_frames s y [] v h = h
all_given_frames s y (g ∷ gs) v h = all_given_frames s y gs (gives s y v g) (given_frames s y v g h)

-- What an event changes by itself

with_swap_sent : (o : Option Swap) (e : EndAt) → (with_swap o e).sent ≡ e.sent
with_swap_sent None e = refl
with_swap_sent (Some swap) e = refl

with_swap_marks : (o : Option Swap) (e : EndAt) → (with_swap o e).marks ≡ e.marks
with_swap_marks None e = refl
with_swap_marks (Some swap) e = refl

pub with_swap_waiting : (o : Option Swap) (e : EndAt) → (with_swap o e).waiting ≡ e.waiting
with_swap_waiting None e = refl
with_swap_waiting (Some swap) e = refl

same_sent : (b : Bool) (e f : EndAt) → e.sent ≡ f.sent → (one_of b e f).sent ≡ f.sent
same_sent true e f h = h
same_sent false e f h = refl

same_marks : (b : Bool) (e f : EndAt) → e.marks ≡ f.marks → (one_of b e f).marks ≡ f.marks
same_marks true e f h = h
same_marks false e f h = refl

pub moved_sent : (s : Setting) (w : WorldAt) (e : Event) (k : ℕ) (r : Role) → (end_after s w e k r).sent ≡ (w.end_at k r).sent
moved_sent s w (Depart n p stamp) k r =
    same_sent (is_place (place_of s n p) k r) (record (w.end_at k r) { waiting = behind_first (w.end_at k r).waiting }) (w.end_at k r) refl
moved_sent s w (Up n off swaps) k r =
    same_sent (is_of n (end_at s k r)) (with_swap (swap_at (port_number s k r) swaps.items) (w.end_at k r)) (w.end_at k r)
    (with_swap_sent (swap_at (port_number s k r) swaps.items) (w.end_at k r))
moved_sent s w (Down n) k r = same_sent (loses s (Down n) k) (record (w.end_at k r) { waiting = [] }) (w.end_at k r) refl
moved_sent s w (Cut l) k r = same_sent (loses s (Cut l) k) (record (w.end_at k r) { waiting = [] }) (w.end_at k r) refl
moved_sent s w _ k r = refl

pub moved_marks : (s : Setting) (w : WorldAt) (e : Event) (k : ℕ) (r : Role) → (end_after s w e k r).marks ≡ (w.end_at k r).marks
moved_marks s w (Depart n p stamp) k r =
    same_marks (is_place (place_of s n p) k r) (record (w.end_at k r) { waiting = behind_first (w.end_at k r).waiting }) (w.end_at k r) refl
moved_marks s w (Up n off swaps) k r =
    same_marks (is_of n (end_at s k r)) (with_swap (swap_at (port_number s k r) swaps.items) (w.end_at k r)) (w.end_at k r)
    (with_swap_marks (swap_at (port_number s k r) swaps.items) (w.end_at k r))
moved_marks s w (Down n) k r = same_marks (loses s (Down n) k) (record (w.end_at k r) { waiting = [] }) (w.end_at k r) refl
moved_marks s w (Cut l) k r = same_marks (loses s (Cut l) k) (record (w.end_at k r) { waiting = [] }) (w.end_at k r) refl
moved_marks s w _ k r = refl

waited : (x : Sending) (b : Bool) (e f : EndAt) → (WasPutOut x e.waiting → WasPutOut x f.waiting) → WasPutOut x (one_of b e f).waiting → WasPutOut x f.waiting
waited x true e f h = h
waited x false e f h = λ t. t

behind : (x : Sending) (xs : List Sending) → WasPutOut x (behind_first xs) → WasPutOut x xs
behind x [] h = h
behind x (z ∷ xs) h = inr h

moved_waiting : (s : Setting) (w : WorldAt) (e : Event) (k : ℕ) (r : Role) (x : Sending) → WasPutOut x (end_after s w e k r).waiting → WasPutOut x (w.end_at k r).waiting
moved_waiting s w (Depart n p stamp) k r x =
    waited x (is_place (place_of s n p) k r) (record (w.end_at k r) { waiting = behind_first (w.end_at k r).waiting }) (w.end_at k r) (behind x (w.end_at k r).waiting)
moved_waiting s w (Up n off swaps) k r x =
    waited x (is_of n (end_at s k r)) (with_swap (swap_at (port_number s k r) swaps.items) (w.end_at k r)) (w.end_at k r)
    (λ t. subst (WasPutOut x) (with_swap_waiting (swap_at (port_number s k r) swaps.items) (w.end_at k r)) t)
moved_waiting s w (Down n) k r x = waited x (loses s (Down n) k) (record (w.end_at k r) { waiting = [] }) (w.end_at k r) (λ t. absurd t)
moved_waiting s w (Cut l) k r x = waited x (loses s (Cut l) k) (record (w.end_at k r) { waiting = [] }) (w.end_at k r) (λ t. absurd t)
moved_waiting s w _ k r x = λ t. t

frame_if : (w : WorldAt) (b : Bool) (o p : Option FrameAt) → FrameOf w o → FrameOf w p → FrameOf w (if b then o else p)
frame_if w true o p x y = x
frame_if w false o p x y = y

departing_known : (w : WorldAt) (place : Option Place) (stamp : ℤ) (i : ℕ) (queue : List Sending) →
    ((x : Sending) (z : Place) → place ≡ Some z → WasPutOut x queue → WasPutOut x (w.end_at z.link z.role).sent) → FrameOf w (w.frame i) → FrameOf w (departing w place stamp queue i)
departing_known w None stamp i queue h old = old
departing_known w (Some place) stamp i [] h old = old
departing_known w (Some place) stamp i (oldest ∷ rest) h old = frame_if w (i == (w.departed + 1)) (Some _) (w.frame i) (h oldest place refl (inl refl)) old

frame_either : (w : WorldAt) (b : Bool) (f g : FrameAt) → FrameOf w (Some f) → FrameOf w (Some g) → FrameOf w (Some (if b then f else g))
frame_either w true f g x y = x
frame_either w false f g x y = y

arriving_known : (s : Setting) (w : WorldAt) (j : ℕ) (raw : Raw) (g : FrameAt) (i : ℕ) (f : FrameAt) → FrameOf w (Some f) → FrameOf w (Some (arriving s w j raw g i f))
arriving_known s w j raw g i f h =
    frame_either w (i == j) (record f { arrival = Some (record { raw = raw; sample = samples_at s w g; at = w.time; moment = w.count }) })
    (record f { gone = f.gone || (is_on_fibre (Some f) && (nat_lt i j && ((f.link == g.link) && is_role f.by g.by))) }) h h

arrived_known : (s : Setting) (w : WorldAt) (j : ℕ) (raw : Raw) (g : Option FrameAt) (i : ℕ) (f : Option FrameAt) → FrameOf w f → FrameOf w (arrived s w j raw g i f)
arrived_known s w j raw (Some g) i (Some f) h = arriving_known s w j raw g i f h
arrived_known s w j raw None i f h = h
arrived_known s w j raw (Some g) i None h = h

removed_known : (s : Setting) (w : WorldAt) (e : Event) (f : Option FrameAt) → FrameOf w f → FrameOf w (option_map (removed s e) f)
removed_known s w e None h = h
removed_known s w e (Some f) h = h

pub queue_known : (w : WorldAt) → ((k : ℕ) (r : Role) (x : Sending) → WasPutOut x (w.end_at k r).waiting → WasPutOut x (w.end_at k r).sent) →
    (place : Option Place) (x : Sending) (z : Place) → place ≡ Some z → WasPutOut x (waiting_at w place) → WasPutOut x (w.end_at z.link z.role).sent
queue_known w h None x z e q = absurd (none-some z e)
queue_known w h (Some place) x z e q = subst (λ (t : Place). WasPutOut x (w.end_at t.link t.role).sent) (same_Some place z e) (h place.link place.role x q)

frame_known : (s : Setting) (w : WorldAt) (e : Event) (i : ℕ) → FramesKeep w → FrameOf w (frame_after s w e i)
frame_known s w (Depart n p stamp) i h =
    departing_known w (place_of s n p) stamp i (waiting_at w (place_of s n p)) (queue_known w h.waits (place_of s n p)) (h.departed i)
frame_known s w (Arrive j raw) i h = arrived_known s w j raw (w.frame j) i (w.frame i) (h.departed i)
frame_known s w (Pass dt drifts fibres) i h = removed_known s w (Pass dt drifts fibres) (w.frame i) (h.departed i)
frame_known s w (Tick n) i h = removed_known s w (Tick n) (w.frame i) (h.departed i)
frame_known s w (Sample n base bits) i h = removed_known s w (Sample n base bits) (w.frame i) (h.departed i)
frame_known s w (Deliver j) i h = removed_known s w (Deliver j) (w.frame i) (h.departed i)
frame_known s w (Noise n p octets raw) i h = removed_known s w (Noise n p octets raw) (w.frame i) (h.departed i)
frame_known s w (Down n) i h = removed_known s w (Down n) (w.frame i) (h.departed i)
frame_known s w (Up n off swaps) i h = removed_known s w (Up n off swaps) (w.frame i) (h.departed i)
frame_known s w (Cut l) i h = removed_known s w (Cut l) (w.frame i) (h.departed i)
frame_known s w (Join l ms sm) i h = removed_known s w (Join l ms sm) (w.frame i) (h.departed i)

frame_in : (s : Setting) (w : WorldAt) (e : Event) (o : Option FrameAt) → FrameOf w o → FrameOf (moved s w e) o
frame_in s w e None h = tt
frame_in s w e (Some f) h = subst (WasPutOut f.sending) (sym (moved_sent s w e f.link f.by)) h

pub moved_frames : (s : Setting) (w : WorldAt) (e : Event) → FramesKeep w → FramesKeep (moved s w e)
moved_frames s w e h = record {
  departed = λ i. frame_in s w e (frame_after s w e i) (frame_known s w e i h);
  waits = λ k r x q. subst (WasPutOut x) (sym (moved_sent s w e k r)) (h.waits k r x (moved_waiting s w e k r x q));
}
