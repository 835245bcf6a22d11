-- A frame is on a fibre if and only if it departed and nothing since took it off.
use Rattle.std.proofs.Common.{◌≡◌, ◌↔◌, ◌≤◌, refl, ap, ◌∙◌, sym, subst, ℕ, ℤ, ◌+◌, ◌==◌, ◌&&◌, ◌||◌, not, nat_lt, Bool, true, false, if◌then◌else◌, is_some, List, [], ◌∷◌, ◌++◌, Option, None, Some, option_map, arith}
use Rattle.std.proofs.lemmas.Bool.{eqb-true, ne_eqb}
use Rattle.std.proofs.lemmas.Option.{same_Some}
use Rattle.wrp_base.proofs.Booleans.{not_both}
use Rattle.wrp_base.specs.declared.link.Role.{Role}
use Rattle.wrp_base.specs.declared.time.Raw.{Raw}
use Rattle.wrp_course.specs.declared.event.Event.{Event}
use Rattle.wrp_course.specs.declared.event.Event.TheVariants.{Pass, Tick, Sample, Depart, Arrive, Deliver, Noise, Down, Up, Cut, Join}
use Rattle.wrp_course.specs.declared.place.Place.{Place}
use Rattle.wrp_course.specs.Given.{Given, given_by, gives, gives_all}
use Rattle.wrp_course.specs.Moved.{loses, departing, arrived, removed, frame_after, one_more, departed_after, waiting_at, moved, samples_at}
use Rattle.wrp_course.specs.Run.{Happened, world_after}
use Rattle.wrp_course.specs.Setting.{Setting, is_role, place_of}
use Rattle.wrp_course.specs.WorldAt.{WorldAt, FrameAt, Sending, is_on_fibre}
use Rattle.wrp_course.proofs.RunStamps.{all_given_frame}
use Rattle.wrp_lookback_laws.specs.Fibres.{is_of_way, takes_off, NoneTakes, StillFlies, FibresLookBack}

-- ---- numbers of frames

all_given_departed : (s : Setting) (y : ℤ) (gs : List Given) (v : WorldAt) → (gives_all s y v gs).departed ≡ v.departed
all_given_departed s y [] v = refl
all_given_departed s y (g ∷ gs) v = all_given_departed s y gs (gives s y v g)

frame-of : (s : Setting) (h : Happened) (before : List Happened) (i : ℕ) → (world_after s (h ∷ before)).frame i ≡ frame_after s (world_after s before) h.event i
frame-of s h before i =
    let w : WorldAt = world_after s before in
    all_given_frame s h.answer (given_by s w (moved s w h.event) h.says h.event) (moved s w h.event) i

departed-of : (s : Setting) (h : Happened) (before : List Happened) → (world_after s (h ∷ before)).departed ≡ departed_after s (world_after s before) h.event
departed-of s h before =
    let w : WorldAt = world_after s before in
    all_given_departed s h.answer (given_by s w (moved s w h.event) h.says h.event) (moved s w h.event)

-- a number that a frame has was given
abbrev Counted : (frame : Option FrameAt) (departed i : ℕ) → Type 0
Counted frame departed i = is_some frame ≡ true → i ≤ departed

removed-some : (s : Setting) (e : Event) (o : Option FrameAt) → is_some (option_map (removed s e) o) ≡ is_some o
removed-some s e None = refl
removed-some s e (Some f) = refl

arrived-some : (s : Setting) (w : WorldAt) (j : ℕ) (raw : Raw) (g : Option FrameAt) (i : ℕ) (f : Option FrameAt) → is_some (arrived s w j raw g i f) ≡ is_some f
arrived-some s w j raw None i f = refl
arrived-some s w j raw (Some g) i None = refl
arrived-some s w j raw (Some g) i (Some f) = refl

new_counted : (departed i : ℕ) → (i == (departed + 1)) ≡ true → i ≤ departed + 1
new_counted departed i e = let t : i ≡ departed + 1 = eqb-true i (departed + 1) e in omega arith

later_counted : (departed i : ℕ) → i ≤ departed → i ≤ departed + 1
later_counted departed i h = omega arith

if_counted : (b : Bool) (f : FrameAt) (o : Option FrameAt) (departed i : ℕ) → (i == (departed + 1)) ≡ b → Counted o departed i → Counted (if b then Some f else o) (departed + 1) i
if_counted true f o departed i e h some = new_counted departed i e
if_counted false f o departed i e h some = later_counted departed i (h some)

depart_counted : (w : WorldAt) (place : Option Place) (stamp : ℤ) (queue : List Sending) (i : ℕ) → Counted (w.frame i) w.departed i → Counted (departing w place stamp queue i) (one_more queue w.departed) i
depart_counted w None stamp [] i h = h
depart_counted w None stamp (x ∷ queue) i h = λ some. later_counted w.departed i (h some)
depart_counted w (Some place) stamp [] i h = h
depart_counted w (Some place) stamp (x ∷ queue) i h = if_counted (i == (w.departed + 1)) _ (w.frame i) w.departed i refl h

same_counted : (o p : Option FrameAt) (departed i : ℕ) → is_some p ≡ is_some o → Counted o departed i → Counted p departed i
same_counted o p departed i e h some = h (sym e ∙ some)

event_counted : (s : Setting) (w : WorldAt) (e : Event) (i : ℕ) → Counted (w.frame i) w.departed i → Counted (frame_after s w e i) (departed_after s w e) i
event_counted s w (Depart n p stamp) i h = depart_counted w (place_of s n p) stamp (waiting_at w (place_of s n p)) i h
event_counted s w (Arrive j raw) i h = same_counted (w.frame i) (arrived s w j raw (w.frame j) i (w.frame i)) w.departed i (arrived-some s w j raw (w.frame j) i (w.frame i)) h
event_counted s w (Pass dt drifts fibres) i h = same_counted (w.frame i) (option_map (removed s (Pass dt drifts fibres)) (w.frame i)) w.departed i (removed-some s (Pass dt drifts fibres) (w.frame i)) h
event_counted s w (Tick n) i h = same_counted (w.frame i) (option_map (removed s (Tick n)) (w.frame i)) w.departed i (removed-some s (Tick n) (w.frame i)) h
event_counted s w (Sample n base bits) i h = same_counted (w.frame i) (option_map (removed s (Sample n base bits)) (w.frame i)) w.departed i (removed-some s (Sample n base bits) (w.frame i)) h
event_counted s w (Deliver j) i h = same_counted (w.frame i) (option_map (removed s (Deliver j)) (w.frame i)) w.departed i (removed-some s (Deliver j) (w.frame i)) h
event_counted s w (Noise n p octets raw) i h = same_counted (w.frame i) (option_map (removed s (Noise n p octets raw)) (w.frame i)) w.departed i (removed-some s (Noise n p octets raw) (w.frame i)) h
event_counted s w (Down n) i h = same_counted (w.frame i) (option_map (removed s (Down n)) (w.frame i)) w.departed i (removed-some s (Down n) (w.frame i)) h
event_counted s w (Up n off swaps) i h = same_counted (w.frame i) (option_map (removed s (Up n off swaps)) (w.frame i)) w.departed i (removed-some s (Up n off swaps) (w.frame i)) h
event_counted s w (Cut l) i h = same_counted (w.frame i) (option_map (removed s (Cut l)) (w.frame i)) w.departed i (removed-some s (Cut l) (w.frame i)) h
event_counted s w (Join l ms sm) i h = same_counted (w.frame i) (option_map (removed s (Join l ms sm)) (w.frame i)) w.departed i (removed-some s (Join l ms sm) (w.frame i)) h

counted : (s : Setting) (events : List Happened) (i : ℕ) → Counted ((world_after s events).frame i) (world_after s events).departed i
counted s [] i = λ some. absurd cc
counted s (h ∷ before) i =
    let w : WorldAt = world_after s before in
    subst (λ (o : Option FrameAt). Counted o (world_after s (h ∷ before)).departed i) (sym (frame-of s h before i))
    (subst (λ (d : ℕ). Counted (frame_after s w h.event i) d i) (sym (departed-of s h before)) (event_counted s w h.event i (counted s before i)))

-- ---- one event

-- what an event does to a frame that had departed: its way stays, and it is on the fibre unless it is taken off
record Flies (f : FrameAt) (taken : Bool) (o : Option FrameAt) : Type 0 where
  now : FrameAt
  is : o ≡ Some now
  link : now.link ≡ f.link
  by : now.by ≡ f.by
  on : is_on_fibre (Some now) ≡ (is_on_fibre (Some f) && not taken)

stays_on : (gone some : Bool) → (if gone then false else (if some then false else true)) ≡ ((if gone then false else (if some then false else true)) && not false)
stays_on true some = refl
stays_on false true = refl
stays_on false false = refl

goes_off : (gone some taken : Bool) → (if (gone || ((if gone then false else (if some then false else true)) && taken)) then false else (if some then false else true)) ≡ ((if gone then false else (if some then false else true)) && not taken)
goes_off true some taken = refl
goes_off false true taken = refl
goes_off false false true = refl
goes_off false false false = refl

-- the same, with the taking first
lost_off : (gone some taken : Bool) → (if (gone || (taken && (if gone then false else (if some then false else true)))) then false else (if some then false else true)) ≡ ((if gone then false else (if some then false else true)) && not taken)
lost_off true some taken = refl
lost_off false true true = refl
lost_off false true false = refl
lost_off false false true = refl
lost_off false false false = refl

comes_off : (gone some : Bool) → (if gone then false else false) ≡ ((if gone then false else (if some then false else true)) && not true)
comes_off true some = refl
comes_off false true = refl
comes_off false false = refl

removed-flies : (s : Setting) (e : Event) (f : FrameAt) → Flies f (loses s e f.link) (Some (removed s e f))
removed-flies s e f = record { now = removed s e f; is = refl; link = refl; by = refl; on = lost_off f.gone (is_some f.arrival) (loses s e f.link) }

arriving-flies : (s : Setting) (w : WorldAt) (j : ℕ) (raw : Raw) (g : FrameAt) (i : ℕ) (f : FrameAt) (b : Bool) →
    Flies f (b || (nat_lt i j && is_of_way f.link f.by (Some g))) (Some (if b then record f { arrival = Some (record { raw = raw; sample = samples_at s w g; at = w.time; moment = w.count }) } else record f { gone = f.gone || (is_on_fibre (Some f) && (nat_lt i j && ((f.link == g.link) && is_role f.by g.by))) }))
arriving-flies s w j raw g i f true = record { now = record f { arrival = Some (record { raw = raw; sample = samples_at s w g; at = w.time; moment = w.count }) }; is = refl; link = refl; by = refl; on = comes_off f.gone (is_some f.arrival) }
arriving-flies s w j raw g i f false = record {
  now = record f { gone = f.gone || (is_on_fibre (Some f) && (nat_lt i j && ((f.link == g.link) && is_role f.by g.by))) };
  is = refl;
  link = refl;
  by = refl;
  on = goes_off f.gone (is_some f.arrival) (nat_lt i j && ((f.link == g.link) && is_role f.by g.by));
}

-- a frame that is there did not come by another number
other_number : (w : WorldAt) (i j : ℕ) (f : FrameAt) → w.frame i ≡ Some f → w.frame j ≡ None → (i == j) ≡ false
other_number w i j f e n = ne_eqb i j (λ same. let t : w.frame i ≡ None = ap w.frame same ∙ n in not_both (is_some (w.frame i)) (ap is_some e) (ap is_some t))

none_of : (a b : Bool) → a ≡ false → (a || (b && false)) ≡ false
none_of true b e = e
none_of false true e = refl
none_of false false e = refl

arrived-flies : (s : Setting) (w : WorldAt) (j : ℕ) (raw : Raw) (i : ℕ) (f : FrameAt) → w.frame i ≡ Some f → (g : Option FrameAt) → w.frame j ≡ g →
    Flies f ((i == j) || (nat_lt i j && is_of_way f.link f.by g)) (arrived s w j raw g i (Some f))
arrived-flies s w j raw i f e (Some g) h = arriving-flies s w j raw g i f (i == j)
arrived-flies s w j raw i f e None h =
    subst (λ (b : Bool). Flies f b (Some f)) (sym (none_of (i == j) (nat_lt i j) (other_number w i j f e h)))
    (record { now = f; is = refl; link = refl; by = refl; on = stays_on f.gone (is_some f.arrival) })

older : (departed i : ℕ) → i ≤ departed → (i == (departed + 1)) ≡ false
older departed i h = ne_eqb i (departed + 1) (λ same. omega arith)

departing-same : (w : WorldAt) (place : Option Place) (stamp : ℤ) (queue : List Sending) (i : ℕ) → (i == (w.departed + 1)) ≡ false → departing w place stamp queue i ≡ w.frame i
departing-same w None stamp [] i e = refl
departing-same w None stamp (x ∷ queue) i e = refl
departing-same w (Some place) stamp [] i e = refl
departing-same w (Some place) stamp (x ∷ queue) i e = rw e refl

some_flies : (f : FrameAt) (taken : Bool) (o p : Option FrameAt) → o ≡ p → Flies f taken p → Flies f taken o
some_flies f taken o p e t = subst (λ (q : Option FrameAt). Flies f taken q) (sym e) t

unmoved-flies : (f : FrameAt) (o : Option FrameAt) → o ≡ Some f → Flies f false o
unmoved-flies f o e = record { now = f; is = e; link = refl; by = refl; on = stays_on f.gone (is_some f.arrival) }

lost-flies : (s : Setting) (e : Event) (f : FrameAt) (o : Option FrameAt) → o ≡ Some f → Flies f (loses s e f.link) (option_map (removed s e) o)
lost-flies s e f o is = some_flies f (loses s e f.link) (option_map (removed s e) o) (Some (removed s e f)) (ap (option_map (removed s e)) is) (removed-flies s e f)

event-flies : (s : Setting) (w : WorldAt) (e : Event) (i : ℕ) (f : FrameAt) → i ≤ w.departed → w.frame i ≡ Some f → Flies f (takes_off s w i f.link f.by e) (frame_after s w e i)
event-flies s w (Depart n p stamp) i f c is = unmoved-flies f _ (departing-same w (place_of s n p) stamp (waiting_at w (place_of s n p)) i (older w.departed i c) ∙ is)
event-flies s w (Arrive j raw) i f c is = some_flies f _ (arrived s w j raw (w.frame j) i (w.frame i)) (arrived s w j raw (w.frame j) i (Some f)) (ap (arrived s w j raw (w.frame j) i) is) (arrived-flies s w j raw i f is (w.frame j) refl)
event-flies s w (Pass dt drifts fibres) i f c is = lost-flies s (Pass dt drifts fibres) f (w.frame i) is
event-flies s w (Tick n) i f c is = lost-flies s (Tick n) f (w.frame i) is
event-flies s w (Sample n base bits) i f c is = lost-flies s (Sample n base bits) f (w.frame i) is
event-flies s w (Deliver j) i f c is = lost-flies s (Deliver j) f (w.frame i) is
event-flies s w (Noise n p octets raw) i f c is = lost-flies s (Noise n p octets raw) f (w.frame i) is
event-flies s w (Down n) i f c is = lost-flies s (Down n) f (w.frame i) is
event-flies s w (Up n off swaps) i f c is = lost-flies s (Up n off swaps) f (w.frame i) is
event-flies s w (Cut l) i f c is = lost-flies s (Cut l) f (w.frame i) is
event-flies s w (Join l ms sm) i f c is = lost-flies s (Join l ms sm) f (w.frame i) is

-- a frame that was not there departs now, and is on its fibre
new-on : (b : Bool) (f g : FrameAt) (o : Option FrameAt) → is_on_fibre (Some f) ≡ true → o ≡ None → (if b then Some f else o) ≡ Some g → is_on_fibre (Some g) ≡ true
new-on true f g o on none e = subst (λ (h : FrameAt). is_on_fibre (Some h) ≡ true) (same_Some f g e) on
new-on false f g o on none e = absurd (not_both (is_some o) (ap is_some e) (ap is_some none))

no-new : (o : Option FrameAt) (g : FrameAt) → o ≡ None → o ≡ Some g → is_on_fibre (Some g) ≡ true
no-new o g none e = absurd (not_both (is_some o) (ap is_some e) (ap is_some none))

departing-on : (w : WorldAt) (place : Option Place) (stamp : ℤ) (queue : List Sending) (i : ℕ) (g : FrameAt) → w.frame i ≡ None → departing w place stamp queue i ≡ Some g → is_on_fibre (Some g) ≡ true
departing-on w None stamp [] i g none e = no-new (w.frame i) g none e
departing-on w None stamp (x ∷ queue) i g none e = no-new (w.frame i) g none e
departing-on w (Some place) stamp [] i g none e = no-new (w.frame i) g none e
departing-on w (Some place) stamp (x ∷ queue) i g none e = new-on (i == (w.departed + 1)) _ g (w.frame i) refl none e

lost-new : (s : Setting) (e : Event) (o : Option FrameAt) (g : FrameAt) → o ≡ None → option_map (removed s e) o ≡ Some g → is_on_fibre (Some g) ≡ true
lost-new s e o g none is = no-new (option_map (removed s e) o) g (ap (option_map (removed s e)) none) is

arrived-none : (s : Setting) (w : WorldAt) (j : ℕ) (raw : Raw) (g : Option FrameAt) (i : ℕ) → arrived s w j raw g i None ≡ None
arrived-none s w j raw None i = refl
arrived-none s w j raw (Some g) i = refl

event-on : (s : Setting) (w : WorldAt) (e : Event) (i : ℕ) (g : FrameAt) → w.frame i ≡ None → frame_after s w e i ≡ Some g → is_on_fibre (Some g) ≡ true
event-on s w (Depart n p stamp) i g none is = departing-on w (place_of s n p) stamp (waiting_at w (place_of s n p)) i g none is
event-on s w (Arrive j raw) i g none is = no-new (arrived s w j raw (w.frame j) i (w.frame i)) g (ap (arrived s w j raw (w.frame j) i) none ∙ arrived-none s w j raw (w.frame j) i) is
event-on s w (Pass dt drifts fibres) i g none is = lost-new s (Pass dt drifts fibres) (w.frame i) g none is
event-on s w (Tick n) i g none is = lost-new s (Tick n) (w.frame i) g none is
event-on s w (Sample n base bits) i g none is = lost-new s (Sample n base bits) (w.frame i) g none is
event-on s w (Deliver j) i g none is = lost-new s (Deliver j) (w.frame i) g none is
event-on s w (Noise n p octets raw) i g none is = lost-new s (Noise n p octets raw) (w.frame i) g none is
event-on s w (Down n) i g none is = lost-new s (Down n) (w.frame i) g none is
event-on s w (Up n off swaps) i g none is = lost-new s (Up n off swaps) (w.frame i) g none is
event-on s w (Cut l) i g none is = lost-new s (Cut l) (w.frame i) g none is
event-on s w (Join l ms sm) i g none is = lost-new s (Join l ms sm) (w.frame i) g none is

-- ---- the whole list

departs-now : (s : Setting) (h : Happened) (before : List Happened) (i k : ℕ) (r : Role) → (world_after s before).frame i ≡ None → is_some ((world_after s (h ∷ before)).frame i) ≡ true → StillFlies s (h ∷ before) i k r
departs-now s h before i k r none some = record { since = []; departure = h; before = before; splits = refl; absent = ap is_some none; departs = some; none = tt }

flies-on : (s : Setting) (h : Happened) (before : List Happened) (i k : ℕ) (r : Role) → takes_off s (world_after s before) i k r h.event ≡ false → StillFlies s before i k r → StillFlies s (h ∷ before) i k r
flies-on s h before i k r never t = record {
  since = h ∷ t.since;
  departure = t.departure;
  before = t.before;
  splits = ap (λ (l : List Happened). h ∷ l) t.splits;
  absent = t.absent;
  departs = t.departs;
  none = (subst (λ (l : List Happened). takes_off s (world_after s l) i k r h.event ≡ false) t.splits never, t.none);
}

head_is : (a b : Happened) (xs ys : List Happened) → a ∷ xs ≡ b ∷ ys → a ≡ b
head_is a b xs ys e = cc

tail_is : (a b : Happened) (xs ys : List Happened) → a ∷ xs ≡ b ∷ ys → xs ≡ ys
tail_is a b xs ys e = cc

-- a frame that was there before the newest event: it flew then, and was not taken off
flew : (s : Setting) (h : Happened) (before : List Happened) (i k : ℕ) (r : Role) → is_some ((world_after s before).frame i) ≡ true → (since : List Happened) (departure : Happened) (first : List Happened) →
    h ∷ before ≡ since ++ departure ∷ first → is_some ((world_after s first).frame i) ≡ false → is_some ((world_after s (departure ∷ first)).frame i) ≡ true → NoneTakes s i k r since (departure ∷ first) →
    (takes_off s (world_after s before) i k r h.event ≡ false) × StillFlies s before i k r
flew s h before i k r some [] departure first e absent departs none =
    absurd (not_both (is_some ((world_after s before).frame i)) some (ap (λ (l : List Happened). is_some ((world_after s l).frame i)) (tail_is h departure before first e) ∙ absent))
flew s h before i k r some (g ∷ since) departure first e absent departs none =
    let rest : before ≡ since ++ departure ∷ first = tail_is h g before (since ++ departure ∷ first) e in (
      subst (λ (l : List Happened). takes_off s (world_after s l) i k r h.event ≡ false) (sym rest) (subst (λ (x : Happened). takes_off s (world_after s (since ++ departure ∷ first)) i k r x.event ≡ false) (sym (head_is h g before (since ++ departure ∷ first) e)) none.0),
      record { since = since; departure = departure; before = first; splits = rest; absent = absent; departs = departs; none = none.1 },
    )

both_true : (a b : Bool) → a ≡ true → b ≡ false → (a && not b) ≡ true
both_true a b e f = cc

not_taken : (a b : Bool) → (a && not b) ≡ true → (a ≡ true) × (b ≡ false)
not_taken true true h = absurd cc
not_taken true false h = (refl, refl)
not_taken false b h = absurd cc

moved-on : (s : Setting) (h : Happened) (before : List Happened) (i : ℕ) (f : FrameAt) (o : Option FrameAt) → (world_after s before).frame i ≡ Some f → ((is_on_fibre (Some f) ≡ true) ↔ StillFlies s before i f.link f.by) →
    Flies f (takes_off s (world_after s before) i f.link f.by h.event) o → (g : FrameAt) → o ≡ Some g → (is_on_fibre (Some g) ≡ true) ↔ StillFlies s (h ∷ before) i g.link g.by
moved-on s h before i f o was known t g is =
    let same : t.now ≡ g = same_Some t.now g (sym t.is ∙ is) in
    subst (λ (x : FrameAt). (is_on_fibre (Some x) ≡ true) ↔ StillFlies s (h ∷ before) i x.link x.by) same
    (subst (λ (k : ℕ). (is_on_fibre (Some t.now) ≡ true) ↔ StillFlies s (h ∷ before) i k t.now.by) (sym t.link)
    (subst (λ (r : Role). (is_on_fibre (Some t.now) ≡ true) ↔ StillFlies s (h ∷ before) i f.link r) (sym t.by) (
      λ on.
          let parts = not_taken (is_on_fibre (Some f)) (takes_off s (world_after s before) i f.link f.by h.event) (sym t.on ∙ on) in
          flies-on s h before i f.link f.by parts.1 (known.0 parts.0),
      λ z.
          let old = flew s h before i f.link f.by (ap is_some was) z.since z.departure z.before z.splits z.absent z.departs z.none in
          t.on ∙ both_true (is_on_fibre (Some f)) (takes_off s (world_after s before) i f.link f.by h.event) (known.1 old.1) old.0,
    )))

came : (s : Setting) (h : Happened) (before : List Happened) (i : ℕ) (g : FrameAt) → (world_after s (h ∷ before)).frame i ≡ Some g → (o : Option FrameAt) → (world_after s before).frame i ≡ o →
    ((f : FrameAt) → (world_after s before).frame i ≡ Some f → (is_on_fibre (Some f) ≡ true) ↔ StillFlies s before i f.link f.by) →
    (is_on_fibre (Some g) ≡ true) ↔ StillFlies s (h ∷ before) i g.link g.by
came s h before i g is None none known =
    let on : is_on_fibre (Some g) ≡ true = event-on s (world_after s before) h.event i g none (sym (frame-of s h before i) ∙ is) in
    (λ z. departs-now s h before i g.link g.by none (ap is_some is), λ z. on)
came s h before i g is (Some f) was known =
    let w : WorldAt = world_after s before in
    moved-on s h before i f (frame_after s w h.event i) was (known f was) (event-flies s w h.event i f (counted s before i (ap is_some was)) was) g (sym (frame-of s h before i) ∙ is)

pub fibres_look_back : FibresLookBack
fibres_look_back s [] i f is = absurd cc
fibres_look_back s (h ∷ before) i f is = came s h before i f is ((world_after s before).frame i) refl (λ g was. fibres_look_back s before i g was)
