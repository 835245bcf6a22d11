-- How each frame departed and arrived, after every event of every run.
use Rattle.std.proofs.Common.{◌≡◌, ◌∙◌, refl, ap, sym, subst, ℕ, ◌+◌, ◌==◌, ◌≤◌, ℤ, pos, ◌-ℤ◌, ◌≤ℤ◌, not, unsigned_abs, Bool, true, false, if◌then◌else◌, List, [], ◌∷◌, Option, None, Some, IfSome, option_map, Result, arith}
use Rattle.std.proofs.lemmas.Bool.{eqb-true, not-false, true≢false}
use Rattle.std.proofs.lemmas.Int.{ints}
use Rattle.std.specs.Int.Signed.{le_z}
use Rattle.std.specs.Option.{option_map_or}
use Rattle.std.proofs.lemmas.Option.{same_Some}
use Rattle.wrp_base.specs.declared.message.PtpMsg.{PtpMsg}
use Rattle.wrp_base.specs.declared.time.Raw.{Raw}
use Rattle.wrp_network.specs.Network.{End}
use Rattle.wrp_base.specs.Link.{other_of}
use Rattle.wrp_bounds.specs.Times.{frame_life}
use Rattle.wrp_frame.specs.declared.fault.FrameFault.{FrameFault}
use Rattle.wrp_course.specs.declared.event.Event.{Event}
use Rattle.wrp_course.specs.declared.event.Event.TheVariants.{Pass, Tick, Sample, Depart, Arrive, Deliver, Noise, Down, Up, Cut, Join}
use Rattle.wrp_course.specs.declared.place.Place.{Place}
use Rattle.wrp_course.specs.Checks.{AllHold, Holds, needs}
use Rattle.wrp_course.specs.Given.{Given, given_by, gives, gives_all}
use Rattle.wrp_course.specs.Laws.{ArrivalKeepsStampBound}
use Rattle.wrp_course.specs.Moved.{arrived, departing, frame_after, moved, removed, samples_at, waiting_at}
use Rattle.wrp_course.specs.Premises.{Accepts, arrive_checks, depart_checks, received}
use Rattle.wrp_course.specs.Run.{AllAccepted, Happened, world_after}
use Rattle.wrp_course.specs.RunStamps.{ArrivedSo, CameAfter, DepartedSo, FramesAreStamped}
use Rattle.wrp_course.specs.Setting.{Setting, end_at, end_of, of_node, place_of}
use Rattle.wrp_course.specs.WorldAt.{Arrival, FrameAt, Sending, WorldAt, has_carrier, is_on_fibre, reading}
use Rattle.wrp_course.proofs.RunGiven.{end_is}
use Rattle.wrp_course.proofs.RunNetwork.{LinkEnd, end_with, link_end, place_end}
use Rattle.wrp_course.proofs.RunTimes.{all_right}

pub all_given_frame : (s : Setting) (y : ℤ) (gs : List Given) (v : WorldAt) (i : ℕ) → (gives_all s y v gs).frame i ≡ v.frame i
all_given_frame s y [] v i = refl
all_given_frame s y (g ∷ gs) v i = all_given_frame s y gs (gives s y v g) i

-- one event more

more : (events older : List Happened) (h : Happened) → CameAfter events older → CameAfter (h ∷ events) older
more events older h c = (h ∷ c.0, c.1, ap (λ xs. h ∷ xs) c.2)

newest : (older : List Happened) (h : Happened) → CameAfter (h ∷ older) older
newest older h = ([], h, refl)

-- a frame as it was, except for its arrival and whether it is gone
abbrev with_end : FrameAt → Bool → Option Arrival → FrameAt
with_end f gone o = record f { gone = gone; arrival = o }

departed_more : (s : Setting) (events : List Happened) (h : Happened) (f : FrameAt) (gone : Bool) (o : Option Arrival) → DepartedSo s events f → DepartedSo s (h ∷ events) (with_end f gone o)
departed_more s events h f gone o k = record {
  older = k.older;
  came = more events k.older h k.came;
  end = k.end;
  end_is = k.end_is;
  time = k.time;
  moment = k.moment;
  stamp = k.stamp;
  young = k.young;
  carried = k.carried;
  due = k.due;
}

abbrev Arrived : Setting → List Happened → FrameAt → Option Arrival → Type 0
Arrived s events f o = IfSome o (ArrivedSo s events f)

arrived_more : (s : Setting) (events : List Happened) (h : Happened) (f : FrameAt) (gone : Bool) (b : Option Arrival) (o : Option Arrival) → Arrived s events f o → Arrived s (h ∷ events) (with_end f gone b) o
arrived_more s events h f gone b None k = tt
arrived_more s events h f gone b (Some a) k = record {
  older = k.older;
  came = more events k.older h k.came;
  end = k.end;
  end_is = k.end_is;
  time = k.time;
  moment = k.moment;
  raw = k.raw;
  sample = k.sample;
  carried = k.carried;
}

abbrev Told : Setting → List Happened → Option FrameAt → Type 0
Told s events None = Unit {0}
Told s events (Some f) = DepartedSo s events f × Arrived s events f f.arrival

told_more : (s : Setting) (events : List Happened) (h : Happened) (f : FrameAt) (gone : Bool) → Told s events (Some f) → Told s (h ∷ events) (Some (with_end f gone f.arrival))
told_more s events h f gone k = (departed_more s events h f gone f.arrival k.0, arrived_more s events h f gone f.arrival f.arrival k.1)

told_still : (s : Setting) (events : List Happened) (h : Happened) (o : Option FrameAt) → Told s events o → Told s (h ∷ events) o
told_still s events h None k = tt
told_still s events h (Some f) k = told_more s events h f f.gone k

told_removed : (s : Setting) (events : List Happened) (h : Happened) (e : Event) (o : Option FrameAt) → Told s events o → Told s (h ∷ events) (option_map (removed s e) o)
told_removed s events h e None k = tt
told_removed s events h e (Some f) k = told_more s events h f (removed s e f).gone k

-- a departure

near : (a : ℤ) (b : ℕ) → not (le_z (pos (unsigned_abs a)) (pos b)) ≡ false → unsigned_abs a ≤ b
near a b h = grind (arith, ints, h)

young : (now at : ℤ) (life : ℕ) → not (le_z (now -ℤ at) (pos life)) ≡ false → (now -ℤ at) ≤ℤ pos life
young now at life h = grind (arith, ints, h)

told_if : (s : Setting) (events : List Happened) (b : Bool) (o p : Option FrameAt) → Told s events o → Told s events p → Told s events (if b then o else p)
told_if s events true o p x y = x
told_if s events false o p x y = y

leaves : (s : Setting) (before : List Happened) (h : Happened) (n p : ℕ) (stamp : ℤ) (place : Option Place) (queue : List Sending) (i : ℕ) → place_of s n p ≡ place →
    AllHold (depart_checks s (world_after s before) n stamp place queue) → Told s before ((world_after s before).frame i) → Told s (h ∷ before) (departing (world_after s before) place stamp queue i)
leaves s before h n p stamp None queue i at a k = told_still s before h ((world_after s before).frame i) k
leaves s before h n p stamp (Some place) [] i at a k = told_still s before h ((world_after s before).frame i) k
leaves s before h n p stamp (Some place) (oldest ∷ rest) i at a k =
    let w : WorldAt = world_after s before in
    let it : LinkEnd s place.link place.role (end_with n p) = place_end s n p place at in
    told_if s (h ∷ before) (i == (w.departed + 1)) (Some _) (w.frame i) (
      record {
        older = before;
        came = newest before h;
        end = end_with n p;
        end_is = end_is s place.link place.role it.link it.there ∙ ap Some it.end_is;
        time = refl;
        moment = refl;
        stamp = near (stamp -ℤ reading w n) (of_node (λ node. node.e_tx) s n) a.0;
        young = young w.time oldest.at (frame_life s.cfg) a.1.0;
        carried = not-false (has_carrier s w place.link) a.1.1.0;
        due = refl;
      },
      tt,
    )
    (told_still s before h (w.frame i) k)

-- an arrival

other_end : (s : Setting) (before : List Happened) (f : FrameAt) → DepartedSo s before f → (end : End) × (end_at s f.link (other_of f.by) ≡ Some end)
other_end s before f k =
    let it : LinkEnd s f.link f.by k.end = link_end s f.link f.by k.end k.end_is in
    (end_of (other_of f.by) it.link, end_is s f.link (other_of f.by) it.link it.there)

comes_now : ArrivalKeepsStampBound → (s : Setting) (before : List Happened) (h : Happened) (says : Result PtpMsg FrameFault) (j i : ℕ) (raw : Raw) (f g : FrameAt) (gone : Bool) (o : Option Arrival) →
    Accepts s (world_after s before) says (Arrive j raw) → (world_after s before).frame j ≡ Some g → (world_after s before).frame i ≡ Some f → i ≡ j → f ≡ g → DepartedSo s before f →
    has_carrier s (world_after s before) f.link ≡ true →
    ArrivedSo s (h ∷ before) (with_end f gone o) (record { raw = raw; sample = samples_at s (world_after s before) g; at = (world_after s before).time; moment = (world_after s before).count })
comes_now bound s before h says j i raw f g gone o a is_g is_f same alike k c =
    let w : WorldAt = world_after s before in
    let it : (end : End) × (end_at s f.link (other_of f.by) ≡ Some end) = other_end s before f k in
    record {
      older = before;
      came = newest before h;
      end = it.0;
      end_is = it.1;
      time = refl;
      moment = refl;
      raw = bound s w says j raw f it.0 a (ap w.frame (sym same) ∙ is_f) it.1;
      sample =
          ap (samples_at s w) (sym alike) ∙ ap (λ t. option_map_or (λ (end : End). (w.clock end.node).samples) t 0) it.1;
      carried = c;
    }

arrives_by : ArrivalKeepsStampBound → (s : Setting) (before : List Happened) (h : Happened) (says : Result PtpMsg FrameFault) (j i : ℕ) (raw : Raw) (f g : FrameAt) (gone b : Bool) → (i == j) ≡ b →
    Accepts s (world_after s before) says (Arrive j raw) → (world_after s before).frame j ≡ Some g → (world_after s before).frame i ≡ Some f → (i ≡ j → has_carrier s (world_after s before) f.link ≡ true) →
    Told s before (Some f) →
    Told s (h ∷ before)
    (Some (if b then record f { arrival = Some (record { raw = raw; sample = samples_at s (world_after s before) g; at = (world_after s before).time; moment = (world_after s before).count }) } else record f { gone = gone }))
arrives_by bound s before h says j i raw f g gone true e a is_g is_f c k =
    let same : i ≡ j = eqb-true i j e in
    let alike : f ≡ g = same_Some f g (sym is_f ∙ ap (world_after s before).frame same ∙ is_g) in
    (departed_more s before h f f.gone _ k.0, comes_now bound s before h says j i raw f g f.gone _ a is_g is_f same alike k.0 (c same))
arrives_by bound s before h says j i raw f g gone false e a is_g is_f c k = told_more s before h f gone k

carried_of : (s : Setting) (w : WorldAt) (j : ℕ) (raw : Raw) (b : Bool) (g : FrameAt) → AllHold (arrive_checks s w j raw b (Some g)) → has_carrier s w g.link ≡ true
carried_of s w j raw true g a = not-false (has_carrier s w g.link) (all_right Holds (received s w g raw) (needs (has_carrier s w g.link) ∷ []) a.1).0
carried_of s w j raw false g a = absurd (true≢false a.0)

arrives : ArrivalKeepsStampBound → (s : Setting) (before : List Happened) (h : Happened) (says : Result PtpMsg FrameFault) (j i : ℕ) (raw : Raw) (o p : Option FrameAt) →
    Accepts s (world_after s before) says (Arrive j raw) → (world_after s before).frame j ≡ o → (world_after s before).frame i ≡ p → Told s before p →
    Told s (h ∷ before) (arrived s (world_after s before) j raw o i p)
arrives bound s before h says j i raw (Some g) (Some f) a is_g is_f k =
    let w : WorldAt = world_after s before in
    arrives_by bound s before h says j i raw f g _ (i == j) refl a is_g is_f
    (λ same.
    let alike : g ≡ f = same_Some g f (sym is_g ∙ ap w.frame (sym same) ∙ is_f) in
    subst (λ (x : FrameAt). has_carrier s w x.link ≡ true) alike
    (carried_of s w j raw (is_on_fibre (w.frame j)) g (subst (λ x. AllHold (arrive_checks s w j raw (is_on_fibre (w.frame j)) x)) is_g a))) k
arrives bound s before h says j i raw None None a is_g is_f k = tt
arrives bound s before h says j i raw None (Some f) a is_g is_f k = told_still s before h (Some f) k
arrives bound s before h says j i raw (Some g) None a is_g is_f k = tt

-- every event

step_told : ArrivalKeepsStampBound → (s : Setting) (before : List Happened) (h : Happened) (e : Event) (i : ℕ) → Accepts s (world_after s before) h.says e → Told s before ((world_after s before).frame i) →
    Told s (h ∷ before) (frame_after s (world_after s before) e i)
step_told bound s before h (Depart n p stamp) i a k =
    leaves s before h n p stamp (place_of s n p) (waiting_at (world_after s before) (place_of s n p)) i refl a k
step_told bound s before h (Arrive j raw) i a k =
    arrives bound s before h h.says j i raw ((world_after s before).frame j) ((world_after s before).frame i) a refl refl k
step_told bound s before h (Pass dt drifts fibres) i a k = told_removed s before h (Pass dt drifts fibres) ((world_after s before).frame i) k
step_told bound s before h (Tick n) i a k = told_removed s before h (Tick n) ((world_after s before).frame i) k
step_told bound s before h (Sample n base bits) i a k = told_removed s before h (Sample n base bits) ((world_after s before).frame i) k
step_told bound s before h (Deliver j) i a k = told_removed s before h (Deliver j) ((world_after s before).frame i) k
step_told bound s before h (Noise n p octets raw) i a k = told_removed s before h (Noise n p octets raw) ((world_after s before).frame i) k
step_told bound s before h (Down n) i a k = told_removed s before h (Down n) ((world_after s before).frame i) k
step_told bound s before h (Up n off swaps) i a k = told_removed s before h (Up n off swaps) ((world_after s before).frame i) k
step_told bound s before h (Cut l) i a k = told_removed s before h (Cut l) ((world_after s before).frame i) k
step_told bound s before h (Join l ms sm) i a k = told_removed s before h (Join l ms sm) ((world_after s before).frame i) k

frames_told : ArrivalKeepsStampBound → (s : Setting) (events : List Happened) (i : ℕ) → AllAccepted s events → Told s events ((world_after s events).frame i)
frames_told bound s [] i accepted = tt
frames_told bound s (h ∷ before) i accepted =
    let w : WorldAt = world_after s before in
    let v : WorldAt = moved s w h.event in
    subst (Told s (h ∷ before)) (sym (all_given_frame s h.answer (given_by s w v h.says h.event) v i))
    (step_told bound s before h h.event i accepted.0 (frames_told bound s before i accepted.1))

pub frames_are_stamped : ArrivalKeepsStampBound → FramesAreStamped
frames_are_stamped bound s events i f run e = subst (Told s events) e (frames_told bound s events i run.accepted)
