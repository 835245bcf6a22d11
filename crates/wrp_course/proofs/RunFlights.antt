-- When frames were put out, departed and arrived, after every event of every run.
use Rattle.std.proofs.Common.{◌≡◌, ◌⊎◌, inl, inr, refl, sym, subst, ℕ, ◌+◌, ◌==◌, ◌&&◌, ◌||◌, ◌≤◌, ℤ, pos, ◌-ℤ◌, ◌≤ℤ◌, not, nat_lt, unsigned_abs, Bool, true, false, if◌then◌else◌, List, [], ◌∷◌, map, Option, None, Some, IfSome, option_map, Result, arith}
use Rattle.std.proofs.lemmas.Bool.{eqb-true, true≢false}
use Rattle.std.proofs.lemmas.Int.{ints}
use Rattle.std.specs.Int.Signed.{le_z}
use Rattle.wrp_base.specs.declared.link.Role.{Role}
use Rattle.wrp_base.specs.declared.message.PtpMsg.{PtpMsg}
use Rattle.wrp_base.specs.declared.time.Raw.{Raw}
use Rattle.wrp_base.proofs.Integers.{int_le_self, int_le_trans}
use Rattle.wrp_base.proofs.Naturals.{le_one_more, nat_le_self, nat_le_trans}
use Rattle.wrp_frame.specs.declared.fault.FrameFault.{FrameFault}
use Rattle.wrp_course.specs.declared.event.Event.{Event}
use Rattle.wrp_course.specs.declared.event.Event.TheVariants.{Pass, Tick, Sample, Depart, Arrive, Deliver, Noise, Down, Up, Cut, Join}
use Rattle.wrp_course.specs.declared.place.Place.{Place}
use Rattle.wrp_course.specs.Checks.{AllHold}
use Rattle.wrp_course.specs.EventAt.{IsEventOf}
use Rattle.wrp_course.specs.Given.{Given, given_by, gives, gives_all, put_out, sending, step_of}
use Rattle.wrp_course.specs.Moved.{arrived, departing, frame_after, moved, removed, samples_at, waiting_at}
use Rattle.wrp_course.specs.Premises.{Accepts, arrive_checks}
use Rattle.wrp_course.specs.Run.{AllAccepted, Happened, world_after}
use Rattle.wrp_course.specs.RunLaws.{FramesHaveTimes, FramesWerePutOut, HasTimes}
use Rattle.wrp_course.specs.Runs.{AllEvents, WasPutOut}
use Rattle.wrp_course.specs.Setting.{Setting, end_at, is_role, place_of}
use Rattle.wrp_course.specs.WorldAt.{Arrival, FrameAt, Sending, WorldAt, is_on_fibre}
use Rattle.wrp_course.proofs.RunFrames.{FrameOf, FramesKeep, all_given_frames, moved_frames, moved_sent, queue_known, told_either}
use Rattle.wrp_course.proofs.RunTimes.{moved_time}

-- Later

abbrev Came : (now : ℤ) (count : ℕ) → FrameAt → Arrival → Type 0
Came now count f a = (f.at ≤ℤ a.at) × (a.at ≤ℤ now) × (f.moment ≤ a.moment) × (a.moment ≤ count) × (a.at ≡ f.due)

came_later : (now past : ℤ) (count more : ℕ) (f : FrameAt) (o : Option Arrival) → now ≤ℤ past → count ≤ more → IfSome o (Came now count f) → IfSome o (Came past more f)
came_later now past count more f None t c h = tt
came_later now past count more f (Some a) t c h = (h.0, int_le_trans a.at now past h.1 t, h.2, nat_le_trans a.moment count more h.3 c, h.4)

times_later : (w v : WorldAt) (f : FrameAt) → w.time ≤ℤ v.time → w.count ≤ v.count → HasTimes w f → HasTimes v f
times_later w v f t c h = record {
  sent = h.sent;
  sent_before = h.sent_before;
  departed = int_le_trans f.at w.time v.time h.departed t;
  departed_before = nat_le_trans f.moment w.count v.count h.departed_before c;
  arrived = came_later w.time v.time w.count v.count f f.arrival t c h.arrived;
}

-- What is kept

abbrev Timed : WorldAt → Sending → Type 0
Timed w x = (x.at ≤ℤ w.time) × (x.moment ≤ w.count)

abbrev FrameTimed : WorldAt → Option FrameAt → Type 0
FrameTimed w None = Unit {0}
FrameTimed w (Some f) = HasTimes w f

pub record TimesKeep (w : WorldAt) : Type 0 where
  pub known : FramesKeep w
  pub sent : (k : ℕ) (r : Role) (x : Sending) → WasPutOut x (w.end_at k r).sent → Timed w x
  pub frames : (i : ℕ) → FrameTimed w (w.frame i)

-- One input

pub put_either : (x : Sending) (ms sent : List Sending) → WasPutOut x (put_out ms sent) → WasPutOut x ms ⊎ WasPutOut x sent
put_either x [] sent h = inr h
put_either x (m ∷ ms) sent h = elim (put_either x ms (m ∷ sent) h) [
  | inl a ↦ inl (inr a)
  | inr b ↦ elim b [ inl e ↦ inl (inl e) | inr t ↦ inr t ]
]

new_timed : (v : WorldAt) (x : Sending) (ms : List PtpMsg) → WasPutOut x (map (sending v) ms) → Timed v x
new_timed v x [] h = absurd h
new_timed v x (m ∷ ms) h = elim h [
  | inl e ↦ subst (Timed v) (sym e) (int_le_self v.time, nat_le_self v.count)
  | inr t ↦ new_timed v x ms t
]

put_timed : (v : WorldAt) (x : Sending) (ms : List PtpMsg) (sent : List Sending) → (WasPutOut x sent → Timed v x) → WasPutOut x (put_out (map (sending v) ms) sent) → Timed v x
put_timed v x ms sent h p = elim (put_either x (map (sending v) ms) sent p) [ inl a ↦ new_timed v x ms a | inr b ↦ h b ]

given_sent : (s : Setting) (y : ℤ) (v : WorldAt) (g : Given) (k : ℕ) (r : Role) (x : Sending) → (WasPutOut x (v.end_at k r).sent → Timed v x) → WasPutOut x ((gives s y v g).end_at k r).sent → Timed v x
given_sent s y v g k r x h =
    told_either (λ e. WasPutOut x e.sent → Timed v x) s v g (step_of s y v g) k r (end_at s k r) h
    (λ end. put_timed v x ((step_of s y v g).sends end.port) (v.end_at k r).sent h)

frame_given : (s : Setting) (y : ℤ) (v : WorldAt) (g : Given) (o : Option FrameAt) → FrameTimed v o → FrameTimed (gives s y v g) o
frame_given s y v g None h = tt
frame_given s y v g (Some f) h = times_later v (gives s y v g) f (int_le_self v.time) (nat_le_self v.count) h

all_given_times : (s : Setting) (y : ℤ) (gs : List Given) (v : WorldAt) → TimesKeep v → TimesKeep (gives_all s y v gs)
all_given_times s y [] v h = h
all_given_times s y (g ∷ gs) v h =
    all_given_times s y gs (gives s y v g)
    (record {
      known = all_given_frames s y (g ∷ []) v h.known;
      sent = λ k r x p. given_sent s y v g k r x (h.sent k r x) p;
      frames = λ i. frame_given s y v g (v.frame i) (h.frames i);
    })

-- What an event changes by itself

at_due : (now due : ℤ) → not (le_z (pos (unsigned_abs (now -ℤ due))) (pos 0)) ≡ false → now ≡ due
at_due now due h = grind (arith, ints, h)

frame_if : (v : WorldAt) (b : Bool) (o p : Option FrameAt) → FrameTimed v o → FrameTimed v p → FrameTimed v (if b then o else p)
frame_if v true o p x y = x
frame_if v false o p x y = y

leaves : (w v : WorldAt) (place : Option Place) (stamp : ℤ) (i : ℕ) (queue : List Sending) → w.time ≤ℤ v.time → w.count ≤ v.count →
    ((x : Sending) (z : Place) → place ≡ Some z → WasPutOut x queue → Timed w x) → FrameTimed v (w.frame i) → FrameTimed v (departing w place stamp queue i)
leaves w v None stamp i queue t c h old = old
leaves w v (Some place) stamp i [] t c h old = old
leaves w v (Some place) stamp i (oldest ∷ rest) t c h old =
    let known : Timed w oldest = h oldest place refl (inl refl) in
    frame_if v (i == (w.departed + 1)) (Some _) (w.frame i) (record { sent = known.0; sent_before = known.1; departed = t; departed_before = c; arrived = tt }) old

-- a frame that arrives, or another
comes : (v : WorldAt) (f : FrameAt) (b : Bool) (a : Arrival) (gone : Bool) → HasTimes v f → (b ≡ true → Came v.time v.count f a) → HasTimes v (if b then record f { arrival = Some a } else record f { gone = gone })
comes v f true a gone h k = record { sent = h.sent; sent_before = h.sent_before; departed = h.departed; departed_before = h.departed_before; arrived = k refl }
comes v f false a gone h k = record { sent = h.sent; sent_before = h.sent_before; departed = h.departed; departed_before = h.departed_before; arrived = h.arrived }

abbrev due_of : Option FrameAt → ℤ → Type 0
due_of None now = Unit {0}
due_of (Some f) now = now ≡ f.due

comes_due : (s : Setting) (w : WorldAt) (j : ℕ) (raw : Raw) (b : Bool) (o : Option FrameAt) → AllHold (arrive_checks s w j raw b o) → due_of o w.time
comes_due s w j raw true None a = tt
comes_due s w j raw true (Some f) a = at_due w.time f.due a.0
comes_due s w j raw false None a = tt
comes_due s w j raw false (Some f) a = absurd (true≢false a.0)

came_now : (s : Setting) (w v : WorldAt) (j : ℕ) (raw : Raw) (g f : FrameAt) (i : ℕ) → w.time ≤ℤ v.time → w.count ≤ v.count → HasTimes w f → (i ≡ j → w.time ≡ f.due) → (i == j) ≡ true →
    Came v.time v.count f (record { raw = raw; sample = samples_at s w g; at = w.time; moment = w.count })
came_now s w v j raw g f i t c h d b = (h.departed, t, h.departed_before, c, d (eqb-true i j b))

arrived_timed : (s : Setting) (w v : WorldAt) (j : ℕ) (raw : Raw) (g : Option FrameAt) (i : ℕ) (o : Option FrameAt) → w.time ≤ℤ v.time → w.count ≤ v.count → FrameTimed w o → (i ≡ j → due_of o w.time) →
    FrameTimed v (arrived s w j raw g i o)
arrived_timed s w v j raw (Some g) i (Some f) t c h d =
    comes v f (i == j) (record { raw = raw; sample = samples_at s w g; at = w.time; moment = w.count })
    (f.gone || (is_on_fibre (Some f) && (nat_lt i j && ((f.link == g.link) && is_role f.by g.by)))) (times_later w v f t c h) (came_now s w v j raw g f i t c h d)
arrived_timed s w v j raw None i None t c h d = tt
arrived_timed s w v j raw None i (Some f) t c h d = times_later w v f t c h
arrived_timed s w v j raw (Some g) i None t c h d = tt

removed_timed : (s : Setting) (w v : WorldAt) (e : Event) (o : Option FrameAt) → w.time ≤ℤ v.time → w.count ≤ v.count → FrameTimed w o → FrameTimed v (option_map (removed s e) o)
removed_timed s w v e None t c h = tt
removed_timed s w v e (Some f) t c h =
    let k : HasTimes v f = times_later w v f t c h in
    record { sent = k.sent; sent_before = k.sent_before; departed = k.departed; departed_before = k.departed_before; arrived = k.arrived }

stays_timed : (w v : WorldAt) (o : Option FrameAt) → w.time ≤ℤ v.time → w.count ≤ v.count → FrameTimed w o → FrameTimed v o
stays_timed w v None t c h = tt
stays_timed w v (Some f) t c h = times_later w v f t c h

frame_timed : (s : Setting) (w : WorldAt) (says : Result PtpMsg FrameFault) (e : Event) (i : ℕ) → IsEventOf s.cfg e → Accepts s w says e → TimesKeep w → FrameTimed (moved s w e) (frame_after s w e i)
frame_timed s w says (Depart n p stamp) i event a h =
    leaves w (moved s w (Depart n p stamp)) (place_of s n p) stamp i (waiting_at w (place_of s n p)) (int_le_self w.time) (le_one_more w.count)
    (λ x z e q. h.sent z.link z.role x (queue_known w h.known.waits (place_of s n p) x z e q))
    (stays_timed w (moved s w (Depart n p stamp)) (w.frame i) (int_le_self w.time) (le_one_more w.count) (h.frames i))
frame_timed s w says (Arrive j raw) i event a h =
    arrived_timed s w (moved s w (Arrive j raw)) j raw (w.frame j) i (w.frame i) (int_le_self w.time) (le_one_more w.count) (h.frames i)
    (λ e. subst (λ x. due_of (w.frame x) w.time) (sym e) (comes_due s w j raw (is_on_fibre (w.frame j)) (w.frame j) a))
frame_timed s w says (Pass dt drifts fibres) i event a h =
    removed_timed s w (moved s w (Pass dt drifts fibres)) (Pass dt drifts fibres) (w.frame i) (moved_time s w (Pass dt drifts fibres) event) (le_one_more w.count) (h.frames i)
frame_timed s w says (Tick n) i event a h =
    removed_timed s w (moved s w (Tick n)) (Tick n) (w.frame i) (moved_time s w (Tick n) event) (le_one_more w.count) (h.frames i)
frame_timed s w says (Sample n base bits) i event a h =
    removed_timed s w (moved s w (Sample n base bits)) (Sample n base bits) (w.frame i) (moved_time s w (Sample n base bits) event) (le_one_more w.count) (h.frames i)
frame_timed s w says (Deliver j) i event a h =
    removed_timed s w (moved s w (Deliver j)) (Deliver j) (w.frame i) (moved_time s w (Deliver j) event) (le_one_more w.count) (h.frames i)
frame_timed s w says (Noise n p octets raw) i event a h =
    removed_timed s w (moved s w (Noise n p octets raw)) (Noise n p octets raw) (w.frame i) (moved_time s w (Noise n p octets raw) event) (le_one_more w.count) (h.frames i)
frame_timed s w says (Down n) i event a h =
    removed_timed s w (moved s w (Down n)) (Down n) (w.frame i) (moved_time s w (Down n) event) (le_one_more w.count) (h.frames i)
frame_timed s w says (Up n off swaps) i event a h =
    removed_timed s w (moved s w (Up n off swaps)) (Up n off swaps) (w.frame i) (moved_time s w (Up n off swaps) event) (le_one_more w.count) (h.frames i)
frame_timed s w says (Cut l) i event a h =
    removed_timed s w (moved s w (Cut l)) (Cut l) (w.frame i) (moved_time s w (Cut l) event) (le_one_more w.count) (h.frames i)
frame_timed s w says (Join l ms sm) i event a h =
    removed_timed s w (moved s w (Join l ms sm)) (Join l ms sm) (w.frame i) (moved_time s w (Join l ms sm) event) (le_one_more w.count) (h.frames i)

sent_later : (w v : WorldAt) (x : Sending) → w.time ≤ℤ v.time → w.count ≤ v.count → Timed w x → Timed v x
sent_later w v x t c h = (int_le_trans x.at w.time v.time h.0 t, nat_le_trans x.moment w.count v.count h.1 c)

moved_times : (s : Setting) (w : WorldAt) (says : Result PtpMsg FrameFault) (e : Event) → IsEventOf s.cfg e → Accepts s w says e → TimesKeep w → TimesKeep (moved s w e)
moved_times s w says e event a h = record {
  known = moved_frames s w e h.known;
  sent = λ k r x p. sent_later w (moved s w e) x (moved_time s w e event) (le_one_more w.count) (h.sent k r x (subst (WasPutOut x) (moved_sent s w e k r) p));
  frames = λ i. frame_timed s w says e i event a h;
}

-- Every run

pub times_keep : (s : Setting) (events : List Happened) → AllEvents s.cfg events → AllAccepted s events → TimesKeep (world_after s events)
times_keep s [] each accepted = record {
  known = record { departed = λ i. tt; waits = λ k r x p. absurd p };
  sent = λ k r x p. absurd p;
  frames = λ i. tt;
}
times_keep s (h ∷ before) each accepted =
    let w : WorldAt = world_after s before in
    all_given_times s h.answer (given_by s w (moved s w h.event) h.says h.event) (moved s w h.event)
    (moved_times s w h.says h.event each.0 accepted.0 (times_keep s before each.1 accepted.1))

pub frames_were_put_out : FramesWerePutOut
frames_were_put_out s events i f run e = subst (FrameOf (world_after s events)) e ((times_keep s events run.each run.accepted).known.departed i)

pub frames_have_times : FramesHaveTimes
frames_have_times s events i f run e = subst (FrameTimed (world_after s events)) e ((times_keep s events run.each run.accepted).frames i)
