-- A frame stays what it was when it departed, and the raw stamp of its arrival is in its ranges.
use Rattle.std.proofs.Common.{◌≡◌, ◌∙◌, refl, ap, sym, subst, ℕ, ◌+◌, ◌≤◌, ◌==◌, ◌&&◌, ◌||◌, nat_lt, ℤ, Bool, true, false, if◌then◌else◌, List, [], ◌∷◌, ◌++◌, Option, None, Some, option_map, Result}
use Rattle.std.proofs.lemmas.Bool.{eqb-true}
use Rattle.std.specs.Prelude.{IfSome}
use Rattle.std.proofs.lemmas.Option.{none-some}
use Rattle.wrp_base.specs.declared.message.PtpMsg.{PtpMsg}
use Rattle.wrp_base.specs.declared.time.Raw.{Raw}
use Rattle.wrp_base.proofs.Naturals.{not_next}
use Rattle.wrp_frame.specs.declared.fault.FrameFault.{FrameFault}
use Rattle.wrp_course.specs.declared.event.Event.{Event}
use Rattle.wrp_course.specs.declared.event.Event.TheVariants.{Depart, Arrive}
use Rattle.wrp_course.specs.declared.place.Place.{Place}
use Rattle.wrp_course.specs.EventAt.{IsEventOf, IsRaw}
use Rattle.wrp_course.specs.Given.{given_by}
use Rattle.wrp_course.specs.Moved.{arrived, departing, frame_after, moved, removed, samples_at, waiting_at}
use Rattle.wrp_course.specs.Premises.{Accepts}
use Rattle.wrp_course.specs.Run.{AllAccepted, Happened, world_after}
use Rattle.wrp_course.specs.Runs.{AllEvents, IsRun}
use Rattle.wrp_course.specs.Setting.{Setting, is_role, place_of}
use Rattle.wrp_course.specs.WorldAt.{Arrival, FrameAt, Sending, WorldAt, is_on_fibre}
use Rattle.wrp_bound_laws.proofs.Frames.InOrder.{Numbered, all_numbered, flies, given_frame, on_fibre}

-- A frame later

-- it is the same, except that it may arrive, or be gone
abbrev pub LaterIs : FrameAt → Option FrameAt → Type 0
LaterIs f None = ⊥
LaterIs f (Some g) = (g.link ≡ f.link) × (g.by ≡ f.by) × (g.sending ≡ f.sending) × (g.stamp ≡ f.stamp) × (g.moment ≡ f.moment) × (g.at ≡ f.at) × ((a : Arrival) → f.arrival ≡ Some a → g.arrival ≡ Some a)

later_removed : (s : Setting) (e : Event) (f : FrameAt) (o : Option FrameAt) → LaterIs f o → LaterIs f (option_map (removed s e) o)
later_removed s e f None h = h
later_removed s e f (Some g) h = h

later_where : (f new : FrameAt) (b : Bool) (o : Option FrameAt) → (b ≡ true → ⊥) → LaterIs f o → LaterIs f (if b then Some new else o)
later_where f new true o h k = absurd (h refl)
later_where f new false o h k = k

numbered_of : (f : FrameAt) (departed count i : ℕ) (o : Option FrameAt) → LaterIs f o → Numbered departed count i o → i ≤ departed
numbered_of f departed count i None k h = absurd k
numbered_of f departed count i (Some g) k h = h.0

later_departing : (w : WorldAt) (f : FrameAt) (place : Option Place) (stamp : ℤ) (queue : List Sending) (i : ℕ) → i ≤ w.departed → LaterIs f (w.frame i) → LaterIs f (departing w place stamp queue i)
later_departing w f None stamp queue i le h = h
later_departing w f (Some place) stamp [] i le h = h
later_departing w f (Some place) stamp (oldest ∷ rest) i le h = later_where f _ (i == (w.departed + 1)) (w.frame i) (not_next i w.departed le) h

later_either : (s : Setting) (w : WorldAt) (m : ℕ) (raw : Raw) (f x g : FrameAt) (i : ℕ) (b : Bool) → (b ≡ true → g.arrival ≡ None) → LaterIs f (Some g) →
    LaterIs f (Some (if b then record g { arrival = Some (record { raw = raw; sample = samples_at s w x; at = w.time; moment = w.count }) } else record g { gone = g.gone || (is_on_fibre (Some g) && (nat_lt i m && ((g.link == x.link) && is_role g.by x.by))) }))
later_either s w m raw f x g i true h k = (k.0, k.1, k.2, k.3, k.4, k.5, λ a e. absurd (none-some a (sym (h refl) ∙ k.6 a e)))
later_either s w m raw f x g i false h k = k

later_arrived : (s : Setting) (w : WorldAt) (says : Result PtpMsg FrameFault) (m : ℕ) (raw : Raw) (f : FrameAt) (i : ℕ) (q o : Option FrameAt) → Accepts s w says (Arrive m raw) → w.frame i ≡ o → LaterIs f o → LaterIs f (arrived s w m raw q i o)
later_arrived s w says m raw f i None o a at h = h
later_arrived s w says m raw f i (Some x) None a at h = h
later_arrived s w says m raw f i (Some x) (Some g) a at h =
    later_either s w m raw f x g i (i == m)
    (λ e. (flies g (ap is_on_fibre (sym at ∙ ap w.frame (eqb-true i m e)) ∙ on_fibre s w m raw (is_on_fibre (w.frame m)) (w.frame m) a)).1) h

later_event : (s : Setting) (w : WorldAt) (says : Result PtpMsg FrameFault) (e : Event) (f : FrameAt) (i : ℕ) → Accepts s w says e → Numbered w.departed w.count i (w.frame i) → LaterIs f (w.frame i) → LaterIs f (frame_after s w e i)
later_event s w says (Depart n p stamp) f i a n1 h = later_departing w f (place_of s n p) stamp (waiting_at w (place_of s n p)) i (numbered_of f w.departed w.count i (w.frame i) h n1) h
later_event s w says (Arrive m raw) f i a n1 h = later_arrived s w says m raw f i (w.frame m) (w.frame i) a refl h
later_event s w says e f i a n1 h = later_removed s e f (w.frame i) h

later_since : (s : Setting) (newer older : List Happened) (f : FrameAt) (i : ℕ) → AllAccepted s (newer ++ older) → LaterIs f ((world_after s older).frame i) → LaterIs f ((world_after s (newer ++ older)).frame i)
later_since s [] older f i a h = h
later_since s (x ∷ newer) older f i a h =
    let before : List Happened = newer ++ older in
    let w : WorldAt = world_after s before in
    subst (LaterIs f) (sym (given_frame s x.answer (given_by s w (moved s w x.event) x.says x.event) (moved s w x.event) i).0)
    (later_event s w x.says x.event f i a.0 (all_numbered s before i) (later_since s newer older f i a.1 h))

-- a frame of earlier events, later
pub record Stayed (s : Setting) (events : List Happened) (i : ℕ) (f : FrameAt) : Type 0 where
  pub frame : FrameAt
  pub there : (world_after s events).frame i ≡ Some frame
  pub link : frame.link ≡ f.link
  pub by : frame.by ≡ f.by
  pub sending : frame.sending ≡ f.sending
  pub stamp : frame.stamp ≡ f.stamp
  pub moment : frame.moment ≡ f.moment
  pub at : frame.at ≡ f.at
  pub arrival : (a : Arrival) → f.arrival ≡ Some a → frame.arrival ≡ Some a

stayed_as : (s : Setting) (events : List Happened) (i : ℕ) (f : FrameAt) (o : Option FrameAt) → (world_after s events).frame i ≡ o → LaterIs f o → Stayed s events i f
stayed_as s events i f None e h = absurd h
stayed_as s events i f (Some g) e h = record { frame = g; there = e; link = h.0; by = h.1; sending = h.2; stamp = h.3; moment = h.4; at = h.5; arrival = h.6 }

pub frame_stays : (s : Setting) (newer older : List Happened) (i : ℕ) (f : FrameAt) → IsRun s (newer ++ older) → (world_after s older).frame i ≡ Some f → Stayed s (newer ++ older) i f
frame_stays s newer older i f run there =
    stayed_as s (newer ++ older) i f ((world_after s (newer ++ older)).frame i) refl
    (later_since s newer older f i run.accepted (subst (LaterIs f) (sym there) (refl, refl, refl, refl, refl, refl, λ a e. e)))

-- The raw stamps of arrivals

abbrev RawIs : Option FrameAt → Type 0
RawIs None = Unit {0}
RawIs (Some f) = IfSome f.arrival (λ a. IsRaw a.raw)

raw_removed : (s : Setting) (e : Event) (o : Option FrameAt) → RawIs o → RawIs (option_map (removed s e) o)
raw_removed s e None h = h
raw_removed s e (Some f) h = h

raw_where : (b : Bool) (o p : Option FrameAt) → RawIs o → RawIs p → RawIs (if b then o else p)
raw_where true o p h k = h
raw_where false o p h k = k

raw_departing : (w : WorldAt) (place : Option Place) (stamp : ℤ) (queue : List Sending) (i : ℕ) → RawIs (w.frame i) → RawIs (departing w place stamp queue i)
raw_departing w None stamp queue i h = h
raw_departing w (Some place) stamp [] i h = h
raw_departing w (Some place) stamp (oldest ∷ rest) i h = raw_where (i == (w.departed + 1)) (Some _) (w.frame i) tt h

raw_either : (s : Setting) (w : WorldAt) (raw : Raw) (x g : FrameAt) (gone b : Bool) → IsRaw raw → RawIs (Some g) → RawIs (Some (if b then record g { arrival = Some (record { raw = raw; sample = samples_at s w x; at = w.time; moment = w.count }) } else record g { gone = gone }))
raw_either s w raw x g gone true h k = h
raw_either s w raw x g gone false h k = k

raw_arrived : (s : Setting) (w : WorldAt) (m : ℕ) (raw : Raw) (i : ℕ) (q o : Option FrameAt) → IsRaw raw → RawIs o → RawIs (arrived s w m raw q i o)
raw_arrived s w m raw i None o h k = k
raw_arrived s w m raw i (Some x) None h k = k
raw_arrived s w m raw i (Some x) (Some g) h k = raw_either s w raw x g (g.gone || (is_on_fibre (Some g) && (nat_lt i m && ((g.link == x.link) && is_role g.by x.by)))) (i == m) h k

raw_event : (s : Setting) (w : WorldAt) (e : Event) (i : ℕ) → IsEventOf s.cfg e → RawIs (w.frame i) → RawIs (frame_after s w e i)
raw_event s w (Depart n p stamp) i of h = raw_departing w (place_of s n p) stamp (waiting_at w (place_of s n p)) i h
raw_event s w (Arrive m raw) i of h = raw_arrived s w m raw i (w.frame m) (w.frame i) of h
raw_event s w e i of h = raw_removed s e (w.frame i) h

raw_all : (s : Setting) (events : List Happened) (i : ℕ) → AllEvents s.cfg events → RawIs ((world_after s events).frame i)
raw_all s [] i each = tt
raw_all s (h ∷ before) i each =
    let w : WorldAt = world_after s before in
    subst RawIs (sym (given_frame s h.answer (given_by s w (moved s w h.event) h.says h.event) (moved s w h.event) i).0) (raw_event s w h.event i each.0 (raw_all s before i each.1))

pub arrival_raw : (s : Setting) (events : List Happened) (i : ℕ) (f : FrameAt) (a : Arrival) → IsRun s events → (world_after s events).frame i ≡ Some f → f.arrival ≡ Some a → IsRaw a.raw
arrival_raw s events i f a run there came =
    subst (λ o. IfSome o (λ (z : Arrival). IsRaw z.raw)) came (subst RawIs there (raw_all s events i run.each))
