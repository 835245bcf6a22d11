-- A frame that arrives after the lease was renewed departed after the Announce that renewed it.
use Rattle.std.proofs.Common.{◌≡◌, ◌⊎◌, inl, inr, ◌∙◌, refl, ap, sym, subst, ℕ, ◌+◌, ◌<◌, ◌≤◌, ◌==◌, ◌&&◌, ◌||◌, nat_lt, ℤ, Bool, true, false, if◌then◌else◌, List, [], ◌∷◌, ◌++◌, length, Option, None, Some, option_map, Result, arith}
use Rattle.std.proofs.lemmas.Bool.{eqb-true, false≢true}
use Rattle.std.specs.Option.{option_or}
use Rattle.std.specs.Prelude.{IfSome}
use Rattle.std.proofs.lemmas.Option.{none-some, same_Some}
use Rattle.wrp_base.specs.declared.message.PtpMsg.{PtpMsg}
use Rattle.wrp_network.specs.declared.network.LinkCfg.{LinkCfg}
use Rattle.wrp_base.specs.declared.time.Raw.{Raw}
use Rattle.wrp_base.proofs.Lists.{append_assoc}
use Rattle.wrp_base.proofs.Naturals.{not_next}
use Rattle.wrp_frame.specs.declared.fault.FrameFault.{FrameFault}
use Rattle.wrp_course.specs.declared.event.Event.{Event}
use Rattle.wrp_course.specs.declared.event.Event.TheVariants.{Depart, Arrive, Deliver}
use Rattle.wrp_course.specs.declared.place.Place.{Place}
use Rattle.wrp_course.specs.Checks.{AllHold}
use Rattle.wrp_bound_laws.proofs.Frames.TimedQueues.{three_ways}
use Rattle.wrp_course.specs.Given.{given_by}
use Rattle.wrp_course.specs.Moved.{arrived, departing, frame_after, moved, removed, samples_at, waiting_at}
use Rattle.wrp_course.specs.Premises.{Accepts, deliver_by, deliver_checks}
use Rattle.wrp_course.specs.Run.{AllAccepted, Happened, world_after}
use Rattle.wrp_course.specs.RunLaws.{FramesHaveTimes}
use Rattle.wrp_course.specs.Runs.{IsRun}
use Rattle.wrp_course.specs.Setting.{Setting, is_role, place_of}
use Rattle.wrp_course.specs.WorldAt.{Arrival, FrameAt, Sending, WorldAt, is_on_fibre}
use Rattle.wrp_bound_laws.specs.FlightOrder.{FramesFollowTheSource}
use Rattle.wrp_bound_laws.specs.Leases.{last_renewal, renewal_in}
use Rattle.wrp_bound_laws.proofs.Frames.InOrder.{Numbered, Past, all_numbered, flies, frames_arrive_in_order, frames_depart_in_order, given_frame, on_fibre}
use Rattle.wrp_bound_laws.proofs.Sources.Renewals.{Renewal, renewal_is}
use Rattle.wrp_bound_laws.proofs.Runs.Suffixes.{count_is, older_run}

-- The event that renewed the lease last

record Handed (s : Setting) (events : List Happened) (k : ℕ) (link : LinkCfg) (x : Sending) : Type 0 where
  newer : List Happened
  hands : Happened
  older : List Happened
  splits : events ≡ newer ++ hands ∷ older
  number : ℕ
  event : hands.event ≡ Deliver number
  renewal : Renewal s (world_after s older) number k link x

by_event : (s : Setting) (w : WorldAt) (k : ℕ) (link : LinkCfg) (e : Event) (x : Sending) → renewal_in s w k link e ≡ Some x → (i : ℕ) × (e ≡ Deliver i) × Renewal s w i k link x
by_event s w k link (Deliver i) x e = (i, refl, renewal_is s w i k link x e)
by_event s w k link other x e = absurd (none-some x e)

first_or : (o p : Option Sending) (x : Sending) → option_or o p ≡ Some x → (o ≡ Some x) ⊎ (p ≡ Some x)
first_or (Some y) p x e = inl e
first_or None p x e = inr e

handed : (s : Setting) (events : List Happened) (k : ℕ) (link : LinkCfg) (x : Sending) → last_renewal s k link events ≡ Some x → Handed s events k link x
handed s [] k link x e = absurd (none-some x e)
handed s (h ∷ before) k link x e =
    elim (first_or (renewal_in s (world_after s before) k link h.event) (last_renewal s k link before) x e) [
      | inl now ↦
          let it : (i : ℕ) × (h.event ≡ Deliver i) × Renewal s (world_after s before) i k link x = by_event s (world_after s before) k link h.event x now in
          record { newer = []; hands = h; older = before; splits = refl; number = it.0; event = it.1; renewal = it.2 }
      | inr old ↦
          let it : Handed s before k link x = handed s before k link x old in
          record { newer = h ∷ it.newer; hands = it.hands; older = it.older; splits = ap (λ l. h ∷ l) it.splits; number = it.number; event = it.event; renewal = it.renewal }
    ]

-- what is handed over had arrived
had_arrived : (s : Setting) (w : WorldAt) (i : ℕ) (f : FrameAt) (o : Option Arrival) → AllHold (deliver_by s w i f o) → (a : Arrival) × (o ≡ Some a)
had_arrived s w i f None h = absurd (false≢true (sym h.1.0))
had_arrived s w i f (Some a) h = (a, refl)

-- A frame is kept

-- except that it may arrive, or be gone
abbrev KeptAs : FrameAt → Option FrameAt → Type 0
KeptAs f None = ⊥
KeptAs f (Some g) = (g.link ≡ f.link) × (g.by ≡ f.by) × (g.sending ≡ f.sending) × (g.moment ≡ f.moment) × ((a : Arrival) → f.arrival ≡ Some a → g.arrival ≡ Some a)

kept_removed : (s : Setting) (e : Event) (f : FrameAt) (o : Option FrameAt) → KeptAs f o → KeptAs f (option_map (removed s e) o)
kept_removed s e f None h = h
kept_removed s e f (Some g) h = h

kept_where : (f new : FrameAt) (b : Bool) (o : Option FrameAt) → (b ≡ true → ⊥) → KeptAs f o → KeptAs f (if b then Some new else o)
kept_where f new true o h k = absurd (h refl)
kept_where f new false o h k = k

numbered_of : (f : FrameAt) (departed count i : ℕ) (o : Option FrameAt) → KeptAs f o → Numbered departed count i o → i ≤ departed
numbered_of f departed count i None k h = absurd k
numbered_of f departed count i (Some g) k h = h.0

kept_departing : (w : WorldAt) (f : FrameAt) (place : Option Place) (stamp : ℤ) (queue : List Sending) (i : ℕ) → i ≤ w.departed → KeptAs f (w.frame i) → KeptAs f (departing w place stamp queue i)
kept_departing w f None stamp queue i le h = h
kept_departing w f (Some place) stamp [] i le h = h
kept_departing w f (Some place) stamp (oldest ∷ rest) i le h = kept_where f _ (i == (w.departed + 1)) (w.frame i) (not_next i w.departed le) h

kept_either : (s : Setting) (w : WorldAt) (m : ℕ) (raw : Raw) (f x g : FrameAt) (i : ℕ) (b : Bool) → (b ≡ true → g.arrival ≡ None) → KeptAs f (Some g) →
    KeptAs f (Some (if b then record g { arrival = Some (record { raw = raw; sample = samples_at s w x; at = w.time; moment = w.count }) } else record g { gone = g.gone || (is_on_fibre (Some g) && (nat_lt i m && ((g.link == x.link) && is_role g.by x.by))) }))
kept_either s w m raw f x g i true h k = (k.0, k.1, k.2, k.3, λ a e. absurd (none-some a (sym (h refl) ∙ k.4 a e)))
kept_either s w m raw f x g i false h k = k

kept_arrived : (s : Setting) (w : WorldAt) (says : Result PtpMsg FrameFault) (m : ℕ) (raw : Raw) (f : FrameAt) (i : ℕ) (q o : Option FrameAt) → Accepts s w says (Arrive m raw) → w.frame i ≡ o → KeptAs f o → KeptAs f (arrived s w m raw q i o)
kept_arrived s w says m raw f i None o a at h = h
kept_arrived s w says m raw f i (Some x) None a at h = h
kept_arrived s w says m raw f i (Some x) (Some g) a at h =
    kept_either s w m raw f x g i (i == m)
    (λ e. (flies g (ap is_on_fibre (sym at ∙ ap w.frame (eqb-true i m e)) ∙ on_fibre s w m raw (is_on_fibre (w.frame m)) (w.frame m) a)).1) h

kept_event : (s : Setting) (w : WorldAt) (says : Result PtpMsg FrameFault) (e : Event) (f : FrameAt) (i : ℕ) → Accepts s w says e → Numbered w.departed w.count i (w.frame i) → KeptAs f (w.frame i) → KeptAs f (frame_after s w e i)
kept_event s w says (Depart n p stamp) f i a n1 h = kept_departing w f (place_of s n p) stamp (waiting_at w (place_of s n p)) i (numbered_of f w.departed w.count i (w.frame i) h n1) h
kept_event s w says (Arrive m raw) f i a n1 h = kept_arrived s w says m raw f i (w.frame m) (w.frame i) a refl h
kept_event s w says e f i a n1 h = kept_removed s e f (w.frame i) h

kept_on : (s : Setting) (newer older : List Happened) (f : FrameAt) (i : ℕ) → AllAccepted s (newer ++ older) → KeptAs f ((world_after s older).frame i) → KeptAs f ((world_after s (newer ++ older)).frame i)
kept_on s [] older f i a h = h
kept_on s (x ∷ newer) older f i a h =
    let before : List Happened = newer ++ older in
    let w : WorldAt = world_after s before in
    subst (KeptAs f) (sym (given_frame s x.answer (given_by s w (moved s w x.event) x.says x.event) (moved s w x.event) i).0)
    (kept_event s w x.says x.event f i a.0 (all_numbered s before i) (kept_on s newer older f i a.1 h))

-- The order

kept_frame : (f : FrameAt) (o : Option FrameAt) → KeptAs f o → (g : FrameAt) × (o ≡ Some g) × KeptAs f (Some g)
kept_frame f None h = absurd h
kept_frame f (Some g) h = (g, refl, h)

past_of : (departed count i : ℕ) (f : FrameAt) (a : Arrival) → f.arrival ≡ Some a → Numbered departed count i (Some f) → a.moment < count
past_of departed count i f a e h = subst (Past count) e h.2

some_less : (a b c d e : ℕ) → a < b → b ≡ c → c + 1 ≤ d → d ≤ e + 1 → e < a → ⊥
some_less a b c d e h1 h2 h3 h4 h5 = omega (arith, h1, h2, h3, h4, h5)

some_same : (a b c d e : ℕ) → a < b → b ≡ c → c + 1 ≤ d → d ≤ e + 1 → e ≡ a → ⊥
some_same a b c d e h1 h2 h3 h4 h5 = omega (arith, h1, h2, h3, h4, h5)

both_less : (a b c d : ℕ) → a ≡ b → b ≤ c → c < d → a ≤ d
both_less a b c d e h k = omega (arith, e, h, k)

rest_length : (a : List Happened) (x : Happened) (b : List Happened) → length b + 1 ≤ length (a ++ x ∷ b)
rest_length [] x b = omega arith
rest_length (y ∷ a) x b = let h : length b + 1 ≤ length (a ++ x ∷ b) = rest_length a x b in omega (arith, h)

-- the arrivals of two frames of which one is before the other
arrives_first : (o p : Option Arrival) (a b : Arrival) → o ≡ Some a → p ≡ Some b → IfSome o (λ x. IfSome p (λ y. x.moment < y.moment)) → a.moment < b.moment
arrives_first (Some x) (Some y) a b e f h = subst (λ z. z.moment < b.moment) (same_Some x a e) (subst (λ z. x.moment < z.moment) (same_Some y b f) h)
arrives_first None p a b e f h = absurd (none-some a e)
arrives_first (Some x) None a b e f h = absurd (none-some b f)

pub frames_follow_the_source : FramesHaveTimes → FramesFollowTheSource
frames_follow_the_source times s since earlier k link source j g b run at_j link_is by_is arrival late =
    let events : List Happened = since ++ earlier in
    let it : Handed s earlier k link source.announce = handed s earlier k link source.announce source.renewed in
    let was : List Happened = it.older in
    let w : WorldAt = world_after s was in
    let i : ℕ = it.number in
    let f : FrameAt = it.renewal.frame in
    let whole : events ≡ (since ++ it.newer) ++ (it.hands ∷ was) = ap (λ l. since ++ l) it.splits ∙ sym (append_assoc since it.newer (it.hands ∷ was)) in
    let run_there : IsRun s (it.hands ∷ was) = older_run s (since ++ it.newer) (it.hands ∷ was) (subst (IsRun s) whole run) in
    let accepted : Accepts s w it.hands.says (Deliver i) = subst (Accepts s w it.hands.says) it.event run_there.accepted.0 in
    let came : (a : Arrival) × (f.arrival ≡ Some a) = had_arrived s w i f f.arrival (subst (λ o. AllHold (deliver_checks s w i o)) it.renewal.there accepted) in
    let early : came.0.moment < w.count = past_of w.departed w.count i f came.0 came.1 (subst (Numbered w.departed w.count i) it.renewal.there (all_numbered s was i)) in
    let start : KeptAs f (w.frame i) = subst (KeptAs f) (sym it.renewal.there) (refl, refl, refl, refl, λ a e. e) in
    let kept_there : KeptAs f ((world_after s ((since ++ it.newer) ++ (it.hands ∷ was))).frame i) =
    subst (λ l. KeptAs f ((world_after s l).frame i)) (append_assoc (since ++ it.newer) (it.hands ∷ []) was)
    (kept_on s ((since ++ it.newer) ++ (it.hands ∷ [])) was f i (subst (AllAccepted s) (whole ∙ sym (append_assoc (since ++ it.newer) (it.hands ∷ []) was)) run.accepted) start) in
    let kept : KeptAs f ((world_after s events).frame i) = subst (λ l. KeptAs f ((world_after s l).frame i)) (sym whole) kept_there in
    let now : (x : FrameAt) × ((world_after s events).frame i ≡ Some x) × KeptAs f (Some x) = kept_frame f ((world_after s events).frame i) kept in
    let arrived_then : now.0.arrival ≡ Some came.0 = now.2.4 came.0 came.1 in
    let count : w.count ≡ length was = count_is s was in
    let shorter : length was + 1 ≤ length earlier = subst (λ l. length was + 1 ≤ length l) (sym it.splits) (rest_length it.newer it.hands was) in
    let same_link : now.0.link ≡ g.link = now.2.0 ∙ it.renewal.link_is ∙ sym link_is in
    let same_by : now.0.by ≡ g.by = now.2.1 ∙ it.renewal.by_is ∙ sym by_is in
    elim (three_ways i j) [
      | inl less ↦
          both_less (length source.older) now.0.sending.moment now.0.moment g.moment
          (sym source.moment ∙ ap (λ (x : Sending). x.moment) (sym it.renewal.sending_is) ∙ ap (λ (x : Sending). x.moment) (sym now.2.2))
          (times s events i now.0 run now.1).sent_before
          (frames_depart_in_order s events i j now.0 g run now.1 at_j less)
      | inr more ↦ elim more [
        | inl same ↦
            let one : now.0 ≡ g = same_Some now.0 g (sym now.1 ∙ ap (world_after s events).frame same ∙ at_j) in
            let alike : came.0 ≡ b = same_Some came.0 b (sym arrived_then ∙ ap (λ (x : FrameAt). x.arrival) one ∙ arrival) in
            absurd (some_same came.0.moment w.count (length was) (length earlier) b.moment early count shorter late (ap (λ (x : Arrival). x.moment) (sym alike)))
        | inr greater ↦
            absurd (some_less came.0.moment w.count (length was) (length earlier) b.moment early count shorter late
            (arrives_first g.arrival now.0.arrival b came.0 arrival arrived_then (frames_arrive_in_order s events j i g now.0 run at_j now.1 greater (sym same_link) (sym same_by))))
      ]
    ]
