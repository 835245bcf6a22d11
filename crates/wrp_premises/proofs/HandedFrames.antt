-- The checks of a frame that is handed over.
use Rattle.std.proofs.Common.{◌≡◌, ◌∙◌, refl, ap, sym, subst, if◌then◌else◌, ℕ, ℤ, pos, ◌-ℤ◌, Bool, true, false, [], ◌∷◌, Option, None, Some, option_map}
use Rattle.std.specs.Int.Signed.{le_z}
use Rattle.std.specs.Option.{option_or, is_some}
use Rattle.std.proofs.lemmas.Bool.{false≢true, true≢false}
use Rattle.std.proofs.lemmas.Option.{none-some, same_Some}
use Rattle.wrp_bounds.specs.Times.{frame_life}
use Rattle.wrp_flights.specs.declared.departed.Departed.{Departed}
use Rattle.wrp_flights.specs.declared.departed.Reception.{Reception}
use Rattle.wrp_flights.specs.Frames.{FramesAt, at, sent_at}
use Rattle.wrp_course.specs.Checks.{Check, breach_of, told_of, at_most, needs, not_sent}
use Rattle.wrp_course.specs.declared.breach.Breach.{Breach}
use Rattle.wrp_plant.specs.Plant.{MaybeIs, DepartedIs, ReceptionIs, FramesAre}
use Rattle.wrp_course.specs.Premises.{too_old, deliver_by, deliver_checks}
use Rattle.wrp_course.specs.Setting.{Setting}
use Rattle.wrp_course.specs.WorldAt.{WorldAt, FrameAt, Arrival, has_carrier}
use Rattle.wrp_plant.proofs.FoundFrames.{Found}
use Rattle.wrp_plant.proofs.KeptSince.{found_kept}
use Rattle.wrp_plant.proofs.KeptFrames.{not_kept, young_since_holds}
use Rattle.wrp_course.proofs.Told.{told_cons}

-- A frame that is not too old

arrived_by : (s : Setting) (w : WorldAt) (n : ℕ) (f : FrameAt) (a : Option Arrival) (r : Option Reception) (b : Option Breach) →
    MaybeIs ReceptionIs a r → is_some r ≡ true → told_of (too_old s.cfg w.time f.sending ∷ []) ≡ None →
    b ≡ told_of (needs (has_carrier s w f.link) ∷ []) → b ≡ told_of (deliver_by s w n f a)
arrived_by s w n f a None b m i e g = absurd (false≢true i)
arrived_by s w n f None (Some r) b m i e g = absurd m
arrived_by s w n f (Some a) (Some r) b m i e g =
    g ∙ ap (λ o. option_or o (told_of (needs (has_carrier s w f.link) ∷ []))) (sym e)
    ∙ sym (told_cons (too_old s.cfg w.time f.sending) (needs (has_carrier s w f.link) ∷ []))

waiting_by : (s : Setting) (w : WorldAt) (n : ℕ) (f : FrameAt) (a : Option Arrival) (r : Option Reception) (b : Option Breach) →
    MaybeIs ReceptionIs a r → is_some r ≡ false → told_of (too_old s.cfg w.time f.sending ∷ []) ≡ None →
    b ≡ told_of (not_sent n w.departed ∷ []) → b ≡ told_of (deliver_by s w n f a)
waiting_by s w n f a (Some r) b m i e g = absurd (true≢false i)
waiting_by s w n f (Some a) None b m i e g = absurd m
waiting_by s w n f None None b m i e g =
    g ∙ ap (λ o. option_or o (told_of (not_sent n w.departed ∷ []))) (sym e)
    ∙ sym (told_cons (too_old s.cfg w.time f.sending) (not_sent n w.departed ∷ []))

pub arrived_told : (s : Setting) (w : WorldAt) (n : ℕ) (f : FrameAt) (d : Departed) (b : Option Breach) → DepartedIs f d → is_some d.arrival ≡ true →
    told_of (too_old s.cfg w.time f.sending ∷ []) ≡ None →
    b ≡ told_of (needs (has_carrier s w d.link) ∷ []) → b ≡ told_of (deliver_by s w n f f.arrival)
arrived_told s w n f d b h i e g =
    arrived_by s w n f f.arrival d.arrival b h.arrival i e (g ∙ ap (λ k. told_of (needs (has_carrier s w k) ∷ [])) h.link)

pub waiting_told : (s : Setting) (w : WorldAt) (n : ℕ) (f : FrameAt) (d : Departed) (b : Option Breach) → DepartedIs f d → is_some d.arrival ≡ false →
    told_of (too_old s.cfg w.time f.sending ∷ []) ≡ None →
    b ≡ told_of (not_sent n w.departed ∷ []) → b ≡ told_of (deliver_by s w n f f.arrival)
waiting_told s w n f d b h i e g = waiting_by s w n f f.arrival d.arrival b h.arrival i e g

-- a check that is not reported holds
holds_by : (c : Check) (b : Bool) → c.fails ≡ b → option_map breach_of (if b then Some c else None) ≡ None → b ≡ false
holds_by c true e t = absurd (none-some (breach_of c) (sym t))
holds_by c false e t = refl

pub holds_told : (c : Check) → told_of (c ∷ []) ≡ None → c.fails ≡ false
holds_told c t = holds_by c c.fails refl t

-- a frame that is not too old is kept
young_since : (s : Setting) (w : WorldAt) (h : ℤ) (f : FrameAt) → h ≡ w.time -ℤ pos (frame_life s.cfg) → told_of (too_old s.cfg w.time f.sending ∷ []) ≡ None → le_z h f.sending.at ≡ true
young_since s w h f e told = young_since_holds s w h f e (holds_told (too_old s.cfg w.time f.sending) told)

pub young_found : (s : Setting) (w : WorldAt) (n : ℕ) (frames : FramesAt) (d : Departed) (f : FrameAt) → FramesAre s w frames → at n frames.kept ≡ Some d → w.frame n ≡ Some f → DepartedIs f d
young_found s w n frames d f h e k =
    let it : Found DepartedIs (w.frame n) d = found_kept frames.horizon (w.frame n) (at n frames.kept) d (h.each n) e in
    subst (λ g. DepartedIs g d) (same_Some it.one f (sym it.is ∙ k)) it.holds

pub young_missing : (s : Setting) (w : WorldAt) (n : ℕ) (frames : FramesAt) (f : FrameAt) → FramesAre s w frames → at n frames.kept ≡ None → w.frame n ≡ Some f →
    told_of (too_old s.cfg w.time f.sending ∷ []) ≡ None → ⊥
young_missing s w n frames f h e k told =
    not_kept s w n frames f h e k (young_since s w frames.horizon f h.horizon told)

-- By the time at which the frame was put out

sent_of : (o : Option FrameAt) (t : ℤ) → Some t ≡ option_map (λ f. f.sending.at) o → (f : FrameAt) × (o ≡ Some f) × (t ≡ f.sending.at)
sent_of None t e = absurd (none-some t (sym e))
sent_of (Some f) t e = (f, refl, same_Some t f.sending.at e)

pub sent_by_state : (s : Setting) (w : WorldAt) (n : ℕ) (frames : FramesAt) (t : ℤ) → FramesAre s w frames → sent_at n frames.sent ≡ Some t → (f : FrameAt) × (w.frame n ≡ Some f) × (t ≡ f.sending.at)
sent_by_state s w n frames t h e = sent_of (w.frame n) t (sym e ∙ h.sent n)

age_told : (s : Setting) (w : WorldAt) (f : FrameAt) (t : ℤ) (r : Option Breach) → t ≡ f.sending.at →
    r ≡ told_of (at_most 10 (w.time -ℤ t) (pos (frame_life s.cfg)) ∷ []) → r ≡ told_of (too_old s.cfg w.time f.sending ∷ [])
age_told s w f t r h e = e ∙ ap (λ sent. told_of (at_most 10 (w.time -ℤ sent) (pos (frame_life s.cfg)) ∷ [])) h

old_by : (s : Setting) (w : WorldAt) (n : ℕ) (f : FrameAt) (a : Option Arrival) (breach : Breach) → Some breach ≡ told_of (too_old s.cfg w.time f.sending ∷ []) → Some breach ≡ told_of (deliver_by s w n f a)
old_by s w n f None breach e =
    ap (λ o. option_or o (told_of (not_sent n w.departed ∷ []))) e ∙ sym (told_cons (too_old s.cfg w.time f.sending) (not_sent n w.departed ∷ []))
old_by s w n f (Some a) breach e =
    ap (λ o. option_or o (told_of (needs (has_carrier s w f.link) ∷ []))) e ∙ sym (told_cons (too_old s.cfg w.time f.sending) (needs (has_carrier s w f.link) ∷ []))

pub old_told : (s : Setting) (w : WorldAt) (n : ℕ) (frames : FramesAt) (t : ℤ) (age : Option Breach) (breach : Breach) → FramesAre s w frames → sent_at n frames.sent ≡ Some t →
    age ≡ told_of (at_most 10 (w.time -ℤ t) (pos (frame_life s.cfg)) ∷ []) → age ≡ Some breach → Some breach ≡ told_of (deliver_checks s w n (w.frame n))
old_told s w n frames t age breach h e a b =
    let it : (f : FrameAt) × (w.frame n ≡ Some f) × (t ≡ f.sending.at) = sent_by_state s w n frames t h e in
    old_by s w n it.0 it.0.arrival breach (sym b ∙ age_told s w it.0 t age it.2 a) ∙ sym (ap (λ o. told_of (deliver_checks s w n o)) it.1)

pub young_told : (s : Setting) (w : WorldAt) (n : ℕ) (frames : FramesAt) (t : ℤ) (age b : Option Breach) → FramesAre s w frames → sent_at n frames.sent ≡ Some t →
    age ≡ told_of (at_most 10 (w.time -ℤ t) (pos (frame_life s.cfg)) ∷ []) → age ≡ None →
    ((f : FrameAt) → w.frame n ≡ Some f → told_of (too_old s.cfg w.time f.sending ∷ []) ≡ None → b ≡ told_of (deliver_by s w n f f.arrival)) →
    b ≡ told_of (deliver_checks s w n (w.frame n))
young_told s w n frames t age b h e a none told =
    let it : (f : FrameAt) × (w.frame n ≡ Some f) × (t ≡ f.sending.at) = sent_by_state s w n frames t h e in
    told it.0 it.1 (sym (age_told s w it.0 t age it.2 a) ∙ none) ∙ sym (ap (λ o. told_of (deliver_checks s w n o)) it.1)

no_sending : (o : Option FrameAt) → None ≡ option_map (λ f. f.sending.at) o → o ≡ None
no_sending None e = refl
no_sending (Some f) e = absurd (none-some f.sending.at e)

pub missing_told : (s : Setting) (w : WorldAt) (n : ℕ) (frames : FramesAt) (b : Option Breach) →
    FramesAre s w frames → sent_at n frames.sent ≡ None → b ≡ told_of (not_sent n w.departed ∷ []) →
    b ≡ told_of (deliver_checks s w n (w.frame n))
missing_told s w n frames b h e told =
    told ∙ sym (ap (λ o. told_of (deliver_checks s w n o)) (no_sending (w.frame n) (sym e ∙ h.sent n)))
