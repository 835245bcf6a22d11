-- TRACK over the list of calls.
use Rattle.std.proofs.Common.{◌≡◌, ◌<◌, refl, ap, ◌∙◌, subst, true, List, [], ◌∷◌, ◌++◌, inl, inr}
use Rattle.std.proofs.lemmas.Bool.{false_from_ne_true}
use Rattle.wrp_base.proofs.Booleans.{not_both}
use Rattle.wrp_servo.specs.Call.{Call, ServoSetting, run}
use Rattle.wrp_servo.specs.LookBack.{leaves_track}
use Rattle.wrp_servo.specs.Table.{is_track}
use Rattle.wrp_lookback_laws.specs.Tracks.{Leaves, NoneLeaves, TrackStands, TrackLooksBack}
use Rattle.wrp_lookback_laws.proofs.ServoSteps.{track_goes, TrackCame, track_came, track_begins}
use Rattle.wrp_lookback_laws.proofs.TrackCauses.{TrackKnown, enters-track, track-enters, leaves-list, list-leaves}

longer : (x : ServoSetting) (calls : List Call) (call : Call) → (Leaves x calls call → ⊥) → TrackStands x calls → TrackStands x (call ∷ calls)
longer x calls call never t = record {
  since = call ∷ t.since;
  enter = t.enter;
  before = t.before;
  splits = ap (λ (l : List Call). call ∷ l) t.splits;
  enters = t.enters;
  stays = (subst (λ (l : List Call). Leaves x l call → ⊥) t.splits never, t.stays);
}

stands-by : TrackKnown → (x : ServoSetting) (calls : List Call) (call : Call) → 0 < x.set.lock_samples → (is_track (run x calls).state ≡ true → TrackStands x calls) → TrackCame x calls call → TrackStands x (call ∷ calls)
stands-by known x calls call positive before (inl e) =
    record { since = []; enter = call; before = calls; splits = refl; enters = enters-track known x calls call positive e; stays = tt }
stands-by known x calls call positive before (inr (stays, track)) =
    longer x calls call (λ t. not_both (leaves_track x calls call) (list-leaves known x calls call positive track t) stays) (before track)

stands : TrackKnown → (x : ServoSetting) (calls : List Call) → 0 < x.set.lock_samples → is_track (run x calls).state ≡ true → TrackStands x calls
stands known x [] positive h = absurd cc
stands known x (call ∷ calls) positive h = stands-by known x calls call positive (stands known x calls positive) (track_came known.fours.laws.track x calls call h)

since-stands : TrackKnown → (x : ServoSetting) (since before : List Call) → 0 < x.set.lock_samples → is_track (run x before).state ≡ true → NoneLeaves x since before → is_track (run x (since ++ before)).state ≡ true
since-stands known x [] before positive h n = h
since-stands known x (call ∷ since) before positive h n =
    let rest : is_track (run x (since ++ before)).state ≡ true = since-stands known x since before positive h n.1 in
    track_goes known.fours.laws.track x (since ++ before) call rest (false_from_ne_true (leaves_track x (since ++ before) call) (λ e. n.0 (leaves-list known x (since ++ before) call positive rest e)))

from-stands : TrackKnown → (x : ServoSetting) (calls : List Call) → 0 < x.set.lock_samples → TrackStands x calls → is_track (run x calls).state ≡ true
from-stands known x calls positive t =
    ap (λ (l : List Call). is_track (run x l).state) t.splits
    ∙ since-stands known x t.since (t.enter ∷ t.before) positive (track_begins known.fours.laws.track x t.before t.enter (track-enters known x t.before t.enter positive t.enters)) t.stays

pub track_looks_back : TrackKnown → TrackLooksBack
track_looks_back known x calls positive = (stands known x calls positive, from-stands known x calls positive)
