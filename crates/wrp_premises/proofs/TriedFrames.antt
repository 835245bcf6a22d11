-- The checks of a frame that departs, and of a frame that arrives.
use Rattle.std.proofs.Common.{◌≡◌, ◌∙◌, refl, ap, ap₂, sym, ℕ, ℤ, pos, ◌-ℤ◌, true, false, List, [], ◌∷◌, Option, None, Some, option_map}
use Rattle.std.specs.Option.{option_map_or, option_or}
use Rattle.std.proofs.lemmas.Option.{none-some, same_Some}
use Rattle.wrp_base.specs.declared.time.Clock.{Clock}
use Rattle.wrp_base.specs.declared.time.Raw.{Raw}
use Rattle.wrp_network.specs.Network.{End}
use Rattle.wrp_base.specs.Link.{other_of}
use Rattle.wrp_course.specs.Checks.{Check, told_of, at_most, not_sent, size_of, needs}
use Rattle.wrp_course.specs.declared.breach.Breach.{Breach}
use Rattle.wrp_flights.specs.declared.departed.Departed.{Departed}
use Rattle.wrp_flights.specs.Departed.{is_on}
use Rattle.wrp_flights.specs.Frames.{FramesAt, at}
use Rattle.wrp_course.specs.declared.place.Place.{Place}
use Rattle.wrp_course.specs.Moved.{waiting_at}
use Rattle.wrp_plant.specs.Plant.{DepartedIs, FramesAre}
use Rattle.wrp_course.specs.Premises.{arrive_checks, depart_checks, raw_checks, received, received_at}
use Rattle.wrp_stamp.specs.Merge.{transition_of}
use Rattle.wrp_course.specs.Setting.{Setting, end_at, entry_at, of_node, place_of}
use Rattle.wrp_premises.specs.Tried.{departs_by, received_to}
use Rattle.wrp_course.specs.Views.{oldest_of}
use Rattle.wrp_course.specs.WorldAt.{FrameAt, Sending, WorldAt, has_carrier, is_on_fibre, reading}
use Rattle.wrp_plant.proofs.FoundFrames.{Found}
use Rattle.wrp_plant.proofs.KeptSince.{found_kept, none_on, on_alike}
use Rattle.wrp_premises.proofs.Counting.{told_middle}

-- A departure

some_none : (a : ℤ) → Some a ≡ None → ⊥
some_none a e = cc

pub leaves_told : (s : Setting) (w : WorldAt) (n : ℕ) (stamp sent : ℤ) (place : Place) (waiting : List Sending) → Some sent ≡ oldest_of waiting →
    told_of (departs_by s w n place.link stamp sent) ≡ told_of (depart_checks s w n stamp (Some place) waiting)
leaves_told s w n stamp sent place [] e = absurd (some_none sent e)
leaves_told s w n stamp sent place (oldest ∷ rest) e =
    ap (λ at. told_of (departs_by s w n place.link stamp at)) (same_Some sent oldest.at e)

pub none_leaves_told : (s : Setting) (w : WorldAt) (n : ℕ) (stamp : ℤ) (place : Place) (waiting : List Sending) → None ≡ oldest_of waiting →
    told_of (not_sent 0 w.departed ∷ []) ≡ told_of (depart_checks s w n stamp (Some place) waiting)
none_leaves_told s w n stamp place [] e = refl
none_leaves_told s w n stamp place (oldest ∷ rest) e = absurd (none-some oldest.at e)

-- by its port
abbrev pub departs_at : Setting → WorldAt → ℕ → ℤ → Option Place → Option Breach
departs_at s w n stamp o = told_of (depart_checks s w n stamp o (waiting_at w o))

pub depart_told : (s : Setting) (w : WorldAt) (n p : ℕ) (stamp : ℤ) (o : Option Place) (r : Option Breach) → r ≡ departs_at s w n stamp o →
    place_of s n p ≡ o → r ≡ departs_at s w n stamp (place_of s n p)
depart_told s w n p stamp o r e f = e ∙ sym (ap (departs_at s w n stamp) f)

-- An arrival

received_by : (g : ℕ → List Check) (o : Option End) (n : ℕ) → option_map (λ end. end.node) o ≡ Some n →
    told_of (g n) ≡ told_of (option_map_or (λ end. g end.node) o [])
received_by g None n e = absurd (none-some n e)
received_by g (Some end) n e = ap (λ m. told_of (g m)) (sym (same_Some end.node n e))

pub raw_told : (s : Setting) (w : WorldAt) (to : Place) (raw : Raw) (n : ℕ) (clock : Clock) (e_tag transition : ℕ) (at : ℤ) (r : Option Breach) →
    r ≡ told_of (raw_checks clock e_tag transition at raw) → clock ≡ s.cfg.clock → e_tag ≡ of_node (λ node. node.e_tag) s n →
    transition ≡ transition_of (entry_at s to.link to.role (w.end_at to.link to.role).name) → at ≡ reading w n →
    option_map (λ end. end.node) (end_at s to.link to.role) ≡ Some n → r ≡ told_of (received_to s w to raw)
raw_told s w to raw n clock e_tag transition at r e c t m a h =
    e ∙ ap₂ (λ x y. told_of (raw_checks x y transition at raw)) c t
    ∙ ap₂ (λ x y. told_of (raw_checks s.cfg.clock (of_node (λ node. node.e_tag) s n) x y raw)) m a
    ∙ received_by (received_at s w (entry_at s to.link to.role (w.end_at to.link to.role).name) raw) (end_at s to.link to.role) n h

-- at the end that receives the frame, as the code keeps it since the frame departed
pub landing_told : (s : Setting) (w : WorldAt) (i : ℕ) (raw : Raw) (f : FrameAt) (d : Departed) (due stamp r : Option Breach) → DepartedIs f d →
    due ≡ told_of (at_most 8 (size_of (w.time -ℤ d.due)) (pos 0) ∷ []) →
    stamp ≡ told_of (received_to s w (record { link = d.link; role = other_of d.by }) raw) →
    r ≡ option_or (option_or due stamp) (told_of (needs (has_carrier s w d.link) ∷ [])) → r ≡ told_of (arrive_checks s w i raw true (Some f))
landing_told s w i raw f d due stamp r h u v e =
    e ∙ ap (λ k. option_or (option_or due stamp) (told_of (needs (has_carrier s w k) ∷ []))) h.link
    ∙ ap₂ (λ a b. option_or (option_or a b) (told_of (needs (has_carrier s w f.link) ∷ [])))
    (u ∙ ap (λ t. told_of (at_most 8 (size_of (w.time -ℤ t)) (pos 0) ∷ [])) h.due)
    (v ∙ ap₂ (λ k b. told_of (received_to s w (record { link = k; role = other_of b }) raw)) h.link h.by)
    ∙ sym (told_middle (at_most 8 (size_of (w.time -ℤ f.due)) (pos 0)) (received s w f raw) (needs (has_carrier s w f.link) ∷ []))

-- whether the frame is on a fibre
pub flight_told : (s : Setting) (w : WorldAt) (i : ℕ) (raw : Raw) (f : FrameAt) (d : Departed) (r : Option Breach) → DepartedIs f d → is_on d ≡ true →
    r ≡ told_of (arrive_checks s w i raw true (Some f)) → r ≡ told_of (arrive_checks s w i raw (is_on_fibre (Some f)) (Some f))
flight_told s w i raw f d r h on e = e ∙ ap (λ b. told_of (arrive_checks s w i raw b (Some f))) (sym on ∙ sym (on_alike f d h))

pub landed_told : (s : Setting) (w : WorldAt) (i : ℕ) (raw : Raw) (f : FrameAt) (d : Departed) (r : Option Breach) → DepartedIs f d → is_on d ≡ false →
    r ≡ told_of (not_sent i w.departed ∷ []) → r ≡ told_of (arrive_checks s w i raw (is_on_fibre (Some f)) (Some f))
landed_told s w i raw f d r h on e = e ∙ ap (λ b. told_of (arrive_checks s w i raw b (Some f))) (sym on ∙ sym (on_alike f d h))

-- by the frame's number
pub arrival_told : (s : Setting) (w : WorldAt) (i : ℕ) (raw : Raw) (frames : FramesAt) (d : Departed) (r : Option Breach) → FramesAre s w frames →
    at i frames.kept ≡ Some d → ((f : FrameAt) → DepartedIs f d → r ≡ told_of (arrive_checks s w i raw (is_on_fibre (Some f)) (Some f))) →
    r ≡ told_of (arrive_checks s w i raw (is_on_fibre (w.frame i)) (w.frame i))
arrival_told s w i raw frames d r h e told =
    let it : Found DepartedIs (w.frame i) d = found_kept frames.horizon (w.frame i) (at i frames.kept) d (h.each i) e in
    told it.one it.holds ∙ sym (ap (λ o. told_of (arrive_checks s w i raw (is_on_fibre o) o)) it.is)

pub no_arrival_told : (s : Setting) (w : WorldAt) (i : ℕ) (raw : Raw) (frames : FramesAt) (r : Option Breach) → FramesAre s w frames →
    at i frames.kept ≡ None → r ≡ told_of (not_sent i w.departed ∷ []) →
    r ≡ told_of (arrive_checks s w i raw (is_on_fibre (w.frame i)) (w.frame i))
no_arrival_told s w i raw frames r h e told =
    told ∙ sym (ap (λ b. told_of (arrive_checks s w i raw b (w.frame i))) (none_on frames.horizon (w.frame i) (at i frames.kept) (h.each i) e))
