-- The inputs of a frame that is handed over and of a frame that departs, and of the other events that give at
-- most one input.
use Rattle.std.proofs.Common.{◌≡◌, ◌∙◌, refl, ap, ap₂, sym, subst, ℕ, ℤ, pos, ◌+◌, ◌<◌, ◌≤◌, ◌^◌, unsigned_abs, true, List, [], ◌∷◌, length, slice_get, Option, None, Some, IfSome, option_map, Result, Ok, Err, arith}
use Rattle.std.proofs.lemmas.Int.{ints}
use Rattle.std.specs.List.{AllByRecursion, AllZip}
use Rattle.std.specs.Option.{option_map_or}
use Rattle.arrayvec.specs.ArrayVec.{ArrayVec}
use Rattle.std.proofs.lemmas.Bool.{true≢false}
use Rattle.std.proofs.lemmas.Option.{none-some, same_Some}
use Rattle.wrp_network.specs.declared.configuration.NetCfg.{NetCfg}
use Rattle.wrp_base.specs.declared.link.Role.{Role}
use Rattle.wrp_base.specs.declared.message.Body.{Body}
use Rattle.wrp_base.specs.declared.message.Body.TheVariants.{Sync, DelayReq, FollowUp, DelayResp, Announce, Signal}
use Rattle.wrp_base.specs.declared.message.PtpMsg.{PtpMsg}
use Rattle.wrp_base.specs.declared.time.Raw.{Raw}
use Rattle.wrp_base.specs.declared.time.Stamp.{Stamp}
use Rattle.wrp_network.specs.Network.{End, node_count}
use Rattle.wrp_base.specs.Link.{other_of}
use Rattle.wrp_base.proofs.Naturals.{eq_self}
use Rattle.wrp_frame.specs.declared.fault.FrameFault.{FrameFault}
use Rattle.wrp_frame.specs.Grammar.{Spells}
use Rattle.wrp_frame.specs.SentOctets.{octets_of}
use Rattle.wrp_node.specs.declared.interface.Input.{Input}
use Rattle.wrp_node.specs.declared.interface.Input.TheVariants.{Tick as TickInput, Sample as SampleInput, Frame}
use Rattle.wrp_port.specs.PortAt.{IsStamp}
use Rattle.wrp_course.specs.declared.event.Event.{Event}
use Rattle.wrp_course.specs.declared.event.Event.TheVariants.{Tick, Sample, Depart, Deliver, Noise}
use Rattle.wrp_plant.specs.declared.ends.PutOut.{PutOut}
use Rattle.wrp_flights.specs.declared.departed.Departed.{Departed}
use Rattle.wrp_flights.specs.declared.departed.Reception.{Reception}
use Rattle.wrp_flights.specs.Frames.{at, sent_at}
use Rattle.wrp_course.specs.declared.place.Place.{Place}
use Rattle.wrp_plant.specs.declared.plant.Plant.{Plant}
use Rattle.wrp_changes.specs.declared.giving.listing.Gift.{Gift}
use Rattle.wrp_course.specs.EventAt.{IsEventOf, IsRaw, IsTime}
use Rattle.wrp_course.specs.Checks.{AllHold}
use Rattle.wrp_changes.specs.FitsGifts.{FitsGift, FitsNode}
use Rattle.wrp_course.specs.Setting.{has_port, Setting, end_at, place_among, place_of}
use Rattle.wrp_changes.specs.Gifts.{GiftIs}
use Rattle.wrp_course.specs.Given.{delivered, delivered_by, delivered_to, sent_oldest, told_sending}
use Rattle.wrp_changes.specs.Giving.{Gives, entries_of, listed, put_of, sent_by, sent_first, sent_in}
use Rattle.wrp_course.specs.Moved.{waiting_at}
use Rattle.wrp_plant.specs.Plant.{DepartedIs, MaybeIs, PlantIs, PutOutIs, ReceptionIs}
use Rattle.wrp_course.specs.Premises.{Accepts, deliver_by, deliver_checks, noise_checks}
use Rattle.wrp_course.specs.WorldAt.{Arrival, FrameAt, Sending, WorldAt}
use Rattle.wrp_plant.proofs.FoundFrames.{Found, some_no}
use Rattle.wrp_plant.proofs.KeptSince.{found_kept}
use Rattle.wrp_plant.proofs.KeptFrames.{not_kept, young_since_holds}
use Rattle.wrp_plant.proofs.Sizing.{raw_fits}

-- Ranges

pub stamp_fits : (value : ℤ) (sample : ℕ) → IsTime value → IsStamp (record { value = value; sample = sample })
stamp_fits value sample h = (h.least, omega (arith, ints, h.least, h.greatest))

-- the stamp of a departure
pub stamp_small : (cfg : NetCfg) (e : Event) (n p : ℕ) (stamp : ℤ) → e ≡ Depart n p stamp → IsEventOf cfg e → unsigned_abs stamp ≤ 2 ^ 126
stamp_small cfg e n p stamp is may =
    let h : IsEventOf cfg (Depart n p stamp) = subst (IsEventOf cfg) is may in omega (arith, h.1.greatest)

-- A tick and a sample

pub tick_gives : (plant : Plant) (n : ℕ) → n < node_count plant.net.cfg → Gives plant (Tick n) (listed (record { node = n; input = TickInput }) ∷ [])
tick_gives plant n h = record {
  gifts = λ s w says set is said accepted. (record { node = refl; input = refl; read = tt }, tt);
  inputs = (record { node = h; input = tt }, tt);
  few = omega arith;
}

pub sample_gives : (plant : Plant) (n base bits k : ℕ) → n < node_count plant.net.cfg → base ≤ 16_383 → ((s : Setting) (w : WorldAt) → PlantIs s w plant → k ≡ (w.clock n).samples + 1) →
    Gives plant (Sample n base bits) (listed (record { node = n; input = SampleInput k base bits }) ∷ [])
sample_gives plant n base bits k h within is = record {
  gifts = λ s w says set stands said accepted. (
    record {
      node = refl;
      input = ap (λ i. SampleInput i base bits) (rw (eq_self n) (is s w stands));
      read = tt;
    },
    tt,
  );
  inputs = (record { node = h; input = omega (arith, within) }, tt);
  few = omega arith;
}

-- Octets that the peer did not send

noise_gives : (plant : Plant) (n p k : ℕ) (octets : ArrayVec ℕ) (raw : Raw) → n < node_count plant.net.cfg → has_port plant.net.cfg n p ≡ true → IsRaw raw →
    ((s : Setting) (w : WorldAt) → PlantIs s w plant → k ≡ (w.clock n).samples) →
    Gives plant (Noise n p octets raw) (listed (record { node = n; input = Frame p octets raw k }) ∷ [])
noise_gives plant n p k octets raw h port range is = record {
  gifts = λ s w says set stands said accepted. (
    record {
      node = refl;
      input = ap (λ i. Frame p octets raw i) (is s w stands);
      read = (said, refl);
    },
    tt,
  );
  inputs = (record { node = h; input = (port, raw_fits raw range) }, tt);
  few = omega arith;
}

pub noise_gives_copied : (plant : Plant) (n p k : ℕ) (octets copy : ArrayVec ℕ) (raw : Raw) → copy ≡ octets → n < node_count plant.net.cfg → has_port plant.net.cfg n p ≡ true → IsRaw raw →
    ((s : Setting) (w : WorldAt) → PlantIs s w plant → k ≡ (w.clock n).samples) →
    Gives plant (Noise n p octets raw) (listed (record { node = n; input = Frame p copy raw k }) ∷ [])
noise_gives_copied plant n p k octets copy raw e h port range is =
    subst (λ (o : ArrayVec ℕ). Gives plant (Noise n p octets raw) (listed (record { node = n; input = Frame p o raw k }) ∷ [])) (sym e) (noise_gives plant n p k octets raw h port range is)

-- there is no such port: the event is not accepted
no_noise : (s : Setting) (w : WorldAt) (says : Result PtpMsg FrameFault) (n p : ℕ) (octets : ArrayVec ℕ) (raw : Raw) → place_of s n p ≡ None → Accepts s w says (Noise n p octets raw) → ⊥
no_noise s w says n p octets raw none accepted =
    let h : AllHold (noise_checks s w n p says None) = subst (λ (o : Option Place). AllHold (noise_checks s w n p says o)) none accepted in
    true≢false h.0

pub no_noise_gives : (plant : Plant) (n p : ℕ) (octets : ArrayVec ℕ) (raw : Raw) → place_among n p 0 plant.net.cfg.links.items ≡ None → Gives plant (Noise n p octets raw) []
no_noise_gives plant n p octets raw none = record {
  gifts = λ s w says set stands said accepted.
      absurd (no_noise s w says n p octets raw (ap (λ (cfg : NetCfg). place_among n p 0 cfg.links.items) (sym stands.cfg) ∙ none) accepted);
  inputs = tt;
  few = omega arith;
}

-- A frame that is handed over

received_zip : (put : ℤ) (f : FrameAt) (d : Departed) (a : Arrival) (r : Reception) (end : End) → put ≡ d.sent → DepartedIs f d → ReceptionIs a r →
    AllZip (GiftIs put) (delivered_to f a end.node end.port) (listed (record { node = end.node; input = Frame end.port (record { items = d.octets.items }) r.raw r.sample }) ∷ [])
received_zip put f d a r end e h k = (
  record {
    node = refl;
    input =
        ap (λ octets. Frame end.port (record { items = octets }) r.raw r.sample) h.octets
        ∙ ap₂ (λ raw i. Frame end.port (record { items = octets_of f.sending.message }) raw i) k.raw k.sample;
    read = (subst (λ octets. Spells octets f.sending.message) h.octets h.says, sym h.sent ∙ sym e);
  },
  tt,
)

pub received_is : (s : Setting) (f : FrameAt) (d : Departed) (a : Arrival) (r : Reception) (end : End) (octets : ArrayVec ℕ) → end_at s d.link (other_of d.by) ≡ Some end → octets ≡ d.octets →
    DepartedIs f d → ReceptionIs a r →
    AllZip (GiftIs d.sent) (delivered_by s f (Some a)) (listed (record { node = end.node; input = Frame end.port octets r.raw r.sample }) ∷ [])
received_is s f d a r end octets at e h k =
    let there : end_at s f.link (other_of f.by) ≡ Some end = ap₂ (λ (l : ℕ) (b : Role). end_at s l (other_of b)) (sym h.link) (sym h.by) ∙ at in
    subst (λ (o : Option End). AllZip (GiftIs d.sent) (option_map_or (λ it. delivered_to f a it.node it.port) o []) (listed (record { node = end.node; input = Frame end.port octets r.raw r.sample }) ∷ [])) (sym there)
    (subst (λ (o : ArrayVec ℕ). AllZip (GiftIs d.sent) (delivered_to f a end.node end.port) (listed (record { node = end.node; input = Frame end.port o r.raw r.sample }) ∷ [])) (sym e)
    (received_zip d.sent f d a r end refl h k))

pub arrived_is : (s : Setting) (f : FrameAt) (put : ℤ) (a : Option Arrival) (o : Option Reception) (r : Reception) (gift : Gift) → MaybeIs ReceptionIs a o → o ≡ Some r →
    ((b : Arrival) → ReceptionIs b r → AllZip (GiftIs put) (delivered_by s f (Some b)) (listed gift ∷ [])) → AllZip (GiftIs put) (delivered_by s f a) (listed gift ∷ [])
arrived_is s f put None None r gift h e is = absurd (none-some r e)
arrived_is s f put None (Some q) r gift h e is = absurd h
arrived_is s f put (Some b) None r gift h e is = absurd h
arrived_is s f put (Some b) (Some q) r gift h e is = is b (subst (ReceptionIs b) (same_Some q r e) h)

pub not_arrived : (s : Setting) (f : FrameAt) (put : ℤ) (a : Option Arrival) (o : Option Reception) → MaybeIs ReceptionIs a o → o ≡ None → AllZip (GiftIs put) (delivered_by s f a) []
not_arrived s f put None o h e = tt
not_arrived s f put (Some b) None h e = absurd h
not_arrived s f put (Some b) (Some q) h e = absurd (some_no q e)

few_entries : (gift : Option Gift) → length (entries_of gift) ≤ 37
few_entries None = omega arith
few_entries (Some gift) = omega arith

pub frame_gives : (plant : Plant) (i : ℕ) (d : Departed) (gift : Option Gift) → at i plant.frames.kept ≡ Some d →
    ((s : Setting) (w : WorldAt) (f : FrameAt) → PlantIs s w plant → DepartedIs f d → AllZip (GiftIs d.sent) (delivered_by s f f.arrival) (entries_of gift)) →
    AllByRecursion (FitsGift plant.net.cfg) (entries_of gift) → Gives plant (Deliver i) (entries_of gift)
frame_gives plant i d gift e is fits = record {
  gifts = λ s w says set stands said accepted.
      let it : Found DepartedIs (w.frame i) d = found_kept plant.frames.horizon (w.frame i) (at i plant.frames.kept) d (stands.frames.each i) e in
      let put : sent_at i plant.frames.sent ≡ Some d.sent = stands.frames.sent i ∙ ap (option_map (λ f. f.sending.at)) it.is ∙ ap Some (sym it.holds.sent) in
      subst (λ (o : Option FrameAt). AllZip (GiftIs (put_of plant (Deliver i))) (delivered s o) (entries_of gift)) (sym it.is)
      (subst (λ (o : Option ℤ). AllZip (GiftIs (option_map_or (λ t. t) o (pos 0))) (delivered_by s it.one it.one.arrival) (entries_of gift)) (sym put)
      (is s w it.one stands it.holds));
  inputs = fits;
  few = few_entries gift;
}

-- an accepted event hands over no frame that is not kept
not_delivered : (s : Setting) (w : WorldAt) (i : ℕ) (put : ℤ) (plant : Plant) (f : FrameAt) (a : Option Arrival) → PlantIs s w plant → at i plant.frames.kept ≡ None → w.frame i ≡ Some f →
    AllHold (deliver_by s w i f a) → AllZip (GiftIs put) (delivered_by s f a) []
not_delivered s w i put plant f None stands e k accepted = tt
not_delivered s w i put plant f (Some a) stands e k accepted =
    absurd (not_kept s w i plant.frames f stands.frames e k (young_since_holds s w plant.frames.horizon f stands.frames.horizon accepted.0))

none_delivered : (s : Setting) (w : WorldAt) (i : ℕ) (put : ℤ) (plant : Plant) (o : Option FrameAt) → PlantIs s w plant → at i plant.frames.kept ≡ None → w.frame i ≡ o →
    AllHold (deliver_checks s w i o) → AllZip (GiftIs put) (delivered s o) []
none_delivered s w i put plant None stands e k accepted = tt
none_delivered s w i put plant (Some f) stands e k accepted = not_delivered s w i put plant f f.arrival stands e k accepted

pub no_frame_gives : (plant : Plant) (i : ℕ) → at i plant.frames.kept ≡ None → Gives plant (Deliver i) []
no_frame_gives plant i e = record {
  gifts = λ s w says set stands said accepted. none_delivered s w i (put_of plant (Deliver i)) plant (w.frame i) stands e refl accepted;
  inputs = tt;
  few = omega arith;
}

-- A frame that departs

abbrev to_node : ℕ → Option Input → Option Gift
to_node n input = option_map (λ it. record { node = n; input = it }) input

told_zip : (n p seq : ℕ) (stamp : ℤ) (k : ℕ) (body : Body) →
    AllZip (GiftIs (pos 0)) (told_sending n p seq stamp k body) (entries_of (to_node n (sent_in p seq (record { value = stamp; sample = k }) body)))
told_zip n p seq stamp k (Sync origin) = (record { node = refl; input = refl; read = tt }, tt)
told_zip n p seq stamp k (DelayReq origin) = (record { node = refl; input = refl; read = tt }, tt)
told_zip n p seq stamp k (FollowUp precise) = tt
told_zip n p seq stamp k (DelayResp receive requesting) = tt
told_zip n p seq stamp k (Announce origin utc p1 quality p2 gm steps source flags) = tt
told_zip n p seq stamp k (Signal target message) = tt

first_zip : (n p : ℕ) (stamp : ℤ) (k : ℕ) (ws : List Sending) →
    AllZip (GiftIs (pos 0)) (sent_oldest n p stamp k ws) (entries_of (to_node n (sent_first p (record { value = stamp; sample = k }) ws)))
first_zip n p stamp k [] = tt
first_zip n p stamp k (oldest ∷ rest) = told_zip n p oldest.message.head.seq stamp k oldest.message.body

ok_same : {E : Type 0} (m q : PtpMsg) → ◌≡◌ {A = Result PtpMsg E} (Ok m) (Ok q) → m ≡ q
ok_same m q e = cc

err_ok : {E : Type 0} (m : PtpMsg) (fault : E) → ◌≡◌ {A = Result PtpMsg E} (Err fault) (Ok m) → ⊥
err_ok m fault e = cc

pub one_spelled : {E : Type 0} (p : ℕ) (stamp : Stamp) (message m : PtpMsg) (r : Result PtpMsg E) (input : Option Input) → r ≡ Ok message → r ≡ Ok m → input ≡ sent_by p stamp message → input ≡ sent_by p stamp m
one_spelled p stamp message m r input e f is = is ∙ ap (sent_by p stamp) (ok_same message m (sym e ∙ f))

pub none_spelled : {E : Type 0} (m : PtpMsg) (fault : E) (r : Result PtpMsg E) → r ≡ Err fault → r ≡ Ok m → ⊥
none_spelled m fault r e f = err_ok m fault (sym e ∙ f)

pub first_sent : (p : ℕ) (stamp : Stamp) (ws : List Sending) (xs : List PutOut) (out : PutOut) (input : Option Input) → AllZip PutOutIs ws xs → slice_get xs 0 ≡ Some out →
    ((m : PtpMsg) → Spells out.octets.items m → input ≡ sent_by p stamp m) → input ≡ sent_first p stamp ws
first_sent p stamp [] [] out input h e is = absurd (none-some out e)
first_sent p stamp [] (x ∷ xs) out input h e is = absurd h
first_sent p stamp (w ∷ ws) [] out input h e is = absurd h
first_sent p stamp (w ∷ ws) (x ∷ xs) out input h e is =
    is w.message (subst (λ (o : PutOut). Spells o.octets.items w.message) (same_Some x out e) h.0.says)

pub none_sent : (p : ℕ) (stamp : Stamp) (ws : List Sending) (xs : List PutOut) → AllZip PutOutIs ws xs → slice_get xs 0 ≡ None → None ≡ sent_first p stamp ws
none_sent p stamp [] xs h e = refl
none_sent p stamp (w ∷ ws) [] h e = absurd h
none_sent p stamp (w ∷ ws) (x ∷ xs) h e = absurd (some_no x e)

to_node_fits : (cfg : NetCfg) (n : ℕ) (input : Option Input) → n < node_count cfg → IfSome input (FitsNode cfg n) → AllByRecursion (FitsGift cfg) (entries_of (to_node n input))
to_node_fits cfg n None h k = tt
to_node_fits cfg n (Some input) h k = (record { node = h; input = k }, tt)

pub departure_gives : (plant : Plant) (n p k : ℕ) (stamp : ℤ) (told : Stamp) (place : Place) (input : Option Input) (gift : Option Gift) → n < node_count plant.net.cfg →
    place_among n p 0 plant.net.cfg.links.items ≡ Some place → told ≡ record { value = stamp; sample = k } → gift ≡ to_node n input → IfSome input (FitsNode plant.net.cfg n) →
    ((s : Setting) (w : WorldAt) → PlantIs s w plant → k ≡ (w.clock n).samples) →
    ((s : Setting) (w : WorldAt) → PlantIs s w plant → input ≡ sent_first p told (w.end_at place.link place.role).waiting) →
    Gives plant (Depart n p stamp) (entries_of gift)
departure_gives plant n p k stamp told place input gift h at stamped e fits samples is = record {
  gifts = λ s w says set stands said accepted.
      let there : place_of s n p ≡ Some place = ap (λ (cfg : NetCfg). place_among n p 0 cfg.links.items) (sym stands.cfg) ∙ at in
      let now : told ≡ record { value = stamp; sample = (w.clock n).samples } = stamped ∙ ap (λ i. record { value = stamp; sample = i }) (samples s w stands) in
      let same : gift ≡ to_node n (sent_first p (record { value = stamp; sample = (w.clock n).samples }) (w.end_at place.link place.role).waiting) =
      e ∙ ap (to_node n) (is s w stands ∙ ap (λ (t : Stamp). sent_first p t (w.end_at place.link place.role).waiting) now) in
      subst (λ (o : Option Place). AllZip (GiftIs (pos 0)) (sent_oldest n p stamp (w.clock n).samples (waiting_at w o)) (entries_of gift)) (sym there)
      (subst (λ (o : Option Gift). AllZip (GiftIs (pos 0)) (sent_oldest n p stamp (w.clock n).samples (w.end_at place.link place.role).waiting) (entries_of o)) (sym same)
      (first_zip n p stamp (w.clock n).samples (w.end_at place.link place.role).waiting));
  inputs = subst (λ (o : Option Gift). AllByRecursion (FitsGift plant.net.cfg) (entries_of o)) (sym e) (to_node_fits plant.net.cfg n input h fits);
  few = few_entries gift;
}

pub no_departure_gives : (plant : Plant) (n p : ℕ) (stamp : ℤ) → place_among n p 0 plant.net.cfg.links.items ≡ None → Gives plant (Depart n p stamp) []
no_departure_gives plant n p stamp none = record {
  gifts = λ s w says set stands said accepted.
      subst (λ (o : Option Place). AllZip (GiftIs (pos 0)) (sent_oldest n p stamp (w.clock n).samples (waiting_at w o)) [])
      (sym (ap (λ (cfg : NetCfg). place_among n p 0 cfg.links.items) (sym stands.cfg) ∙ none)) tt;
  inputs = tt;
  few = omega arith;
}
