-- What the inputs are that events give: of all of them, what holds of each kind.
use Rattle.std.proofs.Common.{ℕ, ℤ, Bool, true, false, if◌then◌else◌, List, [], ◌∷◌, ◌++◌, flat_map, Option, None, Some}
use Rattle.std.specs.List.{AllByRecursion}
use Rattle.std.specs.Option.{option_map_or}
use Rattle.arrayvec.specs.ArrayVec.{ArrayVec as Items}
use Rattle.wrp_base.specs.declared.link.Module.{Module}
use Rattle.wrp_base.specs.declared.link.Role.{Role}
use Rattle.wrp_base.specs.declared.message.Body.{Body}
use Rattle.wrp_base.specs.declared.message.Body.TheVariants.{Sync, DelayReq, FollowUp, DelayResp, Announce, Signal}
use Rattle.wrp_base.specs.declared.time.Raw.{Raw}
use Rattle.wrp_base.specs.declared.time.Stamp.{Stamp}
use Rattle.wrp_network.specs.Network.{End}
use Rattle.wrp_base.specs.Link.{other_of}
use Rattle.wrp_node.specs.declared.interface.Input.{Input}
use Rattle.wrp_node.specs.declared.interface.Input.TheVariants.{Frame, Sent, Carrier}
use Rattle.wrp_course.specs.declared.place.Place.{Place}
use Rattle.wrp_course.specs.Given.{Given, comes_at, comes_from, delivered, delivered_by, delivered_to, given_plain, goes_at, goes_from, if_carried, sent_oldest, told_sending}
use Rattle.wrp_course.specs.Setting.{Setting, end_at, place_of}
use Rattle.wrp_course.specs.WorldAt.{Arrival, FrameAt, Sending, WorldAt, has_carrier}

abbrev pub AllGiven : (Input → Type 0) → List Given → Type 0
AllGiven Q gs = AllByRecursion (λ g. Q g.input) gs

all_append : (Q : Input → Type 0) (xs ys : List Given) → AllGiven Q xs → AllGiven Q ys → AllGiven Q (xs ++ ys)
all_append Q [] ys h i = i
all_append Q (x ∷ xs) ys h i = (h.0, all_append Q xs ys h.1 i)

pub all_if : (Q : Input → Type 0) (b : Bool) (xs : List Given) → AllGiven Q xs → AllGiven Q (if b then xs else [])
all_if Q true xs h = h
all_if Q false xs h = tt

-- a sending that is reported

told_all : (Q : Input → Type 0) → ((p seq : ℕ) (delay : Bool) (stamp : Stamp) → Q (Sent p seq delay stamp)) → (n p seq : ℕ) (stamp : ℤ) (samples : ℕ) (body : Body) → AllGiven Q (told_sending n p seq stamp samples body)
told_all Q h n p seq stamp samples (Sync origin) = (h p seq false (record { value = stamp; sample = samples }), tt)
told_all Q h n p seq stamp samples (DelayReq origin) = (h p seq true (record { value = stamp; sample = samples }), tt)
told_all Q h n p seq stamp samples (FollowUp precise) = tt
told_all Q h n p seq stamp samples (DelayResp receive requesting) = tt
told_all Q h n p seq stamp samples (Announce origin utc p1 quality p2 gm steps source suffix) = tt
told_all Q h n p seq stamp samples (Signal target message) = tt

pub sent_all : (Q : Input → Type 0) → ((p seq : ℕ) (delay : Bool) (stamp : Stamp) → Q (Sent p seq delay stamp)) → (n p : ℕ) (stamp : ℤ) (samples : ℕ) (queue : List Sending) → AllGiven Q (sent_oldest n p stamp samples queue)
sent_all Q h n p stamp samples [] = tt
sent_all Q h n p stamp samples (oldest ∷ rest) = told_all Q h n p oldest.message.head.seq stamp samples oldest.message.body

-- a frame that is handed over

abbrev OfFrames : (Input → Type 0) → Type 0
OfFrames Q = (p : ℕ) (octets : Items ℕ) (raw : Raw) (sample : ℕ) → Q (Frame p octets raw sample)

handed_all : (Q : Input → Type 0) → OfFrames Q → (f : FrameAt) (arrival : Arrival) (o : Option End) → AllGiven Q (option_map_or (λ end. delivered_to f arrival end.node end.port) o [])
handed_all Q h f arrival None = tt
handed_all Q h f arrival (Some end) = (h end.port _ arrival.raw arrival.sample, tt)

arrival_all : (Q : Input → Type 0) → OfFrames Q → (s : Setting) (f : FrameAt) (o : Option Arrival) → AllGiven Q (delivered_by s f o)
arrival_all Q h s f None = tt
arrival_all Q h s f (Some arrival) = handed_all Q h f arrival (end_at s f.link (other_of f.by))

pub delivered_all : (Q : Input → Type 0) → OfFrames Q → (s : Setting) (o : Option FrameAt) → AllGiven Q (delivered s o)
delivered_all Q h s None = tt
delivered_all Q h s (Some f) = arrival_all Q h s f f.arrival

-- carriers

carrier_all : (Q : Input → Type 0) (up : Bool) (m : Option Module) → ((p : ℕ) → Q (Carrier p up m)) → (o : Option End) → AllGiven Q (option_map_or (λ end. given_plain end.node (Carrier end.port up m) ∷ []) o [])
carrier_all Q up m h None = tt
carrier_all Q up m h (Some end) = (h end.port, tt)

pub goes_all : (Q : Input → Type 0) → ((p : ℕ) → Q (Carrier p false None)) → (s : Setting) (k : ℕ) (r : Role) → AllGiven Q (goes_from s k r)
goes_all Q h s k r = all_append Q (goes_at s k r) (goes_at s k (other_of r)) (carrier_all Q false None h (end_at s k r)) (carrier_all Q false None h (end_at s k (other_of r)))

pub comes_all : (Q : Input → Type 0) → ((p : ℕ) (m : Option Module) → Q (Carrier p true m)) → (s : Setting) (w : WorldAt) (k : ℕ) (r : Role) → AllGiven Q (comes_from s w k r)
comes_all Q h s w k r =
    all_append Q (comes_at s w k r) (comes_at s w k (other_of r)) (carrier_all Q true _ (λ p. h p _) (end_at s k r)) (carrier_all Q true _ (λ p. h p _) (end_at s k (other_of r)))

carried_all : (Q : Input → Type 0) (s : Setting) (w : WorldAt) (f : ℕ → Role → List Given) (o : Option Place) → ((k : ℕ) (r : Role) → AllGiven Q (f k r)) → AllGiven Q (if_carried s w f o)
carried_all Q s w f None h = tt
carried_all Q s w f (Some place) h = all_if Q (has_carrier s w place.link) (f place.link place.role) (h place.link place.role)

pub ports_all : (Q : Input → Type 0) (s : Setting) (w : WorldAt) (f : ℕ → Role → List Given) (n : ℕ) (ps : List ℕ) → ((k : ℕ) (r : Role) → AllGiven Q (f k r)) → AllGiven Q (flat_map (λ p. if_carried s w f (place_of s n p)) ps)
ports_all Q s w f n [] h = tt
ports_all Q s w f n (p ∷ ps) h =
    all_append Q (if_carried s w f (place_of s n p)) (flat_map (λ q. if_carried s w f (place_of s n q)) ps) (carried_all Q s w f (place_of s n p) h) (ports_all Q s w f n ps h)
