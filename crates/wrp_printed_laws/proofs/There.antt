-- Each input of an event goes to a node of the network.
use Rattle.std.proofs.Common.{◌≡◌, refl, subst, ℕ, ◌<◌, ℤ, Bool, true, false, if◌then◌else◌, List, [], ◌∷◌, ◌++◌, flat_map, Option, None, Some, Result}
use Rattle.std.specs.List.{AllByRecursion}
use Rattle.std.specs.Option.{option_map_or}
use Rattle.wrp_base.specs.declared.link.Role.{Role}
use Rattle.wrp_base.specs.declared.link.Role.TheVariants.{Master, Slave}
use Rattle.wrp_base.specs.declared.message.Body.{Body}
use Rattle.wrp_base.specs.declared.message.Body.TheVariants.{Sync, DelayReq, FollowUp, DelayResp, Announce, Signal}
use Rattle.wrp_base.specs.declared.message.PtpMsg.{PtpMsg}
use Rattle.wrp_network.specs.declared.network.LinkCfg.{LinkCfg}
use Rattle.wrp_network.specs.Network.{End, node_count}
use Rattle.wrp_base.specs.Link.{other_of}
use Rattle.wrp_base.proofs.Lists.{all_append}
use Rattle.wrp_frame.specs.declared.fault.FrameFault.{FrameFault}
use Rattle.wrp_node.specs.declared.interface.Input.{Input}
use Rattle.wrp_node.specs.declared.interface.Input.TheVariants.{Carrier}
use Rattle.wrp_node.specs.NodeAt.{numbers_of}
use Rattle.wrp_course.specs.declared.event.Event.{Event}
use Rattle.wrp_course.specs.declared.event.Event.TheVariants.{Pass, Tick, Sample, Depart, Arrive, Deliver, Noise, Down, Up, Cut, Join}
use Rattle.wrp_course.specs.declared.place.Place.{Place}
use Rattle.wrp_course.specs.EventAt.{IsEventOf}
use Rattle.wrp_course.specs.Given.{Given, comes_at, comes_from, delivered, delivered_by, delivered_to, given_by, given_plain, goes_at, goes_from, if_carried, sent_oldest, told_sending}
use Rattle.wrp_course.specs.Moved.{waiting_at}
use Rattle.wrp_course.specs.Runs.{IsNetwork}
use Rattle.wrp_course.specs.Setting.{Setting, end_at, end_of, entry_at, place_of}
use Rattle.wrp_course.specs.WorldAt.{Arrival, FrameAt, Sending, WorldAt, has_carrier}
use Rattle.wrp_course.proofs.RunNetwork.{LinkEnd, link_end}

abbrev pub AllThere : Setting → List Given → Type 0
AllThere s gs = AllByRecursion (λ (g : Given). g.to < node_count s.cfg) gs

both_there : (s : Setting) (xs ys : List Given) → AllThere s xs → AllThere s ys → AllThere s (xs ++ ys)
both_there s xs ys h k = all_append (λ (g : Given). g.to < node_count s.cfg) xs ys h k

there_if : (s : Setting) (b : Bool) (gs : List Given) → AllThere s gs → AllThere s (if b then gs else [])
there_if s true gs h = h
there_if s false gs h = tt

-- Ends of links

by_role : (n : ℕ) (r : Role) (link : LinkCfg) → (link.upper < n) × (link.lower < n) → (end_of r link).node < n
by_role n Master link h = h.0
by_role n Slave link h = h.1

end_there : (s : Setting) → IsNetwork s → (k : ℕ) (r : Role) (end : End) → end_at s k r ≡ Some end → end.node < node_count s.cfg
end_there s net k r end is =
    let it : LinkEnd s k r end = link_end s k r end is in
    subst (λ (x : End). x.node < node_count s.cfg) it.end_is (by_role (node_count s.cfg) r it.link (net.accepted.tree.ends k it.link it.there))

abbrev IfThere : Setting → Option End → Type 0
IfThere s o = (end : End) → o ≡ Some end → end.node < node_count s.cfg

carrier_there : (s : Setting) (input : End → Input) (o : Option End) → IfThere s o →
    AllThere s (option_map_or (λ end. given_plain end.node (input end) ∷ []) o [])
carrier_there s input None h = tt
carrier_there s input (Some end) h = (h end refl, tt)

goes_one : (s : Setting) → IsNetwork s → (k : ℕ) (r : Role) → AllThere s (goes_at s k r)
goes_one s net k r = carrier_there s (λ end. Carrier end.port false None) (end_at s k r) (end_there s net k r)

goes_there : (s : Setting) → IsNetwork s → (k : ℕ) (r : Role) → AllThere s (goes_from s k r)
goes_there s net k r = both_there s (goes_at s k r) (goes_at s k (other_of r)) (goes_one s net k r) (goes_one s net k (other_of r))

comes_one : (s : Setting) → IsNetwork s → (w : WorldAt) (k : ℕ) (r : Role) → AllThere s (comes_at s w k r)
comes_one s net w k r = carrier_there s (λ end. Carrier end.port true (entry_at s k r (w.end_at k r).name)) (end_at s k r) (end_there s net k r)

comes_there : (s : Setting) → IsNetwork s → (w : WorldAt) (k : ℕ) (r : Role) → AllThere s (comes_from s w k r)
comes_there s net w k r = both_there s (comes_at s w k r) (comes_at s w k (other_of r)) (comes_one s net w k r) (comes_one s net w k (other_of r))

carried_there : (s : Setting) (w : WorldAt) (f : ℕ → Role → List Given) (o : Option Place) →
    ((k : ℕ) (r : Role) → AllThere s (f k r)) → AllThere s (if_carried s w f o)
carried_there s w f None h = tt
carried_there s w f (Some place) h = there_if s (has_carrier s w place.link) (f place.link place.role) (h place.link place.role)

ports_there : (s : Setting) (w : WorldAt) (f : ℕ → Role → List Given) (n : ℕ) (ps : List ℕ) → ((k : ℕ) (r : Role) → AllThere s (f k r)) →
    AllThere s (flat_map (λ p. if_carried s w f (place_of s n p)) ps)
ports_there s w f n [] h = tt
ports_there s w f n (p ∷ ps) h =
    both_there s (if_carried s w f (place_of s n p)) (flat_map (λ q. if_carried s w f (place_of s n q)) ps) (carried_there s w f (place_of s n p) h)
    (ports_there s w f n ps h)

-- Frames

told_there : (s : Setting) (n p seq : ℕ) (stamp : ℤ) (samples : ℕ) (body : Body) → n < node_count s.cfg →
    AllThere s (told_sending n p seq stamp samples body)
told_there s n p seq stamp samples (Sync origin) h = (h, tt)
told_there s n p seq stamp samples (DelayReq origin) h = (h, tt)
told_there s n p seq stamp samples (FollowUp precise) h = tt
told_there s n p seq stamp samples (DelayResp receive requesting) h = tt
told_there s n p seq stamp samples (Announce origin utc p1 quality p2 gm steps source suffix) h = tt
told_there s n p seq stamp samples (Signal target message) h = tt

sent_there : (s : Setting) (n p : ℕ) (stamp : ℤ) (samples : ℕ) (queue : List Sending) → n < node_count s.cfg →
    AllThere s (sent_oldest n p stamp samples queue)
sent_there s n p stamp samples [] h = tt
sent_there s n p stamp samples (oldest ∷ rest) h = told_there s n p oldest.message.head.seq stamp samples oldest.message.body h

handed_there : (s : Setting) (f : FrameAt) (arrival : Arrival) (o : Option End) → IfThere s o →
    AllThere s (option_map_or (λ end. delivered_to f arrival end.node end.port) o [])
handed_there s f arrival None h = tt
handed_there s f arrival (Some end) h = (h end refl, tt)

arrival_there : (s : Setting) → IsNetwork s → (f : FrameAt) (o : Option Arrival) → AllThere s (delivered_by s f o)
arrival_there s net f None = tt
arrival_there s net f (Some arrival) = handed_there s f arrival (end_at s f.link (other_of f.by)) (end_there s net f.link (other_of f.by))

delivered_there : (s : Setting) → IsNetwork s → (o : Option FrameAt) → AllThere s (delivered s o)
delivered_there s net None = tt
delivered_there s net (Some f) = arrival_there s net f f.arrival

-- All inputs

pub given_there : (s : Setting) → IsNetwork s → (w v : WorldAt) (says : Result PtpMsg FrameFault) (e : Event) → IsEventOf s.cfg e →
    AllThere s (given_by s w v says e)
given_there s net w v says (Pass dt drifts fibres) is = tt
given_there s net w v says (Tick m) is = (is, tt)
given_there s net w v says (Sample m base bits) is = (is.0, tt)
given_there s net w v says (Depart m p stamp) is = sent_there s m p stamp (w.clock m).samples (waiting_at w (place_of s m p)) is.0
given_there s net w v says (Arrive i raw) is = tt
given_there s net w v says (Deliver i) is = delivered_there s net (w.frame i)
given_there s net w v says (Noise m p octets raw) is = (is.0, tt)
given_there s net w v says (Down m) is = ports_there s w (goes_from s) m (numbers_of (s.set m)) (goes_there s net)
given_there s net w v says (Up m off swaps) is = (is.0, ports_there s v (comes_from s v) m (numbers_of (s.set m)) (comes_there s net v))
given_there s net w v says (Cut k) is = there_if s (has_carrier s w k) (goes_from s k Master) (goes_there s net k Master)
given_there s net w v says (Join k ms sm) is = there_if s (has_carrier s v k) (comes_from s v k Master) (comes_there s net v k Master)
