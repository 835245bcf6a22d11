-- The inputs that an event gives are for nodes of the network.
use Rattle.std.proofs.Common.{◌≡◌, refl, ℕ, ℤ, ◌<◌, Bool, true, false, if◌then◌else◌, List, [], ◌∷◌, flat_map, Option, None, Some, option_map, Result}
use Rattle.std.specs.List.{AllByRecursion}
use Rattle.std.specs.Option.{option_map_or}
use Rattle.wrp_base.specs.declared.link.Role.{Role}
use Rattle.wrp_base.specs.declared.link.Role.TheVariants.{Master, Slave}
use Rattle.wrp_base.specs.declared.message.Body.{Body}
use Rattle.wrp_base.specs.declared.message.Body.TheVariants as bodies
use Rattle.wrp_base.specs.declared.message.PtpMsg.{PtpMsg}
use Rattle.wrp_network.specs.declared.network.LinkCfg.{LinkCfg}
use Rattle.wrp_network.specs.Network.{End, IsTree, node_count}
use Rattle.wrp_base.specs.Link.{other_of}
use Rattle.wrp_base.proofs.Lists.{all_append}
use Rattle.wrp_frame.specs.declared.fault.FrameFault.{FrameFault}
use Rattle.wrp_node.specs.NodeAt.{numbers_of}
use Rattle.wrp_course.specs.declared.event.Event.{Event}
use Rattle.wrp_course.specs.declared.event.Event.TheVariants.{Pass, Tick, Sample, Depart, Arrive, Deliver, Noise, Down, Up, Cut, Join}
use Rattle.wrp_course.specs.declared.place.Place.{Place}
use Rattle.wrp_course.specs.EventAt.{IsEventOf}
use Rattle.wrp_course.specs.Given.{Given, at_ports, comes_at, comes_from, delivered, delivered_by, given_by, goes_at, goes_from, if_carried, sent_oldest, told_sending}
use Rattle.wrp_course.specs.Moved.{waiting_at}
use Rattle.wrp_course.specs.Setting.{Setting, end_at, end_of, link_of, place_of}
use Rattle.wrp_course.specs.WorldAt.{Arrival, FrameAt, Sending, WorldAt, has_carrier}

abbrev pub AllWithin : Setting → List Given → Type 0
AllWithin s gs = AllByRecursion (λ (g : Given). g.to < node_count s.cfg) gs

each_within : {X : Type 0} (s : Setting) (f : X → List Given) (xs : List X) → ((x : X) → AllWithin s (f x)) → AllWithin s (flat_map f xs)
each_within s f [] all = tt
each_within s f (x ∷ xs) all = all_append (λ (g : Given). g.to < node_count s.cfg) (f x) (flat_map f xs) (all x) (each_within s f xs all)

-- at the ends of links

end_within : (s : Setting) (k : ℕ) (r : Role) (f : End → List Given) → IsTree s.cfg
    → ((end : End) → end.node < node_count s.cfg → AllWithin s (f end)) → AllWithin s (option_map_or f (end_at s k r) [])
end_within s k r f tree all = go (link_of s k) refl r
  where
    go : (o : Option LinkCfg) → link_of s k ≡ o → (r : Role) → AllWithin s (option_map_or f (option_map (end_of r) (link_of s k)) [])
    go None is r = rw is tt
    go (Some link) is Master = rw is (all (end_of Master link) (tree.ends k link is).0)
    go (Some link) is Slave = rw is (all (end_of Slave link) (tree.ends k link is).1)

goes_both : (s : Setting) → IsTree s.cfg → (k : ℕ) (r : Role) → AllWithin s (goes_from s k r)
goes_both s tree k r =
    all_append (λ (g : Given). g.to < node_count s.cfg) (goes_at s k r) (goes_at s k (other_of r))
    (end_within s k r _ tree (λ end h. (h, tt))) (end_within s k (other_of r) _ tree (λ end h. (h, tt)))

comes_both : (s : Setting) (w : WorldAt) → IsTree s.cfg → (k : ℕ) (r : Role) → AllWithin s (comes_from s w k r)
comes_both s w tree k r =
    all_append (λ (g : Given). g.to < node_count s.cfg) (comes_at s w k r) (comes_at s w k (other_of r))
    (end_within s k r _ tree (λ end h. (h, tt))) (end_within s k (other_of r) _ tree (λ end h. (h, tt)))

if_within : (s : Setting) (b : Bool) (gs : List Given) → AllWithin s gs → AllWithin s (if b then gs else [])
if_within s true gs all = all
if_within s false gs all = tt

carried_within : (s : Setting) (w : WorldAt) (f : ℕ → Role → List Given) (o : Option Place)
    → ((k : ℕ) (r : Role) → AllWithin s (f k r)) → AllWithin s (if_carried s w f o)
carried_within s w f None all = tt
carried_within s w f (Some place) all = if_within s (has_carrier s w place.link) (f place.link place.role) (all place.link place.role)

ports_within : (s : Setting) (w : WorldAt) (f : ℕ → Role → List Given) (n : ℕ) → ((k : ℕ) (r : Role) → AllWithin s (f k r)) → AllWithin s (at_ports s w f n)
ports_within s w f n all =
    each_within s (λ p. if_carried s w f (place_of s n p)) (numbers_of (s.set n)) (λ p. carried_within s w f (place_of s n p) all)

-- by each event

told_within : (s : Setting) (n p seq : ℕ) (stamp : ℤ) (samples : ℕ) (body : Body) → n < node_count s.cfg
    → AllWithin s (told_sending n p seq stamp samples body)
told_within s n p seq stamp samples (bodies.Sync origin) h = (h, tt)
told_within s n p seq stamp samples (bodies.DelayReq origin) h = (h, tt)
told_within s n p seq stamp samples _ h = tt

sent_within : (s : Setting) (n p : ℕ) (stamp : ℤ) (samples : ℕ) (waiting : List Sending) → n < node_count s.cfg
    → AllWithin s (sent_oldest n p stamp samples waiting)
sent_within s n p stamp samples [] h = tt
sent_within s n p stamp samples (oldest ∷ rest) h = told_within s n p oldest.message.head.seq stamp samples oldest.message.body h

delivered_within : (s : Setting) (o : Option FrameAt) → IsTree s.cfg → AllWithin s (delivered s o)
delivered_within s None tree = tt
delivered_within s (Some f) tree = go f.arrival
  where
    go : (a : Option Arrival) → AllWithin s (delivered_by s f a)
    go None = tt
    go (Some arrival) = end_within s f.link (other_of f.by) _ tree (λ end h. (h, tt))

pub given_within : (s : Setting) (w v : WorldAt) (says : Result PtpMsg FrameFault) (e : Event) → IsTree s.cfg → IsEventOf s.cfg e
    → AllWithin s (given_by s w v says e)
given_within s w v says (Pass dt drifts fibres) tree is = tt
given_within s w v says (Tick n) tree is = (is, tt)
given_within s w v says (Sample n base bits) tree is = (is.0, tt)
given_within s w v says (Depart n p stamp) tree is = sent_within s n p stamp (w.clock n).samples (waiting_at w (place_of s n p)) is.0
given_within s w v says (Arrive i raw) tree is = tt
given_within s w v says (Deliver i) tree is = delivered_within s (w.frame i) tree
given_within s w v says (Noise n p octets raw) tree is = (is.0, tt)
given_within s w v says (Down n) tree is = ports_within s w (goes_from s) n (goes_both s tree)
given_within s w v says (Up n off swaps) tree is = (is.0, ports_within s v (comes_from s v) n (comes_both s v tree))
given_within s w v says (Cut k) tree is = if_within s (has_carrier s w k) (goes_from s k Master) (goes_both s tree k Master)
given_within s w v says (Join k ms sm) tree is = if_within s (has_carrier s v k) (comes_from s v k Master) (comes_both s v tree k Master)
