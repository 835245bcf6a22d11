-- The way of a frame on its fibre, and its octets.
use Rattle.std.proofs.Common.{◌≡◌, ◌∙◌, refl, ap, ap₂, sym, subst, ℕ, ◌≤◌, ◌<◌, true, false, List, length, Option, None, Some, option_map, slice_get, arith}
use Rattle.std.proofs.lemmas.Bool.{and_parts}
use Rattle.std.proofs.lemmas.Option.{none-some, same_Some}
use Rattle.std.specs.Option.{option_and_then}
use Rattle.wrp_network.specs.declared.configuration.NetCfg.{NetCfg}
use Rattle.wrp_base.specs.declared.link.Role.{Role}
use Rattle.wrp_base.specs.declared.link.Role.TheVariants.{Master, Slave}
use Rattle.wrp_base.specs.declared.message.Body.{Body}
use Rattle.wrp_base.specs.declared.message.Body.TheVariants.{Sync, DelayReq, FollowUp, DelayResp, Announce, Signal}
use Rattle.wrp_base.specs.declared.message.Head.{Head}
use Rattle.wrp_base.specs.declared.message.PortIdentity.{PortIdentity}
use Rattle.wrp_base.specs.declared.message.PtpMsg.{PtpMsg}
use Rattle.wrp_base.specs.declared.message.WrMsg.TheVariants.{Present, Lock, Locked, Calibrate, Calibrated, ModeOn}
use Rattle.wrp_network.specs.declared.network.LinkCfg.{LinkCfg}
use Rattle.wrp_network.specs.Network.{End, IsTree, node_count}
use Rattle.wrp_base.specs.Link.{other_of}
use Rattle.wrp_frame.specs.SentOctets.{octets_of}
use Rattle.wrp_node.specs.declared.interface.NodeSet.{NodeSet}
use Rattle.wrp_node.specs.NodeAt.{port_of}
use Rattle.wrp_node.specs.Set.{identity_of}
use Rattle.wrp_plant.proofs.KeptFrames.{kept_on_fibre}
use Rattle.wrp_premises.proofs.TriedOctets.{peer_told}
use Rattle.wrp_premises.specs.Tried.{identity_at}
use Rattle.wrp_course.specs.declared.clocks.ClockState.{ClockState}
use Rattle.wrp_course.specs.declared.place.Place.{Place}
use Rattle.wrp_course.specs.Runs.{IsNetwork}
use Rattle.wrp_course.specs.Setting.{Setting, across, end_at, end_of, link_of, place_among, place_of}
use Rattle.wrp_course.specs.Views.{kept_frame, octets_at, sender_of}
use Rattle.wrp_course.specs.WorldAt.{FrameAt, WorldAt, ends_are_up, has_carrier, is_on_fibre}
use Rattle.wrp_course.proofs.RunNetwork.{LinkEnd, end_with, place_end}
use Rattle.wrp_loop.specs.declared.routes.Route.{Route}
use Rattle.wrp_loop.specs.Datagrams.{IsWayOf, end_number}
use Rattle.wrp_loop.specs.LoopStands.{Flies, IsRouteOf, way_by}
use Rattle.wrp_sim.proofs.Ends.{end_found}

-- Octets of frames are few

body_few : (h : Head) (b : Body) → length (octets_of (record { head = h; body = b })) ≤ 256
body_few h (Sync origin) = let e : length (octets_of (record { head = h; body = Sync origin })) ≡ 44 = refl in omega (arith, e)
body_few h (DelayReq origin) = let e : length (octets_of (record { head = h; body = DelayReq origin })) ≡ 44 = refl in omega (arith, e)
body_few h (FollowUp precise) = let e : length (octets_of (record { head = h; body = FollowUp precise })) ≡ 44 = refl in omega (arith, e)
body_few h (DelayResp receive requesting) = let e : length (octets_of (record { head = h; body = DelayResp receive requesting })) ≡ 54 = refl in omega (arith, e)
body_few h (Announce origin utc p1 quality p2 gm steps source None) = let e : length (octets_of (record { head = h; body = Announce origin utc p1 quality p2 gm steps source None })) ≡ 64 = refl in omega (arith, e)
body_few h (Announce origin utc p1 quality p2 gm steps source (Some flags)) = let e : length (octets_of (record { head = h; body = Announce origin utc p1 quality p2 gm steps source (Some flags) })) ≡ 78 = refl in omega (arith, e)
body_few h (Signal target None) = let e : length (octets_of (record { head = h; body = Signal target None })) ≡ 44 = refl in omega (arith, e)
body_few h (Signal target (Some Present)) = let e : length (octets_of (record { head = h; body = Signal target (Some Present) })) ≡ 56 = refl in omega (arith, e)
body_few h (Signal target (Some Lock)) = let e : length (octets_of (record { head = h; body = Signal target (Some Lock) })) ≡ 56 = refl in omega (arith, e)
body_few h (Signal target (Some Locked)) = let e : length (octets_of (record { head = h; body = Signal target (Some Locked) })) ≡ 56 = refl in omega (arith, e)
body_few h (Signal target (Some (Calibrate pattern retry period))) = let e : length (octets_of (record { head = h; body = Signal target (Some (Calibrate pattern retry period)) })) ≡ 62 = refl in omega (arith, e)
body_few h (Signal target (Some (Calibrated tx rx))) = let e : length (octets_of (record { head = h; body = Signal target (Some (Calibrated tx rx)) })) ≡ 72 = refl in omega (arith, e)
body_few h (Signal target (Some ModeOn)) = let e : length (octets_of (record { head = h; body = Signal target (Some ModeOn) })) ≡ 56 = refl in omega (arith, e)

pub octets_few : (message : PtpMsg) → length (octets_of message) ≤ 256
octets_few message = body_few message.head message.body

pub octets_fit : (s : Setting) (w : WorldAt) (i : ℕ) (f : FrameAt) (octets : List ℕ) → Flies w s i f → Some octets ≡ octets_at s w i → octets ≡ octets_of f.sending.message
octets_fit s w i f octets flies told =
    let kept : kept_frame s w i ≡ Some f = kept_on_fibre s w i (ap is_on_fibre flies.is ∙ flies.on) ∙ flies.is in
    same_Some octets (octets_of f.sending.message) (told ∙ ap (option_map (λ (g : FrameAt). octets_of g.sending.message)) kept)

pub octets_there : (s : Setting) (w : WorldAt) (i : ℕ) (f : FrameAt) → Flies w s i f → None ≡ octets_at s w i → ⊥
octets_there s w i f flies told =
    let kept : kept_frame s w i ≡ Some f = kept_on_fibre s w i (ap is_on_fibre flies.is ∙ flies.on) ∙ flies.is in
    none-some (octets_of f.sending.message) (told ∙ ap (option_map (λ (g : FrameAt). octets_of g.sending.message)) kept)

-- The ends of its link

up_there : (clock : ℕ → ClockState) (o : Option LinkCfg) → ends_are_up clock o ≡ true → (link : LinkCfg) × (o ≡ Some link)
up_there clock None e = absurd (let f : false ≡ true = e in cc)
up_there clock (Some link) e = (link, refl)

pub lit_link : (s : Setting) (w : WorldAt) (k : ℕ) → has_carrier s w k ≡ true → (link : LinkCfg) × (link_of s k ≡ Some link)
lit_link s w k lit = up_there w.clock (link_of s k) (and_parts (w.fibre k).joined (ends_are_up w.clock (link_of s k)) lit).1

abbrev port_in : End → ℕ × ℕ
port_in end = (end.node, end.port)

sender_is : (s : Setting) (w : WorldAt) (i : ℕ) (f : FrameAt) (link : LinkCfg) → Flies w s i f → link_of s f.link ≡ Some link → sender_of s w i ≡ Some (end_of f.by link)
sender_is s w i f link flies there =
    ap (option_and_then (λ (g : FrameAt). end_at s g.link g.by)) (kept_on_fibre s w i (ap is_on_fibre flies.is ∙ flies.on) ∙ flies.is)
    ∙ ap (option_map (end_of f.by)) there

-- the place of the sender
pub sender_place : (s : Setting) → IsNetwork s → (w : WorldAt) (i n p : ℕ) (f : FrameAt) → Flies w s i f → Some (n, p) ≡ option_map port_in (sender_of s w i) → place_of s n p ≡ Some (record { link = f.link; role = f.by })
sender_place s net w i n p f flies told =
    let it = lit_link s w f.link flies.lit in
    let end : End = end_of f.by it.0 in
    let same : (n, p) ≡ port_in end = same_Some (n, p) (port_in end) (told ∙ ap (option_map port_in) (sender_is s w i f it.0 flies it.1)) in
    ap (λ (x : ℕ × ℕ). place_of s x.0 x.1) same ∙ end_found s net f.link f.by end (ap (option_map (end_of f.by)) it.1)

-- there is such a place
pub no_place : (s : Setting) → IsNetwork s → (w : WorldAt) (i n p : ℕ) (f : FrameAt) (cfg : NetCfg) → cfg ≡ s.cfg → Flies w s i f → Some (n, p) ≡ option_map port_in (sender_of s w i) → None ≡ place_among n p 0 cfg.links.items → ⊥
no_place s net w i n p f cfg same flies told none =
    none-some (record { link = f.link; role = f.by }) (none ∙ (ap (λ (c : NetCfg). place_among n p 0 c.links.items) same ∙ sender_place s net w i n p f flies told))

end_below : (r : Role) (link : LinkCfg) (count : ℕ) → (link.upper < count) × (link.lower < count) → (end_of r link).node < count
end_below Master link count h = h.0
end_below Slave link count h = h.1

-- the sender is a node of the network
pub sender_below : (s : Setting) (cfg real : NetCfg) (n p : ℕ) (place : Place) → cfg ≡ real → real ≡ s.cfg → IsTree real → place_among n p 0 cfg.links.items ≡ Some place → n < node_count cfg
sender_below s cfg real n p place same is tree at =
    let e : LinkEnd s place.link place.role (end_with n p) = place_end s n p place (sym (ap (λ (c : NetCfg). place_among n p 0 c.links.items) (same ∙ is)) ∙ at) in
    let ends : (e.link.upper < node_count real) × (e.link.lower < node_count real) = tree.ends place.link e.link (ap (λ (c : NetCfg). slice_get c.links.items place.link) is ∙ e.there) in
    let below : (end_of place.role e.link).node < node_count real = end_below place.role e.link (node_count real) ends in
    subst (λ (c : NetCfg). n < node_count c) (sym same) (subst (λ (end : End). end.node < node_count real) e.end_is below)

-- its identity
peer_identity : (cfg : NetCfg) (r : Role) (link : LinkCfg) → identity_at cfg (other_of (other_of r)) link ≡ record { clock = identity_of cfg (end_of r link).node; port = (end_of r link).port }
peer_identity cfg Master link = refl
peer_identity cfg Slave link = refl

abbrev at_port : (cfg : NetCfg) → ℕ × ℕ → PortIdentity
at_port cfg x = record { clock = identity_of cfg x.0; port = x.1 }

-- the whole way, by what the code has of it
pub route_is : (s : Setting) → IsNetwork s → (w : WorldAt) (i n p : ℕ) (f : FrameAt) (cfg : NetCfg) (place : Place) (from to node port clock : ℕ) → cfg ≡ s.cfg → Flies w s i f → Some (n, p) ≡ option_map port_in (sender_of s w i) →
    place_among n p 0 cfg.links.items ≡ Some place → from ≡ end_number place.link place.role → to ≡ end_number (across place).link (across place).role →
    option_map (λ link. (end_of (across place).role link).node) (slice_get cfg.links.items (across place).link) ≡ Some node →
    option_map (λ link. (end_of (across place).role link).port) (slice_get cfg.links.items (across place).link) ≡ Some port →
    clock ≡ identity_of cfg n → IsRouteOf s f (record { from = from; to = to; node = node; port = port; peer = record { clock = clock; port = p } })
route_is s net w i n p f cfg place from to node port clock same flies told at from_is to_is node_is port_is clock_is =
    let it = lit_link s w f.link flies.lit in
    let link : LinkCfg = it.0 in
    let r : Role = other_of f.by in
    let there : place ≡ record { link = f.link; role = f.by } =
    same_Some place (record { link = f.link; role = f.by }) (sym at ∙ ap (λ (c : NetCfg). place_among n p 0 c.links.items) same ∙ sender_place s net w i n p f flies told) in
    let node_there : node ≡ (end_of r link).node =
    same_Some node (end_of r link).node (sym node_is ∙ ap₂ (λ (c : NetCfg) (k : Place). option_map (λ (l : LinkCfg). (end_of (across k).role l).node) (slice_get c.links.items (across k).link)) same there
    ∙ ap (option_map (λ (l : LinkCfg). (end_of r l).node)) it.1) in
    let port_there : port ≡ (end_of r link).port =
    same_Some port (end_of r link).port (sym port_is ∙ ap₂ (λ (c : NetCfg) (k : Place). option_map (λ (l : LinkCfg). (end_of (across k).role l).port) (slice_get c.links.items (across k).link)) same there
    ∙ ap (option_map (λ (l : LinkCfg). (end_of r l).port)) it.1) in
    let sender : (n, p) ≡ port_in (end_of f.by link) = same_Some (n, p) (port_in (end_of f.by link)) (told ∙ ap (option_map port_in) (sender_is s w i f link flies it.1)) in
    let end_is : end_at s f.link r ≡ Some (end_of r link) = ap (option_map (end_of r)) it.1 in
    let placed : place_of s (end_of r link).node (end_of r link).port ≡ Some (record { link = f.link; role = r }) = end_found s net f.link r (end_of r link) end_is in
    let peer : (port_of (s.set (end_of r link).node) (end_of r link).port).peer ≡ at_port s.cfg (n, p) =
    ap (λ (x : NodeSet). (port_of x (end_of r link).port).peer) (net.set (end_of r link).node)
    ∙ (peer_told s.cfg (end_of r link).node (end_of r link).port (record { link = f.link; role = r }) link placed it.1
    ∙ (peer_identity s.cfg f.by link ∙ sym (ap (at_port s.cfg) sender))) in
    record {
      from_is = from_is ∙ ap (λ (k : Place). end_number k.link k.role) there;
      to_is = to_is ∙ ap (λ (k : Place). end_number (across k).link (across k).role) there;
      port_is = end_is ∙ ap₂ (λ (a b : ℕ). Some (record { node = a; port = b })) (sym node_there) (sym port_there);
      peer_is = ap₂ (λ (a b : ℕ). (port_of (s.set a) b).peer) node_there port_there
          ∙ (peer ∙ ap (λ (c : ℕ). record { clock = c; port = p }) (ap (λ (c : NetCfg). identity_of c n) (sym same) ∙ sym clock_is));
    }

-- the way by its route
pub way_of : (s : Setting) (f : FrameAt) (route : Route) → IsRouteOf s f route → IsWayOf s f (way_by f route) (octets_of f.sending.message)
way_of s f route h = record { link_is = refl; by_is = refl; to_is = h.port_is; octets_are = refl }
