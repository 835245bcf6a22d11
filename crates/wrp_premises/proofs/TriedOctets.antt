-- The checks of octets that are handed to a port: the peer in the node's settings is the port at the other end of the
-- link.
use Rattle.std.proofs.Common.{◌≡◌, ◌∙◌, refl, ap, sym, ℕ, suc, ◌+◌, ◌==◌, ◌&&◌, Bool, true, false, if◌then◌else◌, List, [], ◌∷◌, ◌++◌, flat_map, Option, Some, Result, Ok, Err, slice_get}
use Rattle.std.specs.List.{find}
use Rattle.std.specs.Option.{option_or}
use Rattle.std.proofs.lemmas.Option.{none-some, same_Some}
use Rattle.wrp_network.specs.declared.configuration.NetCfg.{NetCfg}
use Rattle.wrp_base.specs.declared.link.Role.{Role}
use Rattle.wrp_base.specs.declared.link.Role.TheVariants.{Master, Slave}
use Rattle.wrp_base.specs.declared.message.PortIdentity.{PortIdentity}
use Rattle.wrp_base.specs.declared.message.PtpMsg.{PtpMsg}
use Rattle.wrp_network.specs.declared.network.LinkCfg.{LinkCfg}
use Rattle.wrp_base.specs.Link.{other_of}
use Rattle.wrp_base.proofs.Naturals.{is_plus_zero, zero_plus}
use Rattle.wrp_data.specs.declared.datasets.PortDs.{PortDs}
use Rattle.wrp_frame.specs.declared.fault.FrameFault.{FrameFault}
use Rattle.wrp_frame.specs.Faults.{IsFirstFault}
use Rattle.wrp_frame.specs.Grammar.{Spells}
use Rattle.wrp_node.specs.declared.interface.NodeSet.{NodeSet}
use Rattle.wrp_node.specs.NodeAt.{port_of, port_or_none}
use Rattle.wrp_frame.specs.Saying.{Says}
use Rattle.wrp_node.specs.Set.{master_at, ports_at, set_of, slave_at}
use Rattle.wrp_course.specs.Checks.{told_of, needs}
use Rattle.wrp_course.specs.declared.breach.Breach.{Breach}
use Rattle.wrp_course.specs.declared.place.Place.{Place}
use Rattle.wrp_course.specs.Premises.{is_forged, noise_checks}
use Rattle.wrp_course.specs.Setting.{Setting, link_of, place_among, place_of}
use Rattle.wrp_premises.specs.Tried.{forged_by, identity_at, is_by}
use Rattle.wrp_course.specs.WorldAt.{WorldAt, has_carrier}
use Rattle.wrp_course.proofs.Told.{told_cons}
use Rattle.wrp_course.proofs.LinkPorts.{ds_at, next_link}

-- the first of these ports with this number
abbrev port_in : ℕ → List PortDs → Option PortDs
port_in p ports = find (λ (ds : PortDs). ds.own.port == p) ports

-- an end that was found, and the node's port there
record FoundEnd (net : NetCfg) (n p k : ℕ) (links : List LinkCfg) (place : Place) : Type 0 where
  pub at : ℕ
  pub link : LinkCfg
  pub number : place.link ≡ k + at
  pub stands : slice_get links at ≡ Some link
  pub port : port_in p (flat_map (ports_at net n) links) ≡ Some (ds_at net place.role link)

-- at one link, by what it has of the port: its upper end (a and b), its lower end (c and d)
head_end : (a b c d : Bool) (rest : Option Place) (upper lower place : Place) (x y : PortDs) (test : PortDs → Bool) (ports : List PortDs) → test x ≡ b → test y ≡ d →
    (if a && b then Some upper else (if c && d then Some lower else rest)) ≡ Some place →
    (P : Type 0) → (find test (((if a then x ∷ [] else []) ++ (if c then y ∷ [] else [])) ++ ports) ≡ Some x → place ≡ upper → P) →
    (find test (((if a then x ∷ [] else []) ++ (if c then y ∷ [] else [])) ++ ports) ≡ Some y → place ≡ lower → P) →
    (find test (((if a then x ∷ [] else []) ++ (if c then y ∷ [] else [])) ++ ports) ≡ find test ports → rest ≡ Some place → P) → P
head_end true true c d rest upper lower place x y test ports e f g P up low on = up (rw e refl) (sym (same_Some upper place g))
head_end true false true true rest upper lower place x y test ports e f g P up low on = low (rw e (rw f refl)) (sym (same_Some lower place g))
head_end true false true false rest upper lower place x y test ports e f g P up low on = on (rw e (rw f refl)) g
head_end true false false d rest upper lower place x y test ports e f g P up low on = on (rw e refl) g
head_end false b true true rest upper lower place x y test ports e f g P up low on = low (rw f refl) (sym (same_Some lower place g))
head_end false b true false rest upper lower place x y test ports e f g P up low on = on (rw f refl) g
head_end false b false d rest upper lower place x y test ports e f g P up low on = on refl g

abbrev placed_at : ℕ → Role → Place
placed_at k r = record { link = k; role = r }

one_on : (net : NetCfg) (n p k : ℕ) (link : LinkCfg) (links : List LinkCfg) (place : Place) → FoundEnd net n p (k + 1) links place →
    port_in p (flat_map (ports_at net n) (link ∷ links)) ≡ port_in p (flat_map (ports_at net n) links) → FoundEnd net n p k (link ∷ links) place
one_on net n p k link links place h e = record {
  at = suc h.at;
  link = h.link;
  number = h.number ∙ next_link k h.at;
  stands = h.stands;
  port = e ∙ h.port;
}

this_end : (net : NetCfg) (n p k : ℕ) (link : LinkCfg) (links : List LinkCfg) (r : Role) (place : Place) → place ≡ placed_at k r →
    port_in p (flat_map (ports_at net n) (link ∷ links)) ≡ Some (ds_at net r link) → FoundEnd net n p k (link ∷ links) place
this_end net n p k link links r place h e = record {
  at = 0;
  link = link;
  number = ap (λ (q : Place). q.link) h ∙ is_plus_zero k;
  stands = refl;
  port = e ∙ sym (ap (λ (q : Place). Some (ds_at net q.role link)) h);
}

found_end : (net : NetCfg) (n p k : ℕ) (links : List LinkCfg) (place : Place) → place_among n p k links ≡ Some place → FoundEnd net n p k links place
found_end net n p k [] place e = absurd (none-some place e)
found_end net n p k (link ∷ links) place e =
    head_end (link.upper == n) (link.upper_port == p) (link.lower == n) (link.lower_port == p) (place_among n p (k + 1) links)
    (placed_at k Master) (placed_at k Slave) place (master_at net link) (slave_at net link) (λ (ds : PortDs). ds.own.port == p) (flat_map (ports_at net n) links) refl refl e
    (FoundEnd net n p k (link ∷ links) place)
    (λ f g. this_end net n p k link links Master place g f)
    (λ f g. this_end net n p k link links Slave place g f)
    (λ f g. one_on net n p k link links place (found_end net n p (k + 1) links place g) f)

-- its peer is the other end
peer_at : (net : NetCfg) (r : Role) (link : LinkCfg) → (ds_at net r link).peer ≡ identity_at net (other_of r) link
peer_at net Master link = refl
peer_at net Slave link = refl

pub peer_told : (net : NetCfg) (n p : ℕ) (place : Place) (link : LinkCfg) → place_among n p 0 net.links.items ≡ Some place →
    slice_get net.links.items place.link ≡ Some link → (port_of (set_of net n) p).peer ≡ identity_at net (other_of place.role) link
peer_told net n p place link e f =
    let it : FoundEnd net n p 0 net.links.items place = found_end net n p 0 net.links.items place e in
    let number : it.at ≡ place.link = sym (it.number ∙ zero_plus it.at) in
    let same : it.link ≡ link = same_Some it.link link (sym it.stands ∙ ap (slice_get net.links.items) number ∙ f) in
    ap (λ o. (port_or_none o).peer) it.port ∙ peer_at net place.role it.link ∙ ap (identity_at net (other_of place.role)) same

-- whether the octets are forged
forged_is : (s : Setting) (n p : ℕ) (says : Result PtpMsg FrameFault) (peer : PortIdentity) → (port_of (s.set n) p).peer ≡ peer →
    is_by peer says ≡ is_forged s n p says
forged_is s n p (Err fault) peer e = refl
forged_is s n p (Ok message) peer e = ap (λ q. is_by q (Ok message)) (sym e)

pub noise_told : (s : Setting) (w : WorldAt) (n p : ℕ) (says : Result PtpMsg FrameFault) (place : Place) (link : LinkCfg) (peer : PortIdentity) (b : Bool) (forged r : Option Breach) →
    s.set n ≡ set_of s.cfg n → place_of s n p ≡ Some place → link_of s place.link ≡ Some link → peer ≡ identity_at s.cfg (other_of place.role) link →
    b ≡ is_by peer says → forged ≡ told_of (forged_by b ∷ []) → r ≡ option_or forged (told_of (needs (has_carrier s w place.link) ∷ [])) →
    r ≡ told_of (noise_checks s w n p says (Some place))
noise_told s w n p says place link peer b forged r set at l q e f g =
    let same : (port_of (s.set n) p).peer ≡ peer = ap (λ (x : NodeSet). (port_of x p).peer) set ∙ peer_told s.cfg n p place link at l ∙ sym q in
    let truth : b ≡ is_forged s n p says = e ∙ forged_is s n p says peer same in
    g ∙ ap (λ o. option_or o (told_of (needs (has_carrier s w place.link) ∷ []))) (f ∙ ap (λ t. told_of (forged_by t ∷ [])) truth)
    ∙ sym (told_cons (forged_by (is_forged s n p says)) (needs (has_carrier s w place.link) ∷ []))

-- the octets spell what was decoded
pub says_it : (octets : List ℕ) (says : Result PtpMsg FrameFault) → ((message : PtpMsg) → says ≡ Ok message → Spells octets message) →
    ((fault : FrameFault) → says ≡ Err fault → IsFirstFault fault octets) → Says octets says
says_it octets (Ok message) f g = f message refl
says_it octets (Err fault) f g = g fault refl
