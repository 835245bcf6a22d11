-- What an accepted network has of its links: two nodes at the ends of each, and each port at one end; and a link before any event.
use Rattle.std.proofs.Common.{◌≡◌, ◌∙◌, refl, ap, ap₂, sym, subst, ℕ, zero, suc, ◌+◌, ◌≤◌, ◌==◌, ◌&&◌, Bool, true, false, if◌then◌else◌, List, [], ◌∷◌, flat_map, Option, None, Some, option_map, slice_get, arith}
use Rattle.std.proofs.lemmas.Bool.{eqb-true, and_parts}
use Rattle.std.specs.List.{find}
use Rattle.std.proofs.lemmas.Option.{none-some, same_Some}
use Rattle.wrp_network.specs.declared.configuration.NetCfg.{NetCfg}
use Rattle.wrp_base.specs.declared.link.Role.{Role}
use Rattle.wrp_base.specs.declared.link.Role.TheVariants.{Master, Slave}
use Rattle.wrp_network.specs.declared.network.LinkCfg.{LinkCfg}
use Rattle.wrp_network.specs.Network.{End, HasDepth, IsTree, ends_of, link_above}
use Rattle.wrp_base.proofs.Booleans.{not_both}
use Rattle.wrp_base.proofs.Naturals.{eq_self, is_plus_zero}
use Rattle.wrp_bounds.specs.Times.{shortest_tick, frame_life}
use Rattle.wrp_config.specs.Laws.{ChildIsDeeper}
use Rattle.wrp_config.specs.Names.{is_lower_end, is_upper_end}
use Rattle.wrp_data.specs.declared.datasets.PortDs.{PortDs}
use Rattle.wrp_handshake_laws.specs.Ends.{OutlivesFrames, new_port}
use Rattle.wrp_link.specs.declared.interface.LinkSet.{LinkSet}
use Rattle.wrp_link.specs.LinkAt.{new_link}
use Rattle.wrp_node.specs.declared.interface.NodeSet.{NodeSet}
use Rattle.wrp_node.specs.NodeAt.{port_of, setting_of}
use Rattle.wrp_node.specs.SetLaws.{EndsAreSet}
use Rattle.wrp_course.specs.declared.place.Place.{Place}
use Rattle.wrp_course.specs.Runs.{IsNetwork}
use Rattle.wrp_course.specs.LinkEnds.{port_at}
use Rattle.wrp_course.specs.Setting.{Setting, end_at, end_of, link_of, place_among, place_of, start_of}
use Rattle.wrp_course.specs.WorldAt.{new_world}
use Rattle.wrp_course.proofs.RunCarriers.{AreApart}
use Rattle.wrp_course.proofs.LinkPorts.{next_link}
use Rattle.wrp_course.proofs.RunGiven.{LinkCan, with_ports}
use Rattle.wrp_course.proofs.RunPorts.{port_is}

-- Two nodes

pub record FoundAt {A : Type 0} (test : A → Bool) (xs : List A) : Type 0 where
  pub what : A
  pub place : ℕ
  pub found : find test xs ≡ Some what
  pub there : slice_get xs place ≡ Some what
  pub passes : test what ≡ true

found_later : {A : Type 0} (test : A → Bool) (x : A) (xs : List A) (b : Bool) → test x ≡ b → (b ≡ false → FoundAt test xs) → FoundAt test (x ∷ xs)
found_later test x xs true e h = record { what = x; place = 0; found = rw e refl; there = refl; passes = e }
found_later test x xs false e h =
    let f : FoundAt test xs = h refl in
    record { what = f.what; place = suc f.place; found = rw e f.found; there = f.there; passes = f.passes }

found_at : {A : Type 0} (test : A → Bool) (xs : List A) (k : ℕ) (x : A) → slice_get xs k ≡ Some x → test x ≡ true → FoundAt test xs
found_at test [] k x e t = absurd (none-some x e)
found_at test (y ∷ xs) zero x e t =
    found_later test y xs (test y) refl (λ f. absurd (not_both (test x) t (ap test (sym (same_Some y x e)) ∙ f)))
found_at test (y ∷ xs) (suc k) x e t = found_later test y xs (test y) refl (λ f. found_at test xs k x e t)

not_deeper : (d : ℕ) → d ≡ suc d → ⊥
not_deeper d e = omega arith

has_no_depth : ChildIsDeeper → (cfg : NetCfg) (n d : ℕ) (link : LinkCfg) → link_above cfg n ≡ Some link → link.upper ≡ n → HasDepth cfg d n → ⊥
has_no_depth deeper cfg n zero link e same h = none-some link (sym h ∙ e)
has_no_depth deeper cfg n (suc d) link e same h =
    let it : h.0 ≡ link = same_Some h.0 link (sym h.1 ∙ e) in
    let up : HasDepth cfg d link.upper = subst (λ (x : LinkCfg). HasDepth cfg d x.upper) it h.2 in
    not_deeper d (deeper cfg n d d link e up (subst (HasDepth cfg d) same up))

pub two_nodes : ChildIsDeeper → (s : Setting) → IsNetwork s → (k : ℕ) (link : LinkCfg) → link_of s k ≡ Some link → link.upper ≡ link.lower → ⊥
two_nodes deeper s net k link is same =
    let tree : IsTree s.cfg = net.accepted.tree in
    let f : FoundAt (λ l. l.lower == link.lower) s.cfg.links.items =
    found_at (λ (l : LinkCfg). l.lower == link.lower) s.cfg.links.items k link is (eq_self link.lower) in
    let lower : f.what.lower ≡ link.lower = eqb-true f.what.lower link.lower f.passes in
    let place : f.place ≡ k = tree.one_parent f.place k f.what link f.there is lower in
    let what : f.what ≡ link = same_Some f.what link (sym f.there ∙ ap (slice_get s.cfg.links.items) place ∙ is) in
    let above : link_above s.cfg link.lower ≡ Some link = f.found ∙ ap Some what in
    let deep : (depth : ℕ) × (depth ≤ 8) × HasDepth s.cfg depth link.lower = tree.shallow link.lower (tree.ends k link is).1 in
    has_no_depth deeper s.cfg link.lower deep.0 link above same deep.2

-- Each port at one end

abbrev twice : ℕ → ℕ
twice zero = zero
twice (suc k) = suc (suc (twice k))

abbrev place_in : Role → ℕ → ℕ
place_in Master k = twice k
place_in Slave k = suc (twice k)

twice_is : (k : ℕ) → twice k ≡ k + k
twice_is zero = refl
twice_is (suc k) = let h : twice k ≡ k + k = twice_is k in omega (arith, h)

end_there : (r : Role) (links : List LinkCfg) (k : ℕ) (link : LinkCfg) → slice_get links k ≡ Some link → slice_get (flat_map ends_of links) (place_in r k) ≡ Some (end_of r link)
end_there r [] k link e = absurd (none-some link e)
end_there Master (l ∷ links) zero link e = ap (λ x. Some (end_of Master x)) (same_Some l link e)
end_there Slave (l ∷ links) zero link e = ap (λ x. Some (end_of Slave x)) (same_Some l link e)
end_there Master (l ∷ links) (suc k) link e = end_there Master links k link e
end_there Slave (l ∷ links) (suc k) link e = end_there Slave links k link e

same_place : (k l : ℕ) (r q : Role) → place_in r k ≡ place_in q l → (k ≡ l) × (r ≡ q)
same_place k l Master Master e = (let a : twice k ≡ k + k = twice_is k in let b : twice l ≡ l + l = twice_is l in omega (arith, a, b, e), refl)
same_place k l Slave Slave e = (let a : twice k ≡ k + k = twice_is k in let b : twice l ≡ l + l = twice_is l in omega (arith, a, b, e), refl)
same_place k l Master Slave e = absurd (let a : twice k ≡ k + k = twice_is k in let b : twice l ≡ l + l = twice_is l in omega (arith, a, b, e))
same_place k l Slave Master e = absurd (let a : twice k ≡ k + k = twice_is k in let b : twice l ≡ l + l = twice_is l in omega (arith, a, b, e))

pub record LinkEnd (s : Setting) (k : ℕ) (r : Role) (end : End) : Type 0 where
  pub link : LinkCfg
  pub there : link_of s k ≡ Some link
  pub end_is : end_of r link ≡ end

ended : (r : Role) (o : Option LinkCfg) (end : End) → option_map (end_of r) o ≡ Some end → (link : LinkCfg) × (o ≡ Some link) × (end_of r link ≡ end)
ended r None end e = absurd (none-some end e)
ended r (Some link) end e = (link, refl, same_Some (end_of r link) end e)

pub link_end : (s : Setting) (k : ℕ) (r : Role) (end : End) → end_at s k r ≡ Some end → LinkEnd s k r end
link_end s k r end e =
    let it : (link : LinkCfg) × (link_of s k ≡ Some link) × (end_of r link ≡ end) = ended r (link_of s k) end e in
    record { link = it.0; there = it.1; end_is = it.2 }

pub are_apart : (s : Setting) → IsNetwork s → AreApart s
are_apart s net k l r q end a b =
    let x : LinkEnd s k r end = link_end s k r end a in
    let y : LinkEnd s l q end = link_end s l q end b in
    same_place k l r q
    (net.accepted.ports (place_in r k) (place_in q l) end
    (end_there r s.cfg.links.items k x.link x.there ∙ ap Some x.end_is)
    (end_there q s.cfg.links.items l y.link y.there ∙ ap Some y.end_is))

-- The place of a port

pub record PlacedAt (n p k : ℕ) (links : List LinkCfg) (place : Place) : Type 0 where
  pub at : ℕ
  pub link : LinkCfg
  pub there : slice_get links at ≡ Some link
  pub number : place.link ≡ k + at
  pub end_is : end_of place.role link ≡ record { node = n; port = p }

abbrev pub end_with : ℕ → ℕ → End
end_with n p = record { node = n; port = p }

same_end : (a b n p : ℕ) → ((a == n) && (b == p)) ≡ true → end_with a b ≡ end_with n p
same_end a b n p e =
    let both : ((a == n) ≡ true) × ((b == p) ≡ true) = and_parts (a == n) (b == p) e in
    ap₂ end_with (eqb-true a n both.0) (eqb-true b p both.1)

placed_by : (n p k : ℕ) (l : LinkCfg) (links : List LinkCfg) (place : Place) (a b : Bool) → is_upper_end n p l ≡ a → is_lower_end n p l ≡ b →
    (if a then Some (record { link = k; role = Master }) else (if b then Some (record { link = k; role = Slave }) else place_among n p (k + 1) links)) ≡ Some place →
    (place_among n p (k + 1) links ≡ Some place → PlacedAt n p (k + 1) links place) → PlacedAt n p k (l ∷ links) place
placed_by n p k l links place true b e f g h =
    let it : record { link = k; role = Master } ≡ place = same_Some (record { link = k; role = Master }) place g in
    subst (PlacedAt n p k (l ∷ links)) it
    (record { at = 0; link = l; there = refl; number = is_plus_zero k; end_is = same_end l.upper l.upper_port n p e })
placed_by n p k l links place false true e f g h =
    let it : record { link = k; role = Slave } ≡ place = same_Some (record { link = k; role = Slave }) place g in
    subst (PlacedAt n p k (l ∷ links)) it
    (record { at = 0; link = l; there = refl; number = is_plus_zero k; end_is = same_end l.lower l.lower_port n p f })
placed_by n p k l links place false false e f g h =
    let it : PlacedAt n p (k + 1) links place = h g in
    record { at = suc it.at; link = it.link; there = it.there; number = it.number ∙ next_link k it.at; end_is = it.end_is }

placed : (n p k : ℕ) (links : List LinkCfg) (place : Place) → place_among n p k links ≡ Some place → PlacedAt n p k links place
placed n p k [] place e = absurd (none-some place e)
placed n p k (l ∷ links) place e = placed_by n p k l links place (is_upper_end n p l) (is_lower_end n p l) refl refl e (placed n p (k + 1) links place)

from_zero : (k i : ℕ) → k ≡ 0 + i → i ≡ k
from_zero k i e = omega (arith, e)

pub place_end : (s : Setting) (n p : ℕ) (place : Place) → place_of s n p ≡ Some place → LinkEnd s place.link place.role (end_with n p)
place_end s n p place e =
    let it : PlacedAt n p 0 s.cfg.links.items place = placed n p 0 s.cfg.links.items place e in
    record {
      link = it.link;
      there = subst (λ i. link_of s i ≡ Some it.link) (from_zero place.link it.at it.number) it.there;
      end_is = it.end_is;
    }

-- A link before any event

quiet_is : (s : Setting) (n p : ℕ) → IsNetwork s → OutlivesFrames (frame_life s.cfg) (shortest_tick s.cfg) (setting_of (s.set n) p).link
quiet_is s n p net =
    subst (λ (x : NodeSet). OutlivesFrames (frame_life s.cfg) (shortest_tick s.cfg) (setting_of x p).link) (sym (net.set n)) net.accepted.inequalities.quiet_time

master_is : EndsAreSet → (s : Setting) → IsNetwork s → (k : ℕ) (link : LinkCfg) → link_of s k ≡ Some link → (setting_of (s.set link.upper) link.upper_port).ds.role ≡ Master
master_is ends s net k link is =
    ap (λ (x : NodeSet). (port_of x link.upper_port).role) (net.set link.upper) ∙ ap (λ (d : PortDs). d.role) (ends s.cfg k link net.accepted.ports is).0

slave_is : EndsAreSet → (s : Setting) → IsNetwork s → (k : ℕ) (link : LinkCfg) → link_of s k ≡ Some link → (setting_of (s.set link.lower) link.lower_port).ds.role ≡ Slave
slave_is ends s net k link is =
    ap (λ (x : NodeSet). (port_of x link.lower_port).role) (net.set link.lower) ∙ ap (λ (d : PortDs). d.role) (ends s.cfg k link net.accepted.ports is).1

pub start_can : EndsAreSet → (s : Setting) → IsNetwork s → (k : ℕ) (link : LinkCfg) → link_of s k ≡ Some link → LinkCan s (λ r. None) (new_world s) k link
start_can ends s net k link is =
    let of_master : LinkSet = (setting_of (s.set link.upper) link.upper_port).link in
    let of_slave : LinkSet = (setting_of (s.set link.lower) link.lower_port).link in
    with_ports s (λ r. None) (new_world s) k link (start_of s) (new_port Master of_master (start_of s)) (new_port Slave of_slave (start_of s)) refl
    (port_is (port_at s (new_world s) k Master (end_of Master link)) (new_port Master of_master (start_of s)) (ap (λ r. new_link r of_master) (master_is ends s net k link is)) refl refl refl)
    (port_is (port_at s (new_world s) k Slave (end_of Slave link)) (new_port Slave of_slave (start_of s)) (ap (λ r. new_link r of_slave) (slave_is ends s net k link is)) refl refl refl)
    (record {
      can = record {
        of_master = of_master;
        of_slave = of_slave;
        start = start_of s;
        changes = [];
        master_quiet = quiet_is s link.upper link.upper_port net;
        slave_quiet = quiet_is s link.lower link.lower_port net;
        come = tt;
        is = refl;
      };
      modules = λ r. refl;
    })
