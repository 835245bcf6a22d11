-- The port of a number among the ports of a node.
use Rattle.std.proofs.Common.{◌≡◌, ◌∙◌, refl, ap, ap₂, sym, subst, ℕ, ◌%◌, ◌==◌, nat_lt, Bool, true, false, ◌||◌, List, [], ◌∷◌, Option, None, Some, is_some, IfSome, arith}
use Rattle.std.proofs.lemmas.Bool.{eqb-true}
use Rattle.std.specs.List.{AllByRecursion}
use Rattle.wrp_data.specs.Counters.{count_at}
use Rattle.wrp_link.specs.Table.{word_of}
use Rattle.wrp_node.specs.declared.parts.Parts.{Parts}
use Rattle.wrp_node.specs.declared.place.PortPlace.{PortPlace}
use Rattle.wrp_node.specs.Inputs.{lease_in, deltas_in as deltas_of_place, transition_in, word_in, times_in}
use Rattle.wrp_node.specs.NodeAt.{NodeSetting, NodeAt, slave_of, setting_of, port_of, link_at, is_fresh_at, deltas_at}
use Rattle.wrp_base.specs.Clock.{steps_of_period}
use Rattle.wrp_stamp.specs.Merge.{transition_of}
use Rattle.wrp_node.specs.Parts.{PlaceStands, PlaceIn, PartsAt, PartsIn, is_among}
use Rattle.wrp_node.specs.Place.{place_of}
use Rattle.wrp_node.specs.Telling.{Step}
use Rattle.wrp_node.proofs.Giving.{line_is}
use Rattle.wrp_port.specs.declared.line.Rest.{Rest}
use Rattle.wrp_port.specs.declared.setting.Setting.{Setting}
use Rattle.wrp_port.specs.History.{is_fresh, is_fresh_at as fresh_within, left_of, since_renewal}
use Rattle.wrp_port.specs.PortAt.{deltas_of}

-- the port that was found: it has the number, and what holds of each port
pub record Found (P : PortPlace → Type 0) (p : ℕ) (places : List PortPlace) : Type 0 where
  pub place : PortPlace
  pub is : place_of p places ≡ Some place
  pub number : place.number ≡ p
  pub holds : P place

found_in : (P : PortPlace → Type 0) (p : ℕ) (x : PortPlace) (xs : List PortPlace) (b : Bool) → (x.number == p) ≡ b → P x → (b ≡ false → Found P p xs) → Found P p (x ∷ xs)
found_in P p x xs true e h rest = record { place = x; is = rw e refl; number = eqb-true x.number p e; holds = h }
found_in P p x xs false e h rest =
    let f : Found P p xs = rest refl in
    record { place = f.place; is = rw e f.is; number = f.number; holds = f.holds }

pub among_rest : (a b : Bool) → (a || b) ≡ true → a ≡ false → b ≡ true
among_rest true b h e = grind arith
among_rest false b h e = h

pub found : (P : PortPlace → Type 0) (p : ℕ) (places : List PortPlace) → AllByRecursion P places → is_among p places ≡ true → Found P p places
found P p [] h e = absurd (grind arith)
found P p (x ∷ xs) h e =
    found_in P p x xs (x.number == p) refl h.0
    (λ no. found P p xs h.1 (among_rest (x.number == p) (is_among p xs) e no))

-- ---- what the slave port reports

nat_left : (lease : ℕ) (turns : Option ℕ) → nat_lt 0 (left_of lease turns) ≡ fresh_within lease turns
nat_left lease None = refl
nat_left lease (Some turns) = grind arith

slave_found : (fixed : NodeSetting) (before : NodeAt) (s : Step) (parts : Parts) (p : ℕ) → PartsIn fixed before s parts → parts.slave ≡ Some p → Found (PlaceIn fixed before s) p parts.ports
slave_found fixed before s parts p h e =
    found (PlaceIn fixed before s) p parts.ports h.places (subst (λ (o : Option ℕ). IfSome o (λ q. is_among q parts.ports ≡ true)) e h.has_slave)

pub lease_told : (fixed : NodeSetting) (before : NodeAt) (s : Step) (parts : Parts) (p : ℕ) → PartsIn fixed before s parts → parts.slave ≡ Some p →
    lease_in (place_of p parts.ports) ≡ is_fresh_at fixed.set s.node (slave_of fixed.set)
lease_told fixed before s parts p h e =
    let f : Found (PlaceIn fixed before s) p parts.ports = slave_found fixed before s parts p h e in
    ap lease_in f.is
    ∙ ap (λ (l : Rest). nat_lt 0 l.lease) (line_is fixed s.node f.place f.holds.stands)
    ∙ nat_left (setting_of fixed.set f.place.number).sched.lease (since_renewal (setting_of fixed.set f.place.number) (s.node.told f.place.number))
    ∙ ap (λ (q : ℕ). is_fresh (setting_of fixed.set q) (s.node.told q)) f.number
    ∙ ap (is_fresh_at fixed.set s.node) (sym e ∙ h.slave)

pub deltas_told : (fixed : NodeSetting) (before : NodeAt) (s : Step) (parts : Parts) (p : ℕ) → PartsIn fixed before s parts → parts.slave ≡ Some p →
    deltas_of_place (place_of p parts.ports) ≡ deltas_at fixed.set s.node (slave_of fixed.set)
deltas_told fixed before s parts p h e =
    let f : Found (PlaceIn fixed before s) p parts.ports = slave_found fixed before s parts p h e in
    ap deltas_of_place f.is
    ∙ ap₂ (λ (x : Setting) (l : Rest). deltas_of x.ds.role l.link) f.holds.stands.set (line_is fixed s.node f.place f.holds.stands)
    ∙ ap (λ (q : ℕ). deltas_of (port_of fixed.set q).role (link_at fixed.set s.node q)) f.number
    ∙ ap (deltas_at fixed.set s.node) (sym e ∙ h.slave)

pub transition_told : (fixed : NodeSetting) (before : NodeAt) (s : Step) (parts : Parts) (p : ℕ) → PartsIn fixed before s parts → is_among p parts.ports ≡ true →
    transition_in (place_of p parts.ports) ≡ transition_of (link_at fixed.set s.node p).own_module % steps_of_period
transition_told fixed before s parts p h e =
    let f : Found (PlaceIn fixed before s) p parts.ports = found (PlaceIn fixed before s) p parts.ports h.places e in
    ap transition_in f.is
    ∙ ap (λ (l : Rest). transition_of l.link.own_module % steps_of_period) (line_is fixed s.node f.place f.holds.stands)
    ∙ ap (λ (q : ℕ). transition_of (link_at fixed.set s.node q).own_module % steps_of_period) f.number

-- ---- what a port reports between inputs

pub word_told : (fixed : NodeSetting) (n : NodeAt) (parts : Parts) (p : ℕ) → PartsAt fixed n parts → is_among p parts.ports ≡ true → word_in (place_of p parts.ports) ≡ word_of (link_at fixed.set n p)
word_told fixed n parts p h e =
    let f : Found (PlaceStands fixed n) p parts.ports = found (PlaceStands fixed n) p parts.ports h.places e in
    ap word_in f.is
    ∙ ap (λ (l : Rest). word_of l.link) (line_is fixed n f.place f.holds)
    ∙ ap (λ (q : ℕ). word_of (link_at fixed.set n q)) f.number

pub times_told : (fixed : NodeSetting) (n : NodeAt) (parts : Parts) (p reason : ℕ) → PartsAt fixed n parts → is_among p parts.ports ≡ true →
    times_in reason (place_of p parts.ports) ≡ count_at (n.counters p) reason
times_told fixed n parts p reason h e =
    let f : Found (PlaceStands fixed n) p parts.ports = found (PlaceStands fixed n) p parts.ports h.places e in
    ap (times_in reason) f.is
    ∙ ap (λ (cs : List ℕ). count_at cs reason) f.holds.counters
    ∙ ap (λ (q : ℕ). count_at (n.counters q) reason) f.number

-- a port is found if and only if its number is among them
some_where : (p : ℕ) (x : PortPlace) (xs : List PortPlace) (b : Bool) → (x.number == p) ≡ b → is_some (place_of p xs) ≡ is_among p xs → is_some (place_of p (x ∷ xs)) ≡ is_among p (x ∷ xs)
some_where p x xs true e rest = rw e refl
some_where p x xs false e rest = rw e rest

pub some_is_among : (p : ℕ) (places : List PortPlace) → is_some (place_of p places) ≡ is_among p places
some_is_among p [] = refl
some_is_among p (x ∷ xs) = some_where p x xs (x.number == p) refl (some_is_among p xs)
