-- The ports of a node of a network: they are of different numbers, so at most 18, and one is a slave if there is a link
-- above the node.
use Rattle.std.proofs.Common.{◌≡◌, ◌≢◌, ◌∙◌, refl, ap, ap₂, sym, subst, ℕ, suc, ◌<◌, ◌≤◌, ◌==◌, ◌||◌, Bool, true, false, if◌then◌else◌, List, [], ◌∷◌, ◌++◌, map, length, Option, Some, option_map, slice_get, arith}
use Rattle.std.proofs.lemmas.Bool.{eqb-true, false_from_ne_true}
use Rattle.std.proofs.lemmas.Map.Steps.{length-le_from_distinct_below}
use Rattle.std.specs.List.{AllByRecursion, IsDistinct, list_any, filter, find, flat_map}
use Rattle.wrp_network.specs.declared.configuration.NetCfg.{NetCfg}
use Rattle.wrp_network.specs.declared.network.LinkCfg.{LinkCfg}
use Rattle.wrp_network.specs.Network.{End, ends_of, HasLinkRanges, HasRanges, IsTree, NamesNoPortTwice, link_above}
use Rattle.wrp_base.proofs.Lists.{length_map}
use Rattle.wrp_base.proofs.Naturals.{same_suc}
use Rattle.wrp_data.specs.declared.datasets.PortDs.{PortDs}
use Rattle.wrp_node.specs.New.{OfDifferentNumbers}
use Rattle.wrp_node.specs.NodeAt.{in_order, is_before, is_slave, placed, slave_in}
use Rattle.wrp_node.specs.Set.{master_at, slave_at, ports_at, ports_of}
use Rattle.wrp_node.proofs.Lists.{all_of}

-- ---- the numbers of a node's ports, as the ends of the links have them

abbrev pub numbers_at : ℕ → List End → List ℕ
numbers_at n [] = []
numbers_at n (end ∷ ends) = if end.node == n then end.port ∷ numbers_at n ends else numbers_at n ends

abbrev pub numbers_in : List PortDs → List ℕ
numbers_in ports = map (λ (ds : PortDs). ds.own.port) ports

-- a number in front, if it is one
abbrev pub with_number : Bool → ℕ → List ℕ → List ℕ
with_number b p ns = if b then p ∷ ns else ns

numbers-link : (net : NetCfg) (link : LinkCfg) (rest : List PortDs) (ns : List ℕ) (a b : Bool) → numbers_in rest ≡ ns →
    numbers_in (((if a then master_at net link ∷ [] else []) ++ (if b then slave_at net link ∷ [] else [])) ++ rest)
    ≡ with_number a link.upper_port (with_number b link.lower_port ns)
numbers-link net link rest ns true true e = ap (λ (qs : List ℕ). link.upper_port ∷ (link.lower_port ∷ qs)) e
numbers-link net link rest ns true false e = ap (λ (qs : List ℕ). link.upper_port ∷ qs) e
numbers-link net link rest ns false true e = ap (λ (qs : List ℕ). link.lower_port ∷ qs) e
numbers-link net link rest ns false false e = e

pub numbers-are : (net : NetCfg) (n : ℕ) (links : List LinkCfg) → numbers_in (flat_map (ports_at net n) links) ≡ numbers_at n (flat_map ends_of links)
numbers-are net n [] = refl
numbers-are net n (link ∷ links) =
    numbers-link net link (flat_map (ports_at net n) links) (numbers_at n (flat_map ends_of links)) (link.upper == n) (link.lower == n) (numbers-are net n links)

-- ---- whether a number is among them: their order does not matter

abbrev pub has_number : ℕ → List PortDs → Bool
has_number p ports = list_any (λ (q : ℕ). q == p) (numbers_in ports)

or_swapped : (a b c : Bool) → b || (a || c) ≡ a || (b || c)
or_swapped true true c = refl
or_swapped true false c = refl
or_swapped false true c = refl
or_swapped false false c = refl

placed-where : (b : Bool) (p : ℕ) (ds other : PortDs) (ports : List PortDs) → has_number p (placed ds ports) ≡ has_number p (ds ∷ ports) →
    has_number p (if b then other ∷ placed ds ports else ds ∷ other ∷ ports) ≡ has_number p (ds ∷ other ∷ ports)
placed-where true p ds other ports h =
    ap (λ (c : Bool). (other.own.port == p) || c) h ∙ or_swapped (ds.own.port == p) (other.own.port == p) (has_number p ports)
placed-where false p ds other ports h = refl

has-placed : (p : ℕ) (ds : PortDs) (ports : List PortDs) → has_number p (placed ds ports) ≡ has_number p (ds ∷ ports)
has-placed p ds [] = refl
has-placed p ds (other ∷ ports) = placed-where (is_before other ds) p ds other ports (has-placed p ds ports)

pub has_ordered : (p : ℕ) (ports : List PortDs) → has_number p (in_order ports) ≡ has_number p ports
has_ordered p [] = refl
has_ordered p (ds ∷ ports) = has-placed p ds (in_order ports) ∙ ap (λ (c : Bool). (ds.own.port == p) || c) (has_ordered p ports)

-- ---- no two are equal

abbrev pub AllApart : List ℕ → Type 0
AllApart [] = Unit {0}
AllApart (p ∷ ps) = AllByRecursion (λ q. q ≢ p) ps × AllApart ps

-- no two places have the same end
abbrev pub HasNoRepeat : List End → Type 0
HasNoRepeat ends = (i j : ℕ) (end : End) → slice_get ends i ≡ Some end → slice_get ends j ≡ Some end → i ≡ j

abbrev end_with : ℕ → ℕ → End
end_with node port = record { node = node; port = port }

away-where : (n p : ℕ) (end : End) (ns : List ℕ) (b : Bool) → (end.node == n) ≡ b → (end.node ≡ n → end.port ≢ p) → AllByRecursion (λ q. q ≢ p) ns →
    AllByRecursion (λ q. q ≢ p) (with_number b end.port ns)
away-where n p end ns true is other rest = (other (eqb-true end.node n is), rest)
away-where n p end ns false is other rest = rest

-- if none of the ends is this port of the node
pub away : (n p : ℕ) (ends : List End) → ((k : ℕ) → slice_get ends k ≢ Some (end_with n p)) → AllByRecursion (λ q. q ≢ p) (numbers_at n ends)
away n p [] none = tt
away n p (end ∷ ends) none =
    away-where n p end (numbers_at n ends) (end.node == n) refl
    (λ same_node same_port. none 0 (ap₂ (λ (a b : ℕ). Some (end_with a b)) same_node same_port))
    (away n p ends (λ k. none (suc k)))

apart-where : (n : ℕ) (end : End) (ns : List ℕ) (b : Bool) → (end.node == n) ≡ b → (end.node ≡ n → AllByRecursion (λ q. q ≢ end.port) ns) → AllApart ns → AllApart (with_number b end.port ns)
apart-where n end ns true is others rest = (others (eqb-true end.node n is), rest)
apart-where n end ns false is others rest = rest

pub zero_or_more : (k : ℕ) → 0 ≡ suc k → ⊥
zero_or_more k e = omega (arith, e)

pub apart : (n : ℕ) (ends : List End) → HasNoRepeat ends → AllApart (numbers_at n ends)
apart n [] once = tt
apart n (end ∷ ends) once =
    apart-where n end (numbers_at n ends) (end.node == n) refl
    (λ same. away n end.port ends (λ k is. zero_or_more k (once 0 (suc k) end refl (is ∙ ap (λ (m : ℕ). Some (end_with m end.port)) (sym same)))))
    (apart n ends (λ i j other at_i at_j. same_suc i j (once (suc i) (suc j) other at_i at_j)))

different-from : (p : ℕ) (ports : List PortDs) → AllByRecursion (λ q. q ≢ p) (numbers_in ports) → AllByRecursion (λ other. other.own.port ≢ p) ports
different-from p [] h = tt
different-from p (ds ∷ ports) h = (h.0, different-from p ports h.1)

different : (ports : List PortDs) → AllApart (numbers_in ports) → OfDifferentNumbers ports
different [] h = tt
different (ds ∷ ports) h = (different-from ds.own.port ports h.0, different ports h.1)

numbers_apart : (net : NetCfg) (n : ℕ) → NamesNoPortTwice net → AllApart (numbers_in (ports_of net n))
numbers_apart net n once = subst AllApart (sym (numbers-are net n net.links.items)) (apart n (flat_map ends_of net.links.items) once)

pub different_numbers : (net : NetCfg) (n : ℕ) → NamesNoPortTwice net → OfDifferentNumbers (ports_of net n)
different_numbers net n once = different (ports_of net n) (numbers_apart net n once)

-- ---- there are at most 18

abbrev pub InRange : ℕ → Type 0
InRange q = (1 ≤ q) × (q ≤ 18)

range-where : (b : Bool) (p : ℕ) (ns : List ℕ) → InRange p → AllByRecursion InRange ns → AllByRecursion InRange (with_number b p ns)
range-where true p ns h rest = (h, rest)
range-where false p ns h rest = rest

pub in_range : (n : ℕ) (links : List LinkCfg) → ((l : ℕ) (link : LinkCfg) → slice_get links l ≡ Some link → HasLinkRanges link) → AllByRecursion InRange (numbers_at n (flat_map ends_of links))
in_range n [] each = tt
in_range n (link ∷ links) each =
    let own : HasLinkRanges link = each 0 link refl in
    let rest : List ℕ = numbers_at n (flat_map ends_of links) in
    range-where (link.upper == n) link.upper_port (with_number (link.lower == n) link.lower_port rest) own.upper_port
    (range-where (link.lower == n) link.lower_port rest own.lower_port (in_range n links (λ l. each (suc l))))

pub not_equal : (p q : ℕ) → q ≢ p → (p == q) ≡ false
not_equal p q h = grind arith

distinct : (ns : List ℕ) → AllApart ns → IsDistinct (λ p q. p == q) ns
unfolding IsDistinct
distinct [] h = tt
distinct (p ∷ ns) h = (all_of (λ q. q ≢ p) (λ q. (p == q) ≡ false) ns (λ q. not_equal p q) h.0, distinct ns h.1)

below-where : (q p : ℕ) (b rest : Bool) → (q == p) ≡ b → (b || rest) ≡ true → p ≤ 18 → (rest ≡ true → q < 19) → q < 19
below-where q p true rest is h most later = let same : q ≡ p = eqb-true q p is in omega (arith, same, most)
below-where q p false rest is h most later = later h

below : (ns : List ℕ) (q : ℕ) → AllByRecursion InRange ns → list_any (λ p. q == p) ns ≡ true → q < 19
below [] q h e = absurd (grind arith)
below (p ∷ ns) q h e = below-where q p (q == p) (list_any (λ p. q == p) ns) refl e h.0.1 (below ns q h.1)

few : (ns : List ℕ) → AllApart ns → AllByRecursion InRange ns → length ns ≤ 18
few ns h range =
    let others : AllByRecursion (λ q. q ≢ 0) ns = all_of InRange (λ q. q ≢ 0) ns (λ q r e. omega (arith, r.0, e)) range in
    let all : length (0 ∷ ns) ≤ 19 =
    length-le_from_distinct_below (0 ∷ ns) 19 (distinct (0 ∷ ns) (others, h))
    (λ q e. below-where q 0 (q == 0) (list_any (λ p. q == p) ns) refl e (omega arith) (below ns q range)) in
    omega (arith, all)

pub few_ports : (net : NetCfg) (n : ℕ) → HasRanges net → NamesNoPortTwice net → length (ports_of net n) ≤ 18
few_ports net n ranges once =
    let range : AllByRecursion InRange (numbers_in (ports_of net n)) =
    subst (λ (ns : List ℕ). AllByRecursion InRange ns) (sym (numbers-are net n net.links.items)) (in_range n net.links.items ranges.links) in
    let most : length (numbers_in (ports_of net n)) ≤ 18 = few (numbers_in (ports_of net n)) (numbers_apart net n once) range in
    let same : length (numbers_in (ports_of net n)) ≡ length (ports_of net n) = length_map (λ (ds : PortDs). ds.own.port) (ports_of net n) in
    omega (arith, most, same)

-- ---- the slave port is the port of the link above

slave-link : (net : NetCfg) (link : LinkCfg) (rest : List PortDs) (above : Option LinkCfg) (a b : Bool) → slave_in rest ≡ option_map (λ (l : LinkCfg). l.lower_port) above →
    slave_in (((if a then master_at net link ∷ [] else []) ++ (if b then slave_at net link ∷ [] else [])) ++ rest)
    ≡ option_map (λ (l : LinkCfg). l.lower_port) (if b then Some link else above)
slave-link net link rest above true true e = refl
slave-link net link rest above true false e = e
slave-link net link rest above false true e = refl
slave-link net link rest above false false e = e

slave-are : (net : NetCfg) (n : ℕ) (links : List LinkCfg) → slave_in (flat_map (ports_at net n) links) ≡ option_map (λ (l : LinkCfg). l.lower_port) (find (λ link. link.lower == n) links)
slave-are net n [] = refl
slave-are net n (link ∷ links) =
    slave-link net link (flat_map (ports_at net n) links) (find (λ l. l.lower == n) links) (link.upper == n) (link.lower == n) (slave-are net n links)

pub slave_is_above : (net : NetCfg) (n : ℕ) → slave_in (ports_of net n) ≡ option_map (λ (l : LinkCfg). l.lower_port) (link_above net n)
slave_is_above net n = slave-are net n net.links.items

-- ---- at most one is a slave

nothing_passes : {X : Type 0} (p : X → Bool) (xs : List X) → ((k : ℕ) (x : X) → slice_get xs k ≡ Some x → p x ≡ false) → length (filter p xs) ≡ 0
nothing_passes p [] none = refl
nothing_passes p (x ∷ xs) none = rw (none 0 x refl) (nothing_passes p xs (λ k. none (suc k)))

once-where : {X : Type 0} (p : X → Bool) (x : X) (xs : List X) (b : Bool) → p x ≡ b → (p x ≡ true → (k : ℕ) (y : X) → slice_get xs k ≡ Some y → p y ≡ false) →
    length (filter p xs) ≤ 1 → length (if b then x ∷ filter p xs else filter p xs) ≤ 1
once-where p x xs true is others rest = let none : length (filter p xs) ≡ 0 = nothing_passes p xs (others is) in omega (arith, none)
once-where p x xs false is others rest = rest

-- if no two places pass
once : {X : Type 0} (p : X → Bool) (xs : List X) → ((i j : ℕ) (x y : X) → slice_get xs i ≡ Some x → slice_get xs j ≡ Some y → p x ≡ true → p y ≡ true → i ≡ j) → length (filter p xs) ≤ 1
once p [] same = omega arith
once p (x ∷ xs) same =
    once-where p x xs (p x) refl
    (λ is k y at. false_from_ne_true (p y) (λ passes. zero_or_more k (same 0 (suc k) x y refl at is passes)))
    (once p xs (λ i j y z at_i at_j passes_y passes_z. same_suc i j (same (suc i) (suc j) y z at_i at_j passes_y passes_z)))

slaves-link : (net : NetCfg) (link : LinkCfg) (rest : List PortDs) (found : List LinkCfg) (a b : Bool) → length (filter (λ ds. is_slave ds.role) rest) ≡ length found →
    length (filter (λ ds. is_slave ds.role) (((if a then master_at net link ∷ [] else []) ++ (if b then slave_at net link ∷ [] else [])) ++ rest))
    ≡ length (if b then link ∷ found else found)
slaves-link net link rest found true true e = ap suc e
slaves-link net link rest found true false e = e
slaves-link net link rest found false true e = ap suc e
slaves-link net link rest found false false e = e

slaves-are : (net : NetCfg) (n : ℕ) (links : List LinkCfg) → length (filter (λ ds. is_slave ds.role) (flat_map (ports_at net n) links)) ≡ length (filter (λ link. link.lower == n) links)
slaves-are net n [] = refl
slaves-are net n (link ∷ links) =
    slaves-link net link (flat_map (ports_at net n) links) (filter (λ l. l.lower == n) links) (link.upper == n) (link.lower == n) (slaves-are net n links)

pub one_slave : (net : NetCfg) (n : ℕ) → IsTree net → length (filter (λ ds. is_slave ds.role) (ports_of net n)) ≤ 1
one_slave net n tree =
    let links : length (filter (λ link. link.lower == n) net.links.items) ≤ 1 =
    once (λ link. link.lower == n) net.links.items
    (λ k l a b at_k at_l of_a of_b. tree.one_parent k l a b at_k at_l (eqb-true a.lower n of_a ∙ sym (eqb-true b.lower n of_b))) in
    let same = slaves-are net n net.links.items in
    omega (arith, links, same)
