-- The numbers of a node's ports in ascending order: the numbers that the links name, from 1 to 18, each once.
use Rattle.std.proofs.Common.{◌≡◌, ◌≢◌, ◌∙◌, ◌⊎◌, inl, inr, refl, ap, ap₂, sym, subst, ℕ, zero, suc, ◌+◌, ◌<◌, ◌≤◌, ◌==◌, ◌&&◌, ◌||◌, nat_lt, Bool, true, false, if◌then◌else◌, List, [], ◌∷◌, ◌++◌, Option, None, Some, is_some, slice_get, arith}
use Rattle.std.proofs.lemmas.Bool.{eqb-true, or_left, or_right}
use Rattle.std.specs.List.{AllByRecursion, list_any, flat_map}
use Rattle.std.proofs.lemmas.Option.{same_Some}
use Rattle.wrp_network.specs.declared.configuration.NetCfg.{NetCfg}
use Rattle.wrp_base.specs.declared.link.Role.{Role}
use Rattle.wrp_base.specs.declared.link.Role.TheVariants.{Master, Slave}
use Rattle.wrp_network.specs.declared.network.LinkCfg.{LinkCfg}
use Rattle.wrp_network.specs.Network.{End, ends_of, HasRanges, NamesNoPortTwice}
use Rattle.wrp_base.proofs.Naturals.{same_suc}
use Rattle.wrp_config.specs.Names.{is_upper_end, is_lower_end}
use Rattle.wrp_data.specs.declared.datasets.PortDs.{PortDs}
use Rattle.wrp_config.proofs.Reached.{lower_has, upper_has}
use Rattle.wrp_node.specs.NodeAt.{in_order, is_before, numbers_of, placed}
use Rattle.wrp_node.specs.Set.{master_at, slave_at, ports_at, ports_of, set_of}
use Rattle.wrp_node.proofs.OwnPorts.{AllApart, InRange, apart, has_ordered, in_range, numbers-are, numbers_at, numbers_in, with_number}
use Rattle.wrp_course.specs.declared.place.Place.{Place}
use Rattle.wrp_course.specs.Setting.{has_port}
use Rattle.wrp_course.specs.Setting.{end_of, from_on, place_among}

-- In order

abbrev inserted : ℕ → List ℕ → List ℕ
inserted p [] = p ∷ []
inserted p (q ∷ qs) = if nat_lt q p then q ∷ inserted p qs else p ∷ q ∷ qs

abbrev sorted : List ℕ → List ℕ
sorted [] = []
sorted (p ∷ ps) = inserted p (sorted ps)

placed-where : (b : Bool) (ds other : PortDs) (ports : List PortDs) → numbers_in (placed ds ports) ≡ inserted ds.own.port (numbers_in ports) →
    numbers_in (if b then other ∷ placed ds ports else ds ∷ other ∷ ports)
    ≡ (if b then other.own.port ∷ inserted ds.own.port (numbers_in ports) else ds.own.port ∷ other.own.port ∷ numbers_in ports)
placed-where true ds other ports h = ap (λ (qs : List ℕ). other.own.port ∷ qs) h
placed-where false ds other ports h = refl

placed-numbers : (ds : PortDs) (ports : List PortDs) → numbers_in (placed ds ports) ≡ inserted ds.own.port (numbers_in ports)
placed-numbers ds [] = refl
placed-numbers ds (other ∷ ports) = placed-where (is_before other ds) ds other ports (placed-numbers ds ports)

ordered-numbers : (ports : List PortDs) → numbers_in (in_order ports) ≡ sorted (numbers_in ports)
ordered-numbers [] = refl
ordered-numbers (ds ∷ ports) = placed-numbers ds (in_order ports) ∙ ap (inserted ds.own.port) (ordered-numbers ports)

abbrev own_numbers : NetCfg → ℕ → List ℕ
own_numbers net n = numbers_at n (flat_map ends_of net.links.items)

numbers-sorted : (net : NetCfg) (n : ℕ) → numbers_of (set_of net n) ≡ sorted (own_numbers net n)
numbers-sorted net n = ordered-numbers (ports_of net n) ∙ ap sorted (numbers-are net n net.links.items)

-- Whether a number is among them

abbrev any_of : ℕ → List ℕ → Bool
any_of p ns = list_any (λ q. q == p) ns

any-with : (r : ℕ) (b : Bool) (p : ℕ) (ns : List ℕ) → any_of r (with_number b p ns) ≡ ((b && (p == r)) || any_of r ns)
any-with r true p ns = refl
any-with r false p ns = refl

some-either : (a b : Bool) (x y : Place) (o : Option Place) → is_some (if a then Some x else (if b then Some y else o)) ≡ (a || (b || is_some o))
some-either true b x y o = refl
some-either false true x y o = refl
some-either false false x y o = refl

any-place : (n p k : ℕ) (links : List LinkCfg) → any_of p (numbers_at n (flat_map ends_of links)) ≡ is_some (place_among n p k links)
any-place n p k [] = refl
any-place n p k (link ∷ links) =
    any-with p (link.upper == n) link.upper_port (with_number (link.lower == n) link.lower_port (numbers_at n (flat_map ends_of links)))
    ∙ ap (λ (b : Bool). is_upper_end n p link || b)
    (any-with p (link.lower == n) link.lower_port (numbers_at n (flat_map ends_of links))
    ∙ ap (λ (b : Bool). is_lower_end n p link || b) (any-place n p (k + 1) links))
    ∙ sym (some-either (is_upper_end n p link) (is_lower_end n p link) (record { link = k; role = Master }) (record { link = k; role = Slave }) (place_among n p (k + 1) links))

-- a node has a port if and only if a link names it
pub has-place : (cfg : NetCfg) (n p : ℕ) → has_port cfg n p ≡ is_some (place_among n p 0 cfg.links.items)
has-place cfg n p = has_ordered p (ports_of cfg n) ∙ ap (any_of p) (numbers-are cfg n cfg.links.items) ∙ any-place n p 0 cfg.links.items

pub has_placed : (cfg : NetCfg) (n p : ℕ) (place : Place) → place_among n p 0 cfg.links.items ≡ Some place → has_port cfg n p ≡ true
has_placed cfg n p place e = has-place cfg n p ∙ ap is_some e

none_placed : (o : Option Place) → is_some o ≡ false → o ≡ None
none_placed None e = refl
none_placed (Some place) e = absurd (cc)

pub not_placed : (cfg : NetCfg) (n p : ℕ) → has_port cfg n p ≡ false → place_among n p 0 cfg.links.items ≡ None
not_placed cfg n p e = none_placed (place_among n p 0 cfg.links.items) (sym (has-place cfg n p) ∙ e)

-- The ports at the ends of links

at-end : (link : LinkCfg) (role : Role) → (is_upper_end (end_of role link).node (end_of role link).port link || is_lower_end (end_of role link).node (end_of role link).port link) ≡ true
at-end link Master = or_left (is_upper_end link.upper link.upper_port link) (is_lower_end link.upper link.upper_port link) (upper_has link)
at-end link Slave = or_right (is_upper_end link.lower link.lower_port link) (is_lower_end link.lower link.lower_port link) (lower_has link)

or_three : (a b c : Bool) → (a || b) ≡ true → (a || (b || c)) ≡ true
or_three true b c e = refl
or_three false true c e = refl
or_three false false c e = absurd (cc)

placed_end : (k i : ℕ) (links : List LinkCfg) (link : LinkCfg) (role : Role) → slice_get links i ≡ Some link →
    is_some (place_among (end_of role link).node (end_of role link).port k links) ≡ true
placed_end k i [] link role e = absurd (cc)
placed_end k zero (other ∷ links) link role e =
    some-either (is_upper_end (end_of role link).node (end_of role link).port other) (is_lower_end (end_of role link).node (end_of role link).port other) (record { link = k; role = Master }) (record { link = k; role = Slave }) (place_among (end_of role link).node (end_of role link).port (k + 1) links)
    ∙ or_three (is_upper_end (end_of role link).node (end_of role link).port other) (is_lower_end (end_of role link).node (end_of role link).port other)
    (is_some (place_among (end_of role link).node (end_of role link).port (k + 1) links))
    (ap (λ (l : LinkCfg). is_upper_end (end_of role link).node (end_of role link).port l || is_lower_end (end_of role link).node (end_of role link).port l) (same_Some other link e) ∙ at-end link role)
placed_end k (suc i) (other ∷ links) link role e =
    some-either (is_upper_end (end_of role link).node (end_of role link).port other) (is_lower_end (end_of role link).node (end_of role link).port other) (record { link = k; role = Master }) (record { link = k; role = Slave }) (place_among (end_of role link).node (end_of role link).port (k + 1) links)
    ∙ or_right (is_upper_end (end_of role link).node (end_of role link).port other) _
    (or_right (is_lower_end (end_of role link).node (end_of role link).port other) _ (placed_end (k + 1) i links link role e))

-- the port at an end of a link is one of the node's there
pub has_end : (cfg : NetCfg) (i : ℕ) (link : LinkCfg) (role : Role) → slice_get cfg.links.items i ≡ Some link →
    has_port cfg (end_of role link).node (end_of role link).port ≡ true
has_end cfg i link role e = has-place cfg (end_of role link).node (end_of role link).port ∙ placed_end 0 i cfg.links.items link role e

-- Ascending

-- they ascend, none is below the first, and all are below the last
abbrev Ascends : (first last : ℕ) → List ℕ → Type 0
Ascends first last [] = Unit {0}
Ascends first last (p ∷ ps) = (first ≤ p) × (p < last) × Ascends (suc p) last ps

ascends-first : (first last : ℕ) (qs : List ℕ) (lower : ℕ) → lower ≤ first → Ascends first last qs → Ascends lower last qs
ascends-first first last [] lower h a = tt
ascends-first first last (q ∷ qs) lower h a = let low : lower ≤ q = omega (arith, h, a.0) in (low, a.1, a.2)

ascends-inserted : (first last p : ℕ) (qs : List ℕ) → first ≤ p → p < last → Ascends first last qs → AllByRecursion (λ q. q ≢ p) qs → Ascends first last (inserted p qs)
ascends-inserted first last p [] low high all others = (low, high, tt)
ascends-inserted first last p (q ∷ qs) low high all others =
    elim (nat_lt q p) as (λ b. nat_lt q p ≡ b → Ascends first last (if b then q ∷ inserted p qs else p ∷ q ∷ qs)) [
      | true ↦ λ is. let past : suc q ≤ p = grind (arith, is) in (all.0, all.1, ascends-inserted (suc q) last p qs past high all.2 others.1)
      | false ↦ λ is. let past : suc p ≤ q = grind (arith, is, others.0) in (low, high, (past, all.1, all.2))
    ] refl

all-inserted : (P : ℕ → Type 0) (p : ℕ) (qs : List ℕ) → P p → AllByRecursion P qs → AllByRecursion P (inserted p qs)
all-inserted P p [] h k = (h, tt)
all-inserted P p (q ∷ qs) h k =
    elim (nat_lt q p) as (λ b. AllByRecursion P (if b then q ∷ inserted p qs else p ∷ q ∷ qs)) [
      | true ↦ (k.0, all-inserted P p qs h k.1)
      | false ↦ (h, k)
    ]

all-sorted : (P : ℕ → Type 0) (ps : List ℕ) → AllByRecursion P ps → AllByRecursion P (sorted ps)
all-sorted P [] h = tt
all-sorted P (p ∷ ps) h = all-inserted P p (sorted ps) h.0 (all-sorted P ps h.1)

ascends-sorted : (ps : List ℕ) → AllApart ps → AllByRecursion InRange ps → Ascends 1 19 (sorted ps)
ascends-sorted [] others range = tt
ascends-sorted (p ∷ ps) others range =
    let high : p < 19 = omega (arith, range.0.1) in
    ascends-inserted 1 19 p (sorted ps) range.0.0 high (ascends-sorted ps others.1 range.1) (all-sorted (λ q. q ≢ p) ps others.0)

pub ascends : (net : NetCfg) (n : ℕ) → HasRanges net → NamesNoPortTwice net → Ascends 1 19 (numbers_of (set_of net n))
ascends net n ranges once =
    subst (Ascends 1 19) (sym (numbers-sorted net n))
    (ascends-sorted (own_numbers net n) (apart n (flat_map ends_of net.links.items) once) (in_range n net.links.items ranges.links))

-- All numbers in place of those

none-below : (p last : ℕ) (qs : List ℕ) → Ascends (suc p) last qs → any_of p qs ≡ false
none-below p last [] a = refl
none-below p last (q ∷ qs) a =
    let not : (q == p) ≡ false = grind (arith, a.0) in
    let low : suc p ≤ suc q = omega (arith, a.0) in
    ap₂ (λ (x y : Bool). x || y) not (none-below p last qs (ascends-first (suc q) last qs (suc p) low a.2))

either-way : (p q : ℕ) → p ≤ q → (q ≡ p) ⊎ (suc p ≤ q)
either-way zero zero h = inl refl
either-way zero (suc q) h = inr (omega arith)
either-way (suc p) zero h = absurd (omega arith)
either-way (suc p) (suc q) h = elim (either-way p q (omega arith)) [ inl e ↦ inl (ap suc e) | inr l ↦ inr (omega (arith, l)) ]

nothing : {A : Type 0} (f : ℕ → List A) (count first : ℕ) → ((p : ℕ) → first ≤ p → f p ≡ []) → flat_map f (from_on count first) ≡ []
nothing f zero first h = refl
nothing f (suc count) first h =
    ap₂ (λ xs ys. xs ++ ys) (h first (omega arith)) (nothing f count (first + 1) (λ p k. h p (omega arith)))

-- if the others give nothing
pub all_numbers : {A : Type 0} (f : ℕ → List A) (count first last : ℕ) (qs : List ℕ) → first + count ≡ last → Ascends first last qs →
    ((p : ℕ) → first ≤ p → any_of p qs ≡ false → f p ≡ []) → flat_map f (from_on count first) ≡ flat_map f qs
all_numbers f count first last [] e a h = nothing f count first (λ p k. h p k refl)
all_numbers f zero first last (q ∷ qs) e a h = absurd (omega (arith, e, a.0, a.1))
all_numbers f (suc count) first last (q ∷ qs) e a h =
    elim (either-way first q a.0) [
      | inl same ↦
          ap₂ (λ xs ys. xs ++ ys) (ap f (sym same))
          (all_numbers f count (first + 1) last qs (omega (arith, e)) (ascends-first (suc q) last qs (first + 1) (omega (arith, same)) a.2)
          (λ p low none. h p (omega (arith, low)) (let not : (q == p) ≡ false = grind (arith, same, low) in ap₂ (λ (x y : Bool). x || y) not none)))
      | inr past ↦
          ap₂ (λ xs ys. xs ++ ys) (h first (omega arith) (none-below first last (q ∷ qs) (past, a.1, a.2)))
          (all_numbers f count (first + 1) last (q ∷ qs) (omega (arith, e)) ((omega (arith, past)), a.1, a.2) (λ p low none. h p (omega (arith, low)) none))
    ]
