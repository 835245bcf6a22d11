-- The port of a number is at one place: what is done there is done to it, and to no other.
use Rattle.std.proofs.Common.{◌≡◌, ◌≢◌, ◌∙◌, refl, ap, sym, subst, ℕ, suc, zero, ◌<◌, ◌==◌, Bool, true, false, if◌then◌else◌, List, [], ◌∷◌, length, slice_index, slice_index_or, slice_set, Option, None, Some, is_some, arith}
use Rattle.std.proofs.lemmas.List.{length-map, get_or-map}
use Rattle.std.specs.List.{AllByRecursion, AllZip, list_any}
use Rattle.std.proofs.lemmas.Bool.{or_parts}
use Rattle.wrp_node.specs.declared.place.PortPlace.{PortPlace}
use Rattle.wrp_node.specs.declared.ports.To.TheVariants.{One}
use Rattle.wrp_node.specs.Index.{numbers_in, AreDifferent, IsWhere, Indexes, AreIndexed}
use Rattle.wrp_node.specs.Place.{Gives, GivenWhere, GivesTo, Counts, place_of}
use Rattle.wrp_node.specs.Telling.{counted}
use Rattle.wrp_node.proofs.Finding.{some_is_among}
use Rattle.wrp_port.specs.declared.interface.PortIn.{PortIn}

-- ---- the ports keep their index while they keep their numbers

pub still_indexed : (xs ys : List PortPlace) (index : List (Option ℕ)) → numbers_in ys ≡ numbers_in xs → AreIndexed xs index → AreIndexed ys index
still_indexed xs ys index e h = record {
  few = let same : length ys ≡ length xs = sym (length-map ys (λ (x : PortPlace). x.number)) ∙ ap length e ∙ length-map xs (λ (x : PortPlace). x.number) in omega (arith, same, h.few);
  different = subst AreDifferent (sym e) h.different;
  told = subst (Indexes index) (sym e) h.told;
}

pub numbers_set : (xs : List PortPlace) (i : ℕ) (d y : PortPlace) → i < length xs → y.number ≡ (slice_index_or xs i d).number → numbers_in (slice_set xs i y) ≡ numbers_in xs
numbers_set [] i d y h e = absurd (omega arith)
numbers_set (x ∷ xs) zero d y h e = ap (λ (n : ℕ). n ∷ numbers_in xs) e
numbers_set (x ∷ xs) (suc i) d y h e = ap (λ (ns : List ℕ). x.number ∷ ns) (numbers_set xs i d y (omega arith) e)

-- ---- the ports that are not at a place

eq_not : (m n : ℕ) → m ≢ n → (m == n) ≡ false
eq_not m n h = grind arith

pub eq_is : (m n : ℕ) → m ≡ n → (m == n) ≡ true
eq_is m n h = grind arith

number_at : (P : ℕ → Type 0) (xs : List PortPlace) (i : ℕ) (d : PortPlace) → i < length xs → AllByRecursion P (numbers_in xs) → P (slice_index_or xs i d).number
number_at P [] i d h a = absurd (omega arith)
number_at P (x ∷ xs) zero d h a = a.0
number_at P (x ∷ xs) (suc i) d h a = number_at P xs i d (omega arith) a.1

others_stay : (R : PortPlace → PortPlace → Type 0) (p : ℕ) (xs : List PortPlace) → ((x : PortPlace) → (x.number == p) ≡ false → R x x) → AllByRecursion (λ q. q ≢ p) (numbers_in xs) → AllZip R xs xs
others_stay R p [] s a = tt
others_stay R p (x ∷ xs) s a = (s x (eq_not x.number p a.0), others_stay R p xs s a.1)

-- what is done at the place of a number is done to its port, and the others stay
pub done_there : (R : PortPlace → PortPlace → Type 0) (p i : ℕ) (xs : List PortPlace) (d y : PortPlace) → ((x : PortPlace) → (x.number == p) ≡ false → R x x) → i < length xs → (slice_index_or xs i d).number ≡ p →
    AreDifferent (numbers_in xs) → R (slice_index_or xs i d) y → AllZip R xs (slice_set xs i y)
done_there R p i [] d y s h n a r = absurd (omega arith)
done_there R p zero (x ∷ xs) d y s h n a r =
    (r, others_stay R p xs s (subst (λ (k : ℕ). AllByRecursion (λ q. q ≢ k) (numbers_in xs)) n a.0))
done_there R p (suc i) (x ∷ xs) d y s h n a r =
    let other : p ≢ x.number = subst (λ (k : ℕ). k ≢ x.number) n (number_at (λ q. q ≢ x.number) xs i d (omega arith) a.0) in
    (s x (eq_not x.number p (λ e. other (sym e))), done_there R p i xs d y s (omega arith) n a.1 r)

-- if no port has the number, all stay
pub done_nowhere : (R : PortPlace → PortPlace → Type 0) (p : ℕ) (xs : List PortPlace) → ((x : PortPlace) → (x.number == p) ≡ false → R x x) → list_any (λ q. q == p) (numbers_in xs) ≡ false → AllZip R xs xs
done_nowhere R p [] s e = tt
done_nowhere R p (x ∷ xs) s e =
    let parts = or_parts (x.number == p) (list_any (λ q. q == p) (numbers_in xs)) e in
    (s x parts.0, done_nowhere R p xs s parts.1)

-- ---- what is done

pub given_not : (p : ℕ) (input : PortIn) (x : PortPlace) → (x.number == p) ≡ false → GivesTo (One p) input x x
given_not p input x e = subst (λ (b : Bool). GivenWhere b input x x) (sym e) refl

pub given_is : (p : ℕ) (input : PortIn) (x y : PortPlace) → x.number ≡ p → Gives input x y → GivesTo (One p) input x y
given_is p input x y e g = subst (λ (b : Bool). GivenWhere b input x y) (sym (eq_is x.number p e)) g

pub counted_not : (p reason : ℕ) (x : PortPlace) → (x.number == p) ≡ false → Counts p reason x x
counted_not p reason x e = ap (λ (b : Bool). if b then record x { counters = counted (Some reason) x.counters } else x) (sym e)

pub counted_is : (p reason : ℕ) (x y : PortPlace) → x.number ≡ p → y ≡ record x { counters = counted (Some reason) x.counters } → Counts p reason x y
counted_is p reason x y e g = g ∙ ap (λ (b : Bool). if b then record x { counters = counted (Some reason) x.counters } else x) (sym (eq_is x.number p e))

-- ---- the port of a number

pub number_is : (p i : ℕ) (xs : List PortPlace) (d : PortPlace) → i < length (numbers_in xs) → slice_index (numbers_in xs) i ≡ p → (i < length xs) × ((slice_index_or xs i d).number ≡ p)
number_is p i xs d h e =
    let below : i < length xs = omega (arith, h, length-map xs (λ (x : PortPlace). x.number)) in
    (below, sym (get_or-map (λ (x : PortPlace). x.number) xs i d 0 below) ∙ e)

pub place_there : (p i : ℕ) (xs : List PortPlace) (d : PortPlace) → i < length xs → (slice_index_or xs i d).number ≡ p → AreDifferent (numbers_in xs) → place_of p xs ≡ Some (slice_index_or xs i d)
place_there p i [] d h n a = absurd (omega arith)
place_there p zero (x ∷ xs) d h n a = let e : (x.number == p) ≡ true = eq_is x.number p n in rw e refl
place_there p (suc i) (x ∷ xs) d h n a =
    let other : p ≢ x.number = subst (λ (k : ℕ). k ≢ x.number) n (number_at (λ q. q ≢ x.number) xs i d (omega arith) a.0) in
    let e : (x.number == p) ≡ false = eq_not x.number p (λ e. other (sym e)) in
    rw e (place_there p i xs d (omega arith) n a.1)

none_if : (o : Option PortPlace) → is_some o ≡ false → o ≡ None
none_if None e = refl
none_if (Some x) e = absurd (grind arith)

pub place_nowhere : (p : ℕ) (xs : List PortPlace) → list_any (λ q. q == p) (numbers_in xs) ≡ false → place_of p xs ≡ None
place_nowhere p xs e = none_if (place_of p xs) (some_is_among p xs ∙ e)

-- ---- at a place where the index sends a call

-- the port of a number, at its place among these
pub record Here (p : ℕ) (xs : List PortPlace) (k : ℕ) (x : PortPlace) : Type 0 where
  pub below : k < length xs
  pub is : slice_index_or xs k x ≡ x
  pub number : x.number ≡ p

pub here : (p at k : ℕ) (xs vs : List PortPlace) (x : PortPlace) → numbers_in xs ≡ numbers_in vs → k ≡ at → IsWhere p (numbers_in vs) (Some at) → x ≡ slice_index_or xs k x → Here p xs k x
here p at k xs vs x same k_is where_is read =
    let there : IsWhere p (numbers_in xs) (Some k) =
    subst (λ (i : ℕ). IsWhere p (numbers_in xs) (Some i)) (sym k_is) (subst (λ (ns : List ℕ). IsWhere p ns (Some at)) (sym same) where_is) in
    let n = number_is p k xs x there.0 there.1 in
    record { below = n.0; is = sym read; number = ap (λ (z : PortPlace). z.number) read ∙ n.1 }

pub numbers_here : (p k : ℕ) (xs : List PortPlace) (x y : PortPlace) → Here p xs k x → y.number ≡ x.number → numbers_in (slice_set xs k y) ≡ numbers_in xs
numbers_here p k xs x y h e = numbers_set xs k x y h.below (e ∙ ap (λ (z : PortPlace). z.number) (sym h.is))

pub indexed_here : (p k : ℕ) (xs : List PortPlace) (x y : PortPlace) (index : List (Option ℕ)) → Here p xs k x → y.number ≡ x.number → AreIndexed xs index → AreIndexed (slice_set xs k y) index
indexed_here p k xs x y index h e a = still_indexed xs (slice_set xs k y) index (numbers_here p k xs x y h e) a

pub done_here : (R : PortPlace → PortPlace → Type 0) (p k : ℕ) (xs vs : List PortPlace) (x y : PortPlace) → ((z : PortPlace) → (z.number == p) ≡ false → R z z) → xs ≡ vs → Here p xs k x →
    AreDifferent (numbers_in xs) → R x y → AllZip R vs (slice_set xs k y)
done_here R p k xs vs x y stay e h a r =
    subst (λ (l : List PortPlace). AllZip R l (slice_set xs k y)) e
    (done_there R p k xs x y stay h.below (ap (λ (z : PortPlace). z.number) h.is ∙ h.number) a (subst (λ (z : PortPlace). R z y) (sym h.is) r))

pub place_here : (p k : ℕ) (xs vs : List PortPlace) (x : PortPlace) → xs ≡ vs → Here p xs k x → AreDifferent (numbers_in xs) → place_of p vs ≡ Some x
place_here p k xs vs x e h a =
    ap (place_of p) (sym e) ∙ place_there p k xs x h.below (ap (λ (z : PortPlace). z.number) h.is ∙ h.number) a ∙ ap Some h.is

pub nowhere : (p : ℕ) (numbers : List ℕ) (o : Option ℕ) → ((at : ℕ) → o ≡ Some at → ⊥) → IsWhere p numbers o → IsWhere p numbers None
nowhere p numbers None never w = w
nowhere p numbers (Some at) never w = absurd (never at refl)

-- ---- looking for a number, from the first port on
