-- The oldest of the ages.
use Rattle.std.proofs.Common.{◌≡◌, ◌∙◌, sym, ℕ, ℤ, ◌<ℤ◌, ◌≤ℤ◌, ◌<◌, Bool, cond, true, false, List, [], ◌∷◌, length, arith}
use Rattle.std.proofs.lemmas.Int.{ints}
use Rattle.std.specs.Bool.{IsTrue}
use Rattle.std.specs.Cmp.{int_ranks}
use Rattle.std.specs.Ordering.{int_cmp, nat_cmp, ordering_then, is_gt, MatchOrdering}
use Rattle.std.specs.declared.cmp.Ordering.{Ordering}
use Rattle.std.specs.declared.cmp.Ordering.TheVariants.{Less, Equal, Greater}
use Rattle.wrp_flights.specs.Ages.{NoneOld, age_cmp, has}

not_past : (a t : ℤ) (r s : Ordering) → MatchOrdering r (a <ℤ t) (a ≡ t) (t <ℤ a) → is_gt (ordering_then r s) ≡ false → a ≤ℤ t
not_past a t Less s m e = omega (arith, ints, m)
not_past a t Equal s m e = omega (arith, ints, m)
not_past a t Greater s m e = absurd cc

pub none_old : (ages : List (ℤ × ℕ)) (o : ℤ × ℕ) (h : ℤ) → ((q : ℤ × ℕ) → IsTrue (has q.0 q.1 ages) → is_gt (age_cmp o q) ≡ false) → h ≤ℤ o.0 → NoneOld h ages
none_old ages o h least young t k e =
    let past : o.0 ≤ℤ t = not_past o.0 t (int_cmp o.0 t) (nat_cmp o.1 k) (int_ranks o.0 t) (least (t, k) e) in
    omega (arith, ints, young, past)

pub none_there : (ages : List (ℤ × ℕ)) (h : ℤ) → (0 < length ages → ⊥) → NoneOld h ages
none_there [] h n t k f = absurd cc
none_there (a ∷ ages) h n t k f = absurd (n (omega arith))

pub taken_back : (b n m o : Bool) → n ≡ cond b false m → m ≡ cond b true o → n ≡ true → o ≡ true
taken_back true n m o e f g = absurd cc
taken_back false n m o e f g = sym f ∙ sym e ∙ g
