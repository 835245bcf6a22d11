-- Laws of intersections.
use Rattle.std.proofs.Common.{◌≡◌, ℤ, false, List, [], ◌∷◌, ◌++◌, map, refl, ap, ap₂, ◌∙◌, arith}
use Rattle.std.proofs.lemmas.Int.{ints, clamps}
use Rattle.std.specs.Int.{int_max, int_min}
use Rattle.wrp_calib.specs.declared.span.Span.{Span}
use Rattle.wrp_calib.specs.Span.{Holds, is_empty, point, meet, intersection, both_ends}

span_of : ℤ → ℤ → Span
span_of lo hi = record { lo = lo; hi = hi }

int_max-assoc : (a b c : ℤ) → int_max a (int_max b c) ≡ int_max (int_max a b) c
int_max-assoc a b c = omega (arith, ints, clamps)

int_min-assoc : (a b c : ℤ) → int_min a (int_min b c) ≡ int_min (int_min a b) c
int_min-assoc a b c = omega (arith, ints, clamps)

meet-assoc : (a b c : Span) → meet a (meet b c) ≡ meet (meet a b) c
unfolding span_of
meet-assoc a b c = ap₂ span_of (int_max-assoc a.lo b.lo c.lo) (int_min-assoc a.hi b.hi c.hi)

-- the intersection of two lists' intervals
pub intersection-append : (a : Span) (xs : List Span) (b : Span) (ys : List Span) →
    intersection a (xs ++ (b ∷ ys)) ≡ meet (intersection a xs) (intersection b ys)
intersection-append a [] b ys = refl
intersection-append a (x ∷ xs) b ys = ap (meet a) (intersection-append x xs b ys) ∙ meet-assoc a (intersection x xs) (intersection b ys)

-- an interval that is given by a number moves with it
pub record Moves (interval : ℤ → Span) : Type 0 where
  pub lo : (a b : ℤ) → (interval (int_max a b)).lo ≡ int_max (interval a).lo (interval b).lo
  pub hi : (a b : ℤ) → (interval (int_min a b)).hi ≡ int_min (interval a).hi (interval b).hi

both_ends-meet : (interval : ℤ → Span) → Moves interval → (a b : Span) →
    both_ends interval (meet a b) ≡ meet (both_ends interval a) (both_ends interval b)
unfolding span_of
both_ends-meet interval moves a b = ap₂ span_of (moves.lo a.lo b.lo) (moves.hi a.hi b.hi)

-- so the interval of the greatest and the least numbers is the intersection of theirs
pub both_ends-intersection : {X : Type 0} (interval : ℤ → Span) → Moves interval → (way : X → ℤ) (x : X) (xs : List X) →
    both_ends interval (intersection (point (way x)) (map (λ r. point (way r)) xs)) ≡
    intersection (interval (way x)) (map (λ r. interval (way r)) xs)
both_ends-intersection interval moves way x [] = refl
both_ends-intersection interval moves way x (next ∷ rest) =
    both_ends-meet interval moves (point (way x)) (intersection (point (way next)) (map (λ r. point (way r)) rest))
    ∙ ap (meet (interval (way x))) (both_ends-intersection interval moves way next rest)

-- a number that lies in two intervals lies in what they have in common
pub Holds-meet : (a b : Span) (n : ℤ) → Holds a n → Holds b n → Holds (meet a b) n
Holds-meet a b n h k = (omega (arith, ints, clamps), omega (arith, ints, clamps))

-- an interval that holds a number is not empty
pub is_empty-holds : (a : Span) (n : ℤ) → Holds a n → is_empty a ≡ false
is_empty-holds a n h = grind (arith, ints)
