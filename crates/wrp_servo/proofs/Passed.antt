-- Numbers that are handed to a sum or a difference arrive as they are.
use Rattle.std.proofs.Common.{◌≡◌, ℕ, ℤ, pos, negsuc, ◌^◌, ◌≤◌, ◌<◌, ◌+◌, ◌+ℤ◌, ◌-ℤ◌, unsigned_abs, to_z, of_z, SFits, arith, ◌∙◌}
use Rattle.std.proofs.lemmas.Int.{ints, to_z-of_z}
use Rattle.std.specs.Int.{w64, w128}

-- a number that is not too large arrives as it is
pub arrives : (z : ℤ) (m : ℕ) → m < 2 ^ 126 → unsigned_abs z < m → to_z w128 (of_z w128 z) ≡ z
arrives (pos n) m l h = to_z-of_z w128 _ (record { sfits = omega arith })
arrives (negsuc n) m l h = to_z-of_z w128 _ (record { sfits = omega arith })

-- and is as small as it was
pub keeps : (z : ℤ) (m n : ℕ) → m < n → n < 2 ^ 126 → unsigned_abs z < m → unsigned_abs (to_z w128 (of_z w128 z)) ≤ n
keeps z m n l k h = rw (arrives z m (omega arith) h) (omega arith)

-- small enough for a sum
pub small : (z : ℤ) (m : ℕ) → m < 2 ^ 125 → unsigned_abs z < m → unsigned_abs (to_z w128 (of_z w128 z)) ≤ 2 ^ 125
small z m l h = keeps z m (2 ^ 125) l (omega arith) h

-- the difference of two, and its size
pub difference_of : (a b r : ℤ) (m : ℕ) → m < 2 ^ 126 → unsigned_abs a < m → unsigned_abs b < m → r ≡ to_z w128 (of_z w128 a) -ℤ to_z w128 (of_z w128 b) → (r ≡ a -ℤ b) × (unsigned_abs r < m + m)
difference_of a b r m l h k e =
    let is : r ≡ a -ℤ b = e ∙ (λ i. arrives a m l h i -ℤ arrives b m l k i) in
    (is, omega (arith, ints))

-- the sum of two, and its size
pub sum_of : (a b r : ℤ) (m : ℕ) → m < 2 ^ 126 → unsigned_abs a < m → unsigned_abs b < m → r ≡ to_z w128 (of_z w128 a) +ℤ to_z w128 (of_z w128 b) → (r ≡ a +ℤ b) × (unsigned_abs r < m + m)
sum_of a b r m l h k e =
    let is : r ≡ a +ℤ b = e ∙ (λ i. arrives a m l h i +ℤ arrives b m l k i) in
    (is, omega (arith, ints))

-- a number of 64 bits that was widened, and its size
pub widened : (z r : ℤ) → SFits w64 z → r ≡ to_z w64 (of_z w64 z) → (r ≡ z) × (unsigned_abs r < 2 ^ 106)
widened (pos n) r fits e =
    let is : r ≡ pos n = e ∙ to_z-of_z w64 _ fits in
    (is, rw is (omega arith))
widened (negsuc n) r fits e =
    let is : r ≡ negsuc n = e ∙ to_z-of_z w64 _ fits in
    (is, rw is (omega arith))
