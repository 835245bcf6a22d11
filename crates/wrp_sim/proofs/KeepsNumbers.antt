-- Numbers of the simulator's events and the bounds that they keep: draws, stamps and drifts.
use Rattle.std.proofs.Common.{◌≡◌, sym, subst, ℕ, ◌-◌, ◌*◌, ◌/◌, ◌%◌, ◌^◌, ◌<◌, ◌≤◌, ℤ, pos, negsuc, neg_ℤ, ◌+ℤ◌, ◌-ℤ◌, ◌*ℤ◌, ◌≤ℤ◌, ◌<ℤ◌, unsigned_abs, arith}
use Rattle.std.proofs.lemmas.Int.{ints, clamps, unsigned_abs-mul}
use Rattle.std.proofs.Math.Nat.{mod-lt, mul-le-mul_left}
use Rattle.wrp_base.specs.Division.{floor_quotient, trunc_quotient}
use Rattle.wrp_base.specs.Held.{held_within}
use Rattle.wrp_base.proofs.DivisionLaws.{floor_quotient-at_most, floor_quotient-next}

-- Draws

below_size : (a b : ℤ) (r : ℕ) → a ≤ℤ b → r < unsigned_abs ((b -ℤ a) +ℤ pos 1) → (a +ℤ pos r) ≤ℤ b
below_size a b r h k = grind (arith, ints)

size_above : (a b : ℤ) → a ≤ℤ b → 0 < unsigned_abs ((b -ℤ a) +ℤ pos 1)
size_above a b h = grind (arith, ints)

pub drawn_most : (a b : ℤ) (x : ℕ) → a ≤ℤ b → (a +ℤ pos (x % unsigned_abs ((b -ℤ a) +ℤ pos 1))) ≤ℤ b
drawn_most a b x h = below_size a b (x % unsigned_abs ((b -ℤ a) +ℤ pos 1)) h (mod-lt x (size_above a b h))

-- Stamps

stamp_near : (at q d : ℤ) (k e : ℕ) → (pos 1_000 *ℤ q) ≤ℤ at → at <ℤ ((pos 1_000 *ℤ q) +ℤ pos 1_000) → neg_ℤ (pos k) ≤ℤ d → d ≤ℤ pos k → k ≡ e / 1_000 - 1 → 1_000 ≤ e →
    unsigned_abs (((q *ℤ pos 1_000) +ℤ (pos 1_000 *ℤ d)) -ℤ at) ≤ e
stamp_near at q d k e low high least most room large = grind (arith, ints)

-- a stamp that is drawn is within e of the reading
pub stamp_within : (at d : ℤ) (k e : ℕ) → neg_ℤ (pos k) ≤ℤ d → d ≤ℤ pos k → k ≡ e / 1_000 - 1 → 1_000 ≤ e →
    unsigned_abs (((floor_quotient at (pos 1_000) *ℤ pos 1_000) +ℤ (pos 1_000 *ℤ d)) -ℤ at) ≤ e
stamp_within at d k e least most room large =
    stamp_near at (floor_quotient at (pos 1_000)) d k e (floor_quotient-at_most at (pos 1_000) (omega (arith, ints))) (floor_quotient-next at (pos 1_000) (omega (arith, ints))) least most room large

thousands : (q d : ℤ) → (q *ℤ pos 1_000) +ℤ (pos 1_000 *ℤ d) ≡ (q +ℤ d) *ℤ pos 1_000
thousands q d = omega (arith, ints)

whole_product : (x : ℤ) → unsigned_abs (x *ℤ pos 1_000) % 1_000 ≡ 0
whole_product x = let e : unsigned_abs (x *ℤ pos 1_000) ≡ unsigned_abs x * 1_000 = unsigned_abs-mul x (pos 1_000) in omega (arith, e)

pub whole_stamp : (q d : ℤ) → unsigned_abs ((q *ℤ pos 1_000) +ℤ (pos 1_000 *ℤ d)) % 1_000 ≡ 0
whole_stamp q d = subst (λ (z : ℤ). unsigned_abs z % 1_000 ≡ 0) (sym (thousands q d)) (whole_product (q +ℤ d))

pub stamp_least : (stamp at : ℤ) (e p : ℕ) → unsigned_abs (stamp -ℤ at) ≤ e → e ≤ 1_000_000_000 → 524_288_000 ≤ p → pos (2 * p) ≤ℤ at → pos 0 ≤ℤ stamp
stamp_least stamp at e p near small long low = grind (arith, ints)

pub stamp_most : (stamp at : ℤ) (e p : ℕ) → unsigned_abs (stamp -ℤ at) ≤ e → e ≤ 1_000_000_000 → p ≤ 1_048_576_000 → pos (2 ^ 62 * p) ≤ℤ pos (2 ^ 62 * 1_048_576_000) → pos 0 ≤ℤ stamp → at ≤ℤ pos (2 ^ 62 * p) → unsigned_abs stamp ≤ 2 ^ 92
stamp_most stamp at e p near small short long least high = grind (arith, ints)

-- Drifts

trunc_small : (a : ℤ) → unsigned_abs (trunc_quotient a (pos 1_000_000_000_000)) * 1_000_000_000_000 ≤ unsigned_abs a
trunc_small (pos a) = omega arith
trunc_small (negsuc a) = grind (arith, ints)

pub drift_within : (dt rate : ℤ) (most : ℕ) → unsigned_abs rate ≤ most → unsigned_abs (trunc_quotient (dt *ℤ rate) (pos 1_000_000_000_000)) * 1_000_000_000_000 ≤ most * unsigned_abs dt
drift_within dt rate most h =
    let product : unsigned_abs (dt *ℤ rate) ≡ unsigned_abs dt * unsigned_abs rate = unsigned_abs-mul dt rate in
    omega (arith, product, trunc_small (dt *ℤ rate), mul-le-mul_left (unsigned_abs dt) h)

pub held_most : (most : ℕ) (rate : ℤ) → unsigned_abs (held_within (pos most) rate) ≤ most
held_most most rate = grind (arith, ints, clamps)

pub held_less : (most : ℕ) (rate : ℤ) → unsigned_abs (held_within (pos most) rate) ≤ unsigned_abs rate
held_less most rate = grind (arith, ints, clamps)
