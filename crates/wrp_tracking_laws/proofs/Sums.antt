-- The error sum of one hop, in small steps over plain numbers.
use Rattle.std.proofs.Common.{◌≡◌, ℕ, ℤ, pos, ◌+◌, ◌*◌, ◌≤◌, ◌^◌, ◌+ℤ◌, ◌-ℤ◌, ◌*ℤ◌, arith, ap, lit<}
use Rattle.std.proofs.lemmas.Int.{ints, unsigned_abs-mul}
use Rattle.std.proofs.Math.Nat.{mul-le-mul_left, mul-le-mul_right}
use borrow.Author.Differences.{up, down}
use Rattle.std.specs.Prelude.{unsigned_abs}
use Rattle.wrp_base.specs.Closeness.{IsWithin}
use Rattle.wrp_bounds.specs.Motion.{rounded_up, motion}
use Rattle.wrp_bounds.proofs.Rounding.{rounded_up-next}

-- the Sync's two stamps give the phase at its arrival
pub sync_stamps : (departure arrival t1 t2 d1 d2 n2 p1 p2 : ℤ) (tx tag v : ℕ) →
    IsWithin tx t1 (departure +ℤ p1) → IsWithin tag t2 (arrival +ℤ n2) → arrival ≡ departure +ℤ d1 →
    IsWithin v (d1 -ℤ p1) (d2 -ℤ p2) → IsWithin (tx + tag + v) (t2 -ℤ t1) (n2 -ℤ p2 +ℤ d2)
sync_stamps departure arrival t1 t2 d1 d2 n2 p1 p2 tx tag v e1 e2 flown moved = omega (arith, ints)

-- and so the chain's constant
pub sync_side : (t1 t2 u2 phase latched constant : ℤ) (e h d : ℕ) →
    IsWithin e (t2 -ℤ t1) phase → IsWithin h phase latched → IsWithin d (u2 -ℤ latched) constant →
    IsWithin (e + d + h) (t1 -ℤ t2 +ℤ u2) constant
sync_side t1 t2 u2 phase latched constant e h d stamps moved near = omega (arith, ints)

-- the Delay_Req's two stamps give both ways except for the phase at its departure
pub delay_stamps : (departure arrival t3 t4 d3 s3 n3 p3 p4 : ℤ) (tx tag v : ℕ) →
    IsWithin tx t3 (departure +ℤ n3) → IsWithin tag t4 (arrival +ℤ p4) → arrival ≡ departure +ℤ s3 →
    IsWithin v p4 p3 → IsWithin (tx + tag + v) ((t4 -ℤ t3) +ℤ (n3 -ℤ p3 +ℤ d3)) (d3 +ℤ s3)
delay_stamps departure arrival t3 t4 d3 s3 n3 p3 p4 tx tag v e3 e4 flown moved = omega (arith, ints)

pub delay_side : (t3 t4 u3 phase latched constant ways : ℤ) (e h d : ℕ) →
    IsWithin e ((t4 -ℤ t3) +ℤ phase) ways → IsWithin h phase latched → IsWithin d (u3 -ℤ latched) constant →
    IsWithin (e + d + h) (t4 -ℤ t3 +ℤ u3) (constant +ℤ ways)
delay_side t3 t4 u3 phase latched constant ways e h d stamps moved near = omega (arith, ints)

-- what a rate carries in a time is at most its motion
in_motion : (rate time : ℕ) → rate * time ≤ 1_000_000_000_000 * motion rate time
in_motion rate time = (rounded_up-next (rate * time) 1_000_000_000_000 (lit< tt)).0

moved_three_by : (x y z : ℤ) (p q t g r : ℕ) → unsigned_abs x * 1_000_000_000_000 ≤ p * t → unsigned_abs y * 1_000_000_000_000 ≤ q * t → unsigned_abs z * 1_000_000_000_000 ≤ 2 * t → t ≤ g →
    (p + q + 2) * g ≤ 1_000_000_000_000 * r → unsigned_abs ((x -ℤ y) +ℤ z) ≤ r
moved_three_by x y z p q t g r a b c d e =
    let pg : p * t ≤ p * g = mul-le-mul_left p d in
    let qg : q * t ≤ q * g = mul-le-mul_left q d in
    omega (arith, ints)

-- a move in at most the time g, of a difference and a third quantity
pub moved_three : (x y z : ℤ) (p q t g : ℕ) → unsigned_abs x * 1_000_000_000_000 ≤ p * t → unsigned_abs y * 1_000_000_000_000 ≤ q * t → unsigned_abs z * 1_000_000_000_000 ≤ 2 * t → t ≤ g →
    unsigned_abs ((x -ℤ y) +ℤ z) ≤ motion (p + q + 2) g
moved_three x y z p q t g a b c d = moved_three_by x y z p q t g (motion (p + q + 2) g) a b c d (in_motion (p + q + 2) g)

moved_two_by : (y z : ℤ) (q t g r : ℕ) → unsigned_abs y * 1_000_000_000_000 ≤ q * t → unsigned_abs z * 1_000_000_000_000 ≤ 2 * t → t ≤ g → (q + 2) * g ≤ 1_000_000_000_000 * r → unsigned_abs (z -ℤ y) ≤ r
moved_two_by y z q t g r b c d e =
    let qg : q * t ≤ q * g = mul-le-mul_left q d in
    omega (arith, ints)

-- of a difference
pub moved_two : (y z : ℤ) (q t g : ℕ) → unsigned_abs y * 1_000_000_000_000 ≤ q * t → unsigned_abs z * 1_000_000_000_000 ≤ 2 * t → t ≤ g → unsigned_abs (z -ℤ y) ≤ motion (q + 2) g
moved_two y z q t g b c d = moved_two_by y z q t g (motion (q + 2) g) b c d (in_motion (q + 2) g)

moved_one_by : (y : ℤ) (q t g r : ℕ) → unsigned_abs y * 1_000_000_000_000 ≤ q * t → t ≤ g → (q + 2) * g ≤ 1_000_000_000_000 * r → unsigned_abs y ≤ r
moved_one_by y q t g r b d e =
    let qg : q * t ≤ q * g = mul-le-mul_left q d in
    omega (arith, ints)

-- of one quantity, with room
pub moved_one : (y : ℤ) (q t g : ℕ) → unsigned_abs y * 1_000_000_000_000 ≤ q * t → t ≤ g → unsigned_abs y ≤ motion (q + 2) g
moved_one y q t g b d = moved_one_by y q t g (motion (q + 2) g) b d (in_motion (q + 2) g)

both_moved_by : (d u : ℤ) (t g r : ℕ) → unsigned_abs d * 1_000_000_000_000 ≤ 2 * t → unsigned_abs u * 1_000_000_000_000 ≤ 2 * t → t ≤ g → 4 * g ≤ 1_000_000_000_000 * r → unsigned_abs (d +ℤ u) ≤ r
both_moved_by d u t g r a b c e = omega (arith, ints)

-- of both ways
pub both_moved : (d u : ℤ) (t g : ℕ) → unsigned_abs d * 1_000_000_000_000 ≤ 2 * t → unsigned_abs u * 1_000_000_000_000 ≤ 2 * t → t ≤ g → unsigned_abs (d +ℤ u) ≤ motion 4 g
both_moved d u t g a b c = both_moved_by d u t g (motion 4 g) a b c (in_motion 4 g)

-- both ways, as the two sides give them: the chain's constant falls out
pub two_sides : (t1 t2 t3 t4 u2 u3 constant ways : ℤ) (a b : ℕ) →
    IsWithin a (t1 -ℤ t2 +ℤ u2) constant → IsWithin b (t4 -ℤ t3 +ℤ u3) (constant +ℤ ways) →
    IsWithin (a + b) ((t2 -ℤ t1 -ℤ u2) +ℤ (t4 -ℤ t3 +ℤ u3)) ways
two_sides t1 t2 t3 t4 u2 u3 constant ways a b sa sb = omega (arith, ints)

-- the ports' delays as the database has them
pub four_delays : (txm rxs txs rxm xtm xrs xts xrm : ℤ) (e : ℕ) →
    IsWithin e xtm txm → IsWithin e xrs rxs → IsWithin e xts txs → IsWithin e xrm rxm →
    IsWithin (4 * e) (xtm +ℤ xrs +ℤ xts +ℤ xrm) (txm +ℤ rxs +ℤ txs +ℤ rxm)
four_delays txm rxs txs rxm xtm xrs xts xrm e e1 e2 e3 e4 = omega (arith, ints)

pub both_ways : (mm ways now ports true_ports fibres : ℤ) (ab e m : ℕ) →
    IsWithin ab mm ways → IsWithin m ways now → now ≡ fibres +ℤ true_ports → IsWithin e true_ports ports →
    IsWithin (ab + e + m) (mm -ℤ ports) fibres
both_ways mm ways now ports true_ports fibres ab e m near moved is db = omega (arith, ints)

-- a product with a difference
product-sub : (x y f : ℤ) → (x -ℤ y) *ℤ f ≡ (x *ℤ f) -ℤ (y *ℤ f)
product-sub x y f =
    let e : up (x -ℤ y) + down x + up y ≡ down (x -ℤ y) + up x + down y = omega (arith, ints) in
    omega (arith, ints, ap (λ (n : ℕ). n * up f) e, ap (λ (n : ℕ). n * down f) e)

-- the sum of three errors, divided by 2^40
law_linear : (y down_way fx fw : ℤ) (l s q r : ℕ) →
    IsWithin (2 ^ 40 * l) (pos (2 ^ 40) *ℤ y) fx → IsWithin (2 ^ 40 * s) (pos (2 ^ 40) *ℤ down_way) fw →
    unsigned_abs (fx -ℤ fw) ≤ q → q ≤ 2 ^ 40 * r → IsWithin (r + l + s) y down_way
law_linear y down_way fx fw l s q r law asym size up = omega (arith, ints)

-- the law's answer
pub law_scaled : (x y ways down_way f : ℤ) (e l s : ℕ) →
    IsWithin (2 ^ 40 * l) (pos (2 ^ 40) *ℤ y) (x *ℤ f) →
    IsWithin (2 ^ 40 * s) (pos (2 ^ 40) *ℤ down_way) (ways *ℤ f) →
    IsWithin e x ways →
    IsWithin (rounded_up (unsigned_abs f * e) (2 ^ 40) + l + s) y down_way
law_scaled x y ways down_way f e l s law asym near =
    let size : unsigned_abs ((x *ℤ f) -ℤ (ways *ℤ f)) ≤ unsigned_abs f * e = omega (arith, ap unsigned_abs (product-sub x ways f), unsigned_abs-mul (x -ℤ ways) f, mul-le-mul_right (unsigned_abs f) near) in
    law_linear y down_way (x *ℤ f) (ways *ℤ f) l s (unsigned_abs f * e) (rounded_up (unsigned_abs f * e) (2 ^ 40)) law asym size
    (rounded_up-next (unsigned_abs f * e) (2 ^ 40) (lit< tt)).0

-- the estimate, from the phase and the law's answer
pub estimated : (u sampled here down_true delay sides constant : ℤ) (d h a q : ℕ) →
    IsWithin a sides constant → IsWithin d (u -ℤ sampled) constant → IsWithin h here sampled → IsWithin q delay down_true →
    IsWithin (a + d + h + q) ((u -ℤ sides) -ℤ delay) (here -ℤ down_true)
estimated u sampled here down_true delay sides constant d h a q sync near moved way = omega (arith, ints)

-- a delay with its ports
pub way_down : (txm rxs xtm xrs y fibre : ℤ) (e l : ℕ) → IsWithin e xtm txm → IsWithin e xrs rxs → IsWithin l y fibre →
    IsWithin (l + 2 * e) ((txm +ℤ rxs) +ℤ y) ((xtm +ℤ fibre) +ℤ xrs)
way_down txm rxs xtm xrs y fibre e l e1 e2 near = omega (arith, ints)

pub ways_sum : (d u xtm xrs xts xrm fd fu : ℤ) → d ≡ (xtm +ℤ fd) +ℤ xrs → u ≡ (xts +ℤ fu) +ℤ xrm → d +ℤ u ≡ (fd +ℤ fu) +ℤ (xtm +ℤ xrs +ℤ xts +ℤ xrm)
ways_sum d u xtm xrs xts xrm fd fu e1 e2 = omega (arith, ints)

pub regrouped : (a d h s l y e m : ℕ) → a + d + h + ((s + l + y) + 2 * e) ≤ a + d + h + s + 2 * e + y + m + l
regrouped a d h s l y e m = omega arith

pub renamed : (u t1 t2 u2 delay n p d : ℤ) (q r : ℕ) → IsWithin q ((u -ℤ ((t1 -ℤ t2) +ℤ u2)) -ℤ delay) (((n -ℤ p) +ℤ d) -ℤ d) → q ≤ r → IsWithin r (((t2 -ℤ t1) -ℤ delay) +ℤ (u -ℤ u2)) (n -ℤ p)
renamed u t1 t2 u2 delay n p d q r near more = omega (arith, ints)

pub limited : (est e_tau n p : ℤ) (b t l : ℕ) → IsWithin b est (n -ℤ p) → unsigned_abs e_tau ≤ l → unsigned_abs (est -ℤ e_tau) ≤ t → IsWithin (t + l + b) n p
limited est e_tau n p b t l near loop_limit track_limit = omega (arith, ints)
