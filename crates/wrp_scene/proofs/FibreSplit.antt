-- The delays of a fibre's two ways: the share of the way down, c parts of 2^40, lies from a quarter to three quarters of the sum.
use Rattle.std.proofs.Common.{◌≡◌, ap, sym, subst, ℕ, ◌+◌, ◌*◌, ◌/◌, ◌%◌, ◌^◌, ◌<◌, ◌≤◌, ℤ, pos, ◌+ℤ◌, ◌-ℤ◌, ◌*ℤ◌, ◌≤ℤ◌, unsigned_abs, arith, lit<}
use Rattle.std.proofs.lemmas.Int.{ints}
use Rattle.std.proofs.Math.Nat.{div-add-mod, mod-lt, mul-le-mul_left}
use Rattle.wrp_base.specs.Division.{floor_quotient}
use Rattle.wrp_base.proofs.Integers.{fraction_is_its_size}

pub share_most : (sum c m r : ℕ) → 2 ^ 40 * m + r ≡ sum * c → c ≤ 3 * 2 ^ 38 → 4 * m ≤ 3 * sum
share_most sum c m r whole h = omega (arith, whole, mul-le-mul_left sum h)

pub share_least : (sum c m r : ℕ) → 2 ^ 40 * m + r ≡ sum * c → r < 2 ^ 40 → 2 ^ 38 ≤ c → sum < 4 * m + 4
share_least sum c m r whole left h = omega (arith, whole, left, mul-le-mul_left sum h)

share_low : (kappa : ℤ) → unsigned_abs kappa ≤ 2 ^ 38 → 2 ^ 38 ≤ unsigned_abs (pos (2 ^ 39) +ℤ kappa)
share_low kappa h = grind (arith, ints)

share_high : (kappa : ℤ) → unsigned_abs kappa ≤ 2 ^ 38 → unsigned_abs (pos (2 ^ 39) +ℤ kappa) ≤ 3 * 2 ^ 38
share_high kappa h = grind (arith, ints)

-- what is known of both delays, each of which has this room
pub record IsSplit (kappa : ℤ) (room e : ℕ) (ms sm : ℤ) : Type 0 where
  pub ms_least : pos 0 ≤ℤ ms
  pub sm_least : pos 0 ≤ℤ sm
  pub ms_most : ms ≤ℤ pos room
  pub sm_most : sm ≤ℤ pos room
  pub even : unsigned_abs ((pos (2 ^ 40) *ℤ ms) -ℤ ((pos (2 ^ 39) +ℤ kappa) *ℤ (ms +ℤ sm))) ≤ 2 ^ 40 * e

both_ways : (m sum : ℕ) → m ≤ sum → pos m +ℤ (pos sum -ℤ pos m) ≡ pos sum
both_ways m sum h = omega (arith, ints)

up_least : (m sum : ℕ) → m ≤ sum → pos 0 ≤ℤ (pos sum -ℤ pos m)
up_least m sum h = omega (arith, ints, h)

up_most : (m sum room : ℕ) → m ≤ sum → sum < 4 * m + 4 → 3 * sum ≤ 4 * room → (pos sum -ℤ pos m) ≤ℤ pos room
up_most m sum room h k l = omega (arith, ints, h, k, l)

down_most : (m sum room : ℕ) → 4 * m ≤ 3 * sum → 3 * sum ≤ 4 * room → pos m ≤ℤ pos room
down_most m sum room h k = omega (arith, ints, h, k)

uneven : (m r c sum e : ℕ) → 2 ^ 40 * m + r ≡ sum * c → r < 2 ^ 40 → 1 ≤ e → unsigned_abs ((pos (2 ^ 40) *ℤ pos m) -ℤ (pos c *ℤ pos sum)) ≤ 2 ^ 40 * e
uneven m r c sum e whole left one = grind (arith, ints)

split_by : (kappa : ℤ) (c m sum room e : ℕ) → pos (2 ^ 39) +ℤ kappa ≡ pos c → 2 ^ 40 * m + sum * c % 2 ^ 40 ≡ sum * c → 2 ^ 38 ≤ c → c ≤ 3 * 2 ^ 38 → 3 * sum ≤ 4 * room → 1 ≤ e →
    IsSplit kappa room e (pos m) (pos sum -ℤ pos m)
split_by kappa c m sum room e is whole low high fits one =
    let left : sum * c % 2 ^ 40 < 2 ^ 40 = mod-lt (sum * c) (lit< tt) in
    let most : 4 * m ≤ 3 * sum = share_most sum c m (sum * c % 2 ^ 40) whole high in
    let least : sum < 4 * m + 4 = share_least sum c m (sum * c % 2 ^ 40) whole left low in
    let less : m ≤ sum = omega (arith, most) in
    record {
      ms_least = omega (arith, ints);
      sm_least = up_least m sum less;
      ms_most = down_most m sum room most fits;
      sm_most = up_most m sum room less least fits;
      even = subst (λ (x : ℤ). unsigned_abs ((pos (2 ^ 40) *ℤ pos m) -ℤ (x *ℤ (pos m +ℤ (pos sum -ℤ pos m)))) ≤ 2 ^ 40 * e) (sym is)
          (subst (λ (x : ℤ). unsigned_abs ((pos (2 ^ 40) *ℤ pos m) -ℤ (pos c *ℤ x)) ≤ 2 ^ 40 * e) (sym (both_ways m sum less)) (uneven m (sum * c % 2 ^ 40) c sum e whole left one));
    }

floor_is : (kappa : ℤ) (sum c : ℕ) → pos (2 ^ 39) +ℤ kappa ≡ pos c → floor_quotient (pos sum *ℤ (pos (2 ^ 39) +ℤ kappa)) (pos (2 ^ 40)) ≡ pos (sum * c / 2 ^ 40)
floor_is kappa sum c is = ap (λ (x : ℤ). floor_quotient (pos sum *ℤ x) (pos (2 ^ 40))) is

pub split : (kappa : ℤ) (sum room e : ℕ) → unsigned_abs kappa ≤ 2 ^ 38 → 3 * sum ≤ 4 * room → 1 ≤ e →
    IsSplit kappa room e (floor_quotient (pos sum *ℤ (pos (2 ^ 39) +ℤ kappa)) (pos (2 ^ 40))) (pos sum -ℤ floor_quotient (pos sum *ℤ (pos (2 ^ 39) +ℤ kappa)) (pos (2 ^ 40)))
split kappa sum room e small fits one =
    let c : ℕ = unsigned_abs (pos (2 ^ 39) +ℤ kappa) in
    subst (λ (x : ℤ). IsSplit kappa room e x (pos sum -ℤ x)) (sym (floor_is kappa sum c (fraction_is_its_size kappa small)))
    (split_by kappa c (sum * c / 2 ^ 40) sum room e (fraction_is_its_size kappa small) (div-add-mod (sum * c) (2 ^ 40)) (share_low kappa small) (share_high kappa small) fits one)
