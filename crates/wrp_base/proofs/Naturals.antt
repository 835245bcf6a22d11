-- Small laws of natural numbers.
use Rattle.std.proofs.Common.{ap, arith, nat_lt, suc, sym, true, ℕ, ◌%◌, ◌*◌, ◌+◌, ◌-◌, ◌/◌, ◌<◌, ◌==◌, ◌^◌, ◌∙◌, ◌≡◌, ◌≤◌}
use Rattle.std.proofs.Math.Nat.{div-add-mod, mul-add-mod_self_left}
use Rattle.std.proofs.lemmas.Bool.{eqb-true}

pub eq_self : (n : ℕ) → (n == n) ≡ true
eq_self n = grind arith

pub nat_le_trans : (a b c : ℕ) → a ≤ b → b ≤ c → a ≤ c
nat_le_trans a b c h k = omega (arith, h, k)

pub nat_le_self : (n : ℕ) → n ≤ n
nat_le_self n = omega arith

pub is_plus_zero : (k : ℕ) → k ≡ k + 0
is_plus_zero k = omega arith

pub le_one_more : (n : ℕ) → n ≤ n + 1
le_one_more n = omega arith

pub le_of_same : (i d : ℕ) → i ≡ d → i ≤ d
le_of_same i d e = omega (arith, e)

pub zero_plus : (j : ℕ) → 0 + j ≡ j
zero_plus j = omega arith

pub suc_less_one : (j : ℕ) → suc j - 1 ≡ j
suc_less_one j = omega arith

pub turn_mod : (n k : ℕ) → (k % n + 1) % n ≡ (k + 1) % n
turn_mod n k =
    let whole : n * (k / n) + k % n ≡ k = div-add-mod k n in
    let grouped : n * (k / n) + (k % n + 1) ≡ k + 1 = omega arith in
    sym (mul-add-mod_self_left n (k / n) (k % n + 1)) ∙ ap (λ x. x % n) grouped

pub same_suc : (i j : ℕ) → suc i ≡ suc j → i ≡ j
same_suc i j e = omega (arith, e)

pub not_next : (i d : ℕ) → i ≤ d → (i == (d + 1)) ≡ true → ⊥
not_next i d h e = let same : i ≡ d + 1 = eqb-true i (d + 1) e in omega (arith, h, same)

pub plus_zero : (first : ℕ) → first + 0 ≡ first
plus_zero first = omega arith

pub lt_true : (a b : ℕ) → a < b → nat_lt a b ≡ true
lt_true a b h = grind (arith, h)

pub le_later : (a b : ℕ) → a ≤ b → a ≤ b + 1
le_later a b h = omega (arith, h)

pub below_word : (a b : ℕ) → a ≤ b → b < 2 ^ 32 → a < 2 ^ 32
below_word a b h few = omega (arith, h, few)
