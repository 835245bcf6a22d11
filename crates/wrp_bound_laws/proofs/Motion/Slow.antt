-- What stays, or moves by a checked step as time passes, moves slowly; and which rate a clock keeps.
use Rattle.std.proofs.Common.{◌≡◌, sym, subst, ℕ, zero, suc, ◌+◌, ◌*◌, ◌<◌, ◌≤◌, ℤ, pos, ◌+ℤ◌, ◌-ℤ◌, ◌≤ℤ◌, unsigned_abs, not, false, List, flat_map, arith}
use Rattle.std.proofs.lemmas.Int.{ints}
use Rattle.std.proofs.Math.Nat.{mul-le-mul_right}
use Rattle.std.specs.Int.Signed.{le_z}
use Rattle.wrp_base.proofs.Naturals.{nat_le_trans}
use Rattle.wrp_tracking_laws.specs.History.{IsSlow}
use Rattle.wrp_course.specs.Checks.{AllHold, Check, Holds}
use Rattle.wrp_course.specs.Setting.{from_on}
use Rattle.wrp_course.proofs.RunTimes.{all_right}
use Rattle.wrp_bound_laws.proofs.Motion.OnTime.{first_part}

-- a quantity moves from one time to another at most at a rate
abbrev pub Slow : ℕ → (t0 t1 q0 q1 : ℤ) → Type 0
Slow rate t0 t1 q0 q1 = (t0 ≤ℤ t1) × (unsigned_abs (q1 -ℤ q0) * 1_000_000_000_000 ≤ rate * unsigned_abs (t1 -ℤ t0))

pub as_slow : {A : Type 0} (time : A → ℤ) (rate : ℕ) (quantity : A → ℤ) (a b : A) → Slow rate (time a) (time b) (quantity a) (quantity b) → IsSlow time rate quantity a b
as_slow time rate quantity a b h = record { order = h.0; limit = h.1 }

no_way : (q0 q1 : ℤ) → q1 ≡ q0 → unsigned_abs (q1 -ℤ q0) ≡ 0
no_way q0 q1 e = omega (arith, ints, e)

pub still_slow : (rate : ℕ) (t0 t1 q0 q1 : ℤ) → t0 ≤ℤ t1 → q1 ≡ q0 → Slow rate t0 t1 q0 q1
still_slow rate t0 t1 q0 q1 order e =
    let none : unsigned_abs (q1 -ℤ q0) ≡ 0 = no_way q0 q1 e in
    (order, subst (λ n. n * 1_000_000_000_000 ≤ rate * unsigned_abs (t1 -ℤ t0)) (sym none) (omega arith))

moved_by : (q0 q1 d : ℤ) → q1 ≡ q0 +ℤ d → q1 -ℤ q0 ≡ d
moved_by q0 q1 d e = omega (arith, ints, e)

forward : (t0 t1 dt : ℤ) → t1 ≡ t0 +ℤ dt → pos 1 ≤ℤ dt → t0 ≤ℤ t1
forward t0 t1 dt e h = omega (arith, ints, e, h)

pub moved_slow : (rate kept : ℕ) (t0 t1 q0 q1 dt d : ℤ) → t1 ≡ t0 +ℤ dt → q1 ≡ q0 +ℤ d → pos 1 ≤ℤ dt → unsigned_abs d * 1_000_000_000_000 ≤ kept * unsigned_abs dt → kept ≤ rate → Slow rate t0 t1 q0 q1
moved_slow rate kept t0 t1 q0 q1 dt d te qe past h less =
    let more : kept * unsigned_abs dt ≤ rate * unsigned_abs dt = mul-le-mul_right (unsigned_abs dt) less in
    let all : unsigned_abs d * 1_000_000_000_000 ≤ rate * unsigned_abs dt = nat_le_trans (unsigned_abs d * 1_000_000_000_000) (kept * unsigned_abs dt) (rate * unsigned_abs dt) h more in (
      forward t0 t1 dt te past,
      subst (λ z. unsigned_abs z * 1_000_000_000_000 ≤ rate * unsigned_abs (t1 -ℤ t0)) (sym (moved_by q0 q1 d qe))
          (subst (λ z. unsigned_abs d * 1_000_000_000_000 ≤ rate * unsigned_abs z) (sym (moved_by t0 t1 dt te)) all),
    )

-- Checks

pub check_says : (a b : ℕ) → not (le_z (pos a) (pos b)) ≡ false → a ≤ b
check_says a b h = grind (arith, ints, h)

-- the checks of one of many
pub flat_at : (f : ℕ → List Check) (k first j : ℕ) → AllHold (flat_map f (from_on k first)) → j < k → AllHold (f (first + j))
flat_at f zero first j h l = absurd (omega arith)
flat_at f (suc k) first zero h l = subst (λ n. AllHold (f n)) (omega arith) (first_part (f first) (flat_map f (from_on k (first + 1))) h)
flat_at f (suc k) first (suc j) h l =
    subst (λ n. AllHold (f n)) (omega arith) (flat_at f k (first + 1) j (all_right Holds (f first) (flat_map f (from_on k (first + 1))) h) (omega arith))

pub flat_from : (f : ℕ → List Check) (k i : ℕ) → AllHold (flat_map f (from_on k 0)) → i < k → AllHold (f i)
flat_from f k i h l =
    let e : 0 + i ≡ i = omega arith in
    subst (λ n. AllHold (f n)) e (flat_at f k 0 i h l)
