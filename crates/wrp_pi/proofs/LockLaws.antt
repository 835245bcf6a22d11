-- One more error: the count moves by the rule, and the detector locks at `lock`, unlocks at 0, and else stays as it was.
use Rattle.std.proofs.Common.{◌≡◌, ◌≢◌, ℕ, ℤ, zero, suc, ◌<◌, ◌≤◌, ◌↔◌, inl, inr, IsTrue, List, ◌∷◌, drop, ap, sym, subst, arith}
use Rattle.std.proofs.lemmas.Bool.{cases_eq}
use Rattle.std.proofs.lemmas.Bool.Decides.{nat_tests}
use Rattle.wrp_base.specs.Calls.{Adds}
use Rattle.wrp_pi.specs.Lock.{Limits, next_count, count_after, IsLocked, Detector, is_locked_at, updated, StandsFor}

-- at a count of `lock` it is locked
IsLocked-at_lock : (limits : Limits) (errors : List ℤ) (e : ℤ) → 0 < limits.lock → count_after limits (e ∷ errors) ≡ limits.lock → IsLocked limits (e ∷ errors)
IsLocked-at_lock limits errors e positive is =
    let never_since : (j : ℕ) → j ≤ 0 → count_after limits (drop j (e ∷ errors)) ≢ 0 =
    λ j within zero_count. let now : j ≡ 0 = omega arith in
    let P : ℕ → Type 0 = λ n. count_after limits (drop n (e ∷ errors)) ≡ 0 in
    let at_zero : count_after limits (e ∷ errors) ≡ 0 = subst P now zero_count in
    omega arith in
    (0, omega arith, is, never_since)

-- at a count of 0 it is not
IsLocked-at_zero : (limits : Limits) (errors : List ℤ) (e : ℤ) → count_after limits (e ∷ errors) ≡ 0 → IsLocked limits (e ∷ errors) → ⊥
IsLocked-at_zero limits errors e is (i, within, at_lock, after) = after 0 (omega arith) is

-- what holds of the list, and of each of its tails, holds of each tail of the longer list
after-suc : (limits : Limits) (errors : List ℤ) (e : ℤ) (i : ℕ) → count_after limits (e ∷ errors) ≢ 0 → ((j : ℕ) → j ≤ i → count_after limits (drop j errors) ≢ 0) →
    (j : ℕ) → j ≤ suc i → count_after limits (drop j (e ∷ errors)) ≢ 0
after-suc limits errors e i is after zero h = is
after-suc limits errors e i is after (suc j) h = after j (omega arith)

-- at any count but 0 it stays locked
IsLocked-stays : (limits : Limits) (errors : List ℤ) (e : ℤ) → count_after limits (e ∷ errors) ≢ 0 → IsLocked limits errors → IsLocked limits (e ∷ errors)
IsLocked-stays limits errors e is (i, within, at_lock, after) = (suc i, omega arith, at_lock, after-suc limits errors e i is after)

-- at any count but `lock` it was locked before
IsLocked-was : (limits : Limits) (errors : List ℤ) (e : ℤ) → count_after limits (e ∷ errors) ≢ limits.lock → IsLocked limits (e ∷ errors) → IsLocked limits errors
IsLocked-was limits errors e is (zero, within, at_lock, after) = absurd (is at_lock)
IsLocked-was limits errors e is (suc i, within, at_lock, after) = (i, omega arith, at_lock, λ j h. after (suc j) (omega arith))

is_locked_at-parts : (d : Detector) (count : ℕ) → count ≢ d.limits.lock → IsTrue (is_locked_at d count) → IsTrue d.locked × (count ≢ 0)
is_locked_at-parts d count other is = grind (arith, nat_tests)

is_locked_at-lock : (d : Detector) (count : ℕ) → count ≡ d.limits.lock → IsTrue (is_locked_at d count)
is_locked_at-lock d count same = grind (arith, nat_tests)

is_locked_at-above : (d : Detector) (count : ℕ) → IsTrue d.locked → count ≢ 0 → IsTrue (is_locked_at d count)
is_locked_at-above d count is above = grind (arith, nat_tests)

-- it is locked if and only if the rule says so
is_locked_at-is : (d : Detector) (errors : List ℤ) (e : ℤ) → 0 < d.limits.lock → (IsTrue d.locked ↔ IsLocked d.limits errors) →
    IsTrue (is_locked_at d (count_after d.limits (e ∷ errors))) ↔ IsLocked d.limits (e ∷ errors)
is_locked_at-is d errors e positive known = (
  λ is. elim (cases_eq (count_after d.limits (e ∷ errors)) d.limits.lock) [
    | inl same ↦ IsLocked-at_lock d.limits errors e positive same
    | inr other ↦
        let parts : IsTrue d.locked × (count_after d.limits (e ∷ errors) ≢ 0) = is_locked_at-parts d _ other is in
        IsLocked-stays d.limits errors e parts.1 (known.0 parts.0)
  ],
  λ is. elim (cases_eq (count_after d.limits (e ∷ errors)) d.limits.lock) [
    | inl same ↦ is_locked_at-lock d _ same
    | inr other ↦ is_locked_at-above d _ (known.1 (IsLocked-was d.limits errors e other is)) (λ zero_count. IsLocked-at_zero d.limits errors e zero_count is)
  ],
)

-- a detector that took this error stands for it in front of the earlier errors
pub Adds-updated : (old new : Detector) (e : ℤ) → 0 < old.limits.lock → new ≡ updated old e → Adds StandsFor old new e
Adds-updated old new e positive is errors stands =
    let P : Detector → Type 0 = λ d. StandsFor d (e ∷ errors) in
    let moves : next_count old.limits old.count e ≡ count_after old.limits (e ∷ errors) = ap (λ (n : ℕ). next_count old.limits n e) stands.count in
    let Q : ℕ → Type 0 = λ n. IsTrue (is_locked_at old n) ↔ IsLocked old.limits (e ∷ errors) in
    subst P (sym is) (record { count = moves; locked = subst Q (sym moves) (is_locked_at-is old errors e positive stands.locked) })
