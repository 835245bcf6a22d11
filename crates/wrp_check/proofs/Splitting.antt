-- The newest stretch of a history, and the search for the one in which a time lies.
use Rattle.std.proofs.Common.{◌≡◌, ◌⊎◌, ◌↔◌, sym, ap, ◌∙◌, subst, inl, inr, ℕ, ◌+◌, ◌<◌, ◌≤◌, ℤ, ◌≤ℤ◌, List, [], ◌∷◌, ◌++◌, length, reverse, take, drop, Some, arith, append_assoc}
use Rattle.std.proofs.lemmas.List.{take_all, take-append-drop, reverse-append, append_cancel_left, append-nil}
use Rattle.std.specs.List.{AllByRecursion, slice_get}
use Rattle.wrp_base.specs.declared.link.Mark.{Mark}
use Rattle.wrp_check.specs.Stretches.{stretches_of, BeganBy, LiesIn}

-- the oldest mark is the last one, read from the end
began_push : (time : ℤ) (first : Mark) (marks : List Mark) → BeganBy time (marks ++ first ∷ []) ↔ (first.at ≤ℤ time)
began_push time first [] = (λ h. h, λ h. h)
began_push time first (x ∷ []) = (λ h. h, λ h. h)
began_push time first (x ∷ y ∷ marks) = began_push time first (y ∷ marks)

pub began_by : (time : ℤ) (marks : List Mark) (first : Mark) → Some first ≡ slice_get marks 0 → BeganBy time (reverse marks) ↔ (first.at ≤ℤ time)
began_by time [] first e = absurd cc
began_by time (x ∷ marks) first e =
    let same : x ≡ first = cc in
    let P : List Mark → Type 0 = λ ms. BeganBy time ms ↔ (first.at ≤ℤ time) in
    subst P (sym (reverse-append (x ∷ []) marks ∙ ap (λ m. reverse marks ++ m ∷ []) same)) (began_push time first (reverse marks))

-- the newest stretch of the marks so far is what comes after start
pub record Newest (front so_far : List Mark) : Type 0 where
  pub part : List Mark
  pub splits : so_far ≡ front ++ part
  pub some : 0 < length part
  pub stretches : stretches_of (reverse so_far) ≡ reverse part ∷ stretches_of (reverse front)

abbrev pub SplitSoFar : List Mark → ℕ → ℕ → Type 0
SplitSoFar marks start i = ((i ≡ 0) × (start ≡ 0)) ⊎ ((start < i) × Newest (take start marks) (take i marks))

-- what split_newest answers
pub record IsSplit (marks before newest : List Mark) : Type 0 where
  pub parts : marks ≡ before ++ newest
  pub some : 0 < length newest
  pub stretches : stretches_of (reverse marks) ≡ reverse newest ∷ stretches_of (reverse before)

pub whole : (marks : List Mark) (start i : ℕ) → 0 < length marks → length marks ≤ i → SplitSoFar marks start i → IsSplit marks (take start marks) (drop start marks)
whole marks start i some le h =
    let all : take i marks ≡ marks = take_all i marks le in
    elim h [
      | inl (at_0, from_0) ↦ absurd (omega arith)
      | inr (less, found) ↦
          let same : drop start marks ≡ found.part = append_cancel_left (take start marks) (drop start marks) found.part (take-append-drop start marks ∙ sym all ∙ found.splits) in
          record {
            parts = sym (take-append-drop start marks);
            some = omega (arith, found.some, ap length same);
            stretches = ap (λ ms. stretches_of (reverse ms)) (sym all) ∙ found.stretches ∙ ap (λ ms. reverse ms ∷ stretches_of (reverse (take start marks))) (sym same);
          }
    ]

-- the time lies in none of the stretches that were passed
pub record MissedSoFar (time : ℤ) (stretches left : List (List Mark)) : Type 0 where
  pub newer : List (List Mark)
  pub splits : stretches ≡ newer ++ left
  pub misses : AllByRecursion (λ later. LiesIn time later → ⊥) newer

misses_push : (time : ℤ) (newer : List (List Mark)) (stretch : List Mark) →
    AllByRecursion (λ later. LiesIn time later → ⊥) newer → (LiesIn time stretch → ⊥) → AllByRecursion (λ later. LiesIn time later → ⊥) (newer ++ stretch ∷ [])
misses_push time [] stretch h k = (k, tt)
misses_push time (x ∷ newer) stretch h k = (h.0, misses_push time newer stretch h.1 k)

pub one_passed : (time : ℤ) (stretches left rest : List (List Mark)) (stretch : List Mark) →
    left ≡ stretch ∷ rest → (LiesIn time stretch → ⊥) → MissedSoFar time stretches left → MissedSoFar time stretches rest
one_passed time stretches left rest stretch e misses h =
    record {
      newer = h.newer ++ stretch ∷ [];
      splits = h.splits ∙ ap (λ ss. h.newer ++ ss) e ∙ sym (append_assoc h.newer (stretch ∷ []) rest);
      misses = misses_push time h.newer stretch h.misses misses;
    }

pub all_passed : (time : ℤ) (stretches left : List (List Mark)) → left ≡ [] → MissedSoFar time stretches left → AllByRecursion (λ later. LiesIn time later → ⊥) stretches
all_passed time stretches left e h =
    let P : List (List Mark) → Type 0 = λ ss. AllByRecursion (λ later. LiesIn time later → ⊥) ss in
    subst P (sym (h.splits ∙ ap (λ ss. h.newer ++ ss) e ∙ append-nil h.newer)) h.misses
