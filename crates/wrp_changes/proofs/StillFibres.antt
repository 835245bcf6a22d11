-- Fibres that do not change.
use Rattle.std.proofs.Common.{◌≡◌, ◌∙◌, refl, ap, ap₂, sym, subst, ℕ, zero, suc, ◌+◌, ◌<◌, ◌≤◌, ◌^◌, ◌⊎◌, inl, inr, ℤ, pos, ◌+ℤ◌, unsigned_abs, List, [], ◌∷◌, length, slice_index_or, arith}
use Rattle.std.proofs.lemmas.Int.{ints}
use Rattle.std.proofs.lemmas.Option.{slice_get-get_or}
use Rattle.std.specs.Option.{option_map_or}
use Rattle.wrp_course.specs.Moved.{move_of}
use Rattle.wrp_plant.specs.declared.ends.Span.{Span}
use Rattle.wrp_changes.specs.Moves.{EachBecame, Moves}
use Rattle.wrp_changes.proofs.Turned.{split}

abbrev Stays : List (ℤ × ℤ) → ℕ → Type 0
Stays moves k = move_of moves k ≡ (pos 0, pos 0)

-- the fibres so far, and one more
pub still_next : (moves : List (ℤ × ℤ)) (i : ℕ) → ((k : ℕ) → k < i → Stays moves k) → Stays moves i → (k : ℕ) → k < i + 1 → Stays moves k
still_next moves i h e k l = by_case (split k i (omega (arith, l))) where
  by_case : (k ≡ i) ⊎ (k < i) → Stays moves k
  by_case (inl same) = subst (Stays moves) (sym same) e
  by_case (inr below) = h k below

-- the move at this place is 0 both ways
pub still_here : (moves : List (ℤ × ℤ)) (k : ℕ) (d : ℤ × ℤ) → k < length moves → slice_index_or moves k d ≡ (pos 0, pos 0) → Stays moves k
still_here moves k d h e = ap (λ o. option_map_or (λ move. move) o (pos 0, pos 0)) (slice_get-get_or moves k d h) ∙ e

below_or : (k i : ℕ) → (k < i) ⊎ (i ≤ k)
below_or zero zero = inr (omega arith)
below_or zero (suc i) = inl (omega arith)
below_or (suc k) zero = inr (omega arith)
below_or (suc k) (suc i) = by_case (below_or k i) where
  by_case : (k < i) ⊎ (i ≤ k) → (suc k < suc i) ⊎ (suc i ≤ suc k)
  by_case (inl h) = inl (omega (arith, h))
  by_case (inr h) = inr (omega (arith, h))

past_end : (moves : List (ℤ × ℤ)) (k : ℕ) → length moves ≤ k → Stays moves k
past_end [] k h = refl
past_end (m ∷ ms) zero h = absurd (omega (arith, h))
past_end (m ∷ ms) (suc k) h = past_end ms k (omega (arith, h))

pub still_all : (moves : List (ℤ × ℤ)) (i : ℕ) → length moves ≤ i → ((k : ℕ) → k < i → Stays moves k) → (k : ℕ) → Stays moves k
still_all moves i h f k = by_case (below_or k i) where
  by_case : (k < i) ⊎ (i ≤ k) → Stays moves k
  by_case (inl l) = f k l
  by_case (inr l) = past_end moves k (omega (arith, h, l))

no_more : (z : ℤ) → z ≡ z +ℤ pos 0
no_more z = omega (arith, ints)

stay : (moves : List (ℤ × ℤ)) (k : ℕ) (x : Span) → Stays moves k → Moves moves k x x
stay moves k x e = record {
  span = record {
    fibre =
        ap₂ (λ a b. record x.fibre { ms = a; sm = b }) (no_more x.fibre.ms) (no_more x.fibre.sm)
        ∙ ap (λ (m : ℤ × ℤ). record x.fibre { ms = x.fibre.ms +ℤ m.0; sm = x.fibre.sm +ℤ m.1 }) (sym e);
    master = refl;
    slave = refl;
  };
  down = subst (λ (m : ℤ × ℤ). unsigned_abs m.0 ≤ 2 ^ 63) (sym e) (omega arith);
  up = subst (λ (m : ℤ × ℤ). unsigned_abs m.1 ≤ 2 ^ 63) (sym e) (omega arith);
}

pub all_still : (moves : List (ℤ × ℤ)) (spans : List Span) → ((k : ℕ) → Stays moves k) → EachBecame (Moves moves) spans spans
all_still moves spans h = (refl, λ k y e. (y, e, stay moves k y (h k)))
