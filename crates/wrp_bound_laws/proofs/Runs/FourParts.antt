-- Parts of a run: where a part begins, and what held at an event of it.
use Rattle.std.proofs.Common.{◌≡◌, sym, subst, ℕ, suc, ◌≤◌, List, [], ◌∷◌, ◌++◌, length, arith}
use Rattle.wrp_course.specs.Run.{Happened}
use Rattle.wrp_bound_laws.specs.Moments.{AtEach}
use Rattle.wrp_bound_laws.proofs.Runs.Suffixes.{at_newest, rest_length}

tails : (x y : Happened) (xs ys : List Happened) → x ∷ xs ≡ y ∷ ys → xs ≡ ys
tails x y xs ys e = cc

-- what held at each event since did not hold before they began
pub begun : (P : List Happened → Type 0) (since earlier newer : List Happened) (start : Happened) (before : List Happened) → AtEach P since earlier → since ++ earlier ≡ newer ++ start ∷ before → (P before → ⊥) → length (start ∷ before) ≤ length earlier
begun P [] earlier newer start before h e none = subst (λ (l : List Happened). length (start ∷ before) ≤ length l) (sym e) (rest_length newer (start ∷ before))
begun P (x ∷ since) earlier [] start before h e none = absurd (none (subst P (tails x start (since ++ earlier) before e) (at_newest P since earlier h.1)))
begun P (x ∷ since) earlier (y ∷ newer) start before h e none = begun P since earlier newer start before h.1 (tails x y (since ++ earlier) (newer ++ start ∷ before) e) none

too_long : (a b : ℕ) → suc a ≤ b → b ≤ a → ⊥
too_long a b h k = omega (arith, h, k)

one_longer : (x : Happened) (since earlier : List Happened) → suc (length earlier) ≤ length (x ∷ (since ++ earlier))
one_longer x since earlier = let h : length earlier ≤ length (since ++ earlier) = rest_length since earlier in omega (arith, h)

-- it held at each of them
pub held_at : (P : List Happened → Type 0) (newer older since earlier : List Happened) → AtEach P newer older → newer ++ older ≡ since ++ earlier → length older ≤ length earlier → P earlier
held_at P newer older [] earlier h e few = subst P e (at_newest P newer older h)
held_at P [] older (x ∷ since) earlier h e few = absurd (too_long (length earlier) (length older) (subst (λ (l : List Happened). suc (length earlier) ≤ length l) (sym e) (one_longer x since earlier)) few)
held_at P (y ∷ newer) older (x ∷ since) earlier h e few = held_at P newer older since earlier h.1 (tails y x (newer ++ older) (since ++ earlier) e) few
