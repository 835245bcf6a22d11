-- The receptions determine what was taken.
use Rattle.std.proofs.Common.{◌≡◌, refl, ap, ap₂, sym, ℕ, zero, suc, ◌≤◌, List, [], ◌∷◌, ◌++◌, length, None, Some, arith}
use Rattle.arrayvec.specs.ArrayVec.{ArrayVec}
use Rattle.wrp_io.specs.declared.link.LinkCall.{LinkCall}
use Rattle.wrp_io.specs.declared.link.LinkCall.TheVariants.{Receive}
use Rattle.wrp_loop.specs.Calls.{receptions}

pub tail_of : List LinkCall → List LinkCall
tail_of [] = []
tail_of (c ∷ calls) = calls

frame_in : List LinkCall → ArrayVec ℕ
frame_in (Receive end (Some frame) ∷ calls) = frame
frame_in _ = record { items = [] }

is_empty : List LinkCall → ℕ
is_empty (Receive end None ∷ calls) = 0
is_empty _ = 1

pub tails : (a b : LinkCall) (x y : List LinkCall) → a ∷ x ≡ b ∷ y → x ≡ y
unfolding tail_of
tails a b x y e = ap tail_of e

frames : (to : ℕ) (f g : ArrayVec ℕ) (x y : List LinkCall) → Receive to (Some f) ∷ x ≡ Receive to (Some g) ∷ y → f ≡ g
unfolding frame_in
frames to f g x y e = ap frame_in e

not_both : (to : ℕ) (f : ArrayVec ℕ) (x y : List LinkCall) → Receive to None ∷ x ≡ Receive to (Some f) ∷ y → ⊥
unfolding is_empty
not_both to f x y e = let h : 0 ≡ 1 = ap is_empty e in omega (arith, h)

pub same_taken : (to room : ℕ) (a b : List (ArrayVec ℕ)) (x y : List LinkCall) → length a ≤ room → length b ≤ room →
    receptions to room a ++ x ≡ receptions to room b ++ y → (a ≡ b) × (x ≡ y)
same_taken to zero [] [] x y ha hb e = (refl, e)
same_taken to zero [] (g ∷ b) x y ha hb e = absurd (omega (arith, hb))
same_taken to zero (f ∷ a) b x y ha hb e = absurd (omega (arith, ha))
same_taken to (suc room) [] [] x y ha hb e = (refl, tails _ _ _ _ e)
same_taken to (suc room) [] (g ∷ b) x y ha hb e = absurd (not_both to g _ _ e)
same_taken to (suc room) (f ∷ a) [] x y ha hb e = absurd (not_both to f _ _ (sym e))
same_taken to (suc room) (f ∷ a) (g ∷ b) x y ha hb e =
    let it = same_taken to room a b x y (omega (arith, ha)) (omega (arith, hb)) (tails _ _ _ _ e) in
    (ap₂ (λ h t. h ∷ t) (frames to f g _ _ e) it.0, it.1)
