-- A number that was cut to a limit beyond the range is out of range, as it was before.
use Rattle.std.proofs.Common.{◌≡◌, ◌⊎◌, inl, inr, ℕ, ℤ, pos, negsuc, neg_ℤ, zero, suc, ◌<◌, ◌≤◌, ◌-◌, ◌^◌, min, false, Option, None, Some, refl, sym, ap, ◌∙◌, arith}
use Rattle.std.specs.Prelude.{int_le, unsigned_abs, unwrap_or, option_map, option_and_then}
use Rattle.std.proofs.lemmas.Bool.{lt-leb, cases_lt}
use Rattle.wrp_fields.specs.Numbers.{kept_in}

outside_below : (least greatest z : ℤ) → int_le least z ≡ false → kept_in least greatest z ≡ None
outside_below least greatest z e = rw e refl

past_below : (least : ℤ) (n limit : ℕ) → unsigned_abs least < limit → limit ≤ n → int_le least (neg_ℤ (pos n)) ≡ false
past_below (pos l) zero limit small over = absurd (omega arith)
past_below (pos l) (suc n) limit small over = refl
past_below (negsuc l) zero limit small over = absurd (omega arith)
past_below (negsuc l) (suc n) limit small over = lt-leb n l (omega arith)

kept_below_at : (least greatest : ℤ) (n limit : ℕ) → unsigned_abs least < limit → (n < limit) ⊎ (limit ≤ n)
    → kept_in least greatest (neg_ℤ (pos (min n limit))) ≡ kept_in least greatest (neg_ℤ (pos n))
kept_below_at least greatest n limit small (inl under) =
    let same : min n limit ≡ n = omega arith in
    ap (λ m. kept_in least greatest (neg_ℤ (pos m))) same
kept_below_at least greatest n limit small (inr over) =
    let held : limit ≤ min n limit = omega arith in
    outside_below least greatest (neg_ℤ (pos (min n limit))) (past_below least (min n limit) limit small held)
    ∙ sym (outside_below least greatest (neg_ℤ (pos n)) (past_below least n limit small over))

-- the opposite of a number that was cut to a limit beyond the range is kept exactly if the opposite
-- of the number itself is kept
kept_held_below : (least greatest : ℤ) (n limit : ℕ) → unsigned_abs least < limit
    → kept_in least greatest (neg_ℤ (pos (min n limit))) ≡ kept_in least greatest (neg_ℤ (pos n))
kept_held_below least greatest n limit small = kept_below_at least greatest n limit small (cases_lt n limit)

-- the opposite of a number that was cut is kept as the opposite of the number
pub opposite_kept : (least greatest : ℤ) (digits : Option ℕ) (z : ℤ) → unsigned_abs least < 2 ^ 127 - 1
    → Some z ≡ option_map (λ n. pos (min n (2 ^ 127 - 1))) digits
    → kept_in least greatest (neg_ℤ z) ≡ option_and_then (kept_in least greatest) (option_map (λ n. neg_ℤ (pos n)) digits)
opposite_kept least greatest None z small e = cc e
opposite_kept least greatest (Some n) z small e =
    let same : z ≡ pos (min n (2 ^ 127 - 1)) = ap (λ o. unwrap_or o z) e in
    ap (λ w. kept_in least greatest (neg_ℤ w)) same ∙ kept_held_below least greatest n (2 ^ 127 - 1) small
