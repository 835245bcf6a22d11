-- One more tag adds its wrapped difference, which is the difference except for whole periods.
use Rattle.std.proofs.Common.{◌≡◌, ℕ, ℤ, pos, negsuc, neg_ℤ, ◌+◌, ◌*◌, ◌/◌, ◌%◌, ◌<◌, ◌+ℤ◌, ◌≤ℤ◌, ◌<ℤ◌, lit<, Option, List, ◌∷◌, refl, ap₂, sym, arith, subst}
use Rattle.std.proofs.lemmas.Int.{ints}
use Rattle.std.proofs.Math.Nat.{div-add-mod, mod-lt}
use Rattle.std.specs.Int.{int_rem_euclid}
use Rattle.wrp_base.specs.declared.time.Clock.{Clock}
use Rattle.wrp_base.specs.declared.time.Clock.TheVariants.{Mhz125, Mhz62}
use Rattle.wrp_base.specs.Clock.{period_of}
use Rattle.wrp_base.specs.Calls.{Adds}
use Rattle.wrp_phase.specs.Unwrapping.{brought_round, added_by, Unwrapping, pushed, StandsFor}

-- an unwrapper that took this tag stands for it in front of the earlier tags
pub StandsFor-pushed : (u : Unwrapping) (tag : ℕ) (tags : List ℕ) → StandsFor u tags → StandsFor (pushed u tag) (tag ∷ tags)
StandsFor-pushed u tag tags stands = record {
  last = refl;
  answer = ap₂ (λ (a : ℤ) (l : Option ℕ). a +ℤ added_by u.clock l tag) stands.answer stands.last;
}

pub Adds-pushed : (old new : Unwrapping) (tag : ℕ) → new ≡ pushed old tag → Adds StandsFor old new tag
Adds-pushed old new tag is tags stands =
    let P : Unwrapping → Type 0 = λ u. StandsFor u (tag ∷ tags) in
    subst P (sym is) (StandsFor-pushed old tag tags stands)

-- what is left of z when whole multiples of p are taken away or added
rem_is : (z : ℤ) (p : ℕ) → 0 < p →
    (i : ℕ) × (j : ℕ) × (int_rem_euclid z (pos p) +ℤ pos (i * p) ≡ z +ℤ pos (j * p)) × (pos 0 ≤ℤ int_rem_euclid z (pos p)) × (int_rem_euclid z (pos p) <ℤ pos p)
rem_is (pos n) p positive =
    let whole : p * (n / p) + n % p ≡ n = div-add-mod n p in
    let below : n % p < p = mod-lt n positive in
    (n / p, 0, omega (arith, ints), omega (arith, ints), omega (arith, ints))
rem_is (negsuc n) p positive =
    let whole : p * (n / p) + n % p ≡ n = div-add-mod n p in
    let below : n % p < p = mod-lt n positive in
    (0, n / p + 1, omega (arith, ints), omega (arith, ints), omega (arith, ints))

-- a difference brought round differs from it by whole periods, and lies in half a period on either side
pub brought_round-is : (clock : Clock) (difference : ℤ) →
    (i : ℕ) × (j : ℕ) × (brought_round clock difference +ℤ pos (i * period_of clock) ≡ difference +ℤ pos (j * period_of clock)) ×
    (neg_ℤ (pos (period_of clock / 2)) ≤ℤ brought_round clock difference) × (brought_round clock difference <ℤ pos (period_of clock / 2))
brought_round-is Mhz125 difference =
    let (i, j, is, least, most) = rem_is (difference +ℤ pos 262_144_000) 524_288_000 (lit< tt) in
    (i, j, omega (arith, ints), omega (arith, ints), omega (arith, ints))
brought_round-is Mhz62 difference =
    let (i, j, is, least, most) = rem_is (difference +ℤ pos 524_288_000) 1_048_576_000 (lit< tt) in
    (i, j, omega (arith, ints), omega (arith, ints), omega (arith, ints))
