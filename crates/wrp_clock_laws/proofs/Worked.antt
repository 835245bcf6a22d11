-- The worked servo, by computing it.
use Rattle.std.proofs.Common.{◌≡◌, ◌∙◌, refl, sym, subst, ap, ℕ, zero, suc, ◌+◌, ◌/◌, ◌%◌, ◌^◌, ◌<◌, pos, neg_ℤ, true, false, cond, if◌then◌else◌, nat_lt, Option, None, Some, [], ◌∷◌, arith, lit<}
use Rattle.std.proofs.Math.Nat.{pow-suc}
use Rattle.std.specs.Int.{count_zeros, w64}
use Rattle.wrp_base.specs.declared.link.ServoState.TheVariants.{SyncNsec}
use Rattle.wrp_phase.specs.Beat.{deglitched, is_glitched, tag_of}
use Rattle.wrp_servo.specs.declared.machine.Core.{Core}
use Rattle.wrp_servo.specs.Call.{CallMeasured, CallLease, CallLink, CallCarrier, after, run}
use Rattle.wrp_servo.specs.Sampling.{heard, hears, with_last}
use Rattle.wrp_servo.specs.Servo.{answer_to}
use Rattle.wrp_clock_laws.specs.Worked.{StepsBack, half_ones, no_deltas, quick, two_ahead}
use lib.Count.{ones, ones_in, ones_step}

-- The tag of a sample

-- the ones of a number are the ones of as many digits as it has
none_of : (n : ℕ) → n ≡ 0 → ones n ≡ 0
unfolding ones ones_in
none_of n e = ap ones e

ones_of : (k n : ℕ) → n < 2 ^ k → ones n ≡ ones_in k n
unfolding ones_in
ones_of zero n h = none_of n (omega (arith, h))
ones_of (suc k) n h = ones_step n ∙ ap (λ (m : ℕ). n % 2 + m) (ones_of k (n / 2) (omega (arith, h, pow-suc 2 k)))

zeros_are : count_zeros w64 half_ones ≡ 32
unfolding ones_in
zeros_are = ones_of 64 18_446_744_069_414_584_320 (lit< tt)

unglitched : is_glitched half_ones ≡ false
unfolding lib.Count.count_leading_zeros lib.Count.count_trailing_zeros
unglitched = refl

tag_is : deglitched 0 half_ones ≡ Some 32
tag_is = ap (λ b. if b then None else Some (tag_of 0 half_ones)) unglitched ∙ ap (λ (z : ℕ). Some ((0 + z) % 16_384)) zeros_are

-- The servo

-- a sample with this tag, if it is good
abbrev sampled : Core → ℕ → Option ℕ → Core
sampled v n tag = cond (hears v) (heard (with_last v n) n (cond (nat_lt v.last n) tag None)) v

-- the servo, if this is the tag of both samples
abbrev reached : Option ℕ → Core
reached tag =
    sampled (after quick (sampled (run quick (CallCarrier true ∷ CallLease true ∷ CallLink (Some no_deltas) ∷ [])) 1 tag) (CallMeasured two_ahead (pos 0))) 2 tag

pub steps_back : StepsBack
steps_back = record {
  there = subst (λ o. (reached o).state ≡ SyncNsec) (sym tag_is) refl;
  back = subst (λ o. (answer_to quick (reached o) (CallMeasured two_ahead (pos 0))).cycles ≡ neg_ℤ (pos 2)) (sym tag_is) refl;
}
