-- One more error moves the accumulated error by the rule.
use Rattle.std.proofs.Common.{◌≡◌, ℤ, List, ◌∷◌, ap, sym, subst}
use Rattle.std.specs.Int.{saturate_unsigned, w16}
use Rattle.wrp_base.specs.Calls.{Adds}
use Rattle.wrp_pi.specs.Loop.{raised, drive, next_accumulated, dac_value, Loop, updated, value_at, StandsFor}

-- a loop that took this error stands for it in front of the earlier errors
pub Adds-updated : (old new : Loop) (e : ℤ) → new ≡ updated old e → Adds StandsFor old new e
Adds-updated old new e is errors stands =
    let P : Loop → Type 0 = λ pi. StandsFor pi (e ∷ errors) in
    subst P (sym is) (record { accumulated = ap (λ (a : ℤ). next_accumulated old.gains a e) stands.accumulated })

-- a loop that stands for these errors has their DAC value
pub value_at-stands : (pi : Loop) (errors : List ℤ) (e : ℤ) → StandsFor pi errors → value_at pi e ≡ dac_value pi.gains errors e
value_at-stands pi errors e stands = ap (λ (a : ℤ). saturate_unsigned w16 (drive pi.gains (raised a e) e)) stands.accumulated
