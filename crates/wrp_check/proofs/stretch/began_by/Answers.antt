use Rattle.std.proofs.Common.{◌↔◌, ◌≤ℤ◌, reverse, arith}
use Rattle.std.proofs.lemmas.Int.{ints}
use Rattle.wrp_check.specs.Stretches.{BeganBy}
use Rattle.wrp_check.proofs.Splitting.{began_by}
use Rattle.wrp_check.proofs.stretch.began_by.Goals as goal

pub returns-in-Some : goal.returns-in-Some
returns-in-Some c =
    let both : BeganBy c.args.time (reverse c.args.stretch.now) ↔ (c.in-Some.first.now.at ≤ℤ c.args.time) = began_by _ _ _ c.in-Some.ensures.value in
    (λ h. both.1 (grind (arith, ints)), λ h. let at_most : c.in-Some.first.now.at ≤ℤ c.args.time = both.0 h in grind (arith, ints))
