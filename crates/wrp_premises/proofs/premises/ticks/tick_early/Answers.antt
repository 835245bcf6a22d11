use Rattle.std.proofs.Common.{◌∙◌, ap₂, ◌∷◌, [], ◌-ℤ◌, arith}
use Rattle.wrp_course.specs.Checks.{told_of, at_least}
use Rattle.wrp_plant.proofs.SignedReads.{read}
use Rattle.wrp_course.proofs.Told.{made_one}
use Rattle.wrp_premises.proofs.premises.ticks.tick_early.Goals as goal

pub returns-then-clock : goal.returns-then-clock
returns-then-clock c =
    let least = read c.args.least (omega (arith, c.requires.least)) in
    let now = read c.args.now (omega (arith, c.requires.now)) in
    let ticked = read c.args.clock.now.ticked (omega (arith, c.requires.ticked)) in
    c.late_enough.ensures
    ∙ ap₂ (λ a l. told_of (at_least 1 a l ∷ [])) (ap₂ (λ n t. n -ℤ t) now ticked) least
    ∙ made_one c.args.clock.now.up (at_least 1 (c.args.now -ℤ c.args.clock.now.ticked) c.args.least) c.if-clock.true
