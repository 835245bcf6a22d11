use Rattle.std.proofs.Common.{◌∙◌, ap₂, ◌∷◌, [], ◌-ℤ◌, arith}
use Rattle.wrp_course.specs.Checks.{told_of, at_most}
use Rattle.wrp_plant.proofs.SignedReads.{read}
use Rattle.wrp_course.proofs.Told.{made_one}
use Rattle.wrp_premises.proofs.premises.ticks.tick_late.Goals as goal

pub returns-then-clock : goal.returns-then-clock
returns-then-clock c =
    let most = read c.args.most (omega (arith, c.requires.most)) in
    let later = read c.args.after (omega (arith, c.requires.after)) in
    let ticked = read c.args.clock.now.ticked (omega (arith, c.requires.ticked)) in
    c.soon_enough.ensures
    ∙ ap₂ (λ a l. told_of (at_most 2 a l ∷ [])) (ap₂ (λ n t. n -ℤ t) later ticked) most
    ∙ made_one c.args.clock.now.up (at_most 2 (c.args.after -ℤ c.args.clock.now.ticked) c.args.most) c.if-clock.true
