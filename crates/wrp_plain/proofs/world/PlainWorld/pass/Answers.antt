-- Passing time adds itself, and moves the true offset by its drift.
use Rattle.std.proofs.Common.{◌≡◌, ℤ, ◌+◌, ◌^◌, ◌≤◌, ◌+ℤ◌, unsigned_abs, FitsSigned, None, ◌∙◌, sym, subst, refl, arith}
use Rattle.std.specs.Int.{w128}
use Rattle.std.proofs.lemmas.Int.{to_z-of_z, fits_signed_from_abs}
use Rattle.wrp_plain.specs.declared.event.PlainEvent.TheVariants.{Pass}
use Rattle.wrp_plain.specs.Premises.{broken_by}
use Rattle.wrp_plain.specs.World.{WorldAt, HadEvents}
use Rattle.wrp_plain.proofs.History.{pass_gives, pass_adds}
use Rattle.wrp_plain.proofs.world.PlainWorld.pass.Goals as goal

fits : (a : ℤ) → unsigned_abs a ≤ 2 ^ 126 → FitsSigned w128 a
fits a h = fits_signed_from_abs w128 a (omega arith)

pub returns-clause-seen : goal.returns-clause-seen
returns-clause-seen c set off events had =
    let P : WorldAt → Type 0 = λ w. HadEvents set off w events in
    let known = subst P (sym c.self.view_is) had in
    let moved : c.sum-off.result ≡ c.self.inside.off +ℤ c.args.drift = grind (arith, to_z-of_z, c.sum-off.ensures.value, c.into.ensures) in
    pass_gives set off events c.args.dt c.args.drift _ known _
    (to_z-of_z w128 c.sum-off.result (fits c.sum-off.result c.sum-off.ensures.size) ∙ moved)

pub returns-clause-stands : goal.returns-clause-stands
returns-clause-stands c set off events had =
    let P : WorldAt → Type 0 = λ w. HadEvents set off w events in
    let Q : WorldAt → Type 0 = λ w. broken_by w.servo.set w.off w.since (Pass c.args.dt c.args.drift) ≡ None in
    let moved : c.sum-off.result ≡ c.self.inside.off +ℤ c.args.drift = grind (arith, to_z-of_z, c.sum-off.ensures.value, c.into.ensures) in
    let later : c.self.inside.since + c.unsigned_abs.result ≡ unsigned_abs c.args.dt + c.self.inside.since = grind (arith, to_z-of_z, c.unsigned_abs.ensures.value) in
    pass_adds set off events c.args.dt c.args.drift _ (subst P (sym c.self.view_is) had) c.requires.fields (subst Q (sym c.self.view_is) c.requires.kept)
    _ _ _ (to_z-of_z w128 c.sum-off.result (fits c.sum-off.result c.sum-off.ensures.size) ∙ moved) later refl
