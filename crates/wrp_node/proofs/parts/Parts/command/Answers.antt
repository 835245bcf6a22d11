-- The newest step that is not 0, and the newest DAC value.
use Rattle.std.proofs.Common.{◌≡◌, ◌∙◌, ap₂, sym, subst, ℕ, ℤ, Option, rules, FitsSigned, to_z, of_z}
use Rattle.std.proofs.lemmas.Int.{to_z-of_z}
use Rattle.std.specs.Int.{w64}
use Rattle.wrp_node.specs.Parts.{PartsIn, commanded}
use Rattle.wrp_node.specs.Telling.{newest_step}
use Rattle.wrp_node.proofs.Giving.{parts_commanded}
use Rattle.wrp_node.proofs.parts.Parts.command.Goals as goal

pub returns : goal.returns
returns c fixed before s h =
    let new : FitsSigned w64 c.args.out.now.cycles = search rules in
    let old : FitsSigned w64 c.args.self.now.cycles = search rules in
    let fits : FitsSigned w64 c.newest_step-self.result = search rules in
    let is : to_z w64 (of_z w64 c.newest_step-self.result) ≡ newest_step c.args.out.now.cycles c.args.self.now.cycles =
    to_z-of_z w64 c.newest_step-self.result fits ∙ c.newest_step-self.ensures ∙ ap₂ newest_step (to_z-of_z w64 c.args.out.now.cycles new) (to_z-of_z w64 c.args.self.now.cycles old) in
    subst (λ (z : ℤ). PartsIn fixed before (commanded c.args.out.now fixed s) (record c.args.self.now { cycles = z; dac = c.or-self.result })) (sym is)
    (subst (λ (o : Option ℕ). PartsIn fixed before (commanded c.args.out.now fixed s) (record c.args.self.now { cycles = newest_step c.args.out.now.cycles c.args.self.now.cycles; dac = o })) (sym c.or-self.ensures)
    (parts_commanded fixed before s c.args.out.now c.args.self.now h))
