-- A good sample.
use Rattle.std.proofs.Common.{sym, subst, ℤ, Option, rules, FitsSigned}
use Rattle.std.proofs.lemmas.Int.{to_z-of_z}
use Rattle.std.specs.Int.{w64}
use Rattle.wrp_node.specs.declared.ports.To.TheVariants.{One}
use Rattle.wrp_node.specs.Parts.{PartsIn, told_only, given}
use Rattle.wrp_node.specs.Telling.{with_sample}
use Rattle.wrp_node.proofs.Telling.{sample_told}
use Rattle.wrp_port.specs.declared.interface.PortIn.TheVariants.{Sample}
use Rattle.wrp_node.proofs.parts.Parts.give_sample.Goals as goal

pub returns-in-Some : goal.returns-in-Some
returns-in-Some c fixed before s h =
    let fits : FitsSigned w64 c.in-Some.u = search rules in
    subst (λ (o : Option ℤ). PartsIn fixed before (told_only c.args.slave (with_sample o c.args.number) fixed s) c.give_phase.new.self) (sym c.in-Some.is)
    (sample_told fixed before s c.args.slave c.args.number c.in-Some.u c.give_phase.new.self
    (subst (λ (z : ℤ). PartsIn fixed before (given (One c.args.slave) (Sample c.args.number z) fixed s) c.give_phase.new.self) (to_z-of_z w64 c.in-Some.u fits)
    (c.give_phase.ensures fixed before s h)))
