-- The phase is a number of 64 bits.
use Rattle.std.proofs.Common.{subst, ℤ}
use Rattle.std.proofs.lemmas.Int.{to_z-of_z}
use Rattle.std.specs.Int.{w64}
use Rattle.wrp_node.specs.declared.ports.To.TheVariants.{One}
use Rattle.wrp_node.specs.Parts.{PartsIn, given}
use Rattle.wrp_port.specs.declared.interface.PortIn.TheVariants.{Sample}
use Rattle.wrp_node.proofs.parts.Parts.give_phase.Goals as goal

pub returns : goal.returns
returns c fixed before s h =
    subst (λ (z : ℤ). PartsIn fixed before (given (One c.args.slave) (Sample c.args.number z) fixed s) c.give.new.self) (to_z-of_z w64 c.args.u c.ranges.u)
    (c.give.ensures fixed before s h)
