-- The four delays of the slave port's link.
use Rattle.std.proofs.Common.{◌∙◌}
use Rattle.wrp_node.proofs.Finding.{deltas_told}
use Rattle.wrp_node.proofs.parts.Parts.deltas.Goals as goal

pub returns-in-Some : goal.returns-in-Some
returns-in-Some c fixed before s h = c.deltas_of.ensures ∙ deltas_told fixed before s c.args.self.now c.in-Some.slave h c.in-Some.is
