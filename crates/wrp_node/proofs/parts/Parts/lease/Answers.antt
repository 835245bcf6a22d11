-- The lease of the slave port.
use Rattle.std.proofs.Common.{◌∙◌}
use Rattle.wrp_node.proofs.Finding.{lease_told}
use Rattle.wrp_node.proofs.parts.Parts.lease.Goals as goal

pub returns-in-Some : goal.returns-in-Some
returns-in-Some c fixed before s h = c.lease_of.ensures ∙ lease_told fixed before s c.args.self.now c.in-Some.slave h c.in-Some.is
