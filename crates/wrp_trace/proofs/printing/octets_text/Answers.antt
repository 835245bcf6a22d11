-- Octets are below 256.
use Rattle.std.proofs.Common.{arith}
use Rattle.wrp_trace.proofs.printing.octets_text.Goals as goal

pub returns-clause-octets : goal.returns-clause-octets
returns-clause-octets c = (λ i. omega (arith, c.type_inv.octets i))
