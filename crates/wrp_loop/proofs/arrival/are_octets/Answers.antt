-- Octets are below 256.
use Rattle.std.proofs.Common.{arith}
use Rattle.wrp_loop.proofs.arrival.are_octets.Goals as goal

pub returns : goal.returns
returns c = (λ i. omega (arith, c.type_inv.octets i))
