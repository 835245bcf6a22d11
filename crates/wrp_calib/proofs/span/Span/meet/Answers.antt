-- The ends in common are ends of the two.
use Rattle.std.proofs.Common.{arith}
use Rattle.std.proofs.lemmas.Int.{ints, clamps}
use Rattle.wrp_calib.proofs.span.Span.meet.Goals as goal

pub returns-clause-small : goal.returns-clause-small
returns-clause-small c n a b = (omega (arith, ints, clamps), omega (arith, ints, clamps))
