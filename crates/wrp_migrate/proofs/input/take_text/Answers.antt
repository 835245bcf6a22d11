-- What was taken before, and then one more piece.
use Rattle.std.proofs.Common.{◌++◌, take}
use Rattle.std.proofs.KnownBytes.{Consumes-trans}
use Rattle.wrp_migrate.proofs.input.take_text.Goals as goal

pub returns-then-is_err-clause-taken : goal.returns-then-is_err-clause-taken
returns-then-is_err-clause-taken g c = (
  c.loop-piece.text.items ++ take c.in-Ok.size c.read.new.buf,
  Consumes-trans _ _ _ _ _ c.loop-piece.invariant.taken c.in-Ok.ensures.octets.0,
  tt,
)
