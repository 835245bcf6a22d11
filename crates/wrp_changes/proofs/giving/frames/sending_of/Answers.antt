use Rattle.std.proofs.Common.{◌∙◌, sym}
use Rattle.wrp_changes.proofs.ToldFrames.{none_told}
use Rattle.wrp_changes.proofs.giving.frames.sending_of.Goals as goal

pub returns-else-is_told-clause-is : goal.returns-else-is_told-clause-is
returns-else-is_told-clause-is c m spells = none_told c.args.octets.now m c.args.port c.args.stamp spells (sym c.is_told.ensures ∙ c.if-is_told.false)
