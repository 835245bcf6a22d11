use Rattle.std.proofs.Common.{◌∙◌, sym}
use Rattle.wrp_world.proofs.Movers.{none_read}
use Rattle.wrp_world.proofs.world.give.in_frame.Goals as goal

pub returns-else-is_signaling : goal.returns-else-is_signaling
returns-else-is_signaling c says h = none_read c.args.octets.now c.args.put says h (sym c.is_signaling.ensures ∙ c.if-is_signaling.false)
