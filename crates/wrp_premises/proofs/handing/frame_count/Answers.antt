use Rattle.std.proofs.Common.{◌∙◌}
use Rattle.wrp_premises.proofs.handing.frame_count.Goals as goal

pub returns : goal.returns
returns c s w h = c.count.ensures ∙ h.frames.count
