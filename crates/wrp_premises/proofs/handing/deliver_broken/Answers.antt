use Rattle.std.proofs.Common.{◌∙◌, sym}
use Rattle.wrp_premises.proofs.HandedFrames.{missing_told}
use Rattle.wrp_premises.proofs.handing.deliver_broken.Goals as goal

pub returns-in-None : goal.returns-in-None
returns-in-None c s w h =
    missing_told s w c.args.number c.args.plant.now.frames c.not_sent_broken.result h.frames
    (sym c.sent_at.ensures ∙ c.in-None.is) (c.not_sent_broken.ensures s w h)
