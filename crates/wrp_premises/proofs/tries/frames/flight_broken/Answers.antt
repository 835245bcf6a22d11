use Rattle.std.proofs.Common.{◌∙◌, sym}
use Rattle.wrp_premises.proofs.TriedFrames.{flight_told, landed_told}
use Rattle.wrp_premises.proofs.tries.frames.flight_broken.Goals as goal

pub returns-then-on : goal.returns-then-on
returns-then-on c s w h f k =
    flight_told s w c.args.number c.args.raw.now f c.args.frame.now c.landing_broken.result k (sym c.is_on-on.ensures ∙ c.if-on.true) (c.landing_broken.ensures s w c.args.number h f k)

pub returns-else-on : goal.returns-else-on
returns-else-on c s w h f k =
    landed_told s w c.args.number c.args.raw.now f c.args.frame.now c.not_sent_broken.result k (sym c.is_on-on.ensures ∙ c.if-on.false) (c.not_sent_broken.ensures s w h)
