use Rattle.std.proofs.Common.{◌∙◌, sym}
use Rattle.wrp_premises.proofs.HandedFrames.{arrived_told, waiting_told}
use Rattle.wrp_premises.proofs.handing.landed_broken.Goals as goal

pub returns-then-arrived : goal.returns-then-arrived
returns-then-arrived c s w h f k told =
    arrived_told s w c.args.number f c.args.frame.now c.carrier_broken.result k
    (sym c.is_some-arrived.ensures ∙ c.if-arrived.true) told (c.carrier_broken.ensures s w h)

pub returns-else-arrived : goal.returns-else-arrived
returns-else-arrived c s w h f k told =
    waiting_told s w c.args.number f c.args.frame.now c.not_sent_broken.result k
    (sym c.is_some-arrived.ensures ∙ c.if-arrived.false) told (c.not_sent_broken.ensures s w h)
