use Rattle.wrp_changes.proofs.FrameGifts.{arrived_is, not_arrived}
use Rattle.wrp_changes.proofs.giving.frames.arrived.Goals as goal

pub returns-in-Some-clause-gifts : goal.returns-in-Some-clause-gifts
returns-in-Some-clause-gifts c s w f h k =
    arrived_is s f c.args.frame.now.sent f.arrival c.args.frame.now.arrival c.in-Some.reception c.received.result k.arrival c.in-Some.is
    (λ a r. c.received.ensures.gifts s w f a h k r)

pub returns-in-Some-clause-fits : goal.returns-in-Some-clause-fits
returns-in-Some-clause-fits c = (c.received.ensures.fits, tt)

pub returns-in-None-clause-gifts : goal.returns-in-None-clause-gifts
returns-in-None-clause-gifts c s w f h k = not_arrived s f c.args.frame.now.sent f.arrival c.args.frame.now.arrival k.arrival c.in-None.is
