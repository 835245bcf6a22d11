use Rattle.std.proofs.Common.{ap₂}
use Rattle.wrp_changes.proofs.Departing.{depart_fits, depart_is, depart_room, on_ok}
use Rattle.wrp_changes.proofs.moves.departures.depart_from.Goals as goal

pub returns-clause-is : goal.returns-clause-is
returns-clause-is c =
    on_ok c.depart_with.result c.depart_with.ensures.ok
    (λ q s w n p stamp e h. depart_is s w n p stamp c.args.place c.leaving-frame.result c.args.plant.now c.depart_with.new.plant q e (c.leaving-frame.ensures.is s w stamp h) h)

pub returns-clause-fits : goal.returns-clause-fits
returns-clause-fits c =
    on_ok c.depart_with.result c.depart_with.ensures.ok
    (λ q. depart_fits c.args.place c.leaving-frame.result c.args.plant.now c.depart_with.new.plant q c.leaving-frame.ensures.fits c.requires.few c.requires.fits)

pub returns-clause-room : goal.returns-clause-room
returns-clause-room c = on_ok c.depart_with.result c.depart_with.ensures.ok (λ q k h. depart_room c.args.place c.leaving-frame.result c.args.plant.now c.depart_with.new.plant q k h)

pub returns-clause-net : goal.returns-clause-net
returns-clause-net c = on_ok c.depart_with.result c.depart_with.ensures.ok (λ q. ap₂ (λ a b. record c.args.plant.now.net { cfg = a; db = b }) q.cfg q.db)

pub returns-clause-events : goal.returns-clause-events
returns-clause-events c = on_ok c.depart_with.result c.depart_with.ensures.ok (λ q. q.count)
