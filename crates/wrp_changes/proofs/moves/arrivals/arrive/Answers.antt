use Rattle.std.proofs.Common.{◌∙◌, ap₂, refl, sym}
use Rattle.wrp_changes.proofs.Arriving.{arrive_fits, arrive_is, none_arrives_is}
use Rattle.wrp_changes.proofs.Fitting.{tick_fits}
use Rattle.wrp_changes.proofs.RoomKept.{same_room}
use Rattle.wrp_changes.proofs.moves.arrivals.arrive.Goals as goal

pub returns-in-Some-clause-is : goal.returns-in-Some-clause-is
returns-in-Some-clause-is c s w on h =
    arrive_is s w c.args.number c.args.raw c.in-Some.from (record { raw = c.args.raw; sample = c.samples_past-sample.result }) c.args.plant.now c.arrive_from.new.plant c.arrive_from.ensures refl
    (c.samples_past-sample.ensures s w h) (sym c.in-Some.is ∙ c.sent_from.ensures.value) h

pub returns-in-Some-clause-fits : goal.returns-in-Some-clause-fits
returns-in-Some-clause-fits c =
    arrive_fits c.args.number c.in-Some.from (record { raw = c.args.raw; sample = c.samples_past-sample.result }) c.args.plant.now c.arrive_from.new.plant c.requires.raw c.arrive_from.ensures c.requires.few c.requires.fits

pub returns-in-Some-clause-room : goal.returns-in-Some-clause-room
returns-in-Some-clause-room c k h = same_room _ _ _ c.args.plant.now c.arrive_from.new.plant c.arrive_from.ensures k h

pub returns-in-None-clause-is : goal.returns-in-None-clause-is
returns-in-None-clause-is c s w on h =
    none_arrives_is s w c.args.number c.args.raw c.args.plant.now c.stay.new.plant on (sym c.in-None.is ∙ c.sent_from.ensures.value) h

pub returns-in-None-clause-fits : goal.returns-in-None-clause-fits
returns-in-None-clause-fits c = tick_fits c.args.plant.now c.stay.new.plant c.stay.ensures c.requires.few c.requires.fits

pub returns-in-None-clause-room : goal.returns-in-None-clause-room
returns-in-None-clause-room c k h = same_room _ _ _ c.args.plant.now c.stay.new.plant c.stay.ensures k h

pub returns-in-Some-clause-net : goal.returns-in-Some-clause-net
returns-in-Some-clause-net c = ap₂ (λ a b. record c.args.plant.now.net { cfg = a; db = b }) c.arrive_from.ensures.cfg c.arrive_from.ensures.db

pub returns-in-None-clause-net : goal.returns-in-None-clause-net
returns-in-None-clause-net c = ap₂ (λ a b. record c.args.plant.now.net { cfg = a; db = b }) c.stay.ensures.cfg c.stay.ensures.db
