use Rattle.std.proofs.Common.{◌∙◌, ap, ap₂, sym}
use Rattle.wrp_network.specs.declared.configuration.NetCfg.{NetCfg}
use Rattle.wrp_course.specs.Setting.{place_among}
use Rattle.wrp_changes.proofs.Departing.{none_departs_is, on_ok}
use Rattle.wrp_changes.proofs.Fitting.{tick_fits}
use Rattle.wrp_changes.proofs.RoomKept.{same_room}
use Rattle.wrp_changes.proofs.moves.departures.depart.Goals as goal

pub returns-in-Some-clause-is : goal.returns-in-Some-clause-is
returns-in-Some-clause-is c =
    on_ok c.depart_from.result c.depart_from.ensures.is
    (λ q s w stamp h. q s w c.args.n c.args.port stamp
    (ap (λ (g : NetCfg). place_among c.args.n c.args.port 0 g.links.items) (sym h.cfg) ∙ sym c.place_of.ensures.value ∙ c.in-Some.is) h)

pub returns-in-None-clause-is : goal.returns-in-None-clause-is
returns-in-None-clause-is c s w stamp h =
    none_departs_is s w c.args.n c.args.port stamp c.args.plant.now c.stay.new.plant c.stay.ensures
    (ap (λ (g : NetCfg). place_among c.args.n c.args.port 0 g.links.items) (sym h.cfg) ∙ sym c.place_of.ensures.value ∙ c.in-None.is) h

pub returns-in-None-clause-fits : goal.returns-in-None-clause-fits
returns-in-None-clause-fits c = tick_fits c.args.plant.now c.stay.new.plant c.stay.ensures c.requires.few c.requires.fits

pub returns-in-None-clause-room : goal.returns-in-None-clause-room
returns-in-None-clause-room c k h = same_room _ _ _ c.args.plant.now c.stay.new.plant c.stay.ensures k h

pub returns-in-None-clause-net : goal.returns-in-None-clause-net
returns-in-None-clause-net c = ap₂ (λ a b. record c.args.plant.now.net { cfg = a; db = b }) c.stay.ensures.cfg c.stay.ensures.db
