use Rattle.std.proofs.Common.{refl}
use Rattle.wrp_changes.proofs.Roomy.{fewer_steps, same_fits, same_is, same_spans}
use Rattle.wrp_changes.proofs.room.reserve.Goals as goal

pub returns-then-steps-plant-clause-room : goal.returns-then-steps-plant-clause-room
returns-then-steps-plant-clause-room c = fewer_steps c.args.steps c.args.plant.now.spare c.args.plant.now.spans.items c.if-steps-plant.true c.requires.fits.room

pub returns-then-steps-plant-clause-spans : goal.returns-then-steps-plant-clause-spans
returns-then-steps-plant-clause-spans c = same_spans c.args.plant.now.spans.items

pub returns-in_err-reserve_all-clause-is : goal.returns-in_err-reserve_all-clause-is
returns-in_err-reserve_all-clause-is c s w h =
    same_is s w c.args.plant.now (record c.args.plant.now { spans = c.reserve_all.new.spans }) refl refl refl refl refl c.reserve_all.ensures.same h

pub returns-in_err-reserve_all-clause-fits : goal.returns-in_err-reserve_all-clause-fits
returns-in_err-reserve_all-clause-fits c =
    same_fits c.args.plant.now (record c.args.plant.now { spans = c.reserve_all.new.spans }) refl c.reserve_all.ensures.same
    (c.reserve_all.ensures.kept c.args.plant.now.spare c.requires.fits.room) c.requires.fits

pub returns-clause-room : goal.returns-clause-room
returns-clause-room c = fewer_steps c.args.steps c.at_once-places.result c.reserve_all.new.spans.items c.at_once-places.ensures c.in_ok-reserve_all.ensures.room

pub returns-clause-is : goal.returns-clause-is
returns-clause-is c s w h =
    same_is s w c.args.plant.now (record c.args.plant.now { spans = c.reserve_all.new.spans; spare = c.at_once-places.result }) refl refl refl refl refl c.reserve_all.ensures.same h

pub returns-clause-fits : goal.returns-clause-fits
returns-clause-fits c =
    same_fits c.args.plant.now (record c.args.plant.now { spans = c.reserve_all.new.spans; spare = c.at_once-places.result }) refl c.reserve_all.ensures.same
    c.in_ok-reserve_all.ensures.room c.requires.fits
