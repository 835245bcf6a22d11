use Rattle.std.proofs.Common.{ap₂}
use Rattle.wrp_changes.proofs.TellingPlants.{told_fits, told_is}
use Rattle.wrp_changes.proofs.telling.told.Goals as goal

pub returns-clause-is : goal.returns-clause-is
returns-clause-is c s v g taken step h q =
    told_is s v g taken step c.args.news.now c.args.outs.now c.args.plant.now c.tell.new.plant c.tell.ensures.told h q

pub returns-clause-fits : goal.returns-clause-fits
returns-clause-fits c = told_fits c.args.news.now c.args.outs.now c.args.plant.now c.tell.new.plant c.tell.ensures.told c.requires.step
    c.tell.ensures.spare c.tell.ensures.put c.requires.fits

pub returns-clause-net : goal.returns-clause-net
returns-clause-net c = ap₂ (λ a b. record c.args.plant.now.net { cfg = a; db = b }) c.tell.ensures.told.cfg c.tell.ensures.told.db
