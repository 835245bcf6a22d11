use Rattle.std.proofs.Common.{ap₂}
use Rattle.wrp_changes.proofs.Fitting.{sampled_fits}
use Rattle.wrp_changes.proofs.Moving.{sample_is}
use Rattle.wrp_changes.proofs.RoomKept.{same_room}
use Rattle.wrp_changes.proofs.moves.sample.Goals as goal

pub sample-requires-clause-node : goal.sample-requires-clause-node
sample-requires-clause-node c = rw c.requires.fits.clock_count c.requires.node

pub returns-clause-is : goal.returns-clause-is
returns-clause-is c s w base bits h = sample_is s w c.args.n base bits c.args.plant.now c.sample.new.plant c.sample.ensures h

pub returns-clause-fits : goal.returns-clause-fits
returns-clause-fits c = sampled_fits c.args.n c.args.plant.now c.sample.new.plant c.sample.ensures c.requires.few c.requires.fits

pub returns-clause-room : goal.returns-clause-room
returns-clause-room c k h = same_room _ _ _ c.args.plant.now c.sample.new.plant c.sample.ensures k h

pub returns-clause-net : goal.returns-clause-net
returns-clause-net c = ap₂ (λ a b. record c.args.plant.now.net { cfg = a; db = b }) c.sample.ensures.cfg c.sample.ensures.db
