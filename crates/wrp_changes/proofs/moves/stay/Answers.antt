use Rattle.std.proofs.Common.{ap₂}
use Rattle.wrp_changes.proofs.Fitting.{tick_fits}
use Rattle.wrp_changes.proofs.Moving.{tick_is, deliver_is, noise_is}
use Rattle.wrp_changes.proofs.RoomKept.{none_stepped, same_room}
use Rattle.wrp_changes.proofs.moves.stay.Goals as goal

pub returns-clause-tick : goal.returns-clause-tick
returns-clause-tick c s w n h = tick_is s w n c.args.plant.now c.stay.new.plant c.stay.ensures h

pub returns-clause-deliver : goal.returns-clause-deliver
returns-clause-deliver c s w i h = deliver_is s w i c.args.plant.now c.stay.new.plant c.stay.ensures h

pub returns-clause-noise : goal.returns-clause-noise
returns-clause-noise c s w n p octets raw h = noise_is s w n p octets raw c.args.plant.now c.stay.new.plant c.stay.ensures h

pub returns-clause-fits : goal.returns-clause-fits
returns-clause-fits c = tick_fits c.args.plant.now c.stay.new.plant c.stay.ensures c.requires.few c.requires.fits

pub returns-clause-room : goal.returns-clause-room
returns-clause-room c k h = same_room _ _ _ c.args.plant.now c.stay.new.plant c.stay.ensures k h

pub returns-clause-still : goal.returns-clause-still
returns-clause-still c = none_stepped _ _ _ c.args.plant.now c.stay.new.plant c.stay.ensures c.requires.fits

pub returns-clause-net : goal.returns-clause-net
returns-clause-net c = ap₂ (λ a b. record c.args.plant.now.net { cfg = a; db = b }) c.stay.ensures.cfg c.stay.ensures.db
