use Rattle.std.proofs.Common.{ap₂}
use Rattle.wrp_changes.proofs.Fitting.{gone_down_fits}
use Rattle.wrp_changes.proofs.Moving.{down_is}
use Rattle.wrp_changes.proofs.RoomKept.{down_room}
use Rattle.wrp_changes.proofs.moves.go_down.Goals as goal

pub go_down-requires-clause-node : goal.go_down-requires-clause-node
go_down-requires-clause-node c = rw c.requires.fits.clock_count c.requires.node

pub returns-clause-is : goal.returns-clause-is
returns-clause-is c s w h = down_is s w c.args.n c.args.plant.now c.go_down.new.plant c.go_down.ensures h

pub returns-clause-fits : goal.returns-clause-fits
returns-clause-fits c = gone_down_fits c.args.n c.args.plant.now.net.cfg.links.items c.args.plant.now c.go_down.new.plant c.go_down.ensures c.requires.few c.requires.fits

pub returns-clause-room : goal.returns-clause-room
returns-clause-room c k h = down_room c.args.n c.args.plant.now.net.cfg.links.items _ _ _ c.args.plant.now c.go_down.new.plant c.go_down.ensures k h

pub returns-clause-net : goal.returns-clause-net
returns-clause-net c = ap₂ (λ a b. record c.args.plant.now.net { cfg = a; db = b }) c.go_down.ensures.cfg c.go_down.ensures.db
