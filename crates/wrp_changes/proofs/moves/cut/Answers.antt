use Rattle.std.proofs.Common.{ap₂}
use Rattle.wrp_changes.proofs.Fitting.{cut_off_fits}
use Rattle.wrp_changes.proofs.Moving.{cut_is}
use Rattle.wrp_changes.proofs.RoomKept.{cut_room}
use Rattle.wrp_changes.proofs.moves.cut.Goals as goal

pub cut-requires-clause-link : goal.cut-requires-clause-link
cut-requires-clause-link c = rw c.requires.fits.span_count c.requires.link

pub returns-clause-is : goal.returns-clause-is
returns-clause-is c s w h = cut_is s w c.args.link c.args.plant.now c.cut.new.plant c.cut.ensures h

pub returns-clause-fits : goal.returns-clause-fits
returns-clause-fits c = cut_off_fits c.args.link c.args.plant.now c.cut.new.plant c.cut.ensures c.requires.few c.requires.fits

pub returns-clause-room : goal.returns-clause-room
returns-clause-room c k h = cut_room c.args.link _ _ _ c.args.plant.now c.cut.new.plant c.cut.ensures k h

pub returns-clause-net : goal.returns-clause-net
returns-clause-net c = ap₂ (λ a b. record c.args.plant.now.net { cfg = a; db = b }) c.cut.ensures.cfg c.cut.ensures.db
