use Rattle.std.proofs.Common.{subst, ap₂}
use Rattle.std.proofs.lemmas.Int.{to_z-of_z}
use Rattle.std.specs.Int.{w128}
use Rattle.wrp_changes.specs.Moves.{At, Changed, ComesUp, SameFrames, SwapsAt, EachBecame}
use Rattle.wrp_changes.proofs.Fitting.{come_up_fits}
use Rattle.wrp_changes.proofs.Moving.{up_is}
use Rattle.wrp_plant.proofs.Sizing.{time_size}
use Rattle.wrp_changes.proofs.RoomKept.{up_room}
use Rattle.wrp_changes.proofs.moves.come_up.Goals as goal

pub come_up-requires-clause-node : goal.come_up-requires-clause-node
come_up-requires-clause-node c = rw c.requires.fits.clock_count c.requires.node

pub come_up-requires-clause-time : goal.come_up-requires-clause-time
come_up-requires-clause-time c = time_size c.args.plant.now.events c.args.plant.now.time c.requires.fits.events c.requires.fits.time

pub returns-clause-is : goal.returns-clause-is
returns-clause-is c s w h =
    up_is s w c.args.n c.args.off c.args.swaps.now c.args.plant.now c.come_up.new.plant
    (subst (λ z. Changed (EachBecame (At c.args.n (ComesUp z c.args.plant.now.time))) (EachBecame (SwapsAt c.args.n c.args.swaps.now.items c.args.plant.now.net.cfg.links.items)) SameFrames c.args.plant.now.time c.args.plant.now c.come_up.new.plant)
    (to_z-of_z w128 c.args.off c.ranges.off) c.come_up.ensures) h

pub returns-clause-fits : goal.returns-clause-fits
returns-clause-fits c =
    come_up_fits c.args.n c.args.off c.args.swaps.now.items c.args.plant.now.net.cfg.links.items c.args.plant.now c.come_up.new.plant c.requires.off
    (subst (λ z. Changed (EachBecame (At c.args.n (ComesUp z c.args.plant.now.time))) (EachBecame (SwapsAt c.args.n c.args.swaps.now.items c.args.plant.now.net.cfg.links.items)) SameFrames c.args.plant.now.time c.args.plant.now c.come_up.new.plant)
    (to_z-of_z w128 c.args.off c.ranges.off) c.come_up.ensures) c.requires.few c.requires.fits

pub returns-clause-room : goal.returns-clause-room
returns-clause-room c k h = up_room c.args.n c.args.swaps.now.items c.args.plant.now.net.cfg.links.items _ _ _ c.args.plant.now c.come_up.new.plant c.come_up.ensures k h

pub returns-clause-net : goal.returns-clause-net
returns-clause-net c = ap₂ (λ a b. record c.args.plant.now.net { cfg = a; db = b }) c.come_up.ensures.cfg c.come_up.ensures.db
