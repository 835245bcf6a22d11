use Rattle.std.proofs.Common.{◌+ℤ◌, ◌≤◌, ◌^◌, unsigned_abs, subst, arith, ap₂}
use Rattle.std.proofs.lemmas.Int.{ints, to_z-of_z}
use Rattle.std.specs.Int.{w64}
use Rattle.wrp_flights.specs.Frames.{Passes}
use Rattle.wrp_changes.specs.Moves.{Changed, Drifts, Moves, EachBecame}
use Rattle.wrp_changes.proofs.Fitting.{pass_fits}
use Rattle.wrp_changes.proofs.Moving.{pass_is}
use Rattle.wrp_changes.proofs.RoomKept.{pass_room}
use Rattle.wrp_changes.proofs.moves.pass.Goals as goal

pub returns-clause-is : goal.returns-clause-is
returns-clause-is c s w h =
    pass_is s w c.args.dt c.args.drifts.now c.args.moves.now c.args.plant.now c.pass.new.plant c.requires.later
    (subst (λ d. Changed (EachBecame (Drifts c.args.drifts.now.items)) (EachBecame (Moves c.args.moves.now.items)) (Passes (c.args.plant.now.frames.horizon +ℤ d)) (c.args.plant.now.time +ℤ d) c.args.plant.now c.pass.new.plant)
    (to_z-of_z w64 c.args.dt c.ranges.dt) c.pass.ensures) h

pub returns-clause-fits : goal.returns-clause-fits
returns-clause-fits c =
    let size : unsigned_abs c.args.dt ≤ 2 ^ 63 = omega (arith, ints, c.ranges.dt) in
    pass_fits c.args.drifts.now.items c.args.moves.now.items c.args.dt c.args.plant.now c.pass.new.plant size c.requires.later
    (subst (λ d. Changed (EachBecame (Drifts c.args.drifts.now.items)) (EachBecame (Moves c.args.moves.now.items)) (Passes (c.args.plant.now.frames.horizon +ℤ d)) (c.args.plant.now.time +ℤ d) c.args.plant.now c.pass.new.plant)
    (to_z-of_z w64 c.args.dt c.ranges.dt) c.pass.ensures) c.requires.few c.requires.fits

pub returns-clause-room : goal.returns-clause-room
returns-clause-room c k h = pass_room c.args.moves.now.items _ _ _ c.args.plant.now c.pass.new.plant c.pass.ensures k h

pub returns-clause-net : goal.returns-clause-net
returns-clause-net c = ap₂ (λ a b. record c.args.plant.now.net { cfg = a; db = b }) c.pass.ensures.cfg c.pass.ensures.db
