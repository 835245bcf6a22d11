use Rattle.std.proofs.Common.{◌≡◌, ℕ, ℤ, subst, to_z, of_z, ap₂}
use Rattle.std.proofs.lemmas.Int.{to_z-of_z}
use Rattle.std.specs.Int.{w128}
use Rattle.wrp_plant.specs.declared.plant.Plant.{Plant}
use Rattle.wrp_changes.specs.Moves.{At, Changed, Joins, Same, SameFrames, EachBecame}
use Rattle.wrp_changes.proofs.Fitting.{joined_fits}
use Rattle.wrp_changes.proofs.Moving.{join_is}
use Rattle.wrp_changes.proofs.RoomKept.{join_room}
use Rattle.wrp_changes.proofs.moves.join.Goals as goal

read_both : (k : ℕ) (ms sm y z : ℤ) (old new : Plant) → y ≡ ms → z ≡ sm → Changed Same (EachBecame (At k (Joins y z))) SameFrames old.time old new →
    Changed Same (EachBecame (At k (Joins ms sm))) SameFrames old.time old new
read_both k ms sm y z old new e f c =
    subst (λ a. Changed Same (EachBecame (At k (Joins a sm))) SameFrames old.time old new) e
    (subst (λ b. Changed Same (EachBecame (At k (Joins y b))) SameFrames old.time old new) f c)

pub join-requires-clause-link : goal.join-requires-clause-link
join-requires-clause-link c = rw c.requires.fits.span_count c.requires.link

pub returns-clause-is : goal.returns-clause-is
returns-clause-is c s w h =
    join_is s w c.args.link c.args.ms c.args.sm c.args.plant.now c.join.new.plant
    (read_both c.args.link c.args.ms c.args.sm (to_z w128 (of_z w128 c.args.ms)) (to_z w128 (of_z w128 c.args.sm)) c.args.plant.now c.join.new.plant
    (to_z-of_z w128 c.args.ms c.ranges.ms) (to_z-of_z w128 c.args.sm c.ranges.sm) c.join.ensures) h

pub returns-clause-fits : goal.returns-clause-fits
returns-clause-fits c =
    joined_fits c.args.link c.args.ms c.args.sm c.args.plant.now c.join.new.plant c.requires.ms c.requires.sm
    (read_both c.args.link c.args.ms c.args.sm (to_z w128 (of_z w128 c.args.ms)) (to_z w128 (of_z w128 c.args.sm)) c.args.plant.now c.join.new.plant
    (to_z-of_z w128 c.args.ms c.ranges.ms) (to_z-of_z w128 c.args.sm c.ranges.sm) c.join.ensures) c.requires.few c.requires.fits

pub returns-clause-room : goal.returns-clause-room
returns-clause-room c k h = join_room c.args.link _ _ _ _ _ c.args.plant.now c.join.new.plant c.join.ensures k h

pub returns-clause-net : goal.returns-clause-net
returns-clause-net c = ap₂ (λ a b. record c.args.plant.now.net { cfg = a; db = b }) c.join.ensures.cfg c.join.ensures.db
