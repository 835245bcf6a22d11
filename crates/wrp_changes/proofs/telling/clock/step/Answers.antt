use Rattle.std.proofs.Common.{ℕ, ℤ, Bool, ◌≡◌, subst, to_z, of_z, arith}
use Rattle.std.proofs.lemmas.Int.{to_z-of_z}
use Rattle.std.specs.Int.{w64, w128}
use Rattle.wrp_base.specs.Clock.{period_of}
use Rattle.wrp_course.specs.declared.clocks.ClockState.{ClockState}
use Rattle.wrp_changes.specs.PlantTold.{Steps}
use Rattle.wrp_changes.proofs.Turned.{turned_place}
use Rattle.wrp_changes.proofs.telling.clock.step.Goals as goal

read_both : (cycles now y z : ℤ) (period : ℕ) (ticked : Bool) (a b : ClockState) → y ≡ cycles → z ≡ now → Steps y z period ticked a b → Steps cycles now period ticked a b
read_both cycles now y z period ticked a b e f r =
    subst (λ q. Steps q now period ticked a b) e (subst (λ t. Steps y t period ticked a b) f r)

pub returns : goal.returns
returns c =
    turned_place (Steps c.args.cycles c.args.now (period_of c.args.kind) c.args.ticked) c.args.clocks.now.items c.from.result c.args.n c.index_mut.result.now c.told_one.new.clock
    c.from.ensures (omega arith) c.index_mut.ensures.value
    (read_both c.args.cycles c.args.now (to_z w64 (of_z w64 c.args.cycles)) (to_z w128 (of_z w128 c.args.now)) (period_of c.args.kind) c.args.ticked
    c.index_mut.result.now c.told_one.new.clock (to_z-of_z w64 c.args.cycles c.ranges.cycles) (to_z-of_z w128 c.args.now c.ranges.now) c.told_one.ensures)
