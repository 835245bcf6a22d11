use Rattle.std.proofs.Common.{refl, ap₂, true, ℤ, arith}
use Rattle.std.proofs.lemmas.Int.{to_z-of_z}
use Rattle.std.specs.Int.{w128}
use Rattle.wrp_course.specs.declared.fibres.FibreState.{FibreState}
use Rattle.wrp_changes.specs.Moves.{Joins}
use Rattle.wrp_changes.proofs.Turned.{turned_place}
use Rattle.wrp_changes.proofs.moves.spans.join.Goals as goal

abbrev fibre : ℤ → ℤ → FibreState
fibre ms sm = record { joined = true; ms = ms; sm = sm }

pub returns : goal.returns
returns c =
    turned_place (Joins c.args.ms c.args.sm) c.args.spans.now.items c.from.result c.args.k c.index_mut.result.now _ c.from.ensures (omega arith)
    c.index_mut.ensures.value
    (record {
      fibre = ap₂ fibre (to_z-of_z w128 c.args.ms c.ranges.ms) (to_z-of_z w128 c.args.sm c.ranges.sm);
      master = refl;
      slave = refl;
    })
