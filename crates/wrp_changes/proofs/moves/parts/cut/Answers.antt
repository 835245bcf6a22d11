use Rattle.std.proofs.Common.{refl, sym, subst}
use Rattle.wrp_changes.specs.Moves.{Changed}
use Rattle.wrp_changes.proofs.moves.parts.cut.Goals as goal

pub returns : goal.returns
returns c =
    subst (Changed _ _ _ _ c.args.plant.now) (sym c.count.ensures)
    (record { cfg = refl; db = refl; time = refl; count = refl; of_clocks = refl; of_spans = c.cut.ensures; of_frames = c.lose_link.ensures; spare = refl; last_put = refl; top = refl })
