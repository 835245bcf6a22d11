use Rattle.std.proofs.Common.{refl, sym, subst}
use Rattle.wrp_flights.specs.Frames.{Turned}
use Rattle.wrp_flights.specs.Losing.{loses_node}
use Rattle.wrp_changes.specs.Moves.{Changed}
use Rattle.wrp_changes.proofs.moves.parts.go_down.Goals as goal

pub returns : goal.returns
returns c =
    let frames = subst (λ l. Turned (loses_node c.args.n l) c.args.plant.now.frames c.lose_node.new.self) c.as_slice.ensures.value c.lose_node.ensures in
    subst (Changed _ _ _ _ c.args.plant.now) (sym c.count.ensures)
    (record { cfg = refl; db = refl; time = refl; count = refl; of_clocks = c.go_down.ensures; of_spans = c.drop_at.ensures; of_frames = frames; spare = refl; last_put = refl; top = refl })
