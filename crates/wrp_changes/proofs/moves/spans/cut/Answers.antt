use Rattle.std.proofs.Common.{arith}
use Rattle.wrp_changes.specs.Moves.{Cuts}
use Rattle.wrp_changes.proofs.Turned.{turned_place}
use Rattle.wrp_changes.proofs.moves.spans.cut.Goals as goal

pub returns : goal.returns
returns c =
    turned_place Cuts c.args.spans.now.items c.from.result c.args.k c.index_mut.result.now c.cut_span.new.span c.from.ensures (omega arith)
    c.index_mut.ensures.value c.cut_span.ensures
