use Rattle.std.proofs.Common.{arith}
use Rattle.wrp_changes.specs.Moves.{Moves}
use Rattle.wrp_changes.proofs.Turned.{turned_next, turned_all, still}
use Rattle.wrp_changes.proofs.moves.spans.move_each.Goals as goal

pub move_one-requires-clause-ms : goal.move_one-requires-clause-ms
move_one-requires-clause-ms c =
    (c.requires c.loop-k.k _ (still (Moves c.args.moves.now) _ c.loop-k.spans.items c.loop-k.k c.index_mut.result.now (omega arith) c.index_mut.ensures.value c.loop-k.invariant)).0

pub move_one-requires-clause-sm : goal.move_one-requires-clause-sm
move_one-requires-clause-sm c =
    (c.requires c.loop-k.k _ (still (Moves c.args.moves.now) _ c.loop-k.spans.items c.loop-k.k c.index_mut.result.now (omega arith) c.index_mut.ensures.value c.loop-k.invariant)).1

pub loop-k-preserved : goal.loop-k-preserved
loop-k-preserved c =
    turned_next (Moves c.args.moves.now) c.args.spans.now.items c.loop-k.spans.items c.loop-k.k c.index_mut.result.now _ (omega arith)
    c.index_mut.ensures.value c.move_one.ensures c.loop-k.invariant

pub returns : goal.returns
returns c = turned_all (Moves c.args.moves.now) c.args.spans.now.items c.loop-k.spans.items c.loop-k.k (omega arith) c.loop-k.invariant
