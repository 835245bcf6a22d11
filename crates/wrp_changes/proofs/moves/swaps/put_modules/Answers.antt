use Rattle.std.proofs.Common.{arith}
use Rattle.wrp_changes.specs.Moves.{SwapsAt}
use Rattle.wrp_changes.proofs.Turned.{turned_next, turned_all}
use Rattle.wrp_changes.proofs.moves.swaps.put_modules.Goals as goal

pub loop-k-preserved : goal.loop-k-preserved
loop-k-preserved c =
    turned_next (SwapsAt c.args.n c.args.swaps.now c.args.cfg.now.links.items) c.args.spans.now.items c.loop-k.spans.items c.loop-k.k c.index_mut.result.now _ (omega arith)
    c.index_mut.ensures.value c.put_at_number.ensures c.loop-k.invariant

pub returns : goal.returns
returns c = turned_all (SwapsAt c.args.n c.args.swaps.now c.args.cfg.now.links.items) c.args.spans.now.items c.loop-k.spans.items c.loop-k.k (omega arith) c.loop-k.invariant
