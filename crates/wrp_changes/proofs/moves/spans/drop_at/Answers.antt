use Rattle.std.proofs.Common.{subst, arith}
use Rattle.wrp_changes.specs.Moves.{DropsAt, Drops, Where}
use Rattle.wrp_changes.proofs.Turned.{turned_next, turned_all}
use Rattle.wrp_changes.proofs.moves.spans.drop_at.Goals as goal

pub loop-k-preserved : goal.loop-k-preserved
loop-k-preserved c =
    turned_next (DropsAt c.args.n c.args.cfg.now.links.items) c.args.spans.now.items c.loop-k.spans.items c.loop-k.k c.index_mut.result.now _ (omega arith)
    c.index_mut.ensures.value (subst (λ b. Where b Drops c.index_mut.result.now c.drop_where.new.span) c.touches.ensures c.drop_where.ensures) c.loop-k.invariant

pub returns : goal.returns
returns c = turned_all (DropsAt c.args.n c.args.cfg.now.links.items) c.args.spans.now.items c.loop-k.spans.items c.loop-k.k (omega arith) c.loop-k.invariant
