use Rattle.std.proofs.Common.{◌+◌, slice_set, arith}
use Rattle.wrp_changes.proofs.Roomy.{Keeps, Takes, at_any, kept_all, kept_so_far, room_of_kept, same_of_kept, took_all}
use Rattle.wrp_changes.proofs.Turned.{turned_all, turned_next}
use Rattle.wrp_changes.specs.Moves.{EachBecame}
use Rattle.wrp_changes.proofs.room.reserve_all.Goals as goal

-- if there is not enough memory at a link
stopped : (c : goal.After-from_residual) → EachBecame Keeps c.args.spans.now.items (slice_set c.loop-k.spans.items c.loop-k.k c.reserve_span.new.span)
stopped c =
    kept_all (c.loop-k.k + 1) c.args.spans.now.items (slice_set c.loop-k.spans.items c.loop-k.k c.reserve_span.new.span)
    (turned_next Keeps c.args.spans.now.items c.loop-k.spans.items c.loop-k.k c.index_mut.result.now c.reserve_span.new.span (omega arith) c.index_mut.ensures.value
    (record { same = at_any 0 c.loop-k.k c.index_mut.result.now c.reserve_span.new.span c.reserve_span.ensures.same; kept = c.reserve_span.ensures.kept })
    (kept_so_far c.args.steps c.loop-k.k c.args.spans.now.items c.loop-k.spans.items c.loop-k.invariant))

pub returns-in_err-reserve_span-clause-same : goal.returns-in_err-reserve_span-clause-same
returns-in_err-reserve_span-clause-same c = same_of_kept _ _ (stopped c)

pub returns-in_err-reserve_span-clause-kept : goal.returns-in_err-reserve_span-clause-kept
returns-in_err-reserve_span-clause-kept c k h = room_of_kept k _ _ (stopped c) h

pub loop-k-preserved : goal.loop-k-preserved
loop-k-preserved c =
    turned_next (Takes c.args.steps) c.args.spans.now.items c.loop-k.spans.items c.loop-k.k c.index_mut.result.now c.reserve_span.new.span (omega arith) c.index_mut.ensures.value
    (record {
      keeps = record { same = at_any 0 c.loop-k.k c.index_mut.result.now c.reserve_span.new.span c.reserve_span.ensures.same; kept = c.reserve_span.ensures.kept };
      room = c.in_ok-reserve_span.ensures.room;
    }) c.loop-k.invariant

pub returns-clause-same : goal.returns-clause-same
returns-clause-same c =
    same_of_kept c.args.spans.now.items c.loop-k.spans.items
    (kept_all c.loop-k.k c.args.spans.now.items c.loop-k.spans.items (kept_so_far c.args.steps c.loop-k.k c.args.spans.now.items c.loop-k.spans.items c.loop-k.invariant))

pub returns-clause-room : goal.returns-clause-room
returns-clause-room c =
    took_all c.args.steps c.args.spans.now.items c.loop-k.spans.items
    (turned_all (Takes c.args.steps) c.args.spans.now.items c.loop-k.spans.items c.loop-k.k (omega arith) c.loop-k.invariant)

pub returns-clause-kept : goal.returns-clause-kept
returns-clause-kept c k h =
    room_of_kept k c.args.spans.now.items c.loop-k.spans.items
    (kept_all c.loop-k.k c.args.spans.now.items c.loop-k.spans.items (kept_so_far c.args.steps c.loop-k.k c.args.spans.now.items c.loop-k.spans.items c.loop-k.invariant)) h
