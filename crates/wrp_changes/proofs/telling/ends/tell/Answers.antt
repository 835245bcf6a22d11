use Rattle.std.proofs.Common.{subst, to_z, of_z, ◌+◌, arith}
use Rattle.std.proofs.lemmas.Int.{to_z-of_z}
use Rattle.std.specs.Int.{w128}
use Rattle.wrp_changes.specs.Moves.{EachBecame}
use Rattle.wrp_changes.specs.PlantTold.{TellsAt}
use Rattle.wrp_plant.specs.EndRoom.{HasSpanRoom}
use Rattle.wrp_changes.proofs.TellingEnds.{TellsWithRoom, told_of_turned}
use Rattle.wrp_changes.proofs.Turned.{turned_next, turned_all, each_turned}
use Rattle.wrp_changes.proofs.telling.ends.tell.Goals as goal

pub loop-k-preserved : goal.loop-k-preserved
loop-k-preserved c =
    turned_next (TellsWithRoom (to_z w128 (of_z w128 c.args.now)) c.args.news.now c.args.outs.now c.args.cfg.now.links.items) c.args.spans.now.items c.loop-k.spans.items c.loop-k.k
    c.index_mut.result.now c.tell_number.new.span (omega arith) c.index_mut.ensures.value
    (record { told = c.tell_number.ensures.told; room = c.tell_number.ensures.room }) c.loop-k.invariant

pub returns-clause-told : goal.returns-clause-told
returns-clause-told c =
    subst (λ t. EachBecame (TellsAt t c.args.news.now c.args.outs.now c.args.cfg.now.links.items) c.args.spans.now.items c.loop-k.spans.items) (to_z-of_z w128 c.args.now c.ranges.now)
    (told_of_turned (to_z w128 (of_z w128 c.args.now)) c.args.news.now c.args.outs.now c.args.cfg.now.links.items c.args.spans.now.items c.loop-k.spans.items
    (turned_all (TellsWithRoom (to_z w128 (of_z w128 c.args.now)) c.args.news.now c.args.outs.now c.args.cfg.now.links.items) c.args.spans.now.items c.loop-k.spans.items c.loop-k.k (omega arith) c.loop-k.invariant))

pub returns-clause-room : goal.returns-clause-room
returns-clause-room c k h =
    each_turned (TellsWithRoom (to_z w128 (of_z w128 c.args.now)) c.args.news.now c.args.outs.now c.args.cfg.now.links.items) (λ i. HasSpanRoom (k + 1)) (λ i. HasSpanRoom k) c.args.spans.now.items c.loop-k.spans.items
    (turned_all (TellsWithRoom (to_z w128 (of_z w128 c.args.now)) c.args.news.now c.args.outs.now c.args.cfg.now.links.items) c.args.spans.now.items c.loop-k.spans.items c.loop-k.k (omega arith) c.loop-k.invariant)
    (λ i x y r p. r.room k p) h
