-- What each call does to the queue.
use Rattle.std.proofs.Common.{◌≡◌, ◌∙◌, ◌++◌, ◌∷◌, [], sym, subst, arith}
use Rattle.std.proofs.lemmas.Grind.{common_steps}
use Rattle.wrp_io.specs.declared.queue.Held.{Held}
use Rattle.wrp_io.specs.Queue.{MovesFrame}
use Rattle.wrp_io.proofs.CarryLemmas.{moves_start, moves_send, moves_receive}
use Rattle.wrp_io.proofs.queue.move_frame.Goals as goal

pub returns-in-Start-clause-moves : goal.returns-in-Start-clause-moves
returns-in-Start-clause-moves c =
    subst (MovesFrame c.args.queue.now.items c.args.queue.now.items) (sym c.in-Start.is)
    (moves_start c.args.queue.now.items c.in-Start.field-0)

pub returns-in-Send-clause-moves : goal.returns-in-Send-clause-moves
returns-in-Send-clause-moves c =
    let held : Held = record { end = c.other_end_of.result; frame = c.copy_of.result } in
    let queue = c.args.queue.now.items in
    let pushed : c.push.new.self.items ≡ queue ++ held ∷ [] = grind (arith, common_steps) in
    subst (λ now. MovesFrame queue now c.args.call.now) (sym pushed)
    (subst (MovesFrame queue (queue ++ held ∷ [])) (sym c.in-Send.is)
    (moves_send queue c.in-Send.end c.in-Send.frame held c.other_end_of.ensures (c.copy_of.ensures ∙ c.deref.ensures.0)))

pub returns-in-Receive-clause-moves : goal.returns-in-Receive-clause-moves
returns-in-Receive-clause-moves c =
    subst (MovesFrame c.args.queue.now.items c.take_first-received.new.queue.items) (sym c.in-Receive.is)
    (moves_receive c.args.queue.now.items c.take_first-received.new.queue.items c.in-Receive.end c.in-Receive.field-1 c.take_first-received.result c.take_first-received.ensures.first)
