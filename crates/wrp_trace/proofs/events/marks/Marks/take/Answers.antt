-- By what the name stands for.
use Rattle.wrp_trace.proofs.PlaceLemmas.{clocks_taken, fibres_taken}
use Rattle.wrp_trace.proofs.events.marks.Marks.take.Goals as goal

pub returns-in-Node-clause-value : goal.returns-in-Node-clause-value
returns-in-Node-clause-value c =
    clocks_taken c.args.cfg.now c.args.place c.args.self.now c.take_drift.new.self c.args.event.now c.take_drift.new.event c.in-Node.n c.parts_at.result.0.now c.parts_at.result.1.now c.args.text.now c.take_drift.result
    c.parts_at.ensures.before c.parts_at.ensures.behind c.in-Node.ensures.1 c.take_drift.ensures.clocks c.take_drift.ensures.value

pub returns-in-Link-clause-value : goal.returns-in-Link-clause-value
returns-in-Link-clause-value c =
    fibres_taken c.args.cfg.now c.args.place c.args.self.now c.take_move.new.self c.args.event.now c.take_move.new.event c.in-Link.l c.parts_at.result.0.now c.parts_at.result.1.now c.args.text.now c.take_move.result
    c.parts_at.ensures.before c.parts_at.ensures.behind c.in-Link.ensures.1 c.in-Link.ensures.2 c.take_move.ensures.fibres c.take_move.ensures.value
