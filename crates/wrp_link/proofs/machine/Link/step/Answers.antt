-- The input goes in front of those before.
use Rattle.wrp_link.proofs.Runs.{stands_after}
use Rattle.wrp_link.proofs.machine.Link.step.Goals as goal

pub returns-clause-stands : goal.returns-clause-stands
returns-clause-stands c = stands_after c.args.self.now c.answer-answer.new.self c.args.input c.answer-answer.ensures.state
