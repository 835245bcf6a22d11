-- The input goes in front of the earlier ones, and what looking back finds is answered.
use Rattle.std.proofs.Common.{◌∙◌, ap}
use Rattle.wrp_l1sync.proofs.PortLaws.{Adds-input, out_looked_back, keeps_settings}
use Rattle.wrp_l1sync.proofs.port.L1Port.step.Goals as goal

pub returns-clause-timeout : goal.returns-clause-timeout
returns-clause-timeout c = ap (λ p. p.timeout) c.take.ensures.port ∙ (keeps_settings c.args.self.now c.args.x).0

pub returns-clause-interval : goal.returns-clause-interval
returns-clause-interval c = ap (λ p. p.interval) c.take.ensures.port ∙ (keeps_settings c.args.self.now c.args.x).1

pub returns-clause-out : goal.returns-clause-out
returns-clause-out c inputs stands = out_looked_back c.args.self.now c.args.x inputs c.take.result c.take.ensures.out stands

pub returns-clause-stands : goal.returns-clause-stands
returns-clause-stands c = Adds-input c.args.self.now c.take.new.self c.args.x c.take.ensures.port
