-- Each port has begun.
use Rattle.wrp_node.proofs.Giving.{parts_begun, numbers_begun}
use Rattle.wrp_node.proofs.parts.Parts.begin.Goals as goal

pub returns-clause-begun : goal.returns-clause-begun
returns-clause-begun c fixed n h = parts_begun fixed n c.args.self.now c.begin.new.self c.begin.ensures h

pub returns-clause-numbers : goal.returns-clause-numbers
returns-clause-numbers c = numbers_begun c.args.self.now.ports c.begin.new.self c.begin.ensures
