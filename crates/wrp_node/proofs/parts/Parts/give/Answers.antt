-- Each port that is given the input stands for one more input.
use Rattle.wrp_node.proofs.Giving.{parts_given}
use Rattle.wrp_node.proofs.parts.Parts.give.Goals as goal

pub returns : goal.returns
returns c fixed before s h =
    parts_given fixed before s c.args.to c.args.input.now c.args.self.now c.give.new.self c.requires c.give.ensures h
