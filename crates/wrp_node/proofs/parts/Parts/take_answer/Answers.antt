-- To the slave port and to the counters, then the commands.
use Rattle.wrp_node.specs.Parts.{slave_told}
use Rattle.wrp_node.proofs.Telling.{answered}
use Rattle.wrp_node.proofs.parts.Parts.take_answer.Goals as goal

pub returns : goal.returns
returns c fixed before s call h e n =
    answered fixed before s call c.args.number c.args.out.now c.command.new.self e n
    (c.command.ensures fixed before (slave_told c.args.out.now c.args.number fixed s) (c.tell_slave.ensures fixed before s h))
