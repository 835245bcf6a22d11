-- Each number is above the earlier ones.
use Rattle.wrp_node_cases.proofs.Masters.{rises, no_slave}
use Rattle.wrp_node_cases.proofs.node.sets.masters.Goals as goal

pub loop-number-preserved : goal.loop-number-preserved
loop-number-preserved c =
    rises c.loop-number.ports.items c.push.new.self.items c.port.result c.loop-number.number c.push.ensures.items c.port.ensures.number c.port.ensures.role c.loop-number.invariant

pub returns-clause-slave : goal.returns-clause-slave
returns-clause-slave c = no_slave c.loop-number.ports.items c.loop-number.invariant.masters
