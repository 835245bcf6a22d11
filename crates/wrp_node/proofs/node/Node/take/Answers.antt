-- Each kind of input.
use Rattle.std.proofs.Common.{pos, Err}
use Rattle.wrp_frame.specs.declared.fault.FrameFault.TheVariants.{Short}
use Rattle.wrp_node.proofs.Stepping.{takes_as}
use Rattle.wrp_node.proofs.node.Node.take.Goals as goal

pub returns-in-Tick-clause-takes : goal.returns-in-Tick-clause-takes
returns-in-Tick-clause-takes g c = takes_as c.in-Tick.is (Err Short, pos 0, tt, c.tick.ensures.takes)

pub returns-in-Sample-clause-takes : goal.returns-in-Sample-clause-takes
returns-in-Sample-clause-takes g c = takes_as c.in-Sample.is (Err Short, pos 0, tt, c.sample.ensures.takes)

pub returns-in-Frame-clause-takes : goal.returns-in-Frame-clause-takes
returns-in-Frame-clause-takes g c = takes_as c.in-Frame.is c.frame.ensures.takes

pub returns-in-Sent-clause-takes : goal.returns-in-Sent-clause-takes
returns-in-Sent-clause-takes g c = takes_as c.in-Sent.is (Err Short, pos 0, tt, c.sent.ensures.takes)

pub returns-in-Carrier-clause-takes : goal.returns-in-Carrier-clause-takes
returns-in-Carrier-clause-takes g c = takes_as c.in-Carrier.is (Err Short, pos 0, tt, c.carrier.ensures.takes)

pub returns-in-Reset-clause-takes : goal.returns-in-Reset-clause-takes
returns-in-Reset-clause-takes g c = takes_as c.in-Reset.is (Err Short, pos 0, tt, c.reset.ensures.takes)
