-- A sample or a measurement brings at most one tick.
use Rattle.wrp_servo.specs.Call.{CallSample, CallMeasured}
use Rattle.wrp_node_cases.proofs.Ticks.{ticks-grow}
use Rattle.wrp_node_cases.proofs.servo.calls.make.Goals as goal

pub returns-in-Sample-clause-ticks : goal.returns-in-Sample-clause-ticks
returns-in-Sample-clause-ticks g c =
    ticks-grow c.counts_one_tick.ensures c.args.servo.now c.sample.new.self (CallSample c.in-Sample.n c.in-Sample.base c.in-Sample.bits) c.sample.ensures.value

pub returns-in-Four-clause-ticks : goal.returns-in-Four-clause-ticks
returns-in-Four-clause-ticks g c =
    let (y, adds) = c.measured.ensures.answered in
    ticks-grow c.counts_one_tick.ensures c.args.servo.now c.measured.new.self (CallMeasured c.four_of.result y) adds.value
