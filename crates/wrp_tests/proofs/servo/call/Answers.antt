-- Each call brings at most one tick.
use Rattle.std.proofs.Common.{◌%◌}
use Rattle.wrp_servo.specs.Call.{CallSample, CallMeasured}
use Rattle.wrp_tests.proofs.Ticks.{ticks-grow}
use Rattle.wrp_tests.proofs.servo.call.Goals as goal

pub returns-in-Sample-clause-ticks : goal.returns-in-Sample-clause-ticks
returns-in-Sample-clause-ticks g c =
    ticks-grow c.counts_one_tick.ensures c.args.servo.now c.sample.new.self (CallSample c.in-Sample.n (c.in-Sample.tag % 16384) 4_294_967_295) c.sample.ensures.value

pub returns-in-Glitch-clause-ticks : goal.returns-in-Glitch-clause-ticks
returns-in-Glitch-clause-ticks g c =
    ticks-grow c.counts_one_tick.ensures c.args.servo.now c.sample-in-Glitch.new.self (CallSample c.in-Glitch.n 0 1) c.sample-in-Glitch.ensures.value

pub returns-in-Four-clause-ticks : goal.returns-in-Four-clause-ticks
returns-in-Four-clause-ticks g c =
    let (y, adds) = c.measured.ensures.answered in
    ticks-grow c.counts_one_tick.ensures c.args.servo.now c.measured.new.self (CallMeasured c.four.result y) adds.value
