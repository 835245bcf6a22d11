use Rattle.wrp_bound_laws.proofs.Motion.OnTime.{ticks_are_on_time}
use Rattle.wrp_bound_laws.proofs.Motion.TickSteps.{ticks_step_on_time}
use Rattle.wrp_bound_laws.proofs.clocks.ticks_are_on_time.Goals as goal

pub returns-clause-near : goal.returns-clause-near
returns-clause-near c = ticks_are_on_time c.ticks_are_apart.ensures

pub returns-clause-step : goal.returns-clause-step
returns-clause-step c = ticks_step_on_time c.ticks_are_counted.ensures c.ticks_are_apart.ensures
