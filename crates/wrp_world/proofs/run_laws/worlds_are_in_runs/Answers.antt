use Rattle.wrp_world.proofs.InRuns.{new_is_in_run, step_adds_to_run}
use Rattle.wrp_world.proofs.run_laws.worlds_are_in_runs.Goals as goal

pub returns-clause-new : goal.returns-clause-new
returns-clause-new g c = new_is_in_run (λ f x y. g.F.Fn.post f (x, tt) y)

pub returns-clause-step : goal.returns-clause-step
returns-clause-step g c = step_adds_to_run (λ f x y. g.F.Fn.post f (x, tt) y)
