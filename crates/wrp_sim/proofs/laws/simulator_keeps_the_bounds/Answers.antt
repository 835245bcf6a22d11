use Rattle.wrp_sim.proofs.KeepsRun.{Laws, events_are_accepted, sim_runs_are_runs}
use Rattle.wrp_sim.proofs.laws.simulator_keeps_the_bounds.Goals as goal

laws : goal.After-frames_have_times → Laws
laws c = record { carriers = c.link_on_in_the_same_handshake.ensures.carriers; times = c.frames_have_times.ensures }

pub returns-clause-accepted : goal.returns-clause-accepted
returns-clause-accepted c = events_are_accepted (laws c)

pub returns-clause-runs : goal.returns-clause-runs
returns-clause-runs c = sim_runs_are_runs (laws c)
