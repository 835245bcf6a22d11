-- The simulator is one of the network that its scenario is of.
use Rattle.std.proofs.Common.{subst}
use Rattle.wrp_scene.specs.Scenario.{IsSceneOf}
use Rattle.wrp_carrier_cases.proofs.course.run_scene.Goals as goal

-- src/course.rt:135:5
pub run_sim-requires-clause-fits : goal.run_sim-requires-clause-fits
run_sim-requires-clause-fits g c =
    c.in_ok-sim.ensures.fits c.args.trial.now.world.plant.net.cfg
    (subst (λ net. IsSceneOf net.cfg c.in_ok-scene.scene) c.net.ensures c.in_ok-scene.ensures)
