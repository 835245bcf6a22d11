-- The scenario stays one of the network.
use Rattle.wrp_scene.specs.Scenario.{IsSceneOf}
use Rattle.wrp_carrier_cases.proofs.course.scene_of.Given as goal

abbrev pub invariant-loop-line : goal.invariant-loop-line
invariant-loop-line l = IsSceneOf l.fn.net.cfg l.scene
