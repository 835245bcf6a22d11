-- With nothing said, it is a scenario.
use Rattle.wrp_scene.proofs.SceneLemmas.{new_is_scene}
use Rattle.wrp_scene.proofs.scene.Scene.new.Goals as goal

pub returns-clause-scene : goal.returns-clause-scene
returns-clause-scene c = rw c.usual.ensures (new_is_scene c.args.net.now.cfg)
