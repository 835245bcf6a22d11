-- The delay of both ways of each fibre has room.
use Rattle.wrp_scene.proofs.FibreDelays.{sum_small}
use Rattle.wrp_scene.proofs.scene.Scene.small_sum.Goals as goal

pub returns-clause-size : goal.returns-clause-size
returns-clause-size c = rw c.sum.ensures (sum_small c.args.cfg.now c.args.self.now c.args.link c.requires.ranges c.requires.scene)
