use Rattle.wrp_one_world_laws.proofs.OneWorld.{one_world}
use Rattle.wrp_one_world_laws.proofs.one_world.Goals as goal

pub returns : goal.returns
returns c = one_world c.told_last.ensures
