use Rattle.wrp_plant.proofs.KeptFrames.{count_told}
use Rattle.wrp_plant.proofs.plant.Plant.kept.Goals as goal

pub returns : goal.returns
returns c s w h = count_told s w c.args.self.now.frames c.kept.result h.frames c.kept.ensures
