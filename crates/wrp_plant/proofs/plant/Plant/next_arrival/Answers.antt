use Rattle.wrp_plant.proofs.NextArrivals.{next_arrival}
use Rattle.wrp_plant.proofs.plant.Plant.next_arrival.Goals as goal

pub returns : goal.returns
returns c s w h = next_arrival s w c.args.self.now.frames c.next_due.result h.frames c.next_due.ensures
