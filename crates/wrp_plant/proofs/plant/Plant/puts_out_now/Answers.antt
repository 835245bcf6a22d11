use Rattle.std.proofs.Common.{ap, sym, of_z}
use Rattle.std.specs.Int.{w128}
use Rattle.wrp_plant.proofs.Quiet.{quiet}
use Rattle.wrp_plant.proofs.plant.Plant.puts_out_now.Goals as goal

pub returns-else-self : goal.returns-else-self
returns-else-self c s w h = sym (quiet s w c.args.self.now c.requires h (λ e. c.if-self.false (ap (of_z w128) e)))
