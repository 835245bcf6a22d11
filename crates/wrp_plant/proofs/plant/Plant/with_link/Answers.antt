use Rattle.std.proofs.Common.{◌∙◌, ap}
use Rattle.wrp_base.specs.declared.link.Role.TheVariants.{Slave}
use Rattle.wrp_plant.specs.FirstPort.{with_end}
use Rattle.wrp_plant.proofs.plant.Plant.with_link.Goals as goal

pub returns : goal.returns
returns c s w h = c.with_end.ensures s w h ∙ ap (λ o. with_end s w o c.args.k Slave) (c.with_end-upper.ensures s w h)
