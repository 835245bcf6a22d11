use Rattle.std.proofs.Common.{◌∙◌, ap₂, ◌&&◌}
use Rattle.wrp_plant.proofs.plant.Plant.has_carrier.Goals as goal

pub returns : goal.returns
returns c s w h = c.both.ensures ∙ ap₂ (λ a b. a && b) (c.joined-joined.ensures s w h) (c.ends_are_up-up.ensures s w h)
