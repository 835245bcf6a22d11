use Rattle.std.proofs.Common.{◌∙◌, ap₂, ◌||◌}
use Rattle.wrp_plant.proofs.plant.Plant.puts_out_at_ends.Goals as goal

pub returns : goal.returns
returns c s w h = c.either.ensures ∙ ap₂ (λ a b. a || b) (c.is_put_out-upper.ensures s w h) (c.is_put_out-lower.ensures s w h)
