use Rattle.std.proofs.Common.{◌∙◌, ap, sym, Option, None, Some, ℕ, if◌then◌else◌}
use Rattle.wrp_world.proofs.Inside.{plant_is}
use Rattle.wrp_world.proofs.world.World.still_rate.Goals as goal

pub returns-then-is_top-clause-value : goal.returns-then-is_top-clause-value
returns-then-is_top-clause-value g c s w h =
    sym (ap (λ b. let still : Option ℕ = if b then Some 0 else None in still) (sym (c.is_top-is_top.ensures s w (plant_is _ s w c.args.self.now c.self.inside.plant c.self.inside.nodes.items c.self.view_is h)) ∙ c.if-is_top.true))

pub returns-else-is_top-clause-value : goal.returns-else-is_top-clause-value
returns-else-is_top-clause-value g c s w h =
    sym (ap (λ b. let still : Option ℕ = if b then Some 0 else None in still) (sym (c.is_top-is_top.ensures s w (plant_is _ s w c.args.self.now c.self.inside.plant c.self.inside.nodes.items c.self.view_is h)) ∙ c.if-is_top.false))
