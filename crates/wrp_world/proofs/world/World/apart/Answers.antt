use Rattle.std.proofs.Common.{◌∙◌, sym, subst, ◌≤◌, ◌^◌, unsigned_abs, arith}
use Rattle.wrp_plant.proofs.SignedReads.{read}
use Rattle.wrp_world.proofs.Inside.{plant_is}
use Rattle.wrp_world.proofs.world.World.apart.Goals as goal

pub returns-clause-value : goal.returns-clause-value
returns-clause-value g c s w h =
    read c.apart.result (omega (arith, c.apart.ensures.size))
    ∙ c.apart.ensures.value s w (plant_is _ s w c.args.self.now c.self.inside.plant c.self.inside.nodes.items c.self.view_is h)

pub returns-clause-size : goal.returns-clause-size
returns-clause-size g c = subst (λ z. unsigned_abs z ≤ 2 ^ 125) (sym (read c.apart.result (omega (arith, c.apart.ensures.size)))) c.apart.ensures.size
