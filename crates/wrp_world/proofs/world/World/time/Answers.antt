use Rattle.std.proofs.Common.{◌∙◌, sym, subst, ◌≤◌, ◌^◌, unsigned_abs, arith}
use Rattle.wrp_plant.specs.Plant.{PlantIs}
use Rattle.wrp_plant.proofs.SignedReads.{read}
use Rattle.wrp_world.proofs.Inside.{plant_is}
use Rattle.wrp_world.proofs.world.World.time.Goals as goal

pub returns-clause-value : goal.returns-clause-value
returns-clause-value g c s w h =
    let p : PlantIs s w c.self.inside.plant = plant_is _ s w c.args.self.now c.self.inside.plant c.self.inside.nodes.items c.self.view_is h in
    read c.now.result (omega (arith, c.now.ensures.size)) ∙ c.now.ensures.value ∙ p.time

pub returns-clause-size : goal.returns-clause-size
returns-clause-size g c = subst (λ z. unsigned_abs z ≤ 2 ^ 100) (sym (read c.now.result (omega (arith, c.now.ensures.size)))) c.now.ensures.size
