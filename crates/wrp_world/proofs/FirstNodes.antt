-- The first port at which a waiting frame was put out now belongs to a node of the world.
use Rattle.std.proofs.Common.{◌∙◌, ap, sym, subst, ℕ, ◌<◌, ℤ, Option, None, Some, IfSome, length}
use Rattle.wrp_network.specs.declared.configuration.NetCfg.{NetCfg}
use Rattle.wrp_network.specs.Network.{node_count}
use Rattle.wrp_plant.specs.PutOut.{first_put_out}
use Rattle.wrp_plant.proofs.FirstPorts.{first_within}
use Rattle.wrp_world.specs.StandsFor.{IsValid, Tells, WorldOf}

pub first_node : {F : Type 0} (pre : F → ℤ → Type 0) (post : F → ℤ → ℤ → Type 0) (world : WorldOf F) (o : Option (ℕ × ℕ)) → IsValid pre post world →
    Tells post first_put_out world o → IfSome o (λ (port : ℕ × ℕ). port.0 < length world.nodes)
first_node pre post world None v h = tt
first_node pre post world (Some port) v h =
    subst (λ (n : ℕ). port.0 < n) (ap (λ (cfg : NetCfg). node_count cfg) (sym v.stands.plant.cfg) ∙ sym v.node_count)
    (first_within v.setting v.state port (sym (h v.setting v.state v.stands)))
