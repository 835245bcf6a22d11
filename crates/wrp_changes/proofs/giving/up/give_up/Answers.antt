use Rattle.std.proofs.Common.{refl}
use Rattle.wrp_node.specs.declared.interface.Input.TheVariants.{Reset}
use Rattle.wrp_changes.proofs.Carried.{up_gives}
use Rattle.wrp_changes.proofs.Departing.{on_ok}
use Rattle.wrp_changes.proofs.Listing.{adds_one}
use Rattle.wrp_changes.proofs.giving.up.give_up.Goals as goal

pub returns : goal.returns
returns c =
    on_ok c.comes_at_ports.result c.comes_at_ports.ensures
    (λ it off. up_gives c.args.plant.now c.args.n off c.args.swaps.now _ _ _ c.requires.fits c.clear.ensures.items
    (adds_one c.args.plant.now _ (record { node = c.args.n; input = Reset }) _ _ c.in_ok-add.ensures (record { node = c.requires.node; input = tt })
    (λ s w h. (record { node = refl; input = refl; read = tt }, tt))) (it off))
