use Rattle.wrp_node.specs.declared.interface.Input.TheVariants.{Carrier}
use Rattle.std.proofs.Common.{true}
use Rattle.wrp_changes.proofs.Carriers.{comes_told}
use Rattle.wrp_changes.proofs.Departing.{on_ok}
use Rattle.wrp_changes.proofs.Listing.{adds_one}
use Rattle.wrp_changes.proofs.giving.ends.comes_at.Goals as goal

pub returns : goal.returns
returns c =
    on_ok c.add.result c.add.ensures
    (λ e. adds_one c.args.plant.now _ (record { node = c.own_at-node.result.0; input = Carrier c.own_at-node.result.1 true c.entry-module.result }) _ _ e
    (record { node = c.own_at-node.ensures.node; input = c.own_at-node.ensures.port })
    (λ s w h. comes_told s c.args.place.link c.args.place.role c.args.name.now.bytes _ c.entry-module.result (c.own_at-node.ensures.value s w h) (c.entry-module.ensures s w h)))
