use Rattle.wrp_node.specs.declared.interface.Input.TheVariants.{Carrier}
use Rattle.std.proofs.Common.{false, None}
use Rattle.wrp_changes.proofs.Carriers.{goes_told}
use Rattle.wrp_changes.proofs.Departing.{on_ok}
use Rattle.wrp_changes.proofs.Listing.{adds_one}
use Rattle.wrp_changes.proofs.giving.ends.goes_at.Goals as goal

pub returns : goal.returns
returns c =
    on_ok c.add.result c.add.ensures
    (λ e. adds_one c.args.plant.now _ (record { node = c.own_at-node.result.0; input = Carrier c.own_at-node.result.1 false None }) _ _ e
    (record { node = c.own_at-node.ensures.node; input = c.own_at-node.ensures.port })
    (λ s w h. goes_told s c.args.place.link c.args.place.role _ (c.own_at-node.ensures.value s w h)))
