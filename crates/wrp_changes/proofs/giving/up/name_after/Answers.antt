use Rattle.wrp_changes.proofs.Carriers.{name_told}
use Rattle.wrp_changes.proofs.giving.up.name_after.Goals as goal

pub returns : goal.returns
returns c s w off h =
    name_told s w c.args.n c.args.place.link c.args.place.role off c.args.swaps.now c.as_slice.result.now (record { node = c.own_at-node.result.0; port = c.own_at-node.result.1 })
    c.end.result.now.name.bytes c.name_with.result.now.bytes c.as_slice.ensures.value (c.own_at-node.ensures.value s w h) c.name_with.ensures (c.end.ensures s w h).name
