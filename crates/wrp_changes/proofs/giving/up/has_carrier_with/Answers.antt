use Rattle.wrp_changes.proofs.Carriers.{carrier_with}
use Rattle.wrp_changes.proofs.giving.up.has_carrier_with.Goals as goal

pub returns : goal.returns
returns c s w off swaps h =
    carrier_with s w c.args.plant.now c.args.n c.args.k off swaps c.link_cfg-link.result.now c.all_three.result c.joined-joined.result c.is_up_with-upper.result c.is_up_with-lower.result h
    c.link_cfg-link.ensures.value c.all_three.ensures (c.joined-joined.ensures s w h) (c.is_up_with-upper.ensures s w off swaps h) (c.is_up_with-lower.ensures s w off swaps h)
