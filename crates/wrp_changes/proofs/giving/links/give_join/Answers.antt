use Rattle.wrp_changes.proofs.Carried.{join_gives}
use Rattle.wrp_changes.proofs.Departing.{on_ok}
use Rattle.wrp_changes.proofs.giving.links.give_join.Goals as goal

pub returns : goal.returns
returns c = on_ok c.comes_if_up.result c.comes_if_up.ensures (λ h ms sm. join_gives c.args.plant.now c.args.link ms sm _ _ c.clear.ensures.items h)
