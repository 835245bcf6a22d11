use Rattle.wrp_changes.proofs.Carried.{cut_gives}
use Rattle.wrp_changes.proofs.Departing.{on_ok}
use Rattle.wrp_changes.proofs.giving.links.give_cut.Goals as goal

pub returns : goal.returns
returns c = on_ok c.goes_if_carried.result c.goes_if_carried.ensures (cut_gives c.args.plant.now c.args.link c.upper_end.result _ _ c.upper_end.ensures c.clear.ensures.items)
