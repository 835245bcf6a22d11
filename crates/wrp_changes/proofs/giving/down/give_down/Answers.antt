use Rattle.wrp_changes.proofs.Carried.{down_gives}
use Rattle.wrp_changes.proofs.Departing.{on_ok}
use Rattle.wrp_changes.proofs.giving.down.give_down.Goals as goal

pub returns : goal.returns
returns c = on_ok c.goes_at_ports.result c.goes_at_ports.ensures (down_gives c.args.plant.now c.args.n _ _ c.requires.fits c.clear.ensures.items)
