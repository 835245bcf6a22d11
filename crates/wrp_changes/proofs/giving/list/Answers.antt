use Rattle.wrp_changes.proofs.Departing.{on_ok}
use Rattle.wrp_changes.proofs.Listing.{gives_listed}
use Rattle.wrp_changes.proofs.giving.list.Goals as goal

pub returns : goal.returns
returns c = on_ok c.put.result c.put.ensures (λ it e h. gives_listed c.args.plant.now e c.args.gift _ it h)
