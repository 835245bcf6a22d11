use Rattle.wrp_flights.proofs.FirstDue.{settling, starts}
use Rattle.wrp_flights.proofs.next.settle.Goals as goal

pub landed-init : goal.landed-init
landed-init c = starts c.args.kept.now.entries c.args.dues.now.keys c.requires

pub landed-preserved : goal.landed-preserved
landed-preserved c =
    settling c.args.kept.now.entries c.args.dues.now.keys c.landed.dues.keys c.take_first-landed.new.dues.keys c.landed.invariant c.take_first-landed.ensures
