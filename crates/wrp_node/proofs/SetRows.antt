-- The worked row is what the definition gives.
use Rattle.std.proofs.Common.{refl}
use Rattle.wrp_node.specs.Set.{steps_up, top_up}
use Rattle.wrp_node.specs.SetRows.{WorkedSets}

pub worked_sets : WorkedSets
unfolding steps_up top_up
worked_sets = record { grandmaster = refl; switch = refl; leaf = refl }
