use Rattle.wrp_bounds.proofs.Rounding.{rounded_up-next}
use Rattle.wrp_bounds.proofs.laws.rounds_up.Goals as goal

pub returns : goal.returns
returns c = rounded_up-next
