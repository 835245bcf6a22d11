-- However the input goes on, its network text is the same.
use Rattle.wrp_projection_laws.proofs.Projected.{front_with_records}
use Rattle.wrp_projection_laws.proofs.laws.front_with_records.Goals as goal

pub returns : goal.returns
returns c = front_with_records
