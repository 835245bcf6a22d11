-- Line by line.
use Rattle.wrp_answer_laws.proofs.NoOutput.{tells_no_output}
use Rattle.wrp_answer_laws.proofs.laws.emission_tells_no_output.Goals as goal

pub returns : goal.returns
returns c = tells_no_output c.reading_is_accepted.ensures
