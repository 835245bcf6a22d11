use Rattle.wrp_frame.proofs.Exact.{spells_one}
use Rattle.wrp_frame.proofs.reading.one_message.Goals as goal

pub returns : goal.returns
returns c = spells_one
