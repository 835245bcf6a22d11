-- By its own lemma.
use Rattle.wrp_answer_laws.proofs.TextRecords.{text_with_records}
use Rattle.wrp_answer_laws.proofs.again.text_with_records.Goals as goal

pub returns : goal.returns
returns c = text_with_records
