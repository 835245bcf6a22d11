-- The error statement is a lemma over plain numbers.
use Rattle.wrp_phase.proofs.TagError.{tag-within_detector_error}
use Rattle.wrp_phase.proofs.error_statement.tag_within_detector_error.Goals as goal

pub returns : goal.returns
returns c = tag-within_detector_error
