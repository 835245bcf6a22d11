use Rattle.wrp_check.proofs.Parts as proof
use Rattle.wrp_check.proofs.laws.stretches_are_parts.Goals as goal

pub returns : goal.returns
returns c = proof.stretches_are_parts
