-- Premise by premise.
use Rattle.wrp_plain.proofs.Exact.{events_are_taken_exactly}
use Rattle.wrp_plain.proofs.law.events_are_taken_exactly.Goals as goal

pub returns : goal.returns
returns c = events_are_taken_exactly
