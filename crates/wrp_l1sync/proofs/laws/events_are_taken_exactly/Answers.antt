-- Premise by premise.
use Rattle.wrp_l1sync.proofs.PremiseLaws.{events_are_taken_exactly}
use Rattle.wrp_l1sync.proofs.laws.events_are_taken_exactly.Goals as goal

pub returns : goal.returns
returns c = events_are_taken_exactly
