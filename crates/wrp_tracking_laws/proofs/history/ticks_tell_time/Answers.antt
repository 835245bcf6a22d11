use Rattle.wrp_tracking_laws.proofs.TickTimes as proof
use Rattle.wrp_tracking_laws.proofs.history.ticks_tell_time.Goals as goal

pub returns-clause-most : goal.returns-clause-most
returns-clause-most c = proof.ticks-at_most

pub returns-clause-least : goal.returns-clause-least
returns-clause-least c = proof.ticks-at_least

pub returns-clause-within : goal.returns-clause-within
returns-clause-within c = proof.within-ticks
