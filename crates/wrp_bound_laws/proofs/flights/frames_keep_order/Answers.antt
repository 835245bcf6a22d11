use Rattle.wrp_bound_laws.proofs.Frames.InOrder.{frames_arrive_in_order, frames_depart_in_order}
use Rattle.wrp_bound_laws.proofs.flights.frames_keep_order.Goals as goal

pub returns-clause-depart : goal.returns-clause-depart
returns-clause-depart c = frames_depart_in_order

pub returns-clause-arrive : goal.returns-clause-arrive
returns-clause-arrive c = frames_arrive_in_order
