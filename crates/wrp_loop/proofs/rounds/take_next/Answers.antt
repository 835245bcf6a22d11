-- What comes next is taken, or left out.
use Rattle.wrp_loop.proofs.Coming.{arrival_moves, handing_moves, left_out, plain_moves}
use Rattle.wrp_loop.proofs.rounds.take_next.Goals as goal

pub returns-in-Arrival-clause-more : goal.returns-in-Arrival-clause-more
returns-in-Arrival-clause-more g c = λ on. arrival_moves c.in-Arrival.number c.args.course.now.event _ _ c.in-Arrival.ensures (c.carry_next.ensures.more on)

pub returns-in-Handing-clause-more : goal.returns-in-Handing-clause-more
returns-in-Handing-clause-more g c = λ on. handing_moves c.in-Handing.ensures.0 c.args.course.now.event _ c.in-Handing.ensures.1

pub returns-in-Handing-clause-rounds : goal.returns-in-Handing-clause-rounds
returns-in-Handing-clause-rounds g c = λ x l n. left_out _ x c.args.network.now c.args.course.now l c.args.course.now.event c.in-Handing.ensures.0 _ c.args.text.now.items c.in-Handing.ensures.1 n

pub returns-in-Plain-clause-more : goal.returns-in-Plain-clause-more
returns-in-Plain-clause-more g c = λ on. plain_moves c.args.course.now.event _ _ c.in-Plain.ensures (c.come_next.ensures.more on)

pub returns-in-Plain-clause-rounds : goal.returns-in-Plain-clause-rounds
returns-in-Plain-clause-rounds g c = λ x l n. c.come_next.ensures.rounds x l _ n
