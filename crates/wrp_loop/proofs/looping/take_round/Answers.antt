-- A round leads on from the loop that came so far.
use Rattle.wrp_loop.proofs.Leading.{leads, ready_more}
use Rattle.wrp_loop.proofs.looping.take_round.Goals as goal

pub returns-clause-ready : goal.returns-clause-ready
returns-clause-ready g c = λ on.
    ready_more _ _ c.args.network.now c.next_round.new.network c.args.course.now c.next_round.new.course _ _ c.args.text.now.items c.next_round.new.text.items c.next_round.result on c.requires.ready c.next_round.ensures.valid c.next_round.ensures.fits
    c.next_round.ensures.few c.next_round.ensures.rounds

pub returns-clause-leads : goal.returns-clause-leads
returns-clause-leads g c = λ x before written h.
    leads _ x c.args.network.now c.next_round.new.network c.args.course.now c.next_round.new.course before _ _ written c.args.text.now.items c.next_round.new.text.items c.next_round.result h (c.next_round.ensures.rounds x h.at h.stands)
