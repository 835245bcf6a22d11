-- It comes next, so it can come.
use Rattle.std.proofs.Common.{refl}
use Rattle.wrp_loop.proofs.Coming.{next_can, next_may}
use Rattle.wrp_loop.proofs.Standing.{counted_on, plain_came}
use Rattle.wrp_loop.proofs.plain.come.Goals as goal

pub happen-requires-clause-event : goal.happen-requires-clause-event
happen-requires-clause-event g c =
    next_may _ c.simulator_keeps_the_bounds.ensures.accepted c.args.network.now c.args.course.now c.args.course.now.event c.requires.next c.requires.fits

pub happen-requires-clause-accepted : goal.happen-requires-clause-accepted
happen-requires-clause-accepted g c =
    next_can _ c.simulator_keeps_the_bounds.ensures.accepted c.args.network.now c.args.course.now c.args.course.now.event c.requires.next

pub returns-clause-fits : goal.returns-clause-fits
returns-clause-fits g c =
    counted_on c.args.network.now c.happen.new.self c.args.course.now _ c.requires.fits c.happen.ensures.net c.in_ok-happen.ensures.counted refl c.requires.room refl

pub returns-clause-came : goal.returns-clause-came
returns-clause-came g c = λ x l n.
    plain_came _ c.simulator_keeps_the_bounds.ensures.accepted x c.args.network.now c.happen.new.self c.args.course.now _ l c.args.course.now.event c.args.text.now.items c.happen.new.text.items c.requires.plain c.requires.room n
    c.in_ok-happen.ensures.happens refl refl refl refl
