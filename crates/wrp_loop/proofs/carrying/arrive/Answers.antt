-- It comes next, so it can come; and after it the datagrams are handled.
use Rattle.std.proofs.Common.{refl, arith}
use Rattle.wrp_loop.proofs.Carryings.{carries_on, routed_next, starts_carried}
use Rattle.wrp_loop.proofs.Coming.{next_can, next_may}
use Rattle.wrp_loop.proofs.Happening.{in_any_case}
use Rattle.wrp_loop.proofs.Standing.{counted_on}
use Rattle.wrp_loop.proofs.carrying.arrive.Goals as goal

pub happen-requires-clause-event : goal.happen-requires-clause-event
happen-requires-clause-event g c =
    next_may _ c.simulator_keeps_the_bounds.ensures.accepted c.args.network.now c.args.course.now c.args.course.now.event
    (routed_next _ c.args.network.now c.args.course.now c.args.course.now.event c.args.number c.args.route c.requires.next) c.requires.fits

pub happen-requires-clause-accepted : goal.happen-requires-clause-accepted
happen-requires-clause-accepted g c =
    next_can _ c.simulator_keeps_the_bounds.ensures.accepted c.args.network.now c.args.course.now c.args.course.now.event
    (routed_next _ c.args.network.now c.args.course.now c.args.course.now.event c.args.number c.args.route c.requires.next)

pub handle_all-requires-clause-fits : goal.handle_all-requires-clause-fits
handle_all-requires-clause-fits g c =
    counted_on c.args.network.now c.happen.new.self c.args.course.now _ c.requires.fits c.happen.ensures.net c.in_ok-happen.ensures.counted refl c.requires.room refl

pub handle_all-requires-clause-carried : goal.handle_all-requires-clause-carried
handle_all-requires-clause-carried g c =
    starts_carried _ c.simulator_keeps_the_bounds.ensures.accepted c.args.network.now c.happen.new.self c.args.course.now _ c.args.course.now.event c.args.number c.args.route c.args.text.now.items c.happen.new.text.items
    c.requires.event c.requires.next c.in_ok-happen.ensures.happens refl refl refl c.in_ok-arrive.ensures.came c.arrive.ensures.handed

pub returns-clause-carried : goal.returns-clause-carried
returns-clause-carried g c =
    carries_on _ c.simulator_keeps_the_bounds.ensures.accepted c.args.network.now c.happen.new.self c.handle_all.new.network c.args.course.now _ c.handle_all.new.course c.args.course.now.event c.args.number c.args.route c.args.got.now
    c.args.text.now.items c.happen.new.text.items c.handle_all.new.text.items c.handle_all.result c.requires.event c.in_ok-happen.ensures.happens refl refl refl c.in_ok-arrive.ensures.came c.arrive.ensures.handed c.handle_all.ensures.handled

pub returns-clause-more : goal.returns-clause-more
returns-clause-more g c = in_any_case _ c.handle_all.result (let more = c.handle_all.ensures.more in omega (arith, more))
