-- The frame is one that the datagram may be, so it can be handed over.
use Rattle.std.proofs.Common.{refl, arith}
use Rattle.wrp_course.specs.declared.event.Event.TheVariants.{Deliver}
use Rattle.wrp_loop.proofs.Betweens.{can_deliver, may_deliver}
use Rattle.wrp_loop.proofs.Standing.{between_full, counted_on, delivery_came}
use Rattle.wrp_loop.proofs.between.deliver.Goals as goal

pub happen-requires-clause-event : goal.happen-requires-clause-event
happen-requires-clause-event g c = may_deliver c.args.network.now c.args.course.now c.args.frame c.requires.fits

pub happen-requires-clause-accepted : goal.happen-requires-clause-accepted
happen-requires-clause-accepted g c = can_deliver _ c.args.network.now c.args.course.now c.args.route c.args.frame c.requires.can

pub returns-then-course-clause-came : goal.returns-then-course-clause-came
returns-then-course-clause-came g c = λ x l way octets k such.
    between_full _ x c.args.network.now c.args.course.now l way c.args.route (Deliver c.args.frame) c.args.text.now.items (let last = c.if-course.true in omega (arith, last)) k

pub returns-clause-came : goal.returns-clause-came
returns-clause-came g c = λ x l way octets k such.
    delivery_came _ x c.args.network.now c.happen.new.self c.args.course.now _ l way c.args.route octets c.args.frame c.args.route.from c.args.text.now.items c.happen.new.text.items
    (let other = c.if-course.false in let below = c.requires.fits.below in omega (arith, other, below)) k such c.in_ok-happen.ensures.happens refl refl refl c.hand.ensures.came c.in_ok-hand.ensures.handed

pub returns-clause-fits : goal.returns-clause-fits
returns-clause-fits g c =
    counted_on c.args.network.now c.happen.new.self c.args.course.now _ c.requires.fits c.happen.ensures.net c.in_ok-happen.ensures.counted refl
    (let other = c.if-course.false in let below = c.requires.fits.below in omega (arith, other, below)) refl
