-- The octets say no message of the peer, so they can come.
use Rattle.std.proofs.Common.{refl, arith, sym, subst}
use Rattle.wrp_course.specs.declared.event.Event.{Event}
use Rattle.wrp_course.specs.declared.event.Event.TheVariants.{Noise}
use Rattle.wrp_world.specs.Step.{MayCome}
use Rattle.wrp_loop.specs.LoopRun.{noise_stamp}
use Rattle.wrp_loop.specs.LoopStands.{CanHappen, Happens}
use Rattle.wrp_loop.proofs.Betweens.{can_sound, may_sound}
use Rattle.wrp_loop.proofs.Standing.{between_full, counted_on, noise_came}
use Rattle.wrp_loop.proofs.between.sound.Goals as goal

pub happen-requires-clause-event : goal.happen-requires-clause-event
happen-requires-clause-event g c =
    subst (MayCome c.args.network.now.world) (sym c.noise_of.ensures) (may_sound _ c.args.network.now c.args.course.now c.args.route c.args.frame.now c.requires.can c.requires.fits)

pub happen-requires-clause-accepted : goal.happen-requires-clause-accepted
happen-requires-clause-accepted g c =
    subst (CanHappen _ c.args.network.now.world) (sym c.noise_of.ensures) (can_sound _ c.args.network.now c.args.course.now c.args.route c.args.frame.now c.requires.can)

pub returns-then-course-clause-came : goal.returns-then-course-clause-came
returns-then-course-clause-came g c = λ x l way k never.
    between_full _ x c.args.network.now c.args.course.now l way c.args.route (Noise c.args.route.node c.args.route.port c.args.frame.now noise_stamp) c.args.text.now.items (let last = c.if-course.true in omega (arith, last)) k

pub returns-clause-came : goal.returns-clause-came
returns-clause-came g c = λ x l way k never.
    noise_came _ x c.args.network.now c.happen.new.self c.args.course.now _ l way c.args.route c.args.frame.now c.args.text.now.items c.happen.new.text.items
    (let other = c.if-course.false in let below = c.requires.fits.below in omega (arith, other, below)) k never
    (subst (λ (e : Event). Happens (λ f x y. g.F.Fn.post f (x, tt) y) e c.args.network.now.world c.happen.new.self.world c.args.text.now.items c.happen.new.text.items) c.noise_of.ensures c.in_ok-happen.ensures.happens) refl refl refl refl

pub returns-clause-fits : goal.returns-clause-fits
returns-clause-fits g c =
    counted_on c.args.network.now c.happen.new.self c.args.course.now _ c.requires.fits c.happen.ensures.net c.in_ok-happen.ensures.counted refl
    (let other = c.if-course.false in let below = c.requires.fits.below in omega (arith, other, below)) refl
