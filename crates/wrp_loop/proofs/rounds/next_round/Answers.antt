-- The simulator gives an event, which is next, or none.
use Rattle.std.proofs.Common.{◌≡◌, true, false, refl, rules}
use Rattle.wrp_loop.proofs.Coming.{fewer_left, is_next, next_has, none_comes, none_put, one_put}
use Rattle.wrp_loop.proofs.rounds.next_round.Goals as goal

pub returns-then-not-next_into-clause-rounds : goal.returns-then-not-next_into-clause-rounds
returns-then-not-next_into-clause-rounds g c = λ x l at.
    let none : c.next_into.result ≡ false = search rules in
    none_comes _ x c.args.network.now c.args.course.now _ l _ c.args.text.now.items (none_put _ c.args.network.now.world c.args.course.now.sim c.next_into.new.self c.next_into.result c.next_into.new.event none c.next_into.ensures.follows) refl refl at

pub take_next-requires-clause-fits : goal.take_next-requires-clause-fits
take_next-requires-clause-fits g c = record {
  sim = c.next_into.ensures.stays.fits;
  count = c.requires.ready.fits.count;
  below = c.requires.ready.fits.below;
}

pub take_next-requires-clause-next : goal.take_next-requires-clause-next
take_next-requires-clause-next g c =
    let some : c.next_into.result ≡ true = search rules in
    is_next _ c.args.network.now c.args.course.now _ c.next_into.new.event (one_put _ c.args.network.now.world c.args.course.now.sim c.next_into.new.self c.next_into.result c.next_into.new.event some c.next_into.ensures.follows)
    c.next_into.ensures.stays.scene refl refl refl c.requires.ready.loop

pub returns-clause-rounds : goal.returns-clause-rounds
returns-clause-rounds g c = λ x l at.
    let some : c.next_into.result ≡ true = search rules in
    c.take_next.ensures.rounds x l
    (next_has _ x c.args.network.now c.args.course.now _ l c.next_into.new.event (one_put _ c.args.network.now.world c.args.course.now.sim c.next_into.new.self c.next_into.result c.next_into.new.event some c.next_into.ensures.follows)
    c.next_into.ensures.stays.scene refl refl refl at)

pub returns-clause-smaller : goal.returns-clause-smaller
returns-clause-smaller g c = λ on.
    let some : c.next_into.result ≡ true = search rules in
    fewer_left c.take_next.new.network c.next_into.new.event c.args.course.now (record c.args.course.now { sim = c.next_into.new.self; event = c.next_into.new.event }) c.take_next.new.course (c.next_into.ensures.hands some) refl c.take_next.ensures.sim (c.take_next.ensures.more on) (c.take_next.ensures.fits on)
