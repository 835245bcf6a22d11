-- The frame flies; its datagrams go over the link, and then it arrives.
use Rattle.std.proofs.Common.{refl, sym, subst, ◌≤◌, ℕ, List, length}
use Rattle.arrayvec.specs.ArrayVec.{ArrayVec}
use Rattle.wrp_loop.proofs.Carryings.{fails_so, flies_next, forgets_so, lacks_so, round_so, routes_so}
use Rattle.wrp_loop.proofs.Arrivals.{fits_same}
use Rattle.wrp_loop.proofs.carrying.carry.Goals as goal

pub cross-requires-clause-flies : goal.cross-requires-clause-flies
cross-requires-clause-flies g c =
    flies_next _ c.simulator_keeps_the_bounds.ensures.accepted c.args.network.now c.args.course.now c.args.course.now.event c.args.number c.requires.event c.requires.next

pub arrive-requires-clause-fits : goal.arrive-requires-clause-fits
arrive-requires-clause-fits g c = fits_same c.args.network.now c.args.course.now _ c.requires.fits refl refl

pub arrive-requires-clause-most : goal.arrive-requires-clause-most
arrive-requires-clause-most g c = subst (λ (got : List (ArrayVec ℕ)). length got ≤ 16) (sym c.deref.ensures.0) c.in-Ok.ensures.most

pub arrive-requires-clause-next : goal.arrive-requires-clause-next
arrive-requires-clause-next g c =
    routes_so _ c.simulator_keeps_the_bounds.ensures.accepted c.args.network.now c.args.course.now _ c.args.course.now.event c.args.number c.in-Ok.crossing.route c.in-Ok.crossing.got.items _ _ c.requires.event c.requires.next
    (forgets_so _ c.args.network.now c.args.course.now _ c.args.course.now.event c.forget_old.ensures.came c.forget_old.ensures.handed refl refl refl) c.in-Ok.ensures.calls

pub returns-in-Ok-arrive-clause-carried : goal.returns-in-Ok-arrive-clause-carried
returns-in-Ok-arrive-clause-carried g c = λ x l n.
    round_so _ c.simulator_keeps_the_bounds.ensures.accepted x c.args.network.now c.arrive.new.network _ c.arrive.new.course l c.args.course.now.event c.args.number c.in-Ok.crossing.route c.deref.result.now c.in-Ok.crossing.got.items
    c.in-Ok-arrive.goes _ _ c.args.text.now.items c.arrive.new.text.items c.requires.event c.requires.room c.in-Ok.ensures.most c.deref.ensures.0
    (forgets_so _ c.args.network.now c.args.course.now _ c.args.course.now.event c.forget_old.ensures.came c.forget_old.ensures.handed refl refl refl x l n) c.in-Ok.ensures.calls c.in-Ok-arrive.ensures.carried

pub returns-in-Err-arrive-clause-carried : goal.returns-in-Err-arrive-clause-carried
returns-in-Err-arrive-clause-carried g c = λ x l n.
    lacks_so _ c.simulator_keeps_the_bounds.ensures.accepted x c.args.network.now (record c.args.course.now { index = c.forget_old.new.self }) l c.args.course.now.event c.args.number c.in-Ok.crossing.route c.in-Ok.crossing.got.items _ _ c.requires.event c.requires.room c.in-Ok.ensures.most
    (forgets_so _ c.args.network.now c.args.course.now (record c.args.course.now { index = c.forget_old.new.self }) c.args.course.now.event c.forget_old.ensures.came c.forget_old.ensures.handed refl refl refl x l n) c.in-Ok.ensures.calls

pub returns-in-Err-clause-carried : goal.returns-in-Err-clause-carried
returns-in-Err-clause-carried g c = λ x l n.
    (refl, fails_so _ c.simulator_keeps_the_bounds.ensures.accepted x c.args.network.now c.args.course.now l c.args.course.now.event c.args.number _ _ c.requires.event c.requires.room n c.in-Err.ensures.cut)
