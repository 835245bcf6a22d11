-- It arrives, or its number is too great, or the link fails, or memory runs out.
use Rattle.std.proofs.Common.{inl, inr, refl, ap, subst, Bool, Err, arith}
use Rattle.wrp_loop.specs.declared.outcome.LoopFault.{LoopFault}
use Rattle.wrp_loop.specs.declared.outcome.LoopFault.TheVariants.{Failed}
use Rattle.wrp_loop.specs.LoopStands.{RoundCame}
use Rattle.wrp_loop.proofs.Coming.{arrival_counted, fault_same, one_fault, too_many}
use Rattle.wrp_loop.proofs.rounds.carry_next.Goals as goal

pub returns-then-course-clause-rounds : goal.returns-then-course-clause-rounds
returns-then-course-clause-rounds g c = λ x l n.
    inl
    (too_many _ x c.args.network.now c.args.course.now l c.args.course.now.event _ c.args.text.now.items (let last = c.if-course.true in omega (arith, last))
    (arrival_counted c.args.number c.args.course.now.event c.requires.event) n)

pub returns-in-Ok-true-clause-rounds : goal.returns-in-Ok-true-clause-rounds
returns-in-Ok-true-clause-rounds g c = λ x l n.
    subst (λ (goes : Bool). RoundCame (λ f x y. g.F.Fn.post f (x, tt) y) x c.carry.new.network c.carry.new.course l goes (g.N.Link.told c.args.link.now) (g.N.Link.told c.carry.new.link) c.args.text.now.items c.carry.new.text.items) c.in-Ok-true.field-0-test (c.in-Ok-true.ensures.carried x l n)

pub returns-in-Ok-false-clause-rounds : goal.returns-in-Ok-false-clause-rounds
returns-in-Ok-false-clause-rounds g c = λ x l n.
    inr (subst (λ (goes : Bool). RoundCame (λ f x y. g.F.Fn.post f (x, tt) y) x c.carry.new.network c.carry.new.course l goes (g.N.Link.told c.args.link.now) (g.N.Link.told c.carry.new.link) c.args.text.now.items c.carry.new.text.items) c.in-Ok-false.field-0-test (c.in-Ok-false.ensures.carried x l n))

pub returns-in-Err-clause-rounds : goal.returns-in-Err-clause-rounds
returns-in-Err-clause-rounds g c = λ x l n.
    fault_same (λ f x y. g.F.Fn.post f (x, tt) y) x c.carry.new.network c.carry.new.course l (g.N.Link.told c.args.link.now) (g.N.Link.told c.carry.new.link) c.args.text.now.items c.carry.new.text.items c.in-Err.fault (c.in-Err.ensures.carried x l n)

pub returns-in-Err-clause-rose : goal.returns-in-Err-clause-rose
returns-in-Err-clause-rose g c = λ is. c.in-Err.ensures.rose (ap (λ (fault : LoopFault). Err fault) (one_fault _ c.in-Err.fault Failed refl is))

pub returns-in-Err-clause-kept : goal.returns-in-Err-clause-kept
returns-in-Err-clause-kept g c = λ other. c.in-Err.ensures.kept (λ is. other (ap (λ (fault : LoopFault). Err fault) (one_fault _ c.in-Err.fault Failed refl is)))
