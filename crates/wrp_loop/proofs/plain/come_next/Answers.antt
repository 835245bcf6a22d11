-- It comes, or its number is too great, or memory runs out.
use Rattle.std.proofs.Common.{inl, arith}
use Rattle.wrp_loop.proofs.Coming.{plain_counted, plain_lacks, plain_round, too_many}
use Rattle.wrp_loop.proofs.plain.come_next.Goals as goal

pub returns-then-course-clause-rounds : goal.returns-then-course-clause-rounds
returns-then-course-clause-rounds g c = λ x l told n.
    inl
    (too_many _ x c.args.network.now c.args.course.now l c.args.course.now.event told c.args.text.now.items (let last = c.if-course.true in omega (arith, last))
    (plain_counted c.args.course.now.event c.requires.plain) n)

pub returns-in-Ok-clause-rounds : goal.returns-in-Ok-clause-rounds
returns-in-Ok-clause-rounds g c = λ x l told n. plain_round _ x c.come.new.network c.come.new.course l told c.args.text.now.items c.come.new.text.items (c.in-Ok.ensures.came x l n)

pub returns-in-Err-clause-rounds : goal.returns-in-Err-clause-rounds
returns-in-Err-clause-rounds g c = λ x l told n. plain_lacks x l told
