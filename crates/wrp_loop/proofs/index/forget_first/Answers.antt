-- At first none was forgotten, and then one more each time.
use Rattle.std.proofs.Common.{rules}
use Rattle.wrp_loop.proofs.Forgetting.{first_forgotten, none_forgotten}
use Rattle.wrp_loop.proofs.index.forget_first.Goals as goal

pub first-init : goal.first-init
first-init g c = none_forgotten _ c.args.world.now c.args.came.now.items

pub first-preserved : goal.first-preserved
first-preserved g c =
    first_forgotten _ c.args.world.now c.args.came.now.items c.first.came.items c.remove.new.self.items c.index.result.now c.index.result.now c.first.invariant
    (let test = c.first-test.true in search (test, c.is_empty.ensures, rules)) c.index.ensures
    c.remove.ensures.by_index.2
    (λ s w stands. let told = c.is_old.ensures s w stands in let no = c.if-not-is_old.false in search (told, no, rules))
