use Rattle.std.proofs.Common.{◌≡◌, length, subst, arith}
use Rattle.wrp_changes.specs.Room.{HasRoom}
use Rattle.wrp_changes.proofs.Refusals.{on_err}
use Rattle.wrp_changes.proofs.beginning.begin.Goals as goal

pub returns-in_err-change-clause-stays : goal.returns-in_err-change-clause-stays
returns-in_err-change-clause-stays c = on_err c.from_residual-in_err-change.result (λ s w p. c.in_err-change.ensures.same s w (c.reserve.ensures.is s w p))

pub returns-clause-room : goal.returns-clause-room
returns-clause-room c =
    let steps : c.len.result ≡ length c.give.new.outs.items = omega (arith, c.len.ensures, c.give.new.outs.ok.0) in
    c.change.ensures.room (length c.give.new.outs.items) (subst (λ k. HasRoom k c.reserve.new.plant) steps c.in_ok-reserve.ensures.room)

pub returns-clause-is : goal.returns-clause-is
returns-clause-is c s w m p = c.in_ok-change.ensures.is s w m (c.reserve.ensures.is s w p)
