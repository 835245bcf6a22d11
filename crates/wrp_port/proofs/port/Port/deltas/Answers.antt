-- The delays were given in this handshake.
use Rattle.std.proofs.Common.{ap, sym, subst, IfSome}
use Rattle.wrp_link.specs.LinkAt.{new_link}
use Rattle.wrp_link.specs.Order.{Told}
use Rattle.wrp_port.specs.History.{link_inputs}
use Rattle.wrp_port.proofs.DeltaLaws.{deltas-told}
use Rattle.wrp_port.proofs.port.Port.deltas.Goals as goal

pub returns-clause-told : goal.returns-clause-told
returns-clause-told c inputs stands =
    subst (λ o. IfSome o (λ deltas. Told (new_link c.args.self.now.set.ds.role c.args.self.now.set.link) (link_inputs c.args.self.now.set inputs) deltas.txm deltas.rxm))
    (sym c.link_deltas.ensures)
    (deltas-told c.args.self.now.set c.args.self.now.line.link inputs (ap (λ v. v.link) stands.line))
