-- The delays that the link keeps were given by the peer.
use Rattle.std.proofs.Common.{◌≡◌, ◌↔◌, sym, subst, Some}
use Rattle.wrp_link.specs.LinkAt.{LinkAt, new_link}
use Rattle.wrp_link.specs.Order.{Told}
use Rattle.wrp_link.proofs.Deltas.{deltas_are_told}
use Rattle.wrp_link.proofs.machine.Link.peer_deltas.Goals as goal

pub returns-clause-told : goal.returns-clause-told
returns-clause-told c inputs stood tx rx =
    subst (λ (l : LinkAt). (l.deltas ≡ Some (tx, rx)) ↔ Told (new_link c.args.self.now.role c.args.self.now.set) inputs tx rx)
    (sym c.self.view_is)
    (deltas_are_told c.args.self.now inputs stood tx rx)
