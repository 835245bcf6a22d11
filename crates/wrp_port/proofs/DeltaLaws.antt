-- The master's delays at a slave port in WR_LINK_ON are the ones that its master reported in this handshake.
use Rattle.std.proofs.Common.{◌≡◌, ◌∙◌, ap, sym, subst, refl, ℕ, true, is_some, List, Option, None, Some, IfSome}
use Rattle.wrp_base.specs.declared.link.LinkState.{LinkState}
use Rattle.wrp_base.specs.declared.link.LinkState.TheVariants.{LinkOn}
use Rattle.wrp_base.specs.declared.link.Module.{Module}
use Rattle.wrp_base.specs.declared.link.Role.{Role}
use Rattle.wrp_base.specs.declared.link.Role.TheVariants.{Slave}
use Rattle.wrp_link.specs.declared.interface.LinkIn.{LinkIn}
use Rattle.wrp_link.specs.LinkAt.{LinkAt, new_link}
use Rattle.wrp_link.specs.Order.{Told}
use Rattle.wrp_link.specs.Table.{run_of}
use Rattle.wrp_link.proofs.Deltas.{stand_told}
use Rattle.wrp_link.proofs.Fits.{knows}
use Rattle.wrp_link.proofs.Orders.{IsOrdered, run_ordered, new_ordered, run_role}
use Rattle.wrp_port.specs.declared.interface.PortIn.{PortIn}
use Rattle.wrp_port.specs.declared.setting.Setting.{Setting}
use Rattle.wrp_port.specs.History.{link_inputs, link_of}
use Rattle.wrp_port.specs.PortAt.{deltas_by, deltas_in, deltas_of}

-- delays that are known were given
told-by :
    (start : LinkAt) (inputs : List LinkIn) (deltas : Option (ℕ × ℕ)) (own_module : Option Module) →
    IsOrdered start →
    start.deltas ≡ None →
    (run_of start inputs).deltas ≡ deltas →
    is_some deltas ≡ true →
    Told start inputs (deltas_by deltas own_module).txm (deltas_by deltas own_module).rxm
told-by start inputs None own_module o none e known = cc
told-by start inputs (Some (tx, rx)) own_module o none e known = stand_told start inputs tx rx o none e

told-in :
    (start : LinkAt) (inputs : List LinkIn) (role : Role) (state : LinkState) →
    IsOrdered start →
    start.deltas ≡ None →
    is_some (run_of start inputs).deltas ≡ knows role state →
    IfSome (deltas_in role state (run_of start inputs)) (λ deltas. Told start inputs deltas.txm deltas.rxm)
told-in start inputs Slave LinkOn o none known =
    told-by start inputs (run_of start inputs).deltas (run_of start inputs).own_module o none refl known
told-in start inputs _ _ o none known = tt

-- the delays of a port were given
pub deltas-told :
    (set : Setting) (l : LinkAt) (inputs : List PortIn) →
    l ≡ link_of set inputs →
    IfSome (deltas_of set.ds.role l) (λ deltas. Told (new_link set.ds.role set.link) (link_inputs set inputs) deltas.txm deltas.rxm)
deltas-told set l inputs is =
    let start : LinkAt = new_link set.ds.role set.link in
    let run : LinkAt = run_of start (link_inputs set inputs) in
    let ordered : IsOrdered start = new_ordered set.ds.role set.link in
    let known : is_some run.deltas ≡ knows set.ds.role run.state =
    (run_ordered start (link_inputs set inputs) ordered).known ∙ ap (λ r. knows r run.state) (run_role start (link_inputs set inputs)) in
    subst (λ k. IfSome (deltas_of set.ds.role k) (λ deltas. Told start (link_inputs set inputs) deltas.txm deltas.rxm))
    (sym is)
    (told-in start (link_inputs set inputs) set.ds.role run.state ordered refl known)
