-- What a servo was last given it need not be given again.
use Rattle.std.proofs.Common.{◌≡◌, ◌∙◌, refl, ap, sym, subst, ℤ, Bool, true, false, if◌then◌else◌, List, Option, None, Some, is_some}
use Rattle.wrp_base.specs.declared.link.Deltas.{Deltas}
use Rattle.wrp_node.specs.Control.{ToldServo, ControlOf, ToldStands, ServoIs, HasNothing, lease_call, link_call}
use Rattle.wrp_node.specs.NodeAt.{NodeSetting, NodeAt, slave_of, is_fresh_in, deltas_in}
use Rattle.wrp_node.specs.StandsFor.{NodeOf, IsIn}
use Rattle.wrp_node.specs.Telling.{Step, for_slave, tell, is_changed, with_lease, with_link}
use Rattle.wrp_node.proofs.Telling.{nothing_told, either_same}
use Rattle.wrp_servo.specs.Call.{Call, CallLease, CallLink}
use Rattle.wrp_servo.specs.Told.{lease_told, link_told}

unchanged : (b : Bool) → is_changed b b ≡ false
unchanged true = refl
unchanged false = refl

none_where : (fixed : NodeSetting) (told now : Bool) (call : Call) → told ≡ now → for_slave fixed (if is_changed told now then Some call else None) ≡ None
none_where fixed told now call e =
    ap (λ (b : Bool). for_slave fixed (if b then Some call else None)) (subst (λ (x : Bool). is_changed told x ≡ false) e (unchanged told))
    ∙ either_same (is_some (slave_of fixed.set)) None

-- if there is a servo, and it was given the same
pub same_lease : {F : Type 0} {post : F → ℤ → ℤ → Type 0} (told : ToldServo F) (control : ControlOf F) (fresh : Bool) → control.told ≡ Some told → told.lease ≡ fresh →
    HasNothing post control (lease_call fresh)
same_lease {F} {post} told control fresh is same fixed calls h =
    let stands : (is_some (slave_of fixed.set) ≡ true) × ToldStands post fixed calls told =
    subst (λ (o : Option (ToldServo F)). ServoIs post fixed calls o) is h.servo in
    none_where fixed (lease_told calls) fresh (CallLease fresh) (sym stands.1.lease ∙ same)

pub same_link : {F : Type 0} {post : F → ℤ → ℤ → Type 0} (told : ToldServo F) (control : ControlOf F) (on : Option Deltas) → control.told ≡ Some told → told.link ≡ is_some on →
    HasNothing post control (link_call on)
same_link {F} {post} told control on is same fixed calls h =
    let stands : (is_some (slave_of fixed.set) ≡ true) × ToldStands post fixed calls told =
    subst (λ (o : Option (ToldServo F)). ServoIs post fixed calls o) is h.servo in
    none_where fixed (is_some (link_told calls)) (is_some on) (CallLink on) (sym stands.1.link ∙ same)

-- if there is none
pub no_servo : {F : Type 0} {post : F → ℤ → ℤ → Type 0} (control : ControlOf F) (call : List Call → Option Call) → control.told ≡ None → HasNothing post control call
no_servo {F} {post} control call is fixed calls h =
    let none : is_some (slave_of fixed.set) ≡ false = subst (λ (o : Option (ToldServo F)). ServoIs post fixed calls o) is h.servo in
    ap (λ (b : Bool). if b then call calls else None) none

-- then the node is as after the telling
untold : {F : Type 0} {post : F → ℤ → ℤ → Type 0} (fixed : NodeSetting) (before : NodeAt) (s : Step) (call : Option Call) (node : NodeOf F) → call ≡ None →
    IsIn post fixed before s node → IsIn post fixed before (tell fixed call s) node
untold {F} {post} fixed before s call node e h =
    subst (λ (o : Option Call). IsIn post fixed before (tell fixed o s) node) (sym e)
    (record { parts = nothing_told fixed before s node.parts h.parts; control = h.control; report = h.report })

pub lease_untold : {F : Type 0} {post : F → ℤ → ℤ → Type 0} (fixed : NodeSetting) (before : NodeAt) (s : Step) (fresh : Bool) {node : NodeOf F} → fresh ≡ is_fresh_in fixed.set s.node →
    HasNothing post node.control (lease_call fresh) → IsIn post fixed before s node → IsIn post fixed before (with_lease fixed s) node
lease_untold {F} {post} fixed before s fresh {node} e none h =
    subst (λ (b : Bool). IsIn post fixed before (tell fixed (for_slave fixed (lease_call b s.node.calls)) s) node) e
    (untold fixed before s (for_slave fixed (lease_call fresh s.node.calls)) node (none fixed s.node.calls h.control) h)

pub link_untold : {F : Type 0} {post : F → ℤ → ℤ → Type 0} (fixed : NodeSetting) (before : NodeAt) (s : Step) (on : Option Deltas) {node : NodeOf F} → on ≡ deltas_in fixed.set s.node →
    HasNothing post node.control (link_call on) → IsIn post fixed before s node → IsIn post fixed before (with_link fixed s) node
link_untold {F} {post} fixed before s on {node} e none h =
    subst (λ (o : Option Deltas). IsIn post fixed before (tell fixed (for_slave fixed (link_call o s.node.calls)) s) node) e
    (untold fixed before s (for_slave fixed (link_call on s.node.calls)) node (none fixed s.node.calls h.control) h)
