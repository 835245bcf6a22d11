-- After every input the servo knows of the lease and of WR_LINK_ON.
use Rattle.std.proofs.Common.{◌≡◌, ◌∙◌, refl, ap, ℕ, ℤ, ◌==◌, Bool, true, false, if◌then◌else◌, List, Option, None, Some, is_some, arith}
use Rattle.wrp_base.specs.declared.link.Deltas.{Deltas}
use Rattle.wrp_base.specs.declared.measurement.ChainNews.{ChainNews}
use Rattle.wrp_base.specs.declared.measurement.ChainNews.TheVariants.{Same, Started, Ended}
use Rattle.wrp_link.specs.LinkAt.{LinkAt}
use Rattle.wrp_node.specs.Laws.{IsSettled, StepSettles}
use Rattle.wrp_node.specs.NodeAt.{NodeSetting, slave_of, setting_of, port_of, is_fresh_at, is_fresh_in, deltas_at, deltas_in}
use Rattle.wrp_node.specs.NodeStep.{stepped}
use Rattle.wrp_node.specs.Telling.{Step, told_by, heard_of, with_news, with_sample, answer_of, number_of, called, is_changed, tell, lease_change, link_change, with_lease, settled}
use Rattle.wrp_port.specs.declared.interface.PortIn.{PortIn}
use Rattle.wrp_port.specs.declared.setting.Setting.{Setting}
use Rattle.wrp_port.specs.History.{is_fresh, link_of}
use Rattle.wrp_port.specs.PortAt.{deltas_of}
use Rattle.wrp_servo.specs.Call.{Call, CallLease, CallLink}
use Rattle.wrp_servo.specs.declared.interface.ServoOut.{ServoOut}
use Rattle.wrp_servo.specs.Told.{lease_told, link_told}

-- ---- what the servo answers leaves the lease and the link of a port as they were

pub heard_fresh : (set : Setting) (o : Option ℤ) (k : ℕ) (news : ChainNews) (told : List PortIn) → is_fresh set (with_sample o k (with_news news told)) ≡ is_fresh set told
heard_fresh set None k Same told = refl
heard_fresh set None k (Started n) told = refl
heard_fresh set None k Ended told = refl
heard_fresh set (Some u) k Same told = refl
heard_fresh set (Some u) k (Started n) told = refl
heard_fresh set (Some u) k Ended told = refl

pub heard_link : (set : Setting) (o : Option ℤ) (k : ℕ) (news : ChainNews) (told : List PortIn) → link_of set (with_sample o k (with_news news told)) ≡ link_of set told
heard_link set None k Same told = refl
heard_link set None k (Started n) told = refl
heard_link set None k Ended told = refl
heard_link set (Some u) k Same told = refl
heard_link set (Some u) k (Started n) told = refl
heard_link set (Some u) k Ended told = refl

pub fresh_where : (b : Bool) (set : Setting) (out : ServoOut) (k : ℕ) (told : List PortIn) → is_fresh set (if b then heard_of out k told else told) ≡ is_fresh set told
fresh_where true set out k told = heard_fresh set out.unwrapped k out.chain told
fresh_where false set out k told = refl

link_where : (b : Bool) (set : Setting) (out : ServoOut) (k : ℕ) (told : List PortIn) → link_of set (if b then heard_of out k told else told) ≡ link_of set told
link_where true set out k told = heard_link set out.unwrapped k out.chain told
link_where false set out k told = refl

pub fresh_by : (o : Option ℕ) (set : Setting) (out : ServoOut) (k : ℕ) (told : ℕ → List PortIn) (q : ℕ) → is_fresh set (told_by o out k told q) ≡ is_fresh set (told q)
fresh_by None set out k told q = refl
fresh_by (Some p) set out k told q = fresh_where (q == p) set out k (told q)

pub link_by : (o : Option ℕ) (set : Setting) (out : ServoOut) (k : ℕ) (told : ℕ → List PortIn) (q : ℕ) → link_of set (told_by o out k told q) ≡ link_of set (told q)
link_by None set out k told q = refl
link_by (Some p) set out k told q = link_where (q == p) set out k (told q)

pub fresh_at : (fixed : NodeSetting) (call : Option Call) (s : Step) (o : Option ℕ) → is_fresh_at fixed.set (tell fixed call s).node o ≡ is_fresh_at fixed.set s.node o
fresh_at fixed call s None = refl
fresh_at fixed call s (Some p) = fresh_by (slave_of fixed.set) (setting_of fixed.set p) (answer_of fixed call s.node.calls) (number_of call) s.node.told p

pub tell_fresh : (fixed : NodeSetting) (call : Option Call) (s : Step) → is_fresh_in fixed.set (tell fixed call s).node ≡ is_fresh_in fixed.set s.node
tell_fresh fixed call s = fresh_at fixed call s (slave_of fixed.set)

pub deltas_by : (fixed : NodeSetting) (call : Option Call) (s : Step) (o : Option ℕ) → deltas_at fixed.set (tell fixed call s).node o ≡ deltas_at fixed.set s.node o
deltas_by fixed call s None = refl
deltas_by fixed call s (Some p) =
    ap (λ (l : LinkAt). deltas_of (port_of fixed.set p).role l) (link_by (slave_of fixed.set) (setting_of fixed.set p) (answer_of fixed call s.node.calls) (number_of call) s.node.told p)

pub tell_deltas : (fixed : NodeSetting) (call : Option Call) (s : Step) → deltas_in fixed.set (tell fixed call s).node ≡ deltas_in fixed.set s.node
tell_deltas fixed call s = deltas_by fixed call s (slave_of fixed.set)

-- ---- the servo knows what it was given

abbrev where_told : Bool → Bool → Call → Option Call
where_told has changes call = if has then (if changes then Some call else None) else None

same_known : (b : Bool) → is_changed b b ≡ false
same_known true = refl
same_known false = refl

lease_stays : (has changes : Bool) (on : Option Deltas) (calls : List Call) → lease_told (called (where_told has changes (CallLink on)) calls) ≡ lease_told calls
lease_stays true true on calls = refl
lease_stays true false on calls = refl
lease_stays false changes on calls = refl

nothing_known : (has changes : Bool) (call : Call) → (has ≡ true → changes ≡ false) → where_told has changes call ≡ None
nothing_known true changes call h = ap (λ (b : Bool). where_told true b call) (h refl)
nothing_known false changes call h = refl

lease_known : (has changes fresh : Bool) (calls : List Call) → has ≡ true → is_changed (lease_told calls) fresh ≡ changes → is_changed (lease_told (called (where_told has changes (CallLease fresh)) calls)) fresh ≡ false
lease_known true true fresh calls has e = same_known fresh
lease_known true false fresh calls has e = e
lease_known false changes fresh calls has e = absurd (grind arith)

link_known : (has changes : Bool) (on : Option Deltas) (calls : List Call) → has ≡ true → is_changed (is_some (link_told calls)) (is_some on) ≡ changes →
    is_changed (is_some (link_told (called (where_told has changes (CallLink on)) calls))) (is_some on) ≡ false
link_known true true on calls has e = same_known (is_some on)
link_known true false on calls has e = e
link_known false changes on calls has e = absurd (grind arith)

settles : (fixed : NodeSetting) (s : Step) → IsSettled fixed (settled fixed s).node
settles fixed s =
    let has : Bool = is_some (slave_of fixed.set) in
    let s1 : Step = with_lease fixed s in
    let fresh : is_fresh_in fixed.set (settled fixed s).node ≡ is_fresh_in fixed.set s.node = tell_fresh fixed (link_change fixed s1.node) s1 ∙ tell_fresh fixed (lease_change fixed s.node) s in
    let on : deltas_in fixed.set (settled fixed s).node ≡ deltas_in fixed.set s1.node = tell_deltas fixed (link_change fixed s1.node) s1 in
    record {
      lease = nothing_known has (is_changed (lease_told (settled fixed s).node.calls) (is_fresh_in fixed.set (settled fixed s).node)) (CallLease (is_fresh_in fixed.set (settled fixed s).node))
          (λ e.
          ap (is_changed (lease_told (settled fixed s).node.calls)) fresh
          ∙ ap (λ (b : Bool). is_changed b (is_fresh_in fixed.set s.node)) (lease_stays has (is_changed (is_some (link_told s1.node.calls)) (is_some (deltas_in fixed.set s1.node))) (deltas_in fixed.set s1.node) s1.node.calls)
          ∙ lease_known has (is_changed (lease_told s.node.calls) (is_fresh_in fixed.set s.node)) (is_fresh_in fixed.set s.node) s.node.calls e refl);
      link = nothing_known has (is_changed (is_some (link_told (settled fixed s).node.calls)) (is_some (deltas_in fixed.set (settled fixed s).node))) (CallLink (deltas_in fixed.set (settled fixed s).node))
          (λ e.
          ap (λ (d : Option Deltas). is_changed (is_some (link_told (settled fixed s).node.calls)) (is_some d)) on
          ∙ link_known has (is_changed (is_some (link_told s1.node.calls)) (is_some (deltas_in fixed.set s1.node))) (deltas_in fixed.set s1.node) s1.node.calls e refl);
    }

pub step_settles : StepSettles
step_settles fixed t n = settles fixed (stepped fixed t.input t.says t.answer n)
