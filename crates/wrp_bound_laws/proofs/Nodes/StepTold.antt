-- What an input of a node gives one of its ports: what it brings by itself, and what the servo's answers say of its
-- chain.
use Rattle.std.proofs.Common.{◌≡◌, refl, sym, subst, ℕ, ℤ, ◌==◌, Bool, true, false, if◌then◌else◌, is_some, List, ◌∷◌, Option, None, Some, Result, Ok, Err, arith}
use Rattle.std.proofs.lemmas.Bool.{eqb-true}
use Rattle.wrp_base.specs.declared.link.Module.{Module}
use Rattle.wrp_base.specs.declared.measurement.ChainNews.{ChainNews}
use Rattle.wrp_base.specs.declared.measurement.ChainNews.TheVariants.{Same, Started, Ended}
use Rattle.wrp_base.specs.declared.measurement.Four.{Four}
use Rattle.wrp_base.specs.declared.message.PtpMsg.{PtpMsg}
use Rattle.wrp_base.specs.declared.time.Raw.{Raw}
use Rattle.wrp_base.specs.declared.time.Stamp.{Stamp}
use Rattle.wrp_base.specs.Message.{is_port}
use Rattle.wrp_data.specs.declared.reason.Reason.{Reason}
use Rattle.wrp_data.specs.declared.reason.Reason.TheVariants.{Domain, NotForUs, Quiet, Stranger}
use Rattle.wrp_frame.specs.declared.fault.FrameFault.{FrameFault}
use Rattle.wrp_node.specs.declared.interface.Input.{Input}
use Rattle.wrp_node.specs.declared.interface.Input.TheVariants.{Tick, Sample as SampleInput, Frame, Sent, Carrier, Reset}
use Rattle.wrp_node.specs.NodeAt.{NodeSetting, NodeAt, Taken, link_at, setting_of, slave_of}
use Rattle.wrp_node.specs.NodeAt.{deltas_in, is_fresh_in}
use Rattle.wrp_node.specs.NodeStep.{carried, counted_tick, handed, heard, heard_unless, is_slave_port, lease_ticked, measured_at, measurement_by, message_of, node_step, ports_ticked, servo_ticked, stepped, tick_of, told_slave, used}
use Rattle.wrp_node.specs.Telling.{Step, answer_of, for_slave, heard_of, is_changed, lease_change, link_change, number_of, settled, step_from, tell, told_by, with_lease, with_news, with_sample}
use Rattle.wrp_port.specs.declared.interface.PortIn.{PortIn}
use Rattle.wrp_port.specs.declared.interface.PortIn.TheVariants.{Chain, Lease, Sample as PortSample, Sent as PortSent, Carrier as PortCarrier, Reset as PortReset}
use Rattle.wrp_port.specs.Hearing.{early_reason, is_addressed, is_open}
use Rattle.wrp_servo.specs.declared.interface.ServoOut.{ServoOut}
use Rattle.wrp_servo.specs.Call.{Call, CallSample, CallMeasured, CallTick, CallLease, CallLink, CallCarrier, CallReset}
use Rattle.wrp_servo.specs.Told.{lease_told, link_told}

-- What is given of the chain

-- news of the chain keep it
abbrev pub KeptByNews : (List PortIn → Type 0) → Type 0
KeptByNews P = (told : List PortIn) (news : ChainNews) → P told → P (Chain news ∷ told)

news_kept : (P : List PortIn → Type 0) → KeptByNews P → (news : ChainNews) (told : List PortIn) → P told → P (with_news news told)
news_kept P k Same told h = h
news_kept P k (Started n) told h = k told (Started n) h
news_kept P k Ended told h = k told Ended h

no_sample_kept : (P : List PortIn → Type 0) (o : Option ℤ) (number : ℕ) (told : List PortIn) → o ≡ None → P told → P (with_sample o number told)
no_sample_kept P None number told e h = h
no_sample_kept P (Some u) number told e h = absurd cc

out_kept : (P : List PortIn → Type 0) → KeptByNews P → (out : ServoOut) (number : ℕ) (told : List PortIn) → out.unwrapped ≡ None → P told → P (heard_of out number told)
out_kept P k out number told e h = no_sample_kept P out.unwrapped number (with_news out.chain told) e (news_kept P k out.chain told h)

-- and with a sample
pub out_told : (P : List PortIn → Type 0) → KeptByNews P → ((told : List PortIn) (number : ℕ) (phase : ℤ) → P told → P (PortSample number phase ∷ told)) → (out : ServoOut) (number : ℕ) (told : List PortIn) → P told → P (heard_of out number told)
out_told P k f out number told h = with_it out.unwrapped
  where
    with_it : (o : Option ℤ) → P (with_sample o number (with_news out.chain told))
    with_it None = news_kept P k out.chain told h
    with_it (Some u) = f (with_news out.chain told) number u (news_kept P k out.chain told h)

told_where : (P : List PortIn → Type 0) (b : Bool) (new old : List PortIn) → (b ≡ true → P new) → P old → P (if b then new else old)
told_where P true new old f h = f refl
told_where P false new old f h = h

told_by_kept : (P : List PortIn → Type 0) (o : Option ℕ) (out : ServoOut) (number : ℕ) (told : ℕ → List PortIn) (p : ℕ) → P (heard_of out number (told p)) → P (told p) → P (told_by o out number told p)
told_by_kept P None out number told p new old = old
told_by_kept P (Some q) out number told p new old = told_where P (p == q) (heard_of out number (told p)) (told p) (λ e. new) old

-- calls of the servo that bring no sample
abbrev IsNoSampleCall : Option Call → Type 0
IsNoSampleCall (Some (CallSample number base bits)) = ⊥
IsNoSampleCall _ = Unit {0}

nothing_unwrapped : (fixed : NodeSetting) (call : Option Call) (calls : List Call) → IsNoSampleCall call → (answer_of fixed call calls).unwrapped ≡ None
nothing_unwrapped fixed None calls h = refl
nothing_unwrapped fixed (Some (CallSample number base bits)) calls h = absurd h
nothing_unwrapped fixed (Some (CallMeasured four answer)) calls h = refl
nothing_unwrapped fixed (Some CallTick) calls h = refl
nothing_unwrapped fixed (Some (CallLease fresh)) calls h = refl
nothing_unwrapped fixed (Some (CallLink on)) calls h = refl
nothing_unwrapped fixed (Some (CallCarrier up)) calls h = refl
nothing_unwrapped fixed (Some CallReset) calls h = refl

tell_kept : (P : List PortIn → Type 0) → KeptByNews P → (fixed : NodeSetting) (call : Option Call) (s : Step) (p : ℕ) → IsNoSampleCall call → P (s.node.told p) → P ((tell fixed call s).node.told p)
tell_kept P k fixed call s p none h =
    told_by_kept P (slave_of fixed.set) (answer_of fixed call s.node.calls) (number_of call) s.node.told p
    (out_kept P k (answer_of fixed call s.node.calls) (number_of call) (s.node.told p) (nothing_unwrapped fixed call s.node.calls none) h) h

no_sample_if : (b : Bool) (call : Option Call) → IsNoSampleCall call → IsNoSampleCall (if b then call else None)
no_sample_if true call h = h
no_sample_if false call h = tt

-- news of lease and link
lease_kept : (P : List PortIn → Type 0) → KeptByNews P → (fixed : NodeSetting) (s : Step) (p : ℕ) → P (s.node.told p) → P ((with_lease fixed s).node.told p)
lease_kept P k fixed s p h =
    tell_kept P k fixed (lease_change fixed s.node) s p
    (no_sample_if (is_some (slave_of fixed.set)) (if is_changed (lease_told s.node.calls) (is_fresh_in fixed.set s.node) then Some (CallLease (is_fresh_in fixed.set s.node)) else None)
    (no_sample_if (is_changed (lease_told s.node.calls) (is_fresh_in fixed.set s.node)) (Some (CallLease (is_fresh_in fixed.set s.node))) tt)) h

pub settled_told : (P : List PortIn → Type 0) → KeptByNews P → (fixed : NodeSetting) (s : Step) (p : ℕ) → P (s.node.told p) → P ((settled fixed s).node.told p)
settled_told P k fixed s p h =
    let w : Step = with_lease fixed s in
    tell_kept P k fixed (link_change fixed w.node) w p
    (no_sample_if (is_some (slave_of fixed.set)) (if is_changed (is_some (link_told w.node.calls)) (is_some (deltas_in fixed.set w.node)) then Some (CallLink (deltas_in fixed.set w.node)) else None)
    (no_sample_if (is_changed (is_some (link_told w.node.calls)) (is_some (deltas_in fixed.set w.node))) (Some (CallLink (deltas_in fixed.set w.node))) tt))
    (lease_kept P k fixed s p h)

-- Inputs

-- a tick: what is given before the port's tick
slave_told : (P : List PortIn → Type 0) → ((told : List PortIn) → P told → P (Lease ∷ told)) → (o : Option ℕ) (told : ℕ → List PortIn) (p : ℕ) → P (told p) → P (told_slave o Lease told p)
slave_told P k None told p h = h
slave_told P k (Some q) told p h = told_where P (p == q) (Lease ∷ told p) (told p) (λ e. k (told p) h) h

pub before_tick : (P : List PortIn → Type 0) → KeptByNews P → ((told : List PortIn) → P told → P (Lease ∷ told)) → (fixed : NodeSetting) (n : NodeAt) (p : ℕ) → P (n.told p) → P ((servo_ticked fixed n).node.told p)
before_tick P k l fixed n p h =
    tell_kept P k fixed (for_slave fixed (Some CallTick)) (lease_ticked fixed n) p (no_sample_if (is_some (slave_of fixed.set)) (Some CallTick) tt)
    (lease_kept P k fixed (step_from (counted_tick fixed n)) p (slave_told P l (slave_of fixed.set) n.told p h))

-- and after it
pub tick_told : (P : List PortIn → Type 0) → KeptByNews P → (fixed : NodeSetting) (t : Taken) (n : NodeAt) (p : ℕ) → t.input ≡ Tick → P (tick_of fixed (servo_ticked fixed n).node ∷ (servo_ticked fixed n).node.told p) → P ((node_step fixed t n).node.told p)
tick_told P k fixed t n p is h =
    let stepped_tick : P ((settled fixed (stepped fixed Tick t.says t.answer n)).node.told p) = settled_told P k fixed (ports_ticked fixed (servo_ticked fixed n)) p h in
    subst (λ (i : Input). P ((settled fixed (stepped fixed i t.says t.answer n)).node.told p)) (sym is) stepped_tick

-- a sample
pub sample_told : (P : List PortIn → Type 0) → KeptByNews P → (fixed : NodeSetting) (says : Result PtpMsg FrameFault) (answer : ℤ) (n : NodeAt) (p number base bits : ℕ) →
    P (heard_of (answer_of fixed (Some (CallSample number base bits)) n.calls) number (n.told p)) → P (n.told p) →
    P ((node_step fixed (record { input = SampleInput number base bits; says = says; answer = answer }) n).node.told p)
sample_told P k fixed says answer n p number base bits new old =
    settled_told P k fixed (stepped fixed (SampleInput number base bits) says answer n) p (sampled (is_some (slave_of fixed.set)))
  where
    sampled : (b : Bool) → P ((tell fixed (if b then Some (CallSample number base bits) else None) (step_from n)).node.told p)
    sampled true = told_by_kept P (slave_of fixed.set) (answer_of fixed (Some (CallSample number base bits)) n.calls) number n.told p new old
    sampled false = tell_kept P k fixed None (step_from n) p tt old

-- at the slave port it is heard there
pub sample_heard : (P : List PortIn → Type 0) → KeptByNews P → (fixed : NodeSetting) (says : Result PtpMsg FrameFault) (answer : ℤ) (n : NodeAt) (p number base bits : ℕ) → slave_of fixed.set ≡ Some p →
    P (heard_of (answer_of fixed (Some (CallSample number base bits)) n.calls) number (n.told p)) → P ((node_step fixed (record { input = SampleInput number base bits; says = says; answer = answer }) n).node.told p)
sample_heard P k fixed says answer n p number base bits slave new =
    settled_told P k fixed (stepped fixed (SampleInput number base bits) says answer n) p
    (subst (λ o. P (told_by o (answer_of fixed (if is_some o then Some (CallSample number base bits) else None) n.calls) (number_of (if is_some o then Some (CallSample number base bits) else None)) n.told p)) (sym slave)
    (subst (λ b. P (if b then heard_of (answer_of fixed (Some (CallSample number base bits)) n.calls) number (n.told p) else n.told p)) (sym (same p)) new))
  where
    same : (m : ℕ) → (m == m) ≡ true
    same m = grind (arith)

-- a frame
unless_told : (P : List PortIn → Type 0) → KeptByNews P → (fixed : NodeSetting) (n : NodeAt) (p q : ℕ) (input : PortIn) (answer : ℤ) (reason : Option Reason) → ((p == q) ≡ true → reason ≡ None → P (input ∷ n.told p)) → P (n.told p) →
    P ((heard_unless reason fixed q input answer n).node.told p)
unless_told P k fixed n p q input answer None h old =
    tell_kept P k fixed (for_slave fixed (measurement_by (measured_at fixed n q input) answer)) (used fixed q input n) p
    (no_sample_if (is_some (slave_of fixed.set)) (measurement_by (measured_at fixed n q input) answer) (no_sample_by (measured_at fixed n q input)))
    (told_where P (p == q) (input ∷ n.told p) (n.told p) (λ e. h e refl) old)
  where
    no_sample_by : (o : Option Four) → IsNoSampleCall (measurement_by o answer)
    no_sample_by None = tt
    no_sample_by (Some four) = tt
unless_told P k fixed n p q input answer (Some reason) h old = old

-- where a port takes a message
abbrev pub Hears : NodeSetting → NodeAt → ℕ → PtpMsg → Type 0
Hears fixed n p m = early_reason (setting_of fixed.set p) (link_at fixed.set n p) m ≡ None

pub frame_told : (P : List PortIn → Type 0) → KeptByNews P → (fixed : NodeSetting) (n : NodeAt) (p q : ℕ) (says : Result PtpMsg FrameFault) (raw : Raw) (sample : ℕ) (answer : ℤ) →
    ((m : PtpMsg) → says ≡ Ok m → p ≡ q → Hears fixed n p m → P (message_of fixed n p m raw sample ∷ n.told p)) → P (n.told p) → P ((settled fixed (heard fixed q says raw sample answer n)).node.told p)
frame_told P k fixed n p q (Err fault) raw sample answer h old = settled_told P k fixed (heard fixed q (Err fault) raw sample answer n) p old
frame_told P k fixed n p q (Ok m) raw sample answer h old =
    settled_told P k fixed (heard fixed q (Ok m) raw sample answer n) p
    (unless_told P k fixed n p q (message_of fixed n q m raw sample) answer (early_reason (setting_of fixed.set q) (link_at fixed.set n q) m)
    (λ e none.
    let same : p ≡ q = eqb-true p q e in
    subst (λ i. P (message_of fixed n i m raw sample ∷ n.told p)) same
    (h m refl same (subst (λ i. Hears fixed n i m) (sym same) none))) old)

-- a sending that is reported
pub sent_told : (P : List PortIn → Type 0) → KeptByNews P → (fixed : NodeSetting) (n : NodeAt) (p q seq : ℕ) (delay : Bool) (stamp : Stamp) → (p ≡ q → P (PortSent delay seq stamp n.ticks ∷ n.told p)) → P (n.told p) →
    P ((settled fixed (handed fixed q (PortSent delay seq stamp n.ticks) n)).node.told p)
sent_told P k fixed n p q seq delay stamp h old =
    settled_told P k fixed (handed fixed q (PortSent delay seq stamp n.ticks) n) p
    (told_where P (p == q) (PortSent delay seq stamp n.ticks ∷ n.told p) (n.told p) (λ e. h (eqb-true p q e)) old)

-- a carrier
pub carrier_told : (P : List PortIn → Type 0) → KeptByNews P → (fixed : NodeSetting) (n : NodeAt) (p q : ℕ) (up : Bool) (own_module : Option Module) → P (PortCarrier up own_module ∷ n.told p) → P (n.told p) →
    P ((settled fixed (carried fixed q up own_module n)).node.told p)
carrier_told P k fixed n p q up own_module new old =
    settled_told P k fixed (carried fixed q up own_module n) p
    (tell_kept P k fixed (for_slave fixed (if is_slave_port (slave_of fixed.set) q then Some (CallCarrier up) else None)) (handed fixed q (PortCarrier up own_module) n) p
    (no_sample_if (is_some (slave_of fixed.set)) (if is_slave_port (slave_of fixed.set) q then Some (CallCarrier up) else None) (no_sample_if (is_slave_port (slave_of fixed.set) q) (Some (CallCarrier up)) tt))
    (told_where P (p == q) (PortCarrier up own_module ∷ n.told p) (n.told p) (λ e. new) old))

-- carriers and resets
abbrev pub IsTurn : Input → Type 0
IsTurn (Carrier q up own_module) = Unit {0}
IsTurn Reset = Unit {0}
IsTurn _ = ⊥

-- they keep it
pub record KeptByTurns (P : List PortIn → Type 0) : Type 0 where
  pub carrier : (told : List PortIn) (up : Bool) (own_module : Option Module) → P told → P (PortCarrier up own_module ∷ told)
  pub reset : (told : List PortIn) → P told → P (PortReset ∷ told)

pub turn_told : (P : List PortIn → Type 0) → KeptByNews P → KeptByTurns P → (fixed : NodeSetting) (t : Taken) (n : NodeAt) (p : ℕ) → IsTurn t.input → P (n.told p) → P ((node_step fixed t n).node.told p)
turn_told P k turns fixed t n p is old = by_input t.input is
  where
    by_input : (input : Input) → IsTurn input → P ((settled fixed (stepped fixed input t.says t.answer n)).node.told p)
    by_input (Carrier q up own_module) h = carrier_told P k fixed n p q up own_module (turns.carrier (n.told p) up own_module old) old
    by_input Reset h = settled_told P k fixed (stepped fixed Reset t.says t.answer n) p (turns.reset (n.told p) old)
    by_input Tick h = absurd h
    by_input (SampleInput number base bits) h = absurd h
    by_input (Frame q octets raw sample) h = absurd h
    by_input (Sent q seq delay stamp) h = absurd h

-- What a port takes

not_none : (reason : Reason) → Some reason ≡ None → ⊥
not_none reason e = cc

heard_by : (domain source addressed takes : Bool) → (if domain then (if source then (if addressed then (if takes then None else Some Quiet) else Some NotForUs) else Some Stranger) else Some Domain) ≡ None → (source ≡ true) × (takes ≡ true)
heard_by true true true true e = (refl, refl)
heard_by true true true false e = absurd (not_none Quiet e)
heard_by true true false takes e = absurd (not_none NotForUs e)
heard_by true false addressed takes e = absurd (not_none Stranger e)
heard_by false source addressed takes e = absurd (not_none Domain e)

-- comes from its peer, and it takes messages then
pub heard_of_peer : (fixed : NodeSetting) (n : NodeAt) (p : ℕ) (m : PtpMsg) → Hears fixed n p m → (is_port m.head.source (setting_of fixed.set p).ds.peer ≡ true) × (is_open (link_at fixed.set n p) ≡ true)
heard_of_peer fixed n p m h =
    heard_by (m.head.domain == (setting_of fixed.set p).own.domain) (is_port m.head.source (setting_of fixed.set p).ds.peer) (is_addressed (setting_of fixed.set p).ds m.body) (is_open (link_at fixed.set n p)) h
