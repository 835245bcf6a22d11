-- What a node's step keeps of its slave port and of its servo: what each report to either keeps.
use Rattle.std.proofs.Common.{◌≡◌, ◌∙◌, refl, ap, sym, subst, ℕ, ◌+◌, ℤ, ◌==◌, Bool, true, false, if◌then◌else◌, is_some, List, ◌∷◌, Option, None, Some, Result, Ok, Err}
use Rattle.std.proofs.lemmas.Option.{none-some, same_Some}
use Rattle.wrp_base.specs.declared.link.Deltas.{Deltas}
use Rattle.wrp_base.specs.declared.link.Role.{Role}
use Rattle.wrp_base.specs.declared.link.Role.TheVariants.{Master, Slave}
use Rattle.wrp_base.specs.declared.measurement.Four.{Four}
use Rattle.wrp_base.specs.declared.message.Body.{Body}
use Rattle.wrp_base.specs.declared.message.Head.{Head}
use Rattle.wrp_base.specs.declared.message.PtpMsg.{PtpMsg}
use Rattle.wrp_base.specs.declared.time.Raw.{Raw}
use Rattle.wrp_base.specs.declared.time.Stamp.{Stamp}
use Rattle.wrp_base.proofs.Naturals.{eq_self}
use Rattle.wrp_data.specs.declared.reason.Reason.{Reason}
use Rattle.wrp_exch.specs.Call.{Call as ExchangeCall}
use Rattle.wrp_frame.specs.declared.fault.FrameFault.{FrameFault}
use Rattle.wrp_node.specs.declared.interface.Input.{Input}
use Rattle.wrp_node.specs.declared.interface.Input.TheVariants.{Tick, Sample, Frame, Sent, Carrier, Reset}
use Rattle.wrp_node.specs.NodeAt.{NodeSetting, NodeAt, Taken, deltas_in, is_fresh_in, link_at, port_of, setting_of, servo_setting_of, slave_of}
use Rattle.wrp_node.specs.NodeStep.{counted_tick, handed, heard, heard_unless, is_slave_port, lease_ticked, measured_at, measurement_by, node_step, ports_ticked, servo_ticked, stamp_of, stepped, tick_of, told_slave, used}
use Rattle.wrp_node.specs.Telling.{Step, answer_of, called, heard_of, is_changed, no_answer, number_of, step_from, tell, told_by, with_lease, with_link}
use Rattle.wrp_port.specs.declared.interface.PortIn.{PortIn}
use Rattle.wrp_port.specs.declared.interface.PortIn.TheVariants.{Chain, Msg, Lease, Sample as PortSample, Sent as PortSent, Carrier as PortCarrier, Reset as PortReset}
use Rattle.wrp_port.specs.declared.setting.Setting.{Setting}
use Rattle.wrp_port.specs.Hearing.{early_reason, piece_of}
use Rattle.wrp_port.specs.History.{calls_of, rest_after}
use Rattle.wrp_port.specs.Outputs.{four_by, measured_by, piece_unless}
use Rattle.wrp_servo.specs.Call.{Call, CallSample, CallMeasured, CallTick, CallLease, CallLink, CallCarrier, CallReset, run}
use Rattle.wrp_servo.specs.declared.interface.ServoOut.{ServoOut}
use Rattle.wrp_servo.specs.Servo.{answer_to}
use Rattle.wrp_servo.specs.Told.{lease_told, link_told}

-- of a node: its ticks, what its slave port was given, and its servo's calls
abbrev pub At : (ℕ → List PortIn → List Call → Type 0) → ℕ → NodeAt → Type 0
At P p n = P n.ticks (n.told p) n.calls

-- what a port is given, except a reset and what its servo answers: with the ticks of the node, if it has any
abbrev pub IsPlain : ℕ → PortIn → Type 0
IsPlain ticks (Msg message stamp tick) = tick ≡ ticks
IsPlain ticks (PortSent delay seq stamp tick) = tick ≡ ticks
IsPlain ticks (PortSample number phase) = ⊥
IsPlain ticks (Chain news) = ⊥
IsPlain ticks PortReset = ⊥
IsPlain ticks _ = Unit {0}

-- what the servo is given, except measurements, the link and a reset
abbrev pub IsFree : Call → Type 0
IsFree (CallMeasured four answer) = ⊥
IsFree (CallLink on) = ⊥
IsFree CallReset = ⊥
IsFree _ = Unit {0}

-- what the servo's answer to a call adds to what the port was given
abbrev pub answered : NodeSetting → List PortIn → List Call → Call → List PortIn
answered fixed told calls c = heard_of (answer_to (servo_setting_of fixed) (run (servo_setting_of fixed) calls) c) (number_of (Some c)) told

-- each report to the port or to the servo keeps this, except the reports of the link
pub record KeptByEach (fixed : NodeSetting) (p : ℕ) (P : ℕ → List PortIn → List Call → Type 0) : Type 0 where
  pub port : (ticks : ℕ) (told : List PortIn) (calls : List Call) (input : PortIn) → IsPlain ticks input → P ticks told calls → P ticks (input ∷ told) calls
  pub count : (ticks : ℕ) (told : List PortIn) (calls : List Call) → P ticks told calls → P (ticks + 1) told calls
  pub call : (ticks : ℕ) (told : List PortIn) (calls : List Call) (c : Call) → IsFree c → P ticks told calls → P ticks (answered fixed told calls c) (c ∷ calls)
  pub measured :
      (ticks : ℕ) (told : List PortIn) (calls : List Call) (message : PtpMsg) (stamp : Stamp) (four : Four) (answer : ℤ) →
      measured_by (setting_of fixed.set p) (rest_after (setting_of fixed.set p) told) (calls_of (setting_of fixed.set p) told) (Msg message stamp ticks) ≡ Some four →
      P ticks told calls → P ticks (answered fixed (Msg message stamp ticks ∷ told) calls (CallMeasured four answer)) (CallMeasured four answer ∷ calls)
  pub reset : (ticks : ℕ) (told : List PortIn) (calls : List Call) → P ticks told calls → P 0 (PortReset ∷ told) (CallReset ∷ calls)

-- and so does the report of the link, if it changed
abbrev pub KeptByLink : NodeSetting → (ℕ → List PortIn → List Call → Type 0) → Type 0
KeptByLink fixed P =
    (ticks : ℕ) (told : List PortIn) (calls : List Call) (on : Option Deltas) → is_changed (is_some (link_told calls)) (is_some on) ≡ true → P ticks told calls →
    P ticks (answered fixed told calls (CallLink on)) (CallLink on ∷ calls)

-- the slave port is the only one
abbrev pub IsOnlySlave : NodeSetting → ℕ → Type 0
IsOnlySlave fixed p = (q : ℕ) → (port_of fixed.set q).role ≡ Slave → q ≡ p

-- One report

told_here : (o : Option ℕ) (p : ℕ) (out : ServoOut) (number : ℕ) (told : ℕ → List PortIn) → o ≡ Some p → told_by o out number told p ≡ heard_of out number (told p)
told_here None p out number told e = absurd (none-some p e)
told_here (Some q) p out number told e = ap (λ (b : Bool). if b then heard_of out number (told p) else told p) (ap (λ (k : ℕ). p == k) (same_Some q p e) ∙ eq_self p)

pub tell_some : (P : ℕ → List PortIn → List Call → Type 0) (fixed : NodeSetting) (p : ℕ) (s : Step) (c : Call) → slave_of fixed.set ≡ Some p → P s.node.ticks (answered fixed (s.node.told p) s.node.calls c) (c ∷ s.node.calls) → At P p (tell fixed (Some c) s).node
tell_some P fixed p s c slave h =
    subst (λ (told : List PortIn). P s.node.ticks told (c ∷ s.node.calls))
    (sym (told_here (slave_of fixed.set) p (answer_of fixed (Some c) s.node.calls) (number_of (Some c)) s.node.told slave)) h

pub tell_nothing : (P : ℕ → List PortIn → List Call → Type 0) (fixed : NodeSetting) (p : ℕ) (s : Step) → slave_of fixed.set ≡ Some p → At P p s.node → At P p (tell fixed None s).node
tell_nothing P fixed p s slave h =
    subst (λ (told : List PortIn). P s.node.ticks told s.node.calls) (sym (told_here (slave_of fixed.set) p no_answer 0 s.node.told slave)) h

-- something may be reported, if there is a servo
pub tell_where : (P : ℕ → List PortIn → List Call → Type 0) (fixed : NodeSetting) (p : ℕ) (s : Step) (has changes : Bool) (c : Call) → slave_of fixed.set ≡ Some p →
    (changes ≡ true → At P p s.node → P s.node.ticks (answered fixed (s.node.told p) s.node.calls c) (c ∷ s.node.calls)) → At P p s.node → At P p (tell fixed (if has then (if changes then Some c else None) else None) s).node
tell_where P fixed p s true true c slave f h = tell_some P fixed p s c slave (f refl h)
tell_where P fixed p s true false c slave f h = tell_nothing P fixed p s slave h
tell_where P fixed p s false changes c slave f h = tell_nothing P fixed p s slave h

-- and is reported, if there is one
tell_has : (P : ℕ → List PortIn → List Call → Type 0) (fixed : NodeSetting) (p : ℕ) (s : Step) (has : Bool) (c : Call) → slave_of fixed.set ≡ Some p → P s.node.ticks (answered fixed (s.node.told p) s.node.calls c) (c ∷ s.node.calls) → At P p s.node →
    At P p (tell fixed (if has then Some c else None) s).node
tell_has P fixed p s true c slave f h = tell_some P fixed p s c slave f
tell_has P fixed p s false c slave f h = tell_nothing P fixed p s slave h

-- one port is given something
told_where : (P : ℕ → List PortIn → List Call → Type 0) (ticks : ℕ) (told : List PortIn) (calls : List Call) (input : PortIn) (b : Bool) → (P ticks told calls → P ticks (input ∷ told) calls) → P ticks told calls → P ticks (if b then input ∷ told else told) calls
told_where P ticks told calls input true f h = f h
told_where P ticks told calls input false f h = h

-- A measurement is of the slave port

master_none : (set : Setting) (reason : Option Reason) (role : Role) (head : Head) (body : Body) (stamp : Stamp) (tick : ℕ) (ring : ℕ) (calls : List ExchangeCall) (four : Four) → four_by ring calls (piece_unless reason (piece_of role head body stamp tick)) ≡ Some four → role ≡ Slave
master_none set reason Slave head body stamp tick ring calls four e = refl
master_none set None Master head body stamp tick ring calls four e = absurd (none-some four e)
master_none set (Some r) Master head body stamp tick ring calls four e = absurd (none-some four e)

pub measured_here : (fixed : NodeSetting) (p q : ℕ) (n : NodeAt) (m : PtpMsg) (stamp : Stamp) (tick : ℕ) (four : Four) → IsOnlySlave fixed p → measured_at fixed n q (Msg m stamp tick) ≡ Some four → q ≡ p
measured_here fixed p q n m stamp tick four only e =
    only q (master_none (setting_of fixed.set q) (early_reason (setting_of fixed.set q) (link_at fixed.set n q) m) (port_of fixed.set q).role m.head m.body stamp tick fixed.set.ring (calls_of (setting_of fixed.set q) (n.told q)) four e)

-- Each input

-- each report in a node with this slave port keeps it
record Keeps (fixed : NodeSetting) (p : ℕ) (P : ℕ → List PortIn → List Call → Type 0) : Type 0 where
  each : KeptByEach fixed p P
  slave : slave_of fixed.set ≡ Some p
  only : IsOnlySlave fixed p

measured_to : (P : ℕ → List PortIn → List Call → Type 0) (fixed : NodeSetting) (p q : ℕ) (n : NodeAt) (m : PtpMsg) (stamp : Stamp) (answer : ℤ) (has : Bool) (o : Option Four) → Keeps fixed p P →
    measured_at fixed n q (Msg m stamp n.ticks) ≡ o → At P p n → At P p (tell fixed (if has then measurement_by o answer else None) (used fixed q (Msg m stamp n.ticks) n)).node
measured_to P fixed p q n m stamp answer true (Some four) k is h =
    let here : q ≡ p = measured_here fixed p q n m stamp n.ticks four k.only is in
    let now : (p == q) ≡ true = ap (λ (i : ℕ). p == i) here ∙ eq_self p in
    tell_some P fixed p (used fixed q (Msg m stamp n.ticks) n) (CallMeasured four answer) k.slave
    (subst (λ (b : Bool). P n.ticks (answered fixed (if b then Msg m stamp n.ticks ∷ n.told p else n.told p) n.calls (CallMeasured four answer)) (CallMeasured four answer ∷ n.calls)) (sym now)
    (k.each.measured n.ticks (n.told p) n.calls m stamp four answer (ap (λ (i : ℕ). measured_at fixed n i (Msg m stamp n.ticks)) (sym here) ∙ is) h))
measured_to P fixed p q n m stamp answer true None k is h =
    tell_nothing P fixed p (used fixed q (Msg m stamp n.ticks) n) k.slave (told_where P n.ticks (n.told p) n.calls (Msg m stamp n.ticks) (p == q) (k.each.port n.ticks (n.told p) n.calls (Msg m stamp n.ticks) refl) h)
measured_to P fixed p q n m stamp answer false o k is h =
    tell_nothing P fixed p (used fixed q (Msg m stamp n.ticks) n) k.slave (told_where P n.ticks (n.told p) n.calls (Msg m stamp n.ticks) (p == q) (k.each.port n.ticks (n.told p) n.calls (Msg m stamp n.ticks) refl) h)

heard_to : (P : ℕ → List PortIn → List Call → Type 0) (fixed : NodeSetting) (p q : ℕ) (n : NodeAt) (m : PtpMsg) (stamp : Stamp) (answer : ℤ) (reason : Option Reason) → Keeps fixed p P → At P p n →
    At P p (heard_unless reason fixed q (Msg m stamp n.ticks) answer n).node
heard_to P fixed p q n m stamp answer None k h =
    measured_to P fixed p q n m stamp answer (is_some (slave_of fixed.set)) (measured_at fixed n q (Msg m stamp n.ticks)) k refl h
heard_to P fixed p q n m stamp answer (Some reason) k h = h

frame_to : (P : ℕ → List PortIn → List Call → Type 0) (fixed : NodeSetting) (p q : ℕ) (n : NodeAt) (says : Result PtpMsg FrameFault) (raw : Raw) (sample : ℕ) (answer : ℤ) → Keeps fixed p P → At P p n →
    At P p (heard fixed q says raw sample answer n).node
frame_to P fixed p q n (Err fault) raw sample answer k h = h
frame_to P fixed p q n (Ok m) raw sample answer k h =
    heard_to P fixed p q n m (stamp_of fixed n q raw sample) answer (early_reason (setting_of fixed.set q) (link_at fixed.set n q) m) k h

lease_to : (P : ℕ → List PortIn → List Call → Type 0) (fixed : NodeSetting) (p : ℕ) (s : Step) → Keeps fixed p P → At P p s.node → At P p (with_lease fixed s).node
lease_to P fixed p s k h =
    let fresh : Bool = is_fresh_in fixed.set s.node in
    tell_where P fixed p s (is_some (slave_of fixed.set)) (is_changed (lease_told s.node.calls) fresh) (CallLease fresh) k.slave (λ e. k.each.call s.node.ticks (s.node.told p) s.node.calls (CallLease fresh) tt) h

slave_told : (o : Option ℕ) (p : ℕ) (input : PortIn) (told : ℕ → List PortIn) → o ≡ Some p → told_slave o input told p ≡ input ∷ told p
slave_told None p input told e = absurd (none-some p e)
slave_told (Some q) p input told e = ap (λ (b : Bool). if b then input ∷ told p else told p) (ap (λ (k : ℕ). p == k) (same_Some q p e) ∙ eq_self p)

counted_to : (P : ℕ → List PortIn → List Call → Type 0) (fixed : NodeSetting) (p : ℕ) (n : NodeAt) → Keeps fixed p P → At P p n → At P p (counted_tick fixed n)
counted_to P fixed p n k h =
    subst (λ (told : List PortIn). P (n.ticks + 1) told n.calls) (sym (slave_told (slave_of fixed.set) p Lease n.told k.slave))
    (k.each.port (n.ticks + 1) (n.told p) n.calls Lease tt (k.each.count n.ticks (n.told p) n.calls h))

tick_to : (P : ℕ → List PortIn → List Call → Type 0) (fixed : NodeSetting) (p : ℕ) (n : NodeAt) → Keeps fixed p P → At P p n → At P p (ports_ticked fixed (servo_ticked fixed n)).node
tick_to P fixed p n k h =
    let leased : At P p (lease_ticked fixed n).node = lease_to P fixed p (step_from (counted_tick fixed n)) k (counted_to P fixed p n k h) in
    let s : Step = lease_ticked fixed n in
    let t : Step = servo_ticked fixed n in
    let ticked : At P p t.node = tell_has P fixed p s (is_some (slave_of fixed.set)) CallTick k.slave (k.each.call s.node.ticks (s.node.told p) s.node.calls CallTick tt leased) leased in
    k.each.port t.node.ticks (t.node.told p) t.node.calls (tick_of fixed t.node) tt ticked

handed_to : (P : ℕ → List PortIn → List Call → Type 0) (fixed : NodeSetting) (p q : ℕ) (n : NodeAt) (input : PortIn) → Keeps fixed p P → IsPlain n.ticks input → At P p n → At P p (handed fixed q input n).node
handed_to P fixed p q n input k plain h = told_where P n.ticks (n.told p) n.calls input (p == q) (k.each.port n.ticks (n.told p) n.calls input plain) h

reset_to : (P : ℕ → List PortIn → List Call → Type 0) (fixed : NodeSetting) (p : ℕ) (n : NodeAt) (has : Bool) → Keeps fixed p P → has ≡ true → At P p n → P 0 (PortReset ∷ n.told p) (called (if has then Some CallReset else None) n.calls)
reset_to P fixed p n true k e h = k.each.reset n.ticks (n.told p) n.calls h
reset_to P fixed p n false k e h = absurd (let f : false ≡ true = e in cc)

stepped_to : (P : ℕ → List PortIn → List Call → Type 0) (fixed : NodeSetting) (p : ℕ) (n : NodeAt) (input : Input) (says : Result PtpMsg FrameFault) (answer : ℤ) → Keeps fixed p P → At P p n →
    At P p (stepped fixed input says answer n).node
stepped_to P fixed p n Tick says answer k h = tick_to P fixed p n k h
stepped_to P fixed p n (Sample number base bits) says answer k h =
    tell_has P fixed p (step_from n) (is_some (slave_of fixed.set)) (CallSample number base bits) k.slave (k.each.call n.ticks (n.told p) n.calls (CallSample number base bits) tt h) h
stepped_to P fixed p n (Frame q octets raw sample) says answer k h = frame_to P fixed p q n says raw sample answer k h
stepped_to P fixed p n (Sent q seq delay stamp) says answer k h = handed_to P fixed p q n (PortSent delay seq stamp n.ticks) k refl h
stepped_to P fixed p n (Carrier q up own_module) says answer k h =
    let s : Step = handed fixed q (PortCarrier up own_module) n in
    tell_where P fixed p s (is_some (slave_of fixed.set)) (is_slave_port (slave_of fixed.set) q) (CallCarrier up) k.slave (λ e. k.each.call s.node.ticks (s.node.told p) s.node.calls (CallCarrier up) tt)
    (handed_to P fixed p q n (PortCarrier up own_module) k tt h)
stepped_to P fixed p n Reset says answer k h = reset_to P fixed p n (is_some (slave_of fixed.set)) k (ap is_some k.slave) h

-- up to the news of the lease
pub leased_keeps : (P : ℕ → List PortIn → List Call → Type 0) (fixed : NodeSetting) (p : ℕ) → KeptByEach fixed p P → slave_of fixed.set ≡ Some p → IsOnlySlave fixed p → (t : Taken) (n : NodeAt) → At P p n → At P p (with_lease fixed (stepped fixed t.input t.says t.answer n)).node
leased_keeps P fixed p k slave only t n h =
    let keeps : Keeps fixed p P = record { each = k; slave = slave; only = only } in
    lease_to P fixed p (stepped fixed t.input t.says t.answer n) keeps (stepped_to P fixed p n t.input t.says t.answer keeps h)

pub link_keeps : (P : ℕ → List PortIn → List Call → Type 0) (fixed : NodeSetting) (p : ℕ) (s : Step) → KeptByLink fixed P → slave_of fixed.set ≡ Some p → At P p s.node → At P p (with_link fixed s).node
link_keeps P fixed p s k slave h =
    let on : Option Deltas = deltas_in fixed.set s.node in
    tell_where P fixed p s (is_some (slave_of fixed.set)) (is_changed (is_some (link_told s.node.calls)) (is_some on)) (CallLink on) slave (λ e. k s.node.ticks (s.node.told p) s.node.calls on e) h

-- a whole step
pub step_keeps_each : (P : ℕ → List PortIn → List Call → Type 0) (fixed : NodeSetting) (p : ℕ) → KeptByEach fixed p P → KeptByLink fixed P → slave_of fixed.set ≡ Some p → IsOnlySlave fixed p → (t : Taken) (n : NodeAt) → At P p n → At P p (node_step fixed t n).node
step_keeps_each P fixed p k l slave only t n h =
    link_keeps P fixed p (with_lease fixed (stepped fixed t.input t.says t.answer n)) l slave (leased_keeps P fixed p k slave only t n h)
