-- What of an input is of account to a step, what clock step it commands, how many messages a port sends, and how ticks count.
use Rattle.std.proofs.Common.{◌≡◌, ◌∙◌, refl, ap, sym, subst, ℕ, suc, ◌+◌, ◌≤◌, ◌^◌, ◌==◌, ◌&&◌, ℤ, pos, ◌-ℤ◌, ◌+ℤ◌, ◌*ℤ◌, unsigned_abs, Bool, true, false, cond, if◌then◌else◌, nat_lt, nat_le, List, [], ◌∷◌, ◌++◌, length, Option, None, Some, is_some, Result, Ok, Err, arith}
use Rattle.std.proofs.lemmas.List.{length-append}
use Rattle.std.proofs.lemmas.Int.{ints, clamps}
use Rattle.std.proofs.lemmas.Bool.{true≢false}
use Rattle.wrp_base.specs.Clock.{period_of, periods_per_second, second}
use Rattle.wrp_base.specs.declared.link.Deltas.{Deltas}
use Rattle.wrp_base.specs.declared.link.LinkState.{LinkState}
use Rattle.wrp_base.specs.declared.link.LinkState.TheVariants.{Idle, Present, SLock, MLock, Locked, Calibration, Calibrated, RespCalib, LinkOn}
use Rattle.wrp_base.specs.declared.link.Role.{Role}
use Rattle.wrp_base.specs.declared.link.Role.TheVariants.{Master, Slave}
use Rattle.wrp_base.specs.declared.link.ServoState.{ServoState}
use Rattle.wrp_base.specs.declared.link.ServoState.TheVariants.{SyncTai, SyncNsec}
use Rattle.wrp_base.specs.declared.measurement.Four.{Four}
use Rattle.wrp_base.specs.declared.message.Body.{Body}
use Rattle.wrp_base.specs.declared.message.Body.TheVariants.{DelayReq}
use Rattle.wrp_base.specs.declared.message.Head.{Head}
use Rattle.wrp_base.specs.declared.message.PtpMsg.{PtpMsg}
use Rattle.wrp_base.specs.declared.message.WrMsg.{WrMsg}
use Rattle.wrp_base.specs.declared.message.WrMsg.TheVariants.{Present as SLAVE_PRESENT, Lock as LOCK, Locked as LOCKED, Calibrate as CALIBRATE, Calibrated as CALIBRATED, ModeOn as WR_MODE_ON}
use Rattle.wrp_base.specs.declared.time.Raw.{Raw}
use Rattle.wrp_base.specs.declared.time.Stamp.{Stamp}
use Rattle.wrp_base.specs.Division.{floor_quotient, trunc_quotient}
use Rattle.wrp_base.specs.Held.{held_within}
use Rattle.wrp_data.specs.declared.reason.Reason.{Reason}
use Rattle.wrp_frame.specs.declared.fault.FrameFault.{FrameFault}
use Rattle.wrp_link.specs.declared.interface.LinkIn.{LinkIn}
use Rattle.wrp_link.specs.declared.interface.LinkIn.TheVariants as link
use Rattle.wrp_link.specs.LinkAt.{LinkAt, Waiting}
use Rattle.wrp_link.specs.Rows.{Row, Moves, Fails, Waits, Resends, CarrierGoes, under, slave_row, master_row, message_row, announce_row, offers, may_leave_idle, tick_row, timer_row, resent}
use Rattle.wrp_link.specs.Table.{sent_by, sends_of as link_sends_of}
use Rattle.wrp_node.specs.declared.interface.Input.{Input}
use Rattle.wrp_node.specs.declared.interface.Input.TheVariants.{Tick, Sample, Frame, Sent, Carrier, Reset}
use Rattle.wrp_node.specs.NodeAt.{NodeSetting, NodeAt, slave_of, setting_of, line_at, link_at, servo_setting_of, is_fresh_in, deltas_in}
use Rattle.wrp_node.specs.NodeStep.{counted_tick, lease_ticked, servo_ticked, message_of, measured_at, measurement_by, used, heard_unless, heard, is_slave_port, handed, stepped, tick_of}
use Rattle.wrp_node.specs.StepLaws.{is_frame, OnlyFramesSay, CommandsAreHeld, SendsAreFew, ticks_by, TicksAreCounted}
use Rattle.wrp_node.specs.Telling.{Step, step_from, tell, answer_of, for_slave, is_changed, newest_step, lease_change, link_change, with_lease, settled}
use Rattle.wrp_port.specs.declared.interface.PortIn.{PortIn}
use Rattle.wrp_port.specs.declared.interface.PortIn.TheVariants.{Msg, Tick as PortTick, Sent as PortSent, Carrier as PortCarrier}
use Rattle.wrp_port.specs.declared.line.Rest.{Rest}
use Rattle.wrp_port.specs.declared.setting.Setting.{Setting}
use Rattle.wrp_port.specs.Hearing.{is_open, early_reason, link_input}
use Rattle.wrp_port.specs.LineAfter.{ticked, announces_on, syncs_on, requests_on}
use Rattle.wrp_port.specs.Messages.{next_id, signals_of, announce_of, sync_of, request_of, follow_up_of}
use Rattle.wrp_port.specs.Outputs.{where_due, scheduled_sends, link_sends, response_to, sends_unless, is_newest, sends_of}
use Rattle.wrp_servo.specs.Call.{Call, CallSample, CallMeasured, CallTick, CallLease, CallLink, CallCarrier, CallReset, ServoSetting, after, run}
use Rattle.wrp_servo.specs.declared.machine.Core.{Core}
use Rattle.wrp_servo.specs.Measuring.{half_period, x_of, is_in, kept_of, is_half, is_below_second, second_cycles, period_cycles, step_by_period, cycles_in, answered_cycles, deltas_in_chain}
use Rattle.wrp_servo.specs.declared.sampling.Heard.{Heard}
use Rattle.wrp_servo.specs.declared.sampling.Heard.TheVariants.{Ignored, Refused, Lost, Followed}
use Rattle.wrp_servo.specs.Sampling.{est_of, heard_as}
use Rattle.wrp_servo.specs.Servo.{news_at, out_by}
use Rattle.wrp_servo.specs.Told.{lease_told, link_told}

-- ---- what is noted beside an input

pub only_frames_say : OnlyFramesSay
only_frames_say fixed n Tick says other y z h = refl
only_frames_say fixed n (Sample number base bits) says other y z h = refl
only_frames_say fixed n (Frame p octets raw sample) says other y z h = absurd (true≢false h)
only_frames_say fixed n (Sent p seq delay stamp) says other y z h = refl
only_frames_say fixed n (Carrier p up own_module) says other y z h = refl
only_frames_say fixed n Reset says other y z h = refl

-- ---- ticks

unless_ticks : (reason : Option Reason) (fixed : NodeSetting) (p : ℕ) (input : PortIn) (y : ℤ) (n : NodeAt) → (heard_unless reason fixed p input y n).node.ticks ≡ n.ticks
unless_ticks None fixed p input y n = refl
unless_ticks (Some reason) fixed p input y n = refl

heard_ticks : (fixed : NodeSetting) (p : ℕ) (says : Result PtpMsg FrameFault) (raw : Raw) (sample : ℕ) (y : ℤ) (n : NodeAt) → (heard fixed p says raw sample y n).node.ticks ≡ n.ticks
heard_ticks fixed p (Err fault) raw sample y n = refl
heard_ticks fixed p (Ok m) raw sample y n =
    unless_ticks (early_reason (setting_of fixed.set p) (link_at fixed.set n p) m) fixed p (message_of fixed n p m raw sample) y n

stepped_ticks : (fixed : NodeSetting) (input : Input) (says : Result PtpMsg FrameFault) (y : ℤ) (n : NodeAt) → (stepped fixed input says y n).node.ticks ≡ ticks_by input n.ticks
stepped_ticks fixed Tick says y n = refl
stepped_ticks fixed (Sample number base bits) says y n = refl
stepped_ticks fixed (Frame p octets raw sample) says y n = heard_ticks fixed p says raw sample y n
stepped_ticks fixed (Sent p seq delay stamp) says y n = refl
stepped_ticks fixed (Carrier p up own_module) says y n = refl
stepped_ticks fixed Reset says y n = refl

pub ticks_are_counted : TicksAreCounted
ticks_are_counted fixed t n = stepped_ticks fixed t.input t.says t.answer n

-- ---- the step of the clock

-- a call that commands no step
abbrev is_calm : Option Call → Bool
is_calm (Some (CallMeasured four y)) = false
is_calm _ = true

out_cycles : (h : Heard) (v : Core) (x : ServoSetting) (w : Core) (c : Call) → (out_by h v (news_at x w c)).cycles ≡ pos 0
out_cycles Ignored v x w c = refl
out_cycles Refused v x w c = refl
out_cycles Lost v x w c = refl
out_cycles Followed v x w c = refl

calm_answer : (fixed : NodeSetting) (call : Option Call) (calls : List Call) → is_calm call ≡ true → (answer_of fixed call calls).cycles ≡ pos 0
calm_answer fixed None calls h = refl
calm_answer fixed (Some (CallSample n base bits)) calls h =
    let x : ServoSetting = servo_setting_of fixed in
    let v : Core = run x calls in
    out_cycles (heard_as v n base bits) (after x v (CallSample n base bits)) x v (CallSample n base bits)
calm_answer fixed (Some (CallMeasured four y)) calls h = absurd (true≢false (sym h))
calm_answer fixed (Some CallTick) calls h = refl
calm_answer fixed (Some (CallLease fresh)) calls h = refl
calm_answer fixed (Some (CallLink on)) calls h = refl
calm_answer fixed (Some (CallCarrier up)) calls h = refl
calm_answer fixed (Some CallReset) calls h = refl

calm_tell : (fixed : NodeSetting) (call : Option Call) (s : Step) → is_calm call ≡ true → (tell fixed call s).cycles ≡ s.cycles
calm_tell fixed call s h = ap (λ (c : ℤ). newest_step c s.cycles) (calm_answer fixed call s.node.calls h)

calm_where : (a b : Bool) (c : Call) → is_calm (Some c) ≡ true → is_calm (if a then (if b then Some c else None) else None) ≡ true
calm_where true true c h = h
calm_where true false c h = refl
calm_where false b c h = refl

calm_one : (a : Bool) (c : Call) → is_calm (Some c) ≡ true → is_calm (if a then Some c else None) ≡ true
calm_one true c h = h
calm_one false c h = refl

lease_cycles : (fixed : NodeSetting) (s : Step) → (with_lease fixed s).cycles ≡ s.cycles
lease_cycles fixed s =
    calm_tell fixed (lease_change fixed s.node) s
    (calm_where (is_some (slave_of fixed.set)) (is_changed (lease_told s.node.calls) (is_fresh_in fixed.set s.node)) (CallLease (is_fresh_in fixed.set s.node)) refl)

pub settled_cycles : (fixed : NodeSetting) (s : Step) → (settled fixed s).cycles ≡ s.cycles
settled_cycles fixed s =
    let leased : Step = with_lease fixed s in
    calm_tell fixed (link_change fixed leased.node) leased
    (calm_where (is_some (slave_of fixed.set)) (is_changed (is_some (link_told leased.node.calls)) (is_some (deltas_in fixed.set leased.node))) (CallLink (deltas_in fixed.set leased.node)) refl)
    ∙ lease_cycles fixed s

-- no input but a frame commands one
calm_stepped : (fixed : NodeSetting) (input : Input) (says : Result PtpMsg FrameFault) (y : ℤ) (n : NodeAt) → is_frame input ≡ false → (stepped fixed input says y n).cycles ≡ pos 0
calm_stepped fixed Tick says y n h =
    calm_tell fixed (for_slave fixed (Some CallTick)) (lease_ticked fixed n) (calm_one (is_some (slave_of fixed.set)) CallTick refl)
    ∙ lease_cycles fixed (step_from (counted_tick fixed n))
calm_stepped fixed (Sample number base bits) says y n h =
    calm_tell fixed (for_slave fixed (Some (CallSample number base bits))) (step_from n) (calm_one (is_some (slave_of fixed.set)) (CallSample number base bits) refl)
calm_stepped fixed (Frame p octets raw sample) says y n h = absurd (true≢false h)
calm_stepped fixed (Sent p seq delay stamp) says y n h = refl
calm_stepped fixed (Carrier p up own_module) says y n h =
    calm_tell fixed (for_slave fixed (if is_slave_port (slave_of fixed.set) p then Some (CallCarrier up) else None)) (handed fixed p (PortCarrier up own_module) n)
    (calm_where (is_some (slave_of fixed.set)) (is_slave_port (slave_of fixed.set) p) (CallCarrier up) refl)
calm_stepped fixed Reset says y n h = refl

-- a number that is held within 2^62
abbrev IsHeld : ℤ → Type 0
IsHeld cycles = unsigned_abs cycles ≤ 2 ^ 62

held_abs : (x : ℤ) → IsHeld (held_within (pos (2 ^ 62)) x)
held_abs x = omega (arith, ints, clamps)

zero_held : IsHeld (pos 0)
zero_held = omega (arith, ints)

held_where : (b : Bool) (x y : ℤ) → IsHeld x → IsHeld y → IsHeld (cond b x y)
held_where true x y h k = h
held_where false x y h k = k

period_held : (v : Core) (est : ℤ) → IsHeld (step_by_period v est)
period_held v est =
    held_where (is_half v est) (pos 0) (period_cycles v.set.clock est) zero_held
    (held_abs (pos 0 -ℤ floor_quotient (est +ℤ half_period v.set.clock) (pos (period_of v.set.clock))))

cycles_held : (v : Core) (est : ℤ) (state : ServoState) → IsHeld (cycles_in v est state)
cycles_held v est SyncTai =
    held_where (is_below_second est) (step_by_period v est) (second_cycles v.set.clock est) (period_held v est)
    (held_abs ((pos 0 -ℤ trunc_quotient est second) *ℤ pos (periods_per_second v.set.clock)))
cycles_held v est SyncNsec = period_held v est
cycles_held v est state = zero_held

answered_held : (lo hi : ℤ) (v : Core) (f : Four) (y : ℤ) (o : Option Deltas) → IsHeld (answered_cycles lo hi v f y o)
answered_held lo hi v f y None = zero_held
answered_held lo hi v f y (Some d) =
    held_where (is_in lo hi (x_of d f)) (cycles_in v (est_of v.phase.u (kept_of f d y)) v.state) (pos 0)
    (cycles_held v (est_of v.phase.u (kept_of f d y)) v.state) zero_held

newest_where : (b : Bool) (x y : ℤ) → IsHeld x → IsHeld y → IsHeld (if b then y else x)
newest_where true x y h k = k
newest_where false x y h k = h

measured_held : (fixed : NodeSetting) (o : Option Four) (y : ℤ) (b : Bool) (s : Step) → IsHeld s.cycles → IsHeld (tell fixed (if b then measurement_by o y else None) s).cycles
measured_held fixed o y false s h = h
measured_held fixed None y true s h = h
measured_held fixed (Some f) y true s h =
    let x : ServoSetting = servo_setting_of fixed in
    let v : Core = run x s.node.calls in
    let told : ℤ = answered_cycles x.lo x.hi v f y (deltas_in_chain v) in
    newest_where (unsigned_abs told == 0) told s.cycles (answered_held x.lo x.hi v f y (deltas_in_chain v)) h

unless_held : (reason : Option Reason) (fixed : NodeSetting) (p : ℕ) (input : PortIn) (y : ℤ) (n : NodeAt) → IsHeld (heard_unless reason fixed p input y n).cycles
unless_held None fixed p input y n = measured_held fixed (measured_at fixed n p input) y (is_some (slave_of fixed.set)) (used fixed p input n) zero_held
unless_held (Some reason) fixed p input y n = zero_held

heard_held : (fixed : NodeSetting) (p : ℕ) (says : Result PtpMsg FrameFault) (raw : Raw) (sample : ℕ) (y : ℤ) (n : NodeAt) → IsHeld (heard fixed p says raw sample y n).cycles
heard_held fixed p (Err fault) raw sample y n = zero_held
heard_held fixed p (Ok m) raw sample y n =
    unless_held (early_reason (setting_of fixed.set p) (link_at fixed.set n p) m) fixed p (message_of fixed n p m raw sample) y n

calm_held : (fixed : NodeSetting) (input : Input) (says : Result PtpMsg FrameFault) (y : ℤ) (n : NodeAt) → is_frame input ≡ false → IsHeld (stepped fixed input says y n).cycles
calm_held fixed input says y n h = subst IsHeld (sym (calm_stepped fixed input says y n h)) zero_held

stepped_held : (fixed : NodeSetting) (input : Input) (says : Result PtpMsg FrameFault) (y : ℤ) (n : NodeAt) → IsHeld (stepped fixed input says y n).cycles
stepped_held fixed Tick says y n = calm_held fixed Tick says y n refl
stepped_held fixed (Sample number base bits) says y n = calm_held fixed (Sample number base bits) says y n refl
stepped_held fixed (Frame p octets raw sample) says y n = heard_held fixed p says raw sample y n
stepped_held fixed (Sent p seq delay stamp) says y n = calm_held fixed (Sent p seq delay stamp) says y n refl
stepped_held fixed (Carrier p up own_module) says y n = calm_held fixed (Carrier p up own_module) says y n refl
stepped_held fixed Reset says y n = calm_held fixed Reset says y n refl

pub commands_are_held : CommandsAreHeld
commands_are_held fixed t n =
    let s : Step = stepped fixed t.input t.says t.answer n in
    record {
      by_frame = λ h. settled_cycles fixed s ∙ calm_stepped fixed t.input t.says t.answer n h;
      held = subst IsHeld (sym (settled_cycles fixed s)) (stepped_held fixed t.input t.says t.answer n);
    }

-- ---- the messages of a port

-- so many at most
abbrev few : {A : Type 0} → ℕ → List A → Bool
few most xs = nat_le (length xs) most

under_few : (b : Bool) (row : Row) → few 2 (sent_by row) ≡ true → few 2 (sent_by (under b row)) ≡ true
under_few true row h = h
under_few false row h = refl

slave_few : (state : LinkState) (m : WrMsg) → few 2 (sent_by (slave_row state m)) ≡ true
slave_few Present LOCK = refl
slave_few Locked (CALIBRATE a b c) = refl
slave_few RespCalib (CALIBRATED tx rx) = refl
slave_few Calibrated WR_MODE_ON = refl
slave_few state m = refl

master_few : (l : LinkAt) (state : LinkState) (m : WrMsg) → few 2 (sent_by (master_row l state m)) ≡ true
master_few l Idle SLAVE_PRESENT = under_few (may_leave_idle l) (Moves MLock (LOCK ∷ [])) refl
master_few l MLock SLAVE_PRESENT = refl
master_few l MLock LOCKED = refl
master_few l Calibrated (CALIBRATE a b c) = refl
master_few l RespCalib (CALIBRATED tx rx) = refl
master_few l LinkOn (CALIBRATED tx rx) = refl
master_few l LinkOn SLAVE_PRESENT = under_few (nat_le l.set.quiet l.on_ticks) Fails refl
master_few l state m = refl

message_few : (l : LinkAt) (role : Role) (m : WrMsg) → few 2 (sent_by (message_row l role m)) ≡ true
message_few l Slave m = slave_few l.state m
message_few l Master m = master_few l l.state m

announce_few : (l : LinkAt) (role : Role) (state : LinkState) (suffix : Option ℕ) → few 2 (sent_by (announce_row l role state suffix)) ≡ true
announce_few l Slave Idle suffix = under_few (offers suffix && ((l.holdoff == 0) && may_leave_idle l)) (Moves Present (SLAVE_PRESENT ∷ [])) refl
announce_few l role state suffix = refl

resent_few : (l : LinkAt) (state : LinkState) → few 2 (resent l state) ≡ true
resent_few l Present = refl
resent_few l MLock = refl
resent_few l Locked = refl
resent_few l Calibrated = refl
resent_few l state = refl

ends_few : (a b : Bool) (l : LinkAt) → few 2 (sent_by (if a then (if b then Resends (resent l l.state) else Fails) else Waits)) ≡ true
ends_few true true l = resent_few l l.state
ends_few true false l = refl
ends_few false b l = refl

timer_few : (l : LinkAt) (w : Option Waiting) → few 2 (sent_by (timer_row l w)) ≡ true
timer_few l (Some w) = ends_few (w.ticks == 1) (nat_lt 0 w.retries) l
timer_few l None = refl

tick_few : (l : LinkAt) (state : LinkState) (locked : Bool) → few 2 (sent_by (tick_row l state locked)) ≡ true
tick_few l Idle locked = refl
tick_few l LinkOn locked = refl
tick_few l SLock true = refl
tick_few l Calibration locked = refl
tick_few l state locked = timer_few l l.waiting

link_few : (l : LinkAt) (input : LinkIn) → few 2 (link_sends_of l input) ≡ true
link_few l (link.Msg m) = under_few l.carrier (message_row l l.role m) (message_few l l.role m)
link_few l (link.Announce suffix) = under_few l.carrier (announce_row l l.role l.state suffix) (announce_few l l.role l.state suffix)
link_few l (link.Tick locked) = under_few l.carrier (tick_row l l.state locked) (tick_few l l.state locked)
link_few l link.CarrierDown = under_few l.carrier CarrierGoes refl
link_few l (link.CarrierUp own_module) = refl

few_of : {A : Type 0} (most : ℕ) (xs : List A) → few most xs ≡ true → length xs ≤ most
few_of most xs h = grind (arith, h)

signals_long : (set : Setting) (seq : ℕ) (ms : List WrMsg) → length (signals_of set seq ms) ≡ length ms
signals_long set seq [] = refl
signals_long set seq (m ∷ ms) = ap suc (signals_long set (next_id seq) ms)

signals_few : (set : Setting) (seq : ℕ) (ms : List WrMsg) → few 2 ms ≡ true → length (signals_of set seq ms) ≤ 2
signals_few set seq ms h = subst (λ k. k ≤ 2) (sym (signals_long set seq ms)) (few_of 2 ms h)

both_few : (a b : ℕ) (xs ys : List PtpMsg) → length xs ≤ a → length ys ≤ b → length (xs ++ ys) ≤ a + b
both_few a b xs ys h k = omega (arith, length-append xs ys, h, k)

due_few : (b : Bool) (m : PtpMsg) → few 1 (where_due b m) ≡ true
due_few true m = refl
due_few false m = refl

scheduled_few : (set : Setting) (role : Role) (line : Rest) (certain : Bool) → length (scheduled_sends set role line certain) ≤ 2
scheduled_few set Master line certain =
    both_few 1 1 (where_due (announces_on line) (announce_of set line.link certain line.ids.announce)) (where_due (syncs_on line) (sync_of set line.ids.sync))
    (few_of {A = PtpMsg} 1 _ (due_few (announces_on line) (announce_of set line.link certain line.ids.announce)))
    (few_of {A = PtpMsg} 1 _ (due_few (syncs_on line) (sync_of set line.ids.sync)))
scheduled_few set Slave line certain =
    let one : length (where_due (requests_on line) (request_of set line.ids.request)) ≤ 1 = few_of {A = PtpMsg} 1 _ (due_few (requests_on line) (request_of set line.ids.request)) in
    omega (arith, one)

by_link_few : (l : LinkAt) (o : Option LinkIn) → few 2 (link_sends l o) ≡ true
by_link_few l None = refl
by_link_few l (Some input) = link_few l input

response_few : (set : Setting) (role : Role) (head : Head) (body : Body) (stamp : Stamp) → few 1 (response_to set role head body stamp) ≡ true
response_few set Master head (DelayReq origin) stamp = refl
response_few set role head body stamp = refl

unless_few : (reason : Option Reason) (set : Setting) (line : Rest) (m : PtpMsg) (stamp : Stamp) → length (sends_unless reason set line m stamp) ≤ 3
unless_few None set line m stamp =
    both_few 2 1 (signals_of set line.ids.signal (link_sends line.link (link_input set.ds.role m.body))) (response_to set set.ds.role m.head m.body stamp)
    (signals_few set line.ids.signal (link_sends line.link (link_input set.ds.role m.body)) (by_link_few line.link (link_input set.ds.role m.body)))
    (few_of {A = PtpMsg} 1 _ (response_few set set.ds.role m.head m.body stamp))
unless_few (Some reason) set line m stamp = few_of {A = PtpMsg} 3 [] refl

sends_few : (set : Setting) (line : Rest) (input : PortIn) → length (sends_of set line input) ≤ 4
sends_few set line (Msg m stamp tick) =
    let three : length (sends_unless (early_reason set line.link m) set line m stamp) ≤ 3 = unless_few (early_reason set line.link m) set line m stamp in
    omega (arith, three)
sends_few set line (PortTick locked certain) =
    both_few 2 2 (signals_of set line.ids.signal (link_sends_of line.link (link.Tick locked))) (scheduled_sends set set.ds.role (ticked set line locked) certain)
    (signals_few set line.ids.signal (link_sends_of line.link (link.Tick locked)) (link_few line.link (link.Tick locked)))
    (scheduled_few set set.ds.role (ticked set line locked) certain)
sends_few set line (PortSent false seq stamp tick) =
    let one : length (where_due (is_newest line.ids.newest_sync seq && is_open line.link) (follow_up_of set seq stamp)) ≤ 1 =
    few_of {A = PtpMsg} 1 _ (due_few (is_newest line.ids.newest_sync seq && is_open line.link) (follow_up_of set seq stamp)) in
    omega (arith, one)
sends_few set line input = few_of {A = PtpMsg} 4 [] refl

no_sends : length {A = PtpMsg} [] ≤ 4
no_sends = few_of {A = PtpMsg} 4 [] refl

only_few : (b : Bool) (ms : List PtpMsg) → length ms ≤ 4 → length (if b then ms else []) ≤ 4
only_few true ms h = h
only_few false ms h = no_sends

unless_node : (reason : Option Reason) (fixed : NodeSetting) (p q : ℕ) (input : PortIn) (y : ℤ) (n : NodeAt) → length ((heard_unless reason fixed p input y n).sends q) ≤ 4
unless_node None fixed p q input y n =
    only_few (q == p) (sends_of (setting_of fixed.set p) (line_at fixed.set n p) input) (sends_few (setting_of fixed.set p) (line_at fixed.set n p) input)
unless_node (Some reason) fixed p q input y n = no_sends

heard_node : (fixed : NodeSetting) (p q : ℕ) (says : Result PtpMsg FrameFault) (raw : Raw) (sample : ℕ) (y : ℤ) (n : NodeAt) → length ((heard fixed p says raw sample y n).sends q) ≤ 4
heard_node fixed p q (Err fault) raw sample y n = no_sends
heard_node fixed p q (Ok m) raw sample y n =
    unless_node (early_reason (setting_of fixed.set p) (link_at fixed.set n p) m) fixed p q (message_of fixed n p m raw sample) y n

handed_few : (fixed : NodeSetting) (p q : ℕ) (input : PortIn) (n : NodeAt) → length ((handed fixed p input n).sends q) ≤ 4
handed_few fixed p q input n =
    only_few (q == p) (sends_of (setting_of fixed.set p) (line_at fixed.set n p) input) (sends_few (setting_of fixed.set p) (line_at fixed.set n p) input)

stepped_few : (fixed : NodeSetting) (input : Input) (says : Result PtpMsg FrameFault) (y : ℤ) (n : NodeAt) (q : ℕ) → length ((stepped fixed input says y n).sends q) ≤ 4
stepped_few fixed Tick says y n q =
    let s : NodeAt = (servo_ticked fixed n).node in
    sends_few (setting_of fixed.set q) (line_at fixed.set s q) (tick_of fixed s)
stepped_few fixed (Sample number base bits) says y n q = no_sends
stepped_few fixed (Frame p octets raw sample) says y n q = heard_node fixed p q says raw sample y n
stepped_few fixed (Sent p seq delay stamp) says y n q = handed_few fixed p q (PortSent delay seq stamp n.ticks) n
stepped_few fixed (Carrier p up own_module) says y n q = handed_few fixed p q (PortCarrier up own_module) n
stepped_few fixed Reset says y n q = no_sends

pub sends_are_few : SendsAreFew
sends_are_few fixed t n q = stepped_few fixed t.input t.says t.answer n q
