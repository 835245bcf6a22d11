-- What holds of each message that a step of a node sends, from what holds of each kind of message at each input.
use Rattle.std.proofs.Common.{◌≡◌, refl, sym, subst, ℕ, ℤ, ◌==◌, ◌&&◌, Bool, true, false, if◌then◌else◌, List, [], ◌∷◌, ◌++◌, Option, None, Some, Result, Ok, Err}
use Rattle.std.proofs.lemmas.Bool.{eqb-true}
use Rattle.std.specs.List.{AllByRecursion}
use Rattle.wrp_base.specs.declared.link.Role.{Role}
use Rattle.wrp_base.specs.declared.link.Role.TheVariants.{Master, Slave}
use Rattle.wrp_base.specs.declared.message.Body.{Body}
use Rattle.wrp_base.specs.declared.message.Body.TheVariants.{Sync, DelayReq, FollowUp, DelayResp, Announce, Signal}
use Rattle.wrp_base.specs.declared.message.Head.{Head}
use Rattle.wrp_base.specs.declared.message.PtpMsg.{PtpMsg}
use Rattle.wrp_base.specs.declared.message.WrMsg.{WrMsg}
use Rattle.wrp_base.specs.declared.time.Raw.{Raw}
use Rattle.wrp_base.specs.declared.time.Stamp.{Stamp}
use Rattle.wrp_data.specs.declared.reason.Reason.{Reason}
use Rattle.wrp_frame.specs.declared.fault.FrameFault.{FrameFault}
use Rattle.wrp_node.specs.declared.interface.Input.{Input}
use Rattle.wrp_node.specs.declared.interface.Input.TheVariants.{Tick, Sample, Frame, Sent, Carrier, Reset}
use Rattle.wrp_node.specs.NodeAt.{NodeSetting, NodeAt, Taken, certain_of, line_at, link_at, locked_of, setting_of}
use Rattle.wrp_node.specs.NodeStep.{heard, heard_unless, node_step, servo_ticked, stamp_of, stepped}
use Rattle.wrp_port.specs.declared.interface.PortIn.TheVariants.{Msg, Tick as PortTick, Sent as PortSent}
use Rattle.wrp_port.specs.declared.line.Rest.{Rest}
use Rattle.wrp_port.specs.declared.setting.Setting.{Setting}
use Rattle.wrp_port.specs.Hearing.{early_reason, is_open, link_input}
use Rattle.wrp_port.specs.LineAfter.{announces_on, requests_on, syncs_on, ticked}
use Rattle.wrp_port.specs.Messages.{announce_of, follow_up_of, next_id, request_of, response_of, signals_of, sync_of, signal_of}
use Rattle.wrp_port.specs.Outputs.{is_newest, link_sends, response_to, scheduled_sends, sends_of, sends_unless, where_due}
use Rattle.wrp_bound_laws.specs.SequenceIds.{IsTimed}
use Rattle.wrp_bound_laws.proofs.Nodes.StepTold.{Hears}

abbrev pub IsRequest : Body → Type 0
IsRequest body = IsTimed Slave body

-- Lists of messages

abbrev Each : (PtpMsg → Type 0) → List PtpMsg → Type 0
Each P ms = AllByRecursion P ms

pub both_each : (P : PtpMsg → Type 0) (xs ys : List PtpMsg) → Each P xs → Each P ys → Each P (xs ++ ys)
both_each P [] ys h k = k
both_each P (x ∷ xs) ys h k = (h.0, both_each P xs ys h.1 k)

pub due_each : (P : PtpMsg → Type 0) (due : Bool) (m : PtpMsg) → (due ≡ true → P m) → Each P (where_due due m)
due_each P true m h = (h refl, tt)
due_each P false m h = tt

there_each : (P : PtpMsg → Type 0) (b : Bool) (ms : List PtpMsg) → (b ≡ true → Each P ms) → Each P (if b then ms else [])
there_each P true ms h = h refl
there_each P false ms h = tt

-- White Rabbit messages
abbrev Signals : (PtpMsg → Type 0) → Setting → Type 0
Signals P set = (seq : ℕ) (m : WrMsg) → P (signal_of set seq m)

pub signals_each : (P : PtpMsg → Type 0) (set : Setting) → Signals P set → (seq : ℕ) (ms : List WrMsg) → Each P (signals_of set seq ms)
signals_each P set signals seq [] = tt
signals_each P set signals seq (m ∷ ms) = (signals seq m, signals_each P set signals (next_id seq) ms)

-- A port

-- what the schedule sends on a line
abbrev pub ScheduledAll : (PtpMsg → Type 0) → Setting → Role → Rest → Bool → Type 0
ScheduledAll P set Master line certain =
    (announces_on line ≡ true → P (announce_of set line.link certain line.ids.announce)) × (syncs_on line ≡ true → P (sync_of set line.ids.sync))
ScheduledAll P set Slave line certain = requests_on line ≡ true → P (request_of set line.ids.request)

scheduled_each : (P : PtpMsg → Type 0) (set : Setting) (role : Role) (line : Rest) (certain : Bool) → ScheduledAll P set role line certain → Each P (scheduled_sends set role line certain)
scheduled_each P set Master line certain h =
    both_each P (where_due (announces_on line) (announce_of set line.link certain line.ids.announce)) (where_due (syncs_on line) (sync_of set line.ids.sync))
    (due_each P (announces_on line) (announce_of set line.link certain line.ids.announce) h.0) (due_each P (syncs_on line) (sync_of set line.ids.sync) h.1)
scheduled_each P set Slave line certain h = due_each P (requests_on line) (request_of set line.ids.request) h

tick_each : (P : PtpMsg → Type 0) (set : Setting) (line : Rest) (locked certain : Bool) → Signals P set → ScheduledAll P set set.ds.role (ticked set line locked) certain → Each P (sends_of set line (PortTick locked certain))
tick_each P set line locked certain signals h =
    both_each P (signals_of set line.ids.signal _) (scheduled_sends set set.ds.role (ticked set line locked) certain)
    (signals_each P set signals line.ids.signal _) (scheduled_each P set set.ds.role (ticked set line locked) certain h)

response_each : (P : PtpMsg → Type 0) (set : Setting) (role : Role) (head : Head) (body : Body) (stamp : Stamp) → (IsRequest body → P (response_of set head stamp)) → Each P (response_to set role head body stamp)
response_each P set Master head (DelayReq origin) stamp h = (h tt, tt)
response_each P set Master head (Sync origin) stamp h = tt
response_each P set Master head (FollowUp precise) stamp h = tt
response_each P set Master head (DelayResp receive requesting) stamp h = tt
response_each P set Master head (Announce origin utc p1 quality p2 gm steps source suffix) stamp h = tt
response_each P set Master head (Signal target message) stamp h = tt
response_each P set Slave head body stamp h = tt

heard_each : (P : PtpMsg → Type 0) (set : Setting) (line : Rest) (m : PtpMsg) (stamp : Stamp) (reason : Option Reason) → Signals P set → (IsRequest m.body → P (response_of set m.head stamp)) → Each P (sends_unless reason set line m stamp)
heard_each P set line m stamp None signals h =
    both_each P (signals_of set line.ids.signal (link_sends line.link (link_input set.ds.role m.body))) (response_to set set.ds.role m.head m.body stamp)
    (signals_each P set signals line.ids.signal (link_sends line.link (link_input set.ds.role m.body))) (response_each P set set.ds.role m.head m.body stamp h)
heard_each P set line m stamp (Some reason) signals h = tt

sent_each : (P : PtpMsg → Type 0) (set : Setting) (line : Rest) (delay : Bool) (seq : ℕ) (stamp : Stamp) (tick : ℕ) → (delay ≡ false → P (follow_up_of set seq stamp)) → Each P (sends_of set line (PortSent delay seq stamp tick))
sent_each P set line true seq stamp tick h = tt
sent_each P set line false seq stamp tick h = due_each P (is_newest line.ids.newest_sync seq && is_open line.link) (follow_up_of set seq stamp) (λ e. h refl)

-- An input of a node

-- what it sends at a port: at a tick what is scheduled, for a Delay_Req that the port takes a Delay_Resp, for the sending of a
-- Sync a Follow_Up
abbrev pub SentBy : (PtpMsg → Type 0) → NodeSetting → NodeAt → ℕ → Input → Result PtpMsg FrameFault → Type 0
SentBy P fixed n p Tick says =
    ScheduledAll P (setting_of fixed.set p) (setting_of fixed.set p).ds.role
    (ticked (setting_of fixed.set p) (line_at fixed.set (servo_ticked fixed n).node p) (locked_of fixed (servo_ticked fixed n).node)) (certain_of fixed (servo_ticked fixed n).node)
SentBy P fixed n p (Frame q octets raw sample) says = (m : PtpMsg) → says ≡ Ok m → p ≡ q → Hears fixed n p m → IsRequest m.body → P (response_of (setting_of fixed.set p) m.head (stamp_of fixed n p raw sample))
SentBy P fixed n p (Sent q seq delay stamp) says = delay ≡ false → p ≡ q → P (follow_up_of (setting_of fixed.set p) seq stamp)
SentBy P fixed n p _ says = Unit {0}

unless_each : (P : PtpMsg → Type 0) (fixed : NodeSetting) (n : NodeAt) (q : ℕ) (m : PtpMsg) (stamp : Stamp) (tick : ℕ) (answer : ℤ) (p : ℕ) (reason : Option Reason) →
    ((p == q) ≡ true → Signals P (setting_of fixed.set q)) → ((p == q) ≡ true → reason ≡ None → IsRequest m.body → P (response_of (setting_of fixed.set q) m.head stamp)) → Each P ((heard_unless reason fixed q (Msg m stamp tick) answer n).sends p)
unless_each P fixed n q m stamp tick answer p None signals h =
    there_each P (p == q) (sends_of (setting_of fixed.set q) (line_at fixed.set n q) (Msg m stamp tick))
    (λ e. heard_each P (setting_of fixed.set q) (line_at fixed.set n q) m stamp (early_reason (setting_of fixed.set q) (line_at fixed.set n q).link m) (signals e) (h e refl))
unless_each P fixed n q m stamp tick answer p (Some reason) signals h = tt

frame_each : (P : PtpMsg → Type 0) (fixed : NodeSetting) (n : NodeAt) (q : ℕ) (says : Result PtpMsg FrameFault) (raw : Raw) (sample : ℕ) (answer : ℤ) (p : ℕ) → Signals P (setting_of fixed.set p) →
    ((m : PtpMsg) → says ≡ Ok m → p ≡ q → Hears fixed n p m → IsRequest m.body → P (response_of (setting_of fixed.set p) m.head (stamp_of fixed n p raw sample))) → Each P ((heard fixed q says raw sample answer n).sends p)
frame_each P fixed n q (Err fault) raw sample answer p signals h = tt
frame_each P fixed n q (Ok m) raw sample answer p signals h =
    unless_each P fixed n q m (stamp_of fixed n q raw sample) n.ticks answer p (early_reason (setting_of fixed.set q) (link_at fixed.set n q) m)
    (λ e. subst (λ i. Signals P (setting_of fixed.set i)) (eqb-true p q e) signals)
    (λ e none request.
    let same : p ≡ q = eqb-true p q e in
    subst (λ i. P (response_of (setting_of fixed.set i) m.head (stamp_of fixed n i raw sample))) same (h m refl same (subst (λ i. Hears fixed n i m) (sym same) none) request))

stepped_each : (P : PtpMsg → Type 0) (fixed : NodeSetting) (n : NodeAt) (input : Input) (says : Result PtpMsg FrameFault) (answer : ℤ) (p : ℕ) → Signals P (setting_of fixed.set p) → SentBy P fixed n p input says → Each P ((stepped fixed input says answer n).sends p)
stepped_each P fixed n Tick says answer p signals h =
    tick_each P (setting_of fixed.set p) (line_at fixed.set (servo_ticked fixed n).node p) (locked_of fixed (servo_ticked fixed n).node) (certain_of fixed (servo_ticked fixed n).node) signals h
stepped_each P fixed n (Sample number base bits) says answer p signals h = tt
stepped_each P fixed n (Frame q octets raw sample) says answer p signals h = frame_each P fixed n q says raw sample answer p signals h
stepped_each P fixed n (Sent q seq delay stamp) says answer p signals h =
    there_each P (p == q) (sends_of (setting_of fixed.set q) (line_at fixed.set n q) (PortSent delay seq stamp n.ticks))
    (λ e. sent_each P (setting_of fixed.set q) (line_at fixed.set n q) delay seq stamp n.ticks (λ d. subst (λ i. P (follow_up_of (setting_of fixed.set i) seq stamp)) (eqb-true p q e) (h d (eqb-true p q e))))
stepped_each P fixed n (Carrier q true own_module) says answer p signals h = there_each P (p == q) [] (λ e. tt)
stepped_each P fixed n (Carrier q false own_module) says answer p signals h = there_each P (p == q) [] (λ e. tt)
stepped_each P fixed n Reset says answer p signals h = tt

pub step_each : (P : PtpMsg → Type 0) (fixed : NodeSetting) (t : Taken) (n : NodeAt) (p : ℕ) → Signals P (setting_of fixed.set p) → SentBy P fixed n p t.input t.says → Each P ((node_step fixed t n).sends p)
step_each P fixed t n p signals h = stepped_each P fixed n t.input t.says t.answer p signals h
