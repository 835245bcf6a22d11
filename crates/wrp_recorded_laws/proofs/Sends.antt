-- Each Sync and each Delay_Req that a node sends has a sequenceId of two octets.
use Rattle.std.proofs.Common.{ℕ, ℤ, ◌==◌, ◌<◌, ◌%◌, ◌^◌, Bool, true, false, if◌then◌else◌, List, [], ◌∷◌, ◌++◌, Option, None, Some, Result, Ok, Err, arith}
use Rattle.std.specs.List.{AllByRecursion}
use Rattle.wrp_base.specs.declared.link.Role.{Role}
use Rattle.wrp_base.specs.declared.link.Role.TheVariants.{Master, Slave}
use Rattle.wrp_base.specs.declared.message.Body.{Body}
use Rattle.wrp_base.specs.declared.message.Body.TheVariants.{Sync, DelayReq, FollowUp, DelayResp, Announce, Signal}
use Rattle.wrp_base.specs.declared.message.Head.{Head}
use Rattle.wrp_base.specs.declared.message.PtpMsg.{PtpMsg}
use Rattle.wrp_base.specs.declared.message.WrMsg.{WrMsg}
use Rattle.wrp_base.specs.declared.time.Stamp.{Stamp}
use Rattle.wrp_data.specs.declared.reason.Reason.{Reason}
use Rattle.wrp_frame.specs.declared.fault.FrameFault.{FrameFault}
use Rattle.wrp_link.specs.declared.interface.LinkIn.TheVariants as link
use Rattle.wrp_link.specs.Table.{sends_of as link_sends_of}
use Rattle.wrp_node.specs.declared.interface.Input.{Input}
use Rattle.wrp_node.specs.declared.interface.Input.TheVariants as inputs
use Rattle.wrp_node.specs.NodeAt.{NodeSetting, NodeAt, Taken, line_at, link_at, setting_of}
use Rattle.wrp_node.specs.NodeStep.{heard_unless, message_of, node_step, servo_ticked, stepped, tick_of}
use Rattle.wrp_port.specs.declared.interface.PortIn.{PortIn}
use Rattle.wrp_port.specs.declared.interface.PortIn.TheVariants.{Msg, Lease, Tick, Sent, Carrier, Sample, Chain, Reset}
use Rattle.wrp_port.specs.declared.setting.Setting.{Setting}
use Rattle.wrp_port.specs.Hearing.{early_reason, link_input}
use Rattle.wrp_port.specs.History.{rest_after}
use Rattle.wrp_port.specs.LineAfter.{announces_on, requests_on, syncs_on, ticked}
use Rattle.wrp_port.specs.Messages.{announce_of, next_id, request_of, signals_of, sync_of}
use Rattle.wrp_port.specs.Outputs.{link_sends, response_to, scheduled_sends, sends_of, sends_unless, where_due}

-- the sequenceId of a message whose sending is reported to its node
abbrev pub HasShortId : Body → ℕ → Type 0
HasShortId (Sync origin) seq = seq < 2 ^ 16
HasShortId (DelayReq origin) seq = seq < 2 ^ 16
HasShortId _ seq = Unit {0}

abbrev pub IsShort : PtpMsg → Type 0
IsShort message = HasShortId message.body message.head.seq

abbrev pub AreShort : List PtpMsg → Type 0
AreShort messages = AllByRecursion IsShort messages

-- Lists

all_and : (xs ys : List PtpMsg) → AreShort xs → AreShort ys → AreShort (xs ++ ys)
all_and [] ys h k = k
all_and (x ∷ xs) ys h k = (h.0, all_and xs ys h.1 k)

where_short : (b : Bool) (message : PtpMsg) → IsShort message → AreShort (where_due b message)
where_short true message h = (h, tt)
where_short false message h = tt

only_short : (b : Bool) (messages : List PtpMsg) → AreShort messages → AreShort (if b then messages else [])
only_short true messages h = h
only_short false messages h = tt

-- A port

signals_short : (set : Setting) (seq : ℕ) (messages : List WrMsg) → AreShort (signals_of set seq messages)
signals_short set seq [] = tt
signals_short set seq (m ∷ ms) = (tt, signals_short set (next_id seq) ms)

response_short : (set : Setting) (role : Role) (head : Head) (body : Body) (stamp : Stamp) → AreShort (response_to set role head body stamp)
response_short set Slave head body stamp = tt
response_short set Master head (DelayReq origin) stamp = (tt, tt)
response_short set Master head (Sync origin) stamp = tt
response_short set Master head (FollowUp precise) stamp = tt
response_short set Master head (DelayResp receive requesting) stamp = tt
response_short set Master head (Announce origin utc p1 quality p2 gm steps source suffix) stamp = tt
response_short set Master head (Signal target message) stamp = tt

round_short : (n : ℕ) → n % 65536 < 2 ^ 16
round_short n = omega arith

scheduled_short : (set : Setting) (told : List PortIn) (role : Role) (locked certain : Bool) → AreShort (scheduled_sends set role (ticked set (rest_after set told) locked) certain)
scheduled_short set told Master locked certain =
    let line = ticked set (rest_after set told) locked in
    all_and (where_due (announces_on line) (announce_of set line.link certain line.ids.announce)) (where_due (syncs_on line) (sync_of set line.ids.sync))
    (where_short (announces_on line) (announce_of set line.link certain line.ids.announce) tt)
    (where_short (syncs_on line) (sync_of set line.ids.sync) (round_short _))
scheduled_short set told Slave locked certain =
    let line = ticked set (rest_after set told) locked in
    where_short (requests_on line) (request_of set line.ids.request) (round_short _)

heard_short : (set : Setting) (told : List PortIn) (message : PtpMsg) (stamp : Stamp) (o : Option Reason) → AreShort (sends_unless o set (rest_after set told) message stamp)
heard_short set told message stamp (Some reason) = tt
heard_short set told message stamp None =
    let line = rest_after set told in
    all_and (signals_of set line.ids.signal (link_sends line.link (link_input set.ds.role message.body))) (response_to set set.ds.role message.head message.body stamp)
    (signals_short set line.ids.signal (link_sends line.link (link_input set.ds.role message.body))) (response_short set set.ds.role message.head message.body stamp)

port_short : (set : Setting) (told : List PortIn) (input : PortIn) → AreShort (sends_of set (rest_after set told) input)
port_short set told (Msg message stamp tick) = heard_short set told message stamp (early_reason set (rest_after set told).link message)
port_short set told (Tick locked certain) =
    let line = rest_after set told in
    all_and (signals_of set line.ids.signal (link_sends_of line.link (link.Tick locked))) (scheduled_sends set set.ds.role (ticked set line locked) certain)
    (signals_short set line.ids.signal (link_sends_of line.link (link.Tick locked))) (scheduled_short set told set.ds.role locked certain)
port_short set told (Sent false seq stamp tick) = where_short _ _ tt
port_short set told (Sent true seq stamp tick) = tt
port_short set told Lease = tt
port_short set told (Carrier up own_module) = tt
port_short set told (Sample number phase) = tt
port_short set told (Chain news) = tt
port_short set told Reset = tt

-- A node

reason_short : (fixed : NodeSetting) (q : ℕ) (input : PortIn) (answer : ℤ) (n : NodeAt) (p : ℕ) (o : Option Reason) → AreShort ((heard_unless o fixed q input answer n).sends p)
reason_short fixed q input answer n p None = only_short (p == q) (sends_of (setting_of fixed.set q) (line_at fixed.set n q) input) (port_short (setting_of fixed.set q) (n.told q) input)
reason_short fixed q input answer n p (Some reason) = tt

stepped_short : (fixed : NodeSetting) (input : Input) (says : Result PtpMsg FrameFault) (answer : ℤ) (n : NodeAt) (p : ℕ) → AreShort ((stepped fixed input says answer n).sends p)
stepped_short fixed inputs.Tick says answer n p =
    let before : NodeAt = (servo_ticked fixed n).node in
    port_short (setting_of fixed.set p) (before.told p) (tick_of fixed before)
stepped_short fixed (inputs.Sample number base bits) says answer n p = tt
stepped_short fixed (inputs.Frame q octets raw sample) (Err fault) answer n p = tt
stepped_short fixed (inputs.Frame q octets raw sample) (Ok message) answer n p =
    reason_short fixed q (message_of fixed n q message raw sample) answer n p (early_reason (setting_of fixed.set q) (link_at fixed.set n q) message)
stepped_short fixed (inputs.Sent q seq delay stamp) says answer n p =
    only_short (p == q) (sends_of (setting_of fixed.set q) (line_at fixed.set n q) (Sent delay seq stamp n.ticks)) (port_short (setting_of fixed.set q) (n.told q) (Sent delay seq stamp n.ticks))
stepped_short fixed (inputs.Carrier q up own_module) says answer n p =
    only_short (p == q) (sends_of (setting_of fixed.set q) (line_at fixed.set n q) (Carrier up own_module)) (port_short (setting_of fixed.set q) (n.told q) (Carrier up own_module))
stepped_short fixed inputs.Reset says answer n p = tt

pub node_short : (fixed : NodeSetting) (t : Taken) (n : NodeAt) (p : ℕ) → AreShort ((node_step fixed t n).sends p)
node_short fixed t n p = stepped_short fixed t.input t.says t.answer n p
