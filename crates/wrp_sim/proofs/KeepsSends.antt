-- A port without a carrier sends nothing, whatever its node is given; and no port sends at a carrier or a reset.
use Rattle.std.proofs.Common.{◌≡◌, ◌∙◌, refl, ap, subst, ℕ, ℤ, ◌==◌, ◌&&◌, Bool, true, false, if◌then◌else◌, List, [], ◌++◌, Option, None, Some, Result, Ok, Err}
use Rattle.std.proofs.lemmas.Bool.{eqb-true}
use Rattle.wrp_base.specs.declared.link.LinkWord.TheVariants.{Down}
use Rattle.wrp_base.specs.declared.link.Role.{Role}
use Rattle.wrp_base.specs.declared.link.Role.TheVariants.{Master, Slave}
use Rattle.wrp_base.specs.declared.message.PtpMsg.{PtpMsg}
use Rattle.wrp_base.specs.declared.time.Raw.{Raw}
use Rattle.wrp_base.specs.declared.time.Stamp.{Stamp}
use Rattle.wrp_base.specs.Message.{is_port}
use Rattle.wrp_data.specs.declared.reason.Reason.{Reason}
use Rattle.wrp_data.specs.declared.reason.Reason.TheVariants.{Domain, Stranger, NotForUs, Quiet}
use Rattle.wrp_frame.specs.declared.fault.FrameFault.{FrameFault}
use Rattle.wrp_link.specs.declared.interface.LinkIn.TheVariants as link
use Rattle.wrp_link.specs.LinkAt.{LinkAt}
use Rattle.wrp_link.specs.Rows.{tick_row, under}
use Rattle.wrp_link.specs.Table.{after, by_row, sent_by, word_in}
use Rattle.wrp_node.specs.declared.interface.Input.{Input}
use Rattle.wrp_node.specs.declared.interface.Input.TheVariants.{Tick, Sample, Frame, Sent, Carrier, Reset}
use Rattle.wrp_node.specs.NodeAt.{Taken, NodeSetting, NodeAt, setting_of, line_at, link_at, locked_of, certain_of}
use Rattle.wrp_node.specs.NodeStep.{heard, heard_unless, node_step, servo_ticked, stamp_of, stepped, tick_of}
use Rattle.wrp_node.proofs.Links.{before_ports}
use Rattle.wrp_port.specs.declared.interface.PortIn.TheVariants.{Msg, Sent as PortSent}
use Rattle.wrp_port.specs.declared.line.Rest.{Rest}
use Rattle.wrp_port.specs.declared.setting.Setting.{Setting}
use Rattle.wrp_port.specs.Hearing.{early_reason, is_addressed, is_open, is_open_word}
use Rattle.wrp_port.specs.LineAfter.{ticked}
use Rattle.wrp_port.specs.Messages.{announce_of, follow_up_of, request_of, signals_of, sync_of}
use Rattle.wrp_port.specs.Outputs.{is_newest, scheduled_sends, sends_of, sends_unless, where_due}

-- A port's line without a carrier

dark_open : (l : LinkAt) → l.carrier ≡ false → is_open l ≡ false
dark_open l e = ap (λ b. is_open_word (if b then word_in l.state l.quiet else Down)) e

dark_stays : (l : LinkAt) (locked : Bool) → l.carrier ≡ false → after l (link.Tick locked) ≡ l
dark_stays l locked e = ap (λ b. by_row l (under b (tick_row l l.state locked))) e

shut_schedule : (set : Setting) (role : Role) (line : Rest) (certain : Bool) → is_open line.link ≡ false → scheduled_sends set role line certain ≡ []
shut_schedule set Master line certain e =
    ap
    (λ b. where_due (b && (line.turns.announce == 0)) (announce_of set line.link certain line.ids.announce)
    ++ where_due (b && (line.turns.sync == 0)) (sync_of set line.ids.sync)) e
shut_schedule set Slave line certain e = ap (λ b. where_due (b && (line.turns.delay == 0)) (request_of set line.ids.request)) e

dark_tick : (set : Setting) (line : Rest) (locked certain : Bool) → line.link.carrier ≡ false →
    signals_of set line.ids.signal (sent_by (under line.link.carrier (tick_row line.link line.link.state locked))) ++ scheduled_sends set set.ds.role (ticked set line locked) certain ≡ []
dark_tick set line locked certain e =
    let shut : is_open (ticked set line locked).link ≡ false = ap is_open (dark_stays line.link locked e) ∙ dark_open line.link e in
    ap (λ b. signals_of set line.ids.signal (sent_by (under b (tick_row line.link line.link.state locked))) ++ scheduled_sends set set.ds.role (ticked set line locked) certain) e
    ∙ shut_schedule set set.ds.role (ticked set line locked) certain shut

-- a message finds the port shut, if it is for it at all
any_reason : (set : Setting) (line : Rest) (m : PtpMsg) (stamp : Stamp) (a b c : Bool) →
    sends_unless (if a then (if b then (if c then (if false then None else Some Quiet) else Some NotForUs) else Some Stranger) else Some Domain) set line m stamp ≡ []
any_reason set line m stamp true true true = refl
any_reason set line m stamp true true false = refl
any_reason set line m stamp true false c = refl
any_reason set line m stamp false b c = refl

dark_heard : (set : Setting) (line : Rest) (m : PtpMsg) (stamp : Stamp) → is_open line.link ≡ false → sends_unless (early_reason set line.link m) set line m stamp ≡ []
dark_heard set line m stamp e =
    ap
    (λ d. sends_unless
    (if m.head.domain == set.own.domain then (if is_port m.head.source set.ds.peer then (if is_addressed set.ds m.body then (if d then None else Some Quiet) else Some NotForUs) else Some Stranger) else Some Domain)
    set line m stamp) e
    ∙ any_reason set line m stamp (m.head.domain == set.own.domain) (is_port m.head.source set.ds.peer) (is_addressed set.ds m.body)

not_due : (b : Bool) (m : PtpMsg) → where_due (b && false) m ≡ []
not_due true m = refl
not_due false m = refl

dark_sent : (set : Setting) (line : Rest) (delay : Bool) (seq : ℕ) (stamp : Stamp) (tick : ℕ) → is_open line.link ≡ false → sends_of set line (PortSent delay seq stamp tick) ≡ []
dark_sent set line true seq stamp tick e = refl
dark_sent set line false seq stamp tick e =
    ap (λ b. where_due (is_newest line.ids.newest_sync seq && b) (follow_up_of set seq stamp)) e
    ∙ not_due (is_newest line.ids.newest_sync seq) (follow_up_of set seq stamp)

-- A node

only_here : (b : Bool) (sends : List PtpMsg) → (b ≡ true → sends ≡ []) → (if b then sends else []) ≡ []
only_here true sends h = h refl
only_here false sends h = refl

-- the link of the port in question, if it is this port
same_carrier : (fixed : NodeSetting) (n : NodeAt) (p q : ℕ) → (p == q) ≡ true → (link_at fixed.set n p).carrier ≡ false → (link_at fixed.set n q).carrier ≡ false
same_carrier fixed n p q b e = subst (λ x. (link_at fixed.set n x).carrier ≡ false) (eqb-true p q b) e

unless_dark : (fixed : NodeSetting) (n : NodeAt) (p q : ℕ) (m : PtpMsg) (stamp : Stamp) (y : ℤ) (o : Option Reason) → (link_at fixed.set n p).carrier ≡ false →
    (heard_unless o fixed q (Msg m stamp n.ticks) y n).sends p ≡ []
unless_dark fixed n p q m stamp y None e =
    only_here (p == q) (sends_of (setting_of fixed.set q) (line_at fixed.set n q) (Msg m stamp n.ticks))
    (λ b. dark_heard (setting_of fixed.set q) (line_at fixed.set n q) m stamp (dark_open (link_at fixed.set n q) (same_carrier fixed n p q b e)))
unless_dark fixed n p q m stamp y (Some reason) e = refl

frame_dark : (fixed : NodeSetting) (n : NodeAt) (p q : ℕ) (says : Result PtpMsg FrameFault) (raw : Raw) (sample : ℕ) (y : ℤ) → (link_at fixed.set n p).carrier ≡ false → (heard fixed q says raw sample y n).sends p ≡ []
frame_dark fixed n p q (Err fault) raw sample y e = refl
frame_dark fixed n p q (Ok m) raw sample y e =
    unless_dark fixed n p q m (stamp_of fixed n q raw sample) y (early_reason (setting_of fixed.set q) (link_at fixed.set n q) m) e

tick_dark : (fixed : NodeSetting) (n : NodeAt) (p : ℕ) → (link_at fixed.set n p).carrier ≡ false →
    sends_of (setting_of fixed.set p) (line_at fixed.set (servo_ticked fixed n).node p) (tick_of fixed (servo_ticked fixed n).node) ≡ []
tick_dark fixed n p e =
    let s : NodeAt = (servo_ticked fixed n).node in
    dark_tick (setting_of fixed.set p) (line_at fixed.set s p) (locked_of fixed s) (certain_of fixed s) (ap (λ (l : LinkAt). l.carrier) (before_ports fixed n p) ∙ e)

stepped_dark : (fixed : NodeSetting) (input : Input) (says : Result PtpMsg FrameFault) (y : ℤ) (n : NodeAt) (p : ℕ) → (link_at fixed.set n p).carrier ≡ false → (stepped fixed input says y n).sends p ≡ []
stepped_dark fixed Tick says y n p e = tick_dark fixed n p e
stepped_dark fixed (Sample number base bits) says y n p e = refl
stepped_dark fixed (Frame q octets raw sample) says y n p e = frame_dark fixed n p q says raw sample y e
stepped_dark fixed (Sent q seq delay stamp) says y n p e =
    only_here (p == q) (sends_of (setting_of fixed.set q) (line_at fixed.set n q) (PortSent delay seq stamp n.ticks))
    (λ b. dark_sent (setting_of fixed.set q) (line_at fixed.set n q) delay seq stamp n.ticks (dark_open (link_at fixed.set n q) (same_carrier fixed n p q b e)))
stepped_dark fixed (Carrier q up own_module) says y n p e = only_here (p == q) [] (λ b. refl)
stepped_dark fixed Reset says y n p e = refl

-- a port without a carrier sends nothing
pub dark_sends : (fixed : NodeSetting) (t : Taken) (n : NodeAt) (p : ℕ) → (link_at fixed.set n p).carrier ≡ false → (node_step fixed t n).sends p ≡ []
dark_sends fixed t n p e = stepped_dark fixed t.input t.says t.answer n p e

-- inputs at which no port sends
abbrev pub IsSilent : Input → Type 0
IsSilent (Carrier p up own_module) = Unit {0}
IsSilent Reset = Unit {0}
IsSilent _ = ⊥

silent_stepped : (fixed : NodeSetting) (input : Input) (says : Result PtpMsg FrameFault) (y : ℤ) (n : NodeAt) (p : ℕ) → IsSilent input → (stepped fixed input says y n).sends p ≡ []
silent_stepped fixed Tick says y n p h = absurd h
silent_stepped fixed (Sample number base bits) says y n p h = absurd h
silent_stepped fixed (Frame q octets raw sample) says y n p h = absurd h
silent_stepped fixed (Sent q seq delay stamp) says y n p h = absurd h
silent_stepped fixed (Carrier q up own_module) says y n p h = only_here (p == q) [] (λ b. refl)
silent_stepped fixed Reset says y n p h = refl

pub silent_sends : (fixed : NodeSetting) (t : Taken) (n : NodeAt) (p : ℕ) → IsSilent t.input → (node_step fixed t n).sends p ≡ []
silent_sends fixed t n p h = silent_stepped fixed t.input t.says t.answer n p h
