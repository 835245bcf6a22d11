-- What a step sends: the Signaling messages of a port are the ones that its link sends, and the frames that are put out
-- are the ones that the ports send.
use Rattle.std.proofs.Common.{◌≡◌, ◌≢◌, ◌∙◌, refl, ap, ap₂, sym, ℕ, suc, zero, ℤ, ◌==◌, Bool, true, false, if◌then◌else◌, ◌&&◌, ◌||◌, ◌%◌, unsigned_abs, List, [], ◌∷◌, ◌++◌, map, flat_map, Option, None, Some, Result, Ok, Err, arith}
use Rattle.std.proofs.lemmas.Bool.{eqb-true}
use Rattle.std.proofs.lemmas.List.{append-nil}
use Rattle.std.specs.List.{AllByRecursion, list_any}
use Rattle.wrp_base.specs.declared.link.LinkWord.{LinkWord}
use Rattle.wrp_base.specs.declared.link.Role.{Role}
use Rattle.wrp_base.specs.declared.link.Role.TheVariants.{Master, Slave}
use Rattle.wrp_base.specs.declared.measurement.ChainNews.{ChainNews}
use Rattle.wrp_base.specs.declared.measurement.ChainNews.TheVariants.{Same, Started, Ended}
use Rattle.wrp_base.specs.declared.message.Body.{Body}
use Rattle.wrp_base.specs.declared.message.Body.TheVariants.{DelayReq}
use Rattle.wrp_base.specs.declared.message.Head.{Head}
use Rattle.wrp_base.specs.declared.message.PtpMsg.{PtpMsg}
use Rattle.wrp_base.specs.declared.message.WrMsg.{WrMsg}
use Rattle.wrp_base.specs.declared.time.Raw.{Raw}
use Rattle.wrp_base.specs.declared.time.Stamp.{Stamp}
use Rattle.wrp_data.specs.declared.datasets.PortDs.{PortDs}
use Rattle.wrp_data.specs.declared.reason.Reason.{Reason}
use Rattle.wrp_frame.specs.declared.fault.FrameFault.{FrameFault}
use Rattle.wrp_frame.specs.SentOctets.{octets_of}
use Rattle.wrp_link.specs.declared.interface.LinkIn.{LinkIn}
use Rattle.wrp_link.specs.declared.interface.LinkIn.TheVariants as link
use Rattle.wrp_link.specs.LinkAt.{LinkAt}
use Rattle.wrp_link.specs.Rows.{under, CarrierGoes}
use Rattle.wrp_link.specs.Table.{sent_by, word_of}
use Rattle.wrp_node.specs.declared.interface.Input.{Input}
use Rattle.wrp_node.specs.declared.interface.Input.TheVariants.{Tick, Sample, Frame, Sent, Carrier, Reset}
use Rattle.wrp_node.specs.declared.interface.Output.{Output}
use Rattle.wrp_node.specs.declared.interface.Output.TheVariants.{Send, Step as StepOf, Dac, Report as ReportOf}
use Rattle.wrp_node.specs.declared.interface.Report.{Report}
use Rattle.wrp_node.specs.declared.interface.Report.TheVariants.{Link, Servo}
use Rattle.wrp_node.specs.LinkNews.{LinkNews, Nothing, Given, news_of, frame_news, news_at}
use Rattle.wrp_node.specs.New.{OfDifferentNumbers}
use Rattle.wrp_node.specs.NodeAt.{NodeSetting, NodeAt, is_before, placed, in_order, numbers_of, slave_of, setting_of, line_at, link_at, locked_of, certain_of, state_of, est_of}
use Rattle.wrp_node.specs.NodeRun.{step_out, dac_out, servo_out, rank_of, word_out, frame_out, port_out, est_out, track_out}
use Rattle.wrp_node.specs.NodeStep.{counted_tick, lease_ticked, servo_ticked, told_slave, stamp_of, heard_unless, heard, stepped, node_step, tick_of}
use Rattle.wrp_node.specs.Sends.{is_signal, signals_in, link_sends, signals_at, SignalsAreOfLink, frames_at, is_own_port, SendsArePutOut}
use Rattle.wrp_node.specs.Telling.{Step, step_from, with_news, with_sample, heard_of, told_by, answer_of, number_of, for_slave, tell, lease_change}
use Rattle.wrp_node.proofs.Links.{before_ports}
use Rattle.wrp_port.specs.declared.interface.PortIn.{PortIn}
use Rattle.wrp_port.specs.declared.interface.PortIn.TheVariants.{Msg, Lease, Sent as PortSent}
use Rattle.wrp_port.specs.declared.line.Rest.{Rest}
use Rattle.wrp_port.specs.declared.setting.Setting.{Setting}
use Rattle.wrp_port.specs.Hearing.{is_open, early_reason, link_input}
use Rattle.wrp_port.specs.History.{rest_after, input_unless}
use Rattle.wrp_port.specs.LineAfter.{ticked, announces_on, syncs_on, requests_on}
use Rattle.wrp_port.specs.Messages.{next_id, signal_of, signals_of, announce_of, sync_of, request_of, follow_up_of}
use Rattle.wrp_port.specs.Outputs.{is_word, where_due, scheduled_sends, link_sends as sends_by_link, response_to, sends_unless, is_newest, sends_of}
use Rattle.wrp_servo.specs.Call.{Call, CallTick}
use Rattle.wrp_servo.specs.declared.interface.ServoOut.{ServoOut}
use Rattle.wrp_servo.specs.Table.{is_track}

-- ---- what the servo answers, and a turn of the lease, leave the next sequenceId of link setup as it was

abbrev next_signal : Setting → List PortIn → ℕ
next_signal set told = (rest_after set told).ids.signal

heard_next : (set : Setting) (o : Option ℤ) (k : ℕ) (news : ChainNews) (told : List PortIn) → next_signal set (with_sample o k (with_news news told)) ≡ next_signal set told
heard_next set None k Same told = refl
heard_next set None k (Started n) told = refl
heard_next set None k Ended told = refl
heard_next set (Some u) k Same told = refl
heard_next set (Some u) k (Started n) told = refl
heard_next set (Some u) k Ended told = refl

next_where : (b : Bool) (set : Setting) (out : ServoOut) (k : ℕ) (told : List PortIn) → next_signal set (if b then heard_of out k told else told) ≡ next_signal set told
next_where true set out k told = heard_next set out.unwrapped k out.chain told
next_where false set out k told = refl

next_by : (o : Option ℕ) (set : Setting) (out : ServoOut) (k : ℕ) (told : ℕ → List PortIn) (q : ℕ) → next_signal set (told_by o out k told q) ≡ next_signal set (told q)
next_by None set out k told q = refl
next_by (Some p) set out k told q = next_where (q == p) set out k (told q)

abbrev next_at : NodeSetting → NodeAt → ℕ → ℕ
next_at fixed n p = next_signal (setting_of fixed.set p) (n.told p)

tell_next : (fixed : NodeSetting) (call : Option Call) (s : Step) (p : ℕ) → next_at fixed (tell fixed call s).node p ≡ next_at fixed s.node p
tell_next fixed call s p = next_by (slave_of fixed.set) (setting_of fixed.set p) (answer_of fixed call s.node.calls) (number_of call) s.node.told p

lease_where : (b : Bool) (set : Setting) (told : List PortIn) → next_signal set (if b then Lease ∷ told else told) ≡ next_signal set told
lease_where true set told = refl
lease_where false set told = refl

lease_next : (o : Option ℕ) (set : Setting) (told : ℕ → List PortIn) (q : ℕ) → next_signal set (told_slave o Lease told q) ≡ next_signal set (told q)
lease_next None set told q = refl
lease_next (Some p) set told q = lease_where (q == p) set (told q)

next_before_ports : (fixed : NodeSetting) (n : NodeAt) (p : ℕ) → next_at fixed (servo_ticked fixed n).node p ≡ next_at fixed n p
next_before_ports fixed n p =
    tell_next fixed (for_slave fixed (Some CallTick)) (lease_ticked fixed n) p
    ∙ tell_next fixed (lease_change fixed (counted_tick fixed n)) (step_from (counted_tick fixed n)) p
    ∙ lease_next (slave_of fixed.set) (setting_of fixed.set p) n.told p

-- ---- the Signaling messages among the messages that are sent

append_where : (b : Bool) (m : PtpMsg) (xs ys zs : List PtpMsg) → zs ≡ xs ++ ys → (if b then m ∷ zs else zs) ≡ (if b then m ∷ xs else xs) ++ ys
append_where true m xs ys zs e = ap (λ (rest : List PtpMsg). m ∷ rest) e
append_where false m xs ys zs e = e

signals_append : (xs ys : List PtpMsg) → signals_in (xs ++ ys) ≡ signals_in xs ++ signals_in ys
signals_append [] ys = refl
signals_append (m ∷ xs) ys = append_where (is_signal m.body) m (signals_in xs) (signals_in ys) (signals_in (xs ++ ys)) (signals_append xs ys)

signals_same : (set : Setting) (seq : ℕ) (messages : List WrMsg) → signals_in (signals_of set seq messages) ≡ signals_of set seq messages
signals_same set seq [] = refl
signals_same set seq (m ∷ messages) = ap (λ (rest : List PtpMsg). signal_of set seq m ∷ rest) (signals_same set (next_id seq) messages)

due_none : (b : Bool) (m : PtpMsg) → is_signal m.body ≡ false → signals_in (where_due b m) ≡ []
due_none true m h = ap (λ (k : Bool). if k then m ∷ [] else []) h
due_none false m h = refl

no_schedule : (set : Setting) (role : Role) (line : Rest) (certain : Bool) → signals_in (scheduled_sends set role line certain) ≡ []
no_schedule set Master line certain =
    signals_append (where_due (announces_on line) (announce_of set line.link certain line.ids.announce)) (where_due (syncs_on line) (sync_of set line.ids.sync))
    ∙ ap₂ (λ (a b : List PtpMsg). a ++ b) (due_none (announces_on line) (announce_of set line.link certain line.ids.announce) refl) (due_none (syncs_on line) (sync_of set line.ids.sync) refl)
no_schedule set Slave line certain = due_none (requests_on line) (request_of set line.ids.request) refl

no_response : (set : Setting) (role : Role) (head : Head) (body : Body) (stamp : Stamp) → signals_in (response_to set role head body stamp) ≡ []
no_response set Master head (DelayReq origin) stamp = refl
no_response set role head body stamp = refl

-- signals of the link, and other messages
signals_first : (set : Setting) (seq : ℕ) (messages : List WrMsg) (others : List PtpMsg) → signals_in others ≡ [] → signals_in (signals_of set seq messages ++ others) ≡ signals_of set seq messages
signals_first set seq messages others e =
    signals_append (signals_of set seq messages) others
    ∙ ap₂ (λ (a b : List PtpMsg). a ++ b) (signals_same set seq messages) e
    ∙ append-nil (signals_of set seq messages)

link_is : (l : LinkAt) (o : Option LinkIn) → sends_by_link l o ≡ link_sends l (news_of o)
link_is l None = refl
link_is l (Some input) = refl

unless_sent : (set : Setting) (line : Rest) (m : PtpMsg) (stamp : Stamp) (r : Option Reason) →
    signals_in (sends_unless r set line m stamp) ≡ signals_of set line.ids.signal (link_sends line.link (news_of (input_unless r (link_input set.ds.role m.body))))
unless_sent set line m stamp None =
    signals_first set line.ids.signal (sends_by_link line.link (link_input set.ds.role m.body)) (response_to set set.ds.role m.head m.body stamp) (no_response set set.ds.role m.head m.body stamp)
    ∙ ap (signals_of set line.ids.signal) (link_is line.link (link_input set.ds.role m.body))
unless_sent set line m stamp (Some reason) = refl

-- ---- each input

-- only one port sends, and only its link is given something
at_port : (fixed : NodeSetting) (n : NodeAt) (p q : ℕ) (sends : List PtpMsg) (news : LinkNews) (b : Bool) → (q == p) ≡ b → signals_in sends ≡ signals_at fixed n p news →
    signals_in (if b then sends else []) ≡ signals_at fixed n q (if b then news else Nothing)
at_port fixed n p q sends news true e h = h ∙ ap (λ (k : ℕ). signals_at fixed n k news) (sym (eqb-true q p e))
at_port fixed n p q sends news false e h = refl

nothing_where : (fixed : NodeSetting) (n : NodeAt) (q : ℕ) (b : Bool) (news : LinkNews) → link_sends (link_at fixed.set n q) news ≡ [] → [] ≡ signals_at fixed n q (if b then news else Nothing)
nothing_where fixed n q true news h = ap (signals_of (setting_of fixed.set q) (line_at fixed.set n q).ids.signal) (sym h)
nothing_where fixed n q false news h = refl

none_where : (b : Bool) → signals_in (if b then [] else []) ≡ []
none_where true = refl
none_where false = refl

unless_signals : (fixed : NodeSetting) (n : NodeAt) (p q : ℕ) (m : PtpMsg) (stamp : Stamp) (y : ℤ) (o : Option Reason) → early_reason (setting_of fixed.set p) (link_at fixed.set n p) m ≡ o →
    signals_in ((heard_unless o fixed p (Msg m stamp n.ticks) y n).sends q) ≡ signals_at fixed n q (if q == p then frame_news fixed n p (Ok m) else Nothing)
unless_signals fixed n p q m stamp y None e =
    at_port fixed n p q (sends_of (setting_of fixed.set p) (line_at fixed.set n p) (Msg m stamp n.ticks)) (frame_news fixed n p (Ok m)) (q == p) refl
    (unless_sent (setting_of fixed.set p) (line_at fixed.set n p) m stamp (early_reason (setting_of fixed.set p) (link_at fixed.set n p) m))
unless_signals fixed n p q m stamp y (Some reason) e =
    nothing_where fixed n q (q == p) (frame_news fixed n p (Ok m))
    (ap (λ (r : Option Reason). link_sends (link_at fixed.set n q) (news_of (input_unless r (link_input (setting_of fixed.set p).ds.role m.body)))) e)

heard_signals : (fixed : NodeSetting) (n : NodeAt) (p q : ℕ) (says : Result PtpMsg FrameFault) (raw : Raw) (sample : ℕ) (y : ℤ) →
    signals_in ((heard fixed p says raw sample y n).sends q) ≡ signals_at fixed n q (if q == p then frame_news fixed n p says else Nothing)
heard_signals fixed n p q (Err fault) raw sample y = nothing_where fixed n q (q == p) Nothing refl
heard_signals fixed n p q (Ok m) raw sample y =
    unless_signals fixed n p q m (stamp_of fixed n p raw sample) y (early_reason (setting_of fixed.set p) (link_at fixed.set n p) m) refl

-- the port is given the sending of a frame: a Follow_Up, or nothing
sent_none : (set : Setting) (line : Rest) (delay : Bool) (seq : ℕ) (stamp : Stamp) (tick : ℕ) → signals_in (sends_of set line (PortSent delay seq stamp tick)) ≡ []
sent_none set line true seq stamp tick = refl
sent_none set line false seq stamp tick = due_none (is_newest line.ids.newest_sync seq && is_open line.link) (follow_up_of set seq stamp) refl

sent_where : (b : Bool) (sends : List PtpMsg) → signals_in sends ≡ [] → signals_in (if b then sends else []) ≡ []
sent_where true sends h = h
sent_where false sends h = refl

ticked_signals : (fixed : NodeSetting) (n : NodeAt) (p : ℕ) →
    signals_in (sends_of (setting_of fixed.set p) (line_at fixed.set (servo_ticked fixed n).node p) (tick_of fixed (servo_ticked fixed n).node))
    ≡ signals_at fixed n p (Given (link.Tick (locked_of fixed (servo_ticked fixed n).node)))
ticked_signals fixed n p =
    let s : NodeAt = (servo_ticked fixed n).node in
    let set : Setting = setting_of fixed.set p in
    let line : Rest = line_at fixed.set s p in
    let told : LinkNews = Given (link.Tick (locked_of fixed s)) in
    signals_first set line.ids.signal (link_sends line.link told) (scheduled_sends set set.ds.role (ticked set line (locked_of fixed s)) (certain_of fixed s))
    (no_schedule set set.ds.role (ticked set line (locked_of fixed s)) (certain_of fixed s))
    ∙ ap₂ (λ (k : ℕ) (l : LinkAt). signals_of set k (link_sends l told)) (next_before_ports fixed n p) (before_ports fixed n p)

-- a carrier that goes sends nothing
gone_where : (b : Bool) → sent_by (under b CarrierGoes) ≡ []
gone_where true = refl
gone_where false = refl

gone_sends : (l : LinkAt) → link_sends l (Given link.CarrierDown) ≡ []
gone_sends l = gone_where l.carrier

stepped_signals : (fixed : NodeSetting) (input : Input) (says : Result PtpMsg FrameFault) (y : ℤ) (n : NodeAt) (p : ℕ) →
    signals_in ((stepped fixed input says y n).sends p) ≡ signals_at fixed n p (news_at fixed n input says p)
stepped_signals fixed Tick says y n p = ticked_signals fixed n p
stepped_signals fixed (Sample number base bits) says y n p = refl
stepped_signals fixed (Frame q octets raw sample) says y n p = heard_signals fixed n q p says raw sample y
stepped_signals fixed (Sent q seq delay stamp) says y n p =
    sent_where (p == q) (sends_of (setting_of fixed.set q) (line_at fixed.set n q) (PortSent delay seq stamp n.ticks))
    (sent_none (setting_of fixed.set q) (line_at fixed.set n q) delay seq stamp n.ticks)
stepped_signals fixed (Carrier q true own_module) says y n p =
    none_where (p == q) ∙ nothing_where fixed n p (p == q) (Given (link.CarrierUp own_module)) refl
stepped_signals fixed (Carrier q false own_module) says y n p =
    none_where (p == q) ∙ nothing_where fixed n p (p == q) (Given link.CarrierDown) (gone_sends (link_at fixed.set n p))
stepped_signals fixed Reset says y n p = refl

pub signals_are_of_link : SignalsAreOfLink
signals_are_of_link fixed t n p = stepped_signals fixed t.input t.says t.answer n p

-- ---- the frames among the outputs

frames_where : (b : Bool) (frame : List ℕ) (xs ys zs : List (List ℕ)) → zs ≡ xs ++ ys → (if b then frame ∷ zs else zs) ≡ (if b then frame ∷ xs else xs) ++ ys
frames_where true frame xs ys zs e = ap (λ (rest : List (List ℕ)). frame ∷ rest) e
frames_where false frame xs ys zs e = e

frames_append : (p : ℕ) (xs ys : List Output) → frames_at p (xs ++ ys) ≡ frames_at p xs ++ frames_at p ys
frames_append p [] ys = refl
frames_append p (Send q frame ∷ xs) ys = frames_where (q == p) frame.items (frames_at p xs) (frames_at p ys) (frames_at p (xs ++ ys)) (frames_append p xs ys)
frames_append p (StepOf cycles ∷ xs) ys = frames_append p xs ys
frames_append p (Dac value ∷ xs) ys = frames_append p xs ys
frames_append p (ReportOf report ∷ xs) ys = frames_append p xs ys

-- a step, a DAC value and the reports are no frames
no_step : (p : ℕ) (cycles : ℤ) → frames_at p (step_out cycles) ≡ []
no_step p cycles = elim (unsigned_abs cycles == 0) as (λ b. frames_at p (if b then [] else StepOf cycles ∷ []) ≡ []) [ true ↦ refl | false ↦ refl ]

no_dac : (p : ℕ) (dac : Option ℕ) → frames_at p (dac_out dac) ≡ []
no_dac p None = refl
no_dac p (Some value) = refl

no_report : (p : ℕ) (b : Bool) (report : Report) → frames_at p (if b then [] else ReportOf report ∷ []) ≡ []
no_report p true report = refl
no_report p false report = refl

no_est : (p : ℕ) (est : Option ℤ) → frames_at p (est_out est) ≡ []
no_est p None = refl
no_est p (Some est) = refl

est_where : (p : ℕ) (b : Bool) (est : Option ℤ) → frames_at p (if b then est_out est else []) ≡ []
est_where p true est = no_est p est
est_where p false est = refl

no_track : (p : ℕ) (fixed : NodeSetting) (input : Input) (n : NodeAt) → frames_at p (track_out fixed input n) ≡ []
no_track p fixed Tick n = est_where p (is_track (state_of fixed n) && (n.ticks % fixed.set.report == 0)) (est_of fixed n)
no_track p fixed (Sample number base bits) n = refl
no_track p fixed (Frame q octets raw sample) n = refl
no_track p fixed (Sent q seq delay stamp) n = refl
no_track p fixed (Carrier q up own_module) n = refl
no_track p fixed Reset n = refl

-- a port's frames are at its own number alone
sent_frames : (p q : ℕ) (messages : List PtpMsg) (b : Bool) → (q == p) ≡ b → frames_at p (map (frame_out q) messages) ≡ (if b then map octets_of messages else [])
sent_frames p q [] true e = refl
sent_frames p q [] false e = refl
sent_frames p q (m ∷ messages) true e =
    ap (λ (b : Bool). if b then octets_of m ∷ frames_at p (map (frame_out q) messages) else frames_at p (map (frame_out q) messages)) e
    ∙ ap (λ (rest : List (List ℕ)). octets_of m ∷ rest) (sent_frames p q messages true e)
sent_frames p q (m ∷ messages) false e =
    ap (λ (b : Bool). if b then octets_of m ∷ frames_at p (map (frame_out q) messages) else frames_at p (map (frame_out q) messages)) e ∙ sent_frames p q messages false e

port_frames : (p : ℕ) (fixed : NodeSetting) (n : NodeAt) (s : Step) (q : ℕ) → frames_at p (port_out fixed n s q) ≡ (if q == p then map octets_of (s.sends q) else [])
port_frames p fixed n s q =
    let before : LinkWord = word_of (link_at fixed.set n q) in
    let now : LinkWord = word_of (link_at fixed.set s.node q) in
    frames_append p (word_out q before now) (map (frame_out q) (s.sends q))
    ∙ ap₂ (λ (a b : List (List ℕ)). a ++ b) (no_report p (is_word before now) (Link q now)) (sent_frames p q (s.sends q) (q == p) refl)

-- so often does a port have this number
abbrev times : ℕ → List PortDs → ℕ
times p [] = 0
times p (ds ∷ ports) = if ds.own.port == p then suc (times p ports) else times p ports

abbrev repeated : ℕ → List (List ℕ) → List (List ℕ)
repeated zero frames = []
repeated (suc k) frames = frames ++ repeated k frames

port_where : (b : Bool) (p q k : ℕ) (sends : ℕ → List PtpMsg) (rest : List (List ℕ)) → (q == p) ≡ b → rest ≡ repeated k (map octets_of (sends p)) →
    (if b then map octets_of (sends q) else []) ++ rest ≡ repeated (if b then suc k else k) (map octets_of (sends p))
port_where true p q k sends rest e h = ap₂ (λ (a b : List (List ℕ)). a ++ b) (ap (λ (j : ℕ). map octets_of (sends j)) (eqb-true q p e)) h
port_where false p q k sends rest e h = h

ports_frames : (p : ℕ) (fixed : NodeSetting) (n : NodeAt) (s : Step) (ports : List PortDs) →
    frames_at p (flat_map (port_out fixed n s) (map (λ ds. ds.own.port) ports)) ≡ repeated (times p ports) (map octets_of (s.sends p))
ports_frames p fixed n s [] = refl
ports_frames p fixed n s (ds ∷ ports) =
    let rest : List Output = flat_map (port_out fixed n s) (map (λ ds. ds.own.port) ports) in
    frames_append p (port_out fixed n s ds.own.port) rest
    ∙ ap (λ (a : List (List ℕ)). a ++ frames_at p rest) (port_frames p fixed n s ds.own.port)
    ∙ port_where (ds.own.port == p) p ds.own.port (times p ports) s.sends (frames_at p rest) refl (ports_frames p fixed n s ports)

-- the order of the ports is of no account
swapped : (b c : Bool) (k : ℕ) → (if c then suc (if b then suc k else k) else (if b then suc k else k)) ≡ (if b then suc (if c then suc k else k) else (if c then suc k else k))
swapped true true k = refl
swapped true false k = refl
swapped false true k = refl
swapped false false k = refl

placed_where : (b : Bool) (p : ℕ) (ds other : PortDs) (ports : List PortDs) → times p (placed ds ports) ≡ times p (ds ∷ ports) →
    times p (if b then other ∷ placed ds ports else ds ∷ other ∷ ports) ≡ times p (ds ∷ other ∷ ports)
placed_where true p ds other ports h =
    ap (λ (k : ℕ). if other.own.port == p then suc k else k) h ∙ swapped (ds.own.port == p) (other.own.port == p) (times p ports)
placed_where false p ds other ports h = refl

times_placed : (p : ℕ) (ds : PortDs) (ports : List PortDs) → times p (placed ds ports) ≡ times p (ds ∷ ports)
times_placed p ds [] = refl
times_placed p ds (other ∷ ports) = placed_where (is_before other ds) p ds other ports (times_placed p ds ports)

times_ordered : (p : ℕ) (ports : List PortDs) → times p (in_order ports) ≡ times p ports
times_ordered p [] = refl
times_ordered p (ds ∷ ports) =
    times_placed p ds (in_order ports) ∙ ap (λ (k : ℕ). if ds.own.port == p then suc k else k) (times_ordered p ports)

pub not_equal : (m n : ℕ) → (m ≡ n → ⊥) → (m == n) ≡ false
not_equal m n h = grind arith

-- ports of different numbers: one of them has it, or none
abbrev has_number : ℕ → List PortDs → Bool
has_number p ports = list_any (λ ds. ds.own.port == p) ports

others_differ : (p : ℕ) (ds : PortDs) (ports : List PortDs) → ds.own.port ≡ p → AllByRecursion (λ other. other.own.port ≢ ds.own.port) ports → times p ports ≡ 0
others_differ p ds [] e h = refl
others_differ p ds (other ∷ ports) e h =
    ap (λ (b : Bool). if b then suc (times p ports) else times p ports) (not_equal other.own.port p (λ k. h.0 (k ∙ sym e))) ∙ others_differ p ds ports e h.1

times_where : (p : ℕ) (ds : PortDs) (ports : List PortDs) (b : Bool) → (ds.own.port == p) ≡ b → AllByRecursion (λ other. other.own.port ≢ ds.own.port) ports →
    times p ports ≡ (if has_number p ports then 1 else 0) → (if b then suc (times p ports) else times p ports) ≡ (if b || has_number p ports then 1 else 0)
times_where p ds ports true e h k = ap suc (others_differ p ds ports (eqb-true ds.own.port p e) h)
times_where p ds ports false e h k = k

times_once : (p : ℕ) (ports : List PortDs) → OfDifferentNumbers ports → times p ports ≡ (if has_number p ports then 1 else 0)
times_once p [] h = refl
times_once p (ds ∷ ports) h = times_where p ds ports (ds.own.port == p) refl h.0 (times_once p ports h.1)

once_or_not : (b : Bool) (frames : List (List ℕ)) → repeated (if b then 1 else 0) frames ≡ (if b then frames else [])
once_or_not true frames = append-nil frames
once_or_not false frames = refl

-- of five lists only the fourth has frames
frames_of_fourth : (p : ℕ) (a b c d e : List Output) → frames_at p a ≡ [] → frames_at p b ≡ [] → frames_at p c ≡ [] → frames_at p e ≡ [] → frames_at p (a ++ b ++ c ++ d ++ e) ≡ frames_at p d
frames_of_fourth p a b c d e ha hb hc he =
    let both : frames_at p (a ++ b) ≡ [] = frames_append p a b ∙ ap₂ (λ (x y : List (List ℕ)). x ++ y) ha hb in
    let three : frames_at p (a ++ b ++ c) ≡ [] = frames_append p (a ++ b) c ∙ ap₂ (λ (x y : List (List ℕ)). x ++ y) both hc in
    let four : frames_at p (a ++ b ++ c ++ d) ≡ frames_at p d = frames_append p (a ++ b ++ c) d ∙ ap (λ (x : List (List ℕ)). x ++ frames_at p d) three in
    frames_append p (a ++ b ++ c ++ d) e ∙ ap₂ (λ (x y : List (List ℕ)). x ++ y) four he ∙ append-nil (frames_at p d)

pub sends_are_put_out : SendsArePutOut
sends_are_put_out fixed t n p h =
    let s : Step = node_step fixed t n in
    frames_of_fourth p (step_out s.cycles) (dac_out s.dac) (servo_out (state_of fixed n) (state_of fixed s.node)) (flat_map (port_out fixed n s) (numbers_of fixed.set)) (track_out fixed t.input s.node)
    (no_step p s.cycles) (no_dac p s.dac)
    (no_report p (rank_of (state_of fixed n) == rank_of (state_of fixed s.node)) (Servo (state_of fixed s.node))) (no_track p fixed t.input s.node)
    ∙ ports_frames p fixed n s (in_order fixed.set.ports.items)
    ∙ ap (λ (k : ℕ). repeated k (map octets_of (s.sends p))) (times_ordered p fixed.set.ports.items ∙ times_once p fixed.set.ports.items h)
    ∙ once_or_not (is_own_port fixed p) (map octets_of (s.sends p))
