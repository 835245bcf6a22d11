-- What an event adds to the calls of the exchange below a link, while the servo there has a chain.
use Rattle.std.proofs.Common.{◌≡◌, inl, inr, ◌∙◌, refl, ap, sym, subst, ℕ, ◌==◌, ℤ, Bool, true, false, if◌then◌else◌, List, [], ◌∷◌, Option, None, Some, Result, Ok, Err}
use Rattle.std.proofs.lemmas.Bool.Decides.{eqb_tells}
use Rattle.std.specs.Option.{option_map_or}
use Rattle.arrayvec.specs.ArrayVec.{ArrayVec as Items}
use Rattle.std.proofs.lemmas.Bool.{false≢true}
use Rattle.std.proofs.lemmas.Option.{none-some}
use Rattle.wrp_base.specs.declared.link.Role.TheVariants.{Master, Slave}
use Rattle.wrp_base.specs.declared.message.Body.{Body}
use Rattle.wrp_base.specs.declared.message.Body.TheVariants.{Sync, DelayReq, FollowUp, DelayResp, Announce, Signal}
use Rattle.wrp_base.specs.declared.message.PtpMsg.{PtpMsg}
use Rattle.wrp_network.specs.declared.network.LinkCfg.{LinkCfg}
use Rattle.wrp_base.specs.declared.time.Raw.{Raw}
use Rattle.wrp_base.specs.declared.time.Stamp.{Stamp}
use Rattle.wrp_base.specs.declared.time.Ts.{Ts}
use Rattle.wrp_network.specs.Network.{End}
use Rattle.wrp_base.specs.Link.{other_of}
use Rattle.wrp_base.specs.Message.{is_port}
use Rattle.wrp_data.specs.declared.reason.Reason.{Reason}
use Rattle.wrp_data.specs.declared.reason.Reason.TheVariants.{Domain, Stranger, NotForUs, Quiet}
use Rattle.wrp_exch.specs.Call.{Call as Piece, CallStart, CallClear, CallSample as SamplePiece, CallSync, CallFollowUp, CallReqOut, CallReqSent, CallResp}
use Rattle.wrp_frame.specs.declared.fault.FrameFault.{FrameFault}
use Rattle.wrp_frame.specs.SentOctets.{octets_of}
use Rattle.wrp_node.specs.declared.interface.Input.{Input}
use Rattle.wrp_node.specs.declared.interface.Input.TheVariants.{Tick as TickInput, Sample as SampleInput, Frame, Sent, Carrier, Reset}
use Rattle.wrp_node.specs.NodeAt.{NodeSetting, NodeAt, Taken, link_at, pieces_at, setting_of, servo_setting_of, slave_of}
use Rattle.wrp_node.specs.NodeStep.{carried, node_step, ports_ticked, servo_ticked, stamp_of, stepped}
use Rattle.wrp_node.specs.Telling.{settled}
use Rattle.wrp_port.specs.declared.setting.Setting.{Setting as PortSetting}
use Rattle.wrp_port.specs.Hearing.{early_reason, is_addressed, is_open, piece_of}
use Rattle.wrp_port.specs.Outputs.{piece_unless, with_call}
use Rattle.wrp_port.specs.Wire.{later_by}
use Rattle.wrp_servo.specs.Call.{run}
use Rattle.wrp_servo.specs.Laws.{ChainSince, PhaseMovesByTags}
use Rattle.wrp_tracking_laws.specs.Chain.{Good}
use Rattle.wrp_course.specs.declared.event.Event.{Event}
use Rattle.wrp_course.specs.declared.event.Event.TheVariants.{Pass, Tick, Sample, Depart, Arrive, Deliver, Noise, Down, Up, Cut, Join}
use Rattle.wrp_bound_laws.proofs.Motion.NodeSteps.{Stands}
use Rattle.wrp_bound_laws.proofs.Sources.Renewals.{master_of}
use Rattle.wrp_course.specs.Given.{Given, delivered, delivered_by, delivered_to, given, given_plain, gives, gives_all, sent_oldest, taken_of, told_sending, world_step}
use Rattle.wrp_course.specs.Moved.{moved}
use Rattle.wrp_course.specs.Premises.{Accepts, is_forged}
use Rattle.wrp_course.specs.Run.{Happened, world_after}
use Rattle.wrp_course.specs.Runs.{IsNetwork}
use Rattle.wrp_course.specs.Setting.{Setting, end_at, end_of, node_setting_of, link_of, place_of}
use Rattle.wrp_course.specs.WorldAt.{Arrival, FrameAt, Sending, WorldAt}
use Rattle.wrp_course.proofs.RunCarriers.{end_alike}
use Rattle.wrp_course.proofs.RunGiven.{end_is}
use Rattle.wrp_course.proofs.RunHanded.{not_forged}
use Rattle.wrp_course.proofs.RunNetwork.{are_apart}
use Rattle.wrp_bound_laws.specs.Chains.{good_in}
use Rattle.wrp_bound_laws.specs.Exchanges.{exchange_at}
use Rattle.wrp_bound_laws.specs.Rates.{HasChain}
use Rattle.wrp_bound_laws.proofs.Nodes.Inputs.{GivesTo, node_given, node_kept}
use Rattle.wrp_bound_laws.proofs.Runs.LinksAbove.{above_is}
use Rattle.wrp_bound_laws.proofs.Sources.Parents.{has_slave, ticked_node}
use Rattle.wrp_bound_laws.proofs.SyncPairs.SyncTold.{Adds, AddsOther, IsOther, carrier_adds, frame_adds, frame_passes, frame_piece, sent_adds, tick_adds}
use Rattle.wrp_bound_laws.specs.SequenceIds.{IsTimed}

-- the laws that this rests on
pub record GivenLaws : Type 0 where
  pub since : ChainSince
  pub phase : PhaseMovesByTags

-- A frame of the master that the slave's port takes

-- the stamp of the reception of a frame that arrived like this
abbrev pub received_stamp : Setting → WorldAt → LinkCfg → Arrival → Stamp
received_stamp s w link a = stamp_of (node_setting_of s link.lower) (w.node link.lower) link.lower_port a.raw a.sample

-- an event hands it over
pub record Handed (s : Setting) (before : List Happened) (h : Happened) (k : ℕ) (link : LinkCfg) : Type 0 where
  pub number : ℕ
  pub event : h.event ≡ Deliver number
  pub frame : FrameAt
  pub there : (world_after s before).frame number ≡ Some frame
  pub link_is : frame.link ≡ k
  pub by_is : frame.by ≡ Master
  pub arrival : Arrival
  pub arrived : frame.arrival ≡ Some arrival
  pub takes : is_open (link_at (s.set link.lower) ((world_after s before).node link.lower) link.lower_port) ≡ true

abbrev pub IsSync : Body → Type 0
IsSync body = IsTimed Master body

-- it is a Sync
pub record TakesSync (s : Setting) (before : List Happened) (h : Happened) (k : ℕ) (link : LinkCfg) (seq : ℕ) (correction : ℤ) (t2 : Stamp) : Type 0 where
  pub handed : Handed s before h k link
  pub body : IsSync handed.frame.sending.message.body
  pub seq_is : seq ≡ handed.frame.sending.message.head.seq
  pub correction_is : correction ≡ handed.frame.sending.message.head.correction
  pub t2_is : t2 ≡ received_stamp s (world_after s before) link handed.arrival

-- it is a Follow_Up
pub record TakesFollowUp (s : Setting) (before : List Happened) (h : Happened) (k : ℕ) (link : LinkCfg) (seq : ℕ) (precise : ℤ) : Type 0 where
  pub handed : Handed s before h k link
  pub told : Ts
  pub body : handed.frame.sending.message.body ≡ FollowUp told
  pub seq_is : seq ≡ handed.frame.sending.message.head.seq
  pub precise_is : precise ≡ later_by told handed.frame.sending.message.head.correction

-- a good sample of this number and phase came
pub record IsGood (s : Setting) (before : List Happened) (h : Happened) (link : LinkCfg) (number : ℕ) (u : ℤ) : Type 0 where
  pub good : Good
  pub is : good_in s link.lower h before h.event ≡ Some good
  pub number_is : number ≡ good.number
  pub u_is : u ≡ good.u

abbrev pub NoGood : Setting → List Happened → Happened → LinkCfg → Type 0
NoGood s before h link = good_in s link.lower h before h.event ≡ None

-- what an event must be to add such a call
abbrev pub ComesOf : Setting → List Happened → Happened → ℕ → LinkCfg → Option Piece → Type 0
ComesOf s before h k link None = NoGood s before h link
ComesOf s before h k link (Some (CallStart first)) = ⊥
ComesOf s before h k link (Some CallClear) = ⊥
ComesOf s before h k link (Some (SamplePiece number u)) = IsGood s before h link number u
ComesOf s before h k link (Some (CallSync seq correction t2 tick)) = NoGood s before h link × TakesSync s before h k link seq correction t2
ComesOf s before h k link (Some (CallFollowUp seq precise)) = NoGood s before h link × TakesFollowUp s before h k link seq precise
ComesOf s before h k link (Some (CallReqOut seq)) = NoGood s before h link
ComesOf s before h k link (Some (CallReqSent seq t3 tick)) = NoGood s before h link
ComesOf s before h k link (Some (CallResp seq t4)) = NoGood s before h link

pub record Grown (s : Setting) (before : List Happened) (h : Happened) (k : ℕ) (link : LinkCfg) (node : NodeAt) : Type 0 where
  pub piece : Option Piece
  pub adds : pieces_at (s.set link.lower) node link.lower_port ≡ with_call piece (exchange_at s link before)
  pub comes : ComesOf s before h k link piece

other_comes : (s : Setting) (before : List Happened) (h : Happened) (k : ℕ) (link : LinkCfg) (o : Option Piece) → IsOther o → NoGood s before h link → ComesOf s before h k link o
other_comes s before h k link None i g = g
other_comes s before h k link (Some (CallReqOut seq)) i g = g
other_comes s before h k link (Some (CallReqSent seq t3 tick)) i g = g
other_comes s before h k link (Some (CallResp seq t4)) i g = g
other_comes s before h k link (Some (CallStart first)) i g = absurd i
other_comes s before h k link (Some CallClear) i g = absurd i
other_comes s before h k link (Some (SamplePiece number u)) i g = absurd i
other_comes s before h k link (Some (CallSync seq correction t2 tick)) i g = absurd i
other_comes s before h k link (Some (CallFollowUp seq precise)) i g = absurd i

nothing_grown : (s : Setting) (before : List Happened) (h : Happened) (k : ℕ) (link : LinkCfg) (node : NodeAt) → NoGood s before h link → pieces_at (s.set link.lower) node link.lower_port ≡ exchange_at s link before → Grown s before h k link node
nothing_grown s before h k link node g e = record { piece = None; adds = e; comes = g }

other_grown : (s : Setting) (before : List Happened) (h : Happened) (k : ℕ) (link : LinkCfg) (node : NodeAt) (o : Option Piece) → IsOther o → NoGood s before h link → pieces_at (s.set link.lower) node link.lower_port ≡ with_call o (exchange_at s link before) → Grown s before h k link node
other_grown s before h k link node o i g e = record { piece = o; adds = e; comes = other_comes s before h k link o i g }

-- a node has a chain
abbrev pub ChainIn : Setting → LinkCfg → NodeAt → Type 0
ChainIn s link node = Stands (run (servo_setting_of (node_setting_of s link.lower)) node.calls)

pub slave_at : (s : Setting) → IsNetwork s → (k : ℕ) (link : LinkCfg) → link_of s k ≡ Some link → slave_of (s.set link.lower) ≡ Some link.lower_port
slave_at s net k link is = has_slave s net link.lower link (above_is s net k link is)

-- Events that give the node no input, or only carriers

abbrev IsCarrier : Input → Type 0
IsCarrier (Carrier p up own_module) = Unit {0}
IsCarrier _ = ⊥

abbrev OnlyCarriers : ℕ → Event → Type 0
OnlyCarriers n (Tick m) = n ≡ m → ⊥
OnlyCarriers n (Sample m base bits) = n ≡ m → ⊥
OnlyCarriers n (Depart m p stamp) = ⊥
OnlyCarriers n (Deliver i) = ⊥
OnlyCarriers n (Noise m p octets raw) = ⊥
OnlyCarriers n (Up m off swaps) = n ≡ m → ⊥
OnlyCarriers n _ = Unit {0}

carriers_to : (n : ℕ) (e : Event) → OnlyCarriers n e → GivesTo IsCarrier n e
carriers_to n (Tick m) h = λ is. absurd (h is)
carriers_to n (Sample m base bits) h = λ is number. absurd (h is)
carriers_to n (Depart m p stamp) h = absurd h
carriers_to n (Deliver i) h = absurd h
carriers_to n (Noise m p octets raw) h = absurd h
carriers_to n (Up m off swaps) h = (λ is. absurd (h is), λ q own_module. tt)
carriers_to n (Down m) h = λ q. tt
carriers_to n (Cut k) h = λ q. tt
carriers_to n (Join k ms sm) h = λ q own_module. tt
carriers_to n (Pass dt drifts fibres) h = tt
carriers_to n (Arrive i raw) h = tt

abbrev Keeps : Setting → LinkCfg → List Piece → NodeAt → Type 0
Keeps s link pieces node = ChainIn s link node → pieces_at (s.set link.lower) node link.lower_port ≡ pieces

carrier_keeps : ChainSince → (s : Setting) (link : LinkCfg) (pieces : List Piece) → slave_of (s.set link.lower) ≡ Some link.lower_port → (t : Taken) (m : NodeAt) (input : Input) → t.input ≡ input → IsCarrier input → Keeps s link pieces m → Keeps s link pieces (node_step (node_setting_of s link.lower) t m).node
carrier_keeps law s link pieces slave t m (Carrier q up own_module) is c old chain =
    let fixed : NodeSetting = node_setting_of s link.lower in
    let now : Stands (run (servo_setting_of fixed) (settled fixed (carried fixed q up own_module m)).node.calls) = subst (λ (i : Input). Stands (run (servo_setting_of fixed) (settled fixed (stepped fixed i t.says t.answer m)).node.calls)) is chain in
    let it : Adds fixed m (settled fixed (carried fixed q up own_module m)) link.lower_port None = carrier_adds law fixed m link.lower_port q up own_module slave now in
    ap (λ (i : Input). pieces_at fixed.set (settled fixed (stepped fixed i t.says t.answer m)).node link.lower_port) is ∙ it.adds ∙ old it.stood
carrier_keeps law s link pieces slave t m TickInput is c old chain = absurd c
carrier_keeps law s link pieces slave t m (SampleInput number base bits) is c old chain = absurd c
carrier_keeps law s link pieces slave t m (Frame p octets raw sample) is c old chain = absurd c
carrier_keeps law s link pieces slave t m (Sent p seq delay stamp) is c old chain = absurd c
carrier_keeps law s link pieces slave t m Reset is c old chain = absurd c

pub carriers_grown : ChainSince → (s : Setting) (h : Happened) (before : List Happened) (k : ℕ) (link : LinkCfg) → IsNetwork s → link_of s k ≡ Some link → OnlyCarriers link.lower h.event → NoGood s before h link → HasChain s link.lower (h ∷ before) →
    Grown s before h k link ((world_after s (h ∷ before)).node link.lower)
carriers_grown law s h before k link net is only good chain =
    nothing_grown s before h k link ((world_after s (h ∷ before)).node link.lower) good
    (node_kept (Keeps s link (exchange_at s link before)) IsCarrier s h.says h.answer (world_after s before) h.event link.lower
    (λ t m c old. carrier_keeps law s link (exchange_at s link before) (slave_at s net k link is) t m t.input refl c old)
    (carriers_to link.lower h.event only) (λ was. refl) chain)

-- A tick, and a departure

pub tick_grown : ChainSince → (s : Setting) (says : Result PtpMsg FrameFault) (y : ℤ) (before : List Happened) (m k : ℕ) (link : LinkCfg) → IsNetwork s → link_of s k ≡ Some link → link.lower ≡ m →
    HasChain s link.lower (record { event = Tick m; says = says; answer = y } ∷ before) → Grown s before (record { event = Tick m; says = says; answer = y }) k link ((world_step s says y (world_after s before) (Tick m)).node link.lower)
tick_grown law s says y before m k link net is same chain =
    let fixed : NodeSetting = node_setting_of s link.lower in
    let h : Happened = record { event = Tick m; says = says; answer = y } in
    let w : WorldAt = world_after s before in
    let node : _ = ticked_node s says y w link.lower m same in
    let it : AddsOther fixed (w.node link.lower) (settled fixed (ports_ticked fixed (servo_ticked fixed (w.node link.lower)))) link.lower_port =
    tick_adds law fixed (w.node link.lower) link.lower_port (slave_at s net k link is) (subst (ChainIn s link) node.0 chain) in
    other_grown s before h k link ((world_step s says y w (Tick m)).node link.lower) it.0 it.1 refl (ap (λ (x : NodeAt). pieces_at (s.set link.lower) x link.lower_port) node.0 ∙ it.2.adds)

abbrev GrownIf : Setting → List Happened → Happened → ℕ → LinkCfg → NodeAt → Type 0
GrownIf s before h k link node = ChainIn s link node → Grown s before h k link node

sent_grown : ChainSince → (s : Setting) (h : Happened) (before : List Happened) (k : ℕ) (link : LinkCfg) (v : WorldAt) (m p seq : ℕ) (delay : Bool) (stamp : Stamp) → IsNetwork s → link_of s k ≡ Some link → NoGood s before h link → v.node link.lower ≡ (world_after s before).node link.lower →
    GrownIf s before h k link ((gives s h.answer v (given_plain m (Sent p seq delay stamp))).node link.lower)
sent_grown law s h before k link v m p seq delay stamp net is good same =
    let fixed : NodeSetting = node_setting_of s link.lower in
    let back : pieces_at (s.set link.lower) (v.node link.lower) link.lower_port ≡ exchange_at s link before = ap (λ (x : NodeAt). pieces_at (s.set link.lower) x link.lower_port) same in
    node_given (GrownIf s before h k link) s h.answer v (given_plain m (Sent p seq delay stamp)) link.lower
    (λ at chain.
    let it : _ = sent_adds law fixed (v.node link.lower) link.lower_port p seq delay stamp (slave_at s net k link is) chain in
    other_grown s before h k link _ it.0 it.1 good (it.2.adds ∙ ap (with_call it.0) back))
    (λ chain. nothing_grown s before h k link (v.node link.lower) good back)

told_grown : ChainSince → (s : Setting) (h : Happened) (before : List Happened) (k : ℕ) (link : LinkCfg) (v : WorldAt) (m p seq : ℕ) (stamp : ℤ) (samples : ℕ) (body : Body) → IsNetwork s → link_of s k ≡ Some link → NoGood s before h link →
    v.node link.lower ≡ (world_after s before).node link.lower → GrownIf s before h k link ((gives_all s h.answer v (told_sending m p seq stamp samples body)).node link.lower)
told_grown law s h before k link v m p seq stamp samples (Sync origin) net is good same = sent_grown law s h before k link v m p seq false (record { value = stamp; sample = samples }) net is good same
told_grown law s h before k link v m p seq stamp samples (DelayReq origin) net is good same = sent_grown law s h before k link v m p seq true (record { value = stamp; sample = samples }) net is good same
told_grown law s h before k link v m p seq stamp samples (FollowUp precise) net is good same = λ chain. nothing_grown s before h k link (v.node link.lower) good (ap (λ (x : NodeAt). pieces_at (s.set link.lower) x link.lower_port) same)
told_grown law s h before k link v m p seq stamp samples (DelayResp receive requesting) net is good same = λ chain. nothing_grown s before h k link (v.node link.lower) good (ap (λ (x : NodeAt). pieces_at (s.set link.lower) x link.lower_port) same)
told_grown law s h before k link v m p seq stamp samples (Announce origin utc p1 quality p2 gm steps source suffix) net is good same = λ chain. nothing_grown s before h k link (v.node link.lower) good (ap (λ (x : NodeAt). pieces_at (s.set link.lower) x link.lower_port) same)
told_grown law s h before k link v m p seq stamp samples (Signal target message) net is good same = λ chain. nothing_grown s before h k link (v.node link.lower) good (ap (λ (x : NodeAt). pieces_at (s.set link.lower) x link.lower_port) same)

pub queue_grown : ChainSince → (s : Setting) (h : Happened) (before : List Happened) (k : ℕ) (link : LinkCfg) (v : WorldAt) (m p : ℕ) (stamp : ℤ) (samples : ℕ) (queue : List Sending) → IsNetwork s → link_of s k ≡ Some link → NoGood s before h link →
    v.node link.lower ≡ (world_after s before).node link.lower → GrownIf s before h k link ((gives_all s h.answer v (sent_oldest m p stamp samples queue)).node link.lower)
queue_grown law s h before k link v m p stamp samples [] net is good same = λ chain. nothing_grown s before h k link (v.node link.lower) good (ap (λ (x : NodeAt). pieces_at (s.set link.lower) x link.lower_port) same)
queue_grown law s h before k link v m p stamp samples (oldest ∷ rest) net is good same =
    told_grown law s h before k link v m p oldest.message.head.seq stamp samples oldest.message.body net is good same

-- A frame

open_by : (domain source addressed takes : Bool) → (if domain then (if source then (if addressed then (if takes then None else Some Quiet) else Some NotForUs) else Some Stranger) else Some Domain) ≡ None → takes ≡ true
open_by true true true true e = refl
open_by true true true false e = absurd (none-some Quiet (sym e))
open_by true true false takes e = absurd (none-some NotForUs (sym e))
open_by true false addressed takes e = absurd (none-some Stranger (sym e))
open_by false source addressed takes e = absurd (none-some Domain (sym e))

-- the message of a frame that is handed over
abbrev message_in : (s : Setting) (before : List Happened) (h : Happened) (k : ℕ) (link : LinkCfg) → Handed s before h k link → PtpMsg
message_in s before h k link x = x.frame.sending.message

body_comes : (s : Setting) (before : List Happened) (h : Happened) (k : ℕ) (link : LinkCfg) (x : Handed s before h k link) (body : Body) (tick : ℕ) → (message_in s before h k link x).body ≡ body → NoGood s before h link →
    ComesOf s before h k link (piece_of Slave (message_in s before h k link x).head body (received_stamp s (world_after s before) link x.arrival) tick)
body_comes s before h k link x (Sync origin) tick is good = (good, record { handed = x; body = subst IsSync (sym is) tt; seq_is = refl; correction_is = refl; t2_is = refl })
body_comes s before h k link x (FollowUp precise) tick is good = (good, record { handed = x; told = precise; body = is; seq_is = refl; precise_is = refl })
body_comes s before h k link x (DelayResp receive requesting) tick is good = good
body_comes s before h k link x (DelayReq origin) tick is good = good
body_comes s before h k link x (Announce origin utc p1 quality p2 gm steps source suffix) tick is good = good
body_comes s before h k link x (Signal target message) tick is good = good

message_comes : (s : Setting) (before : List Happened) (h : Happened) (k : ℕ) (link : LinkCfg) (f : FrameAt) (a : Arrival) (tick : ℕ) (reason : Option Reason) → (setting_of (s.set link.lower) link.lower_port).ds.role ≡ Slave → NoGood s before h link →
    (reason ≡ None → (x : Handed s before h k link) × (x.frame ≡ f) × (x.arrival ≡ a)) →
    ComesOf s before h k link (piece_unless reason (piece_of (setting_of (s.set link.lower) link.lower_port).ds.role f.sending.message.head f.sending.message.body (received_stamp s (world_after s before) link a) tick))
message_comes s before h k link f a tick None role good x =
    let it : _ = x refl in
    subst (λ r. ComesOf s before h k link (piece_of r f.sending.message.head f.sending.message.body (received_stamp s (world_after s before) link a) tick)) (sym role)
    (subst (λ (z : FrameAt). ComesOf s before h k link (piece_of Slave z.sending.message.head z.sending.message.body (received_stamp s (world_after s before) link a) tick)) it.1
    (subst (λ z. ComesOf s before h k link (piece_of Slave it.0.frame.sending.message.head it.0.frame.sending.message.body (received_stamp s (world_after s before) link z) tick)) it.2
    (body_comes s before h k link it.0 it.0.frame.sending.message.body tick refl good)))
message_comes s before h k link f a tick (Some reason) role good x = good

frame_grown : ChainSince → (s : Setting) (says : Result PtpMsg FrameFault) (y : ℤ) (before : List Happened) (i k : ℕ) (link : LinkCfg) (f : FrameAt) (a : Arrival) (o : Option End) → IsNetwork s → (setting_of (s.set link.lower) link.lower_port).ds.role ≡ Slave →
    link_of s k ≡ Some link → (world_after s before).frame i ≡ Some f → f.arrival ≡ Some a → end_at s f.link (other_of f.by) ≡ o →
    GrownIf s before (record { event = Deliver i; says = says; answer = y }) k link
    ((gives_all s y (moved s (world_after s before) (Deliver i)) (option_map_or (λ end. delivered_to f a end.node end.port) o [])).node link.lower)
frame_grown law s says y before i k link f a None net role is at arrived end = λ chain. nothing_grown s before (record { event = Deliver i; says = says; answer = y }) k link _ refl refl
frame_grown law s says y before i k link f a (Some end) net role is at arrived end_there =
    let w : WorldAt = world_after s before in
    let h : Happened = record { event = Deliver i; says = says; answer = y } in
    let v : WorldAt = moved s w (Deliver i) in
    let fixed : NodeSetting = node_setting_of s link.lower in
    let set : PortSetting = setting_of (s.set link.lower) link.lower_port in
    let node : NodeAt = w.node link.lower in
    let slave : slave_of (s.set link.lower) ≡ Some link.lower_port = slave_at s net k link is in
    let g : Given = record {
      to = end.node;
      input = Frame end.port (record { items = octets_of f.sending.message }) a.raw a.sample;
      says = Ok f.sending.message;
      at = f.sending.at;
    } in
    node_given (GrownIf s before h k link) s y v g link.lower
    (λ at_node chain. elim (eqb_tells link.lower_port end.port) [
      | inl x ↦
          let chain_there : Stands (run (servo_setting_of fixed) (node_step fixed (taken_of y (record g { input = Frame link.lower_port (record { items = octets_of f.sending.message }) a.raw a.sample })) node).node.calls) =
          subst (λ q. Stands (run (servo_setting_of fixed) (node_step fixed (taken_of y (record g { input = Frame q (record { items = octets_of f.sending.message }) a.raw a.sample })) node).node.calls)) (sym x.1) chain in
          let it : _ = frame_adds law fixed node link.lower_port (Ok f.sending.message) a.raw a.sample y slave chain_there in
          let same : end_of Slave link ≡ end = end_alike (end_of Slave link) end at_node x.1 in
          let where_it_is : (f.link ≡ k) × (other_of f.by ≡ Slave) = are_apart s net f.link k (other_of f.by) Slave end end_there (end_is s k Slave link is ∙ ap Some same) in
          record {
            piece = frame_piece fixed node link.lower_port (Ok f.sending.message) a.raw a.sample;
            adds =
                ap (λ q. pieces_at (s.set link.lower) (node_step fixed (taken_of y (record g { input = Frame q (record { items = octets_of f.sending.message }) a.raw a.sample })) node).node link.lower_port) (sym x.1)
                ∙ it.adds;
            comes =
                message_comes s before h k link f a node.ticks (early_reason set (link_at (s.set link.lower) node link.lower_port) f.sending.message) role refl
                (λ none. (
                  record {
                    number = i;
                    event = refl;
                    frame = f;
                    there = at;
                    link_is = where_it_is.0;
                    by_is = master_of f.by where_it_is.1;
                    arrival = a;
                    arrived = arrived;
                    takes = open_by (f.sending.message.head.domain == set.own.domain) (is_port f.sending.message.head.source set.ds.peer) (is_addressed set.ds f.sending.message.body) (is_open (link_at (s.set link.lower) node link.lower_port)) none;
                  },
                  refl,
                  refl,
                ));
          }
      | inr x ↦
          nothing_grown s before h k link (node_step fixed (taken_of y g) node).node refl
          (frame_passes law fixed node link.lower_port end.port (Ok f.sending.message) a.raw a.sample y x.0 slave chain).adds
    ])
    (λ chain. nothing_grown s before h k link node refl refl)

arrival_grown : ChainSince → (s : Setting) (says : Result PtpMsg FrameFault) (y : ℤ) (before : List Happened) (i k : ℕ) (link : LinkCfg) (f : FrameAt) (o : Option Arrival) → IsNetwork s → (setting_of (s.set link.lower) link.lower_port).ds.role ≡ Slave → link_of s k ≡ Some link →
    (world_after s before).frame i ≡ Some f → f.arrival ≡ o →
    GrownIf s before (record { event = Deliver i; says = says; answer = y }) k link ((gives_all s y (moved s (world_after s before) (Deliver i)) (delivered_by s f o)).node link.lower)
arrival_grown law s says y before i k link f None net role is at arrived = λ chain. nothing_grown s before (record { event = Deliver i; says = says; answer = y }) k link _ refl refl
arrival_grown law s says y before i k link f (Some a) net role is at arrived = frame_grown law s says y before i k link f a (end_at s f.link (other_of f.by)) net role is at arrived refl

pub deliver_grown : ChainSince → (s : Setting) (says : Result PtpMsg FrameFault) (y : ℤ) (before : List Happened) (i k : ℕ) (link : LinkCfg) (o : Option FrameAt) → IsNetwork s → (setting_of (s.set link.lower) link.lower_port).ds.role ≡ Slave → link_of s k ≡ Some link →
    (world_after s before).frame i ≡ o → GrownIf s before (record { event = Deliver i; says = says; answer = y }) k link ((gives_all s y (moved s (world_after s before) (Deliver i)) (delivered s o)).node link.lower)
deliver_grown law s says y before i k link None net role is at = λ chain. nothing_grown s before (record { event = Deliver i; says = says; answer = y }) k link _ refl refl
deliver_grown law s says y before i k link (Some f) net role is at = arrival_grown law s says y before i k link f f.arrival net role is at refl

-- Octets that the peer did not send

stranger : (domain source : Bool) (rest : Option Reason) (piece : Option Piece) → source ≡ false → piece_unless (if domain then (if source then rest else Some Stranger) else Some Domain) piece ≡ None
stranger true true rest piece e = absurd (false≢true (sym e))
stranger true false rest piece e = refl
stranger false source rest piece e = refl

strange_piece : (s : Setting) (link : LinkCfg) (node : NodeAt) (says : Result PtpMsg FrameFault) (raw : Raw) (sample : ℕ) → is_forged s link.lower link.lower_port says ≡ false → frame_piece (node_setting_of s link.lower) node link.lower_port says raw sample ≡ None
strange_piece s link node (Err fault) raw sample e = refl
strange_piece s link node (Ok m) raw sample e =
    let set : PortSetting = setting_of (s.set link.lower) link.lower_port in
    stranger (m.head.domain == set.own.domain) (is_port m.head.source set.ds.peer)
    (if is_addressed set.ds m.body then (if is_open (link_at (s.set link.lower) node link.lower_port) then None else Some Quiet) else Some NotForUs) _ e

pub noise_grown : ChainSince → (s : Setting) (says : Result PtpMsg FrameFault) (y : ℤ) (before : List Happened) (n p : ℕ) (octets : Items ℕ) (raw : Raw) (k : ℕ) (link : LinkCfg) → IsNetwork s → link_of s k ≡ Some link →
    Accepts s (world_after s before) says (Noise n p octets raw) →
    GrownIf s before (record { event = Noise n p octets raw; says = says; answer = y }) k link ((world_step s says y (world_after s before) (Noise n p octets raw)).node link.lower)
noise_grown law s says y before n p octets raw k link net is a =
    let w : WorldAt = world_after s before in
    let h : Happened = record { event = Noise n p octets raw; says = says; answer = y } in
    let fixed : NodeSetting = node_setting_of s link.lower in
    let node : NodeAt = w.node link.lower in
    let sample : ℕ = (w.clock n).samples in
    let slave : slave_of (s.set link.lower) ≡ Some link.lower_port = slave_at s net k link is in
    let g : Given = given n (Frame p octets raw sample) says in
    node_given (GrownIf s before h k link) s y (moved s w (Noise n p octets raw)) g link.lower
    (λ at_node chain. elim (eqb_tells link.lower_port p) [
      | inl x ↦
          let chain_there : Stands (run (servo_setting_of fixed) (node_step fixed (taken_of y (record g { input = Frame link.lower_port octets raw sample })) node).node.calls) =
          subst (λ q. Stands (run (servo_setting_of fixed) (node_step fixed (taken_of y (record g { input = Frame q octets raw sample })) node).node.calls)) (sym x.1) chain in
          let forged : is_forged s link.lower link.lower_port says ≡ false =
          ap (λ i. is_forged s i link.lower_port says) at_node ∙ ap (λ q. is_forged s n q says) x.1 ∙ not_forged s w n p says (place_of s n p) a in
          nothing_grown s before h k link (node_step fixed (taken_of y g) node).node refl
          (ap (λ q. pieces_at (s.set link.lower) (node_step fixed (taken_of y (record g { input = Frame q octets raw sample })) node).node link.lower_port) (sym x.1)
          ∙ (frame_adds law fixed node link.lower_port says raw sample y slave chain_there).adds
          ∙ ap (λ o. with_call o (exchange_at s link before)) (strange_piece s link node says raw sample forged))
      | inr x ↦
          nothing_grown s before h k link (node_step fixed (taken_of y g) node).node refl
          (frame_passes law fixed node link.lower_port p says raw sample y x.0 slave chain).adds
    ])
    (λ chain. nothing_grown s before h k link node refl refl)
