-- The exchange of a node's slave port has a chain only if the node's servo has one.
use Rattle.std.proofs.Common.{◌≡◌, ◌∙◌, refl, ap, sym, subst, ℕ, ◌==◌, ℤ, Bool, true, false, if◌then◌else◌, is_some, List, [], ◌∷◌, Option, None, Some, option_map, Result, Ok, Err}
use Rattle.std.proofs.lemmas.Bool.{false≢true}
use Rattle.std.proofs.lemmas.Option.{none-some}
use Rattle.std.specs.Option.{option_and_then, option_or}
use Rattle.wrp_base.specs.declared.link.Role.{Role}
use Rattle.wrp_base.specs.declared.link.Role.TheVariants.{Master, Slave}
use Rattle.wrp_base.specs.declared.message.Body.{Body}
use Rattle.wrp_base.specs.declared.message.Body.TheVariants.{Sync, DelayReq, FollowUp, DelayResp, Announce, Signal}
use Rattle.wrp_base.specs.declared.message.Head.{Head}
use Rattle.wrp_base.specs.declared.message.PtpMsg.{PtpMsg}
use Rattle.wrp_network.specs.declared.network.LinkCfg.{LinkCfg}
use Rattle.wrp_base.specs.declared.time.Raw.{Raw}
use Rattle.wrp_base.specs.declared.time.Stamp.{Stamp}
use Rattle.wrp_data.specs.declared.reason.Reason.{Reason}
use Rattle.wrp_exch.specs.Call.{Call as Piece, CallStart, CallClear, CallSample as SamplePiece, CallSync, CallFollowUp, CallReqOut, CallReqSent, CallResp}
use Rattle.wrp_exch.specs.Chain.{first_sample, phase_since}
use Rattle.wrp_exch.specs.declared.ring.GoodSample.{GoodSample}
use Rattle.wrp_exch.specs.declared.sync.HeldSync.{HeldSync}
use Rattle.wrp_exch.specs.DelayPair.{last_request}
use Rattle.wrp_exch.specs.Samples.{last_samples}
use Rattle.wrp_exch.specs.SyncHalf.{pending_sync}
use Rattle.wrp_exch.specs.SyncPair.{held_sync, is_followed, last_sync}
use Rattle.wrp_frame.specs.declared.fault.FrameFault.{FrameFault}
use Rattle.wrp_node.specs.declared.interface.Input.{Input}
use Rattle.wrp_node.specs.declared.interface.Input.TheVariants.{Tick as TickInput, Sample as SampleInput, Frame, Sent, Carrier, Reset}
use Rattle.wrp_node.specs.NodeAt.{NodeSetting, NodeAt, link_at, setting_of, servo_setting_of, slave_of}
use Rattle.wrp_node.specs.NodeStep.{counted_tick, handed, heard, heard_unless, is_slave_port, lease_ticked, measured_at, measurement_by, message_of, ports_ticked, servo_ticked, stepped, tick_of, used}
use Rattle.wrp_node.specs.Telling.{Step, answer_of, for_slave, heard_of, lease_change, link_change, number_of, settled, step_from, tell, with_lease, with_news, with_sample}
use Rattle.wrp_port.specs.declared.interface.PortIn.{PortIn}
use Rattle.wrp_port.specs.declared.interface.PortIn.TheVariants.{Chain, Lease, Msg, Tick as PortTick, Sample as PortSample, Sent as PortSent, Carrier as PortCarrier, Reset as PortReset}
use Rattle.wrp_port.specs.declared.setting.Setting.{Setting as PortSetting}
use Rattle.wrp_port.specs.Hearing.{early_reason, piece_of}
use Rattle.wrp_port.specs.History.{calls_of, rest_after}
use Rattle.wrp_port.specs.LineAfter.{requests_on, ticked}
use Rattle.wrp_port.specs.Outputs.{call_of, only_slave, piece_unless, sample_call, sent_call, with_call}
use Rattle.wrp_servo.specs.Call.{Call, CallSample, CallMeasured, CallTick, CallLease, CallLink, CallCarrier, CallReset, ServoSetting, after, run}
use Rattle.wrp_servo.specs.declared.machine.Core.{Core}
use Rattle.wrp_servo.specs.Sampling.{heard_as}
use Rattle.wrp_servo.specs.Servo.{answer_to, news_at, news_of}
use Rattle.wrp_course.specs.declared.event.Event.{Event}
use Rattle.wrp_course.specs.declared.event.Event.TheVariants.{Pass, Tick, Sample, Depart, Arrive, Deliver, Noise, Down, Up, Cut, Join}
use Rattle.wrp_course.specs.Run.{Happened, world_after}
use Rattle.wrp_course.specs.Runs.{IsNetwork}
use Rattle.wrp_course.specs.Setting.{Setting, link_of, node_setting_of}
use Rattle.wrp_bound_laws.specs.Exchanges.{exchange_at}
use Rattle.wrp_bound_laws.specs.Rates.{HasChain}
use Rattle.wrp_node.specs.SetLaws.{EndsAreSet}
use Rattle.wrp_bound_laws.proofs.Nodes.Inputs.{GivesTo, node_kept}
use Rattle.wrp_bound_laws.proofs.Motion.NodeSteps.{Stands}
use Rattle.wrp_bound_laws.proofs.Runs.PortRoles.{role_is}
use Rattle.wrp_bound_laws.proofs.SyncPairs.SyncCalls.{IsWithin, first_stays}
use Rattle.wrp_bound_laws.proofs.SyncPairs.SyncGiven.{slave_at}
use Rattle.wrp_bound_laws.proofs.SyncPairs.SyncTold.{lease_there, news_told, there}

-- What a slave port is given

-- its exchange has a chain
abbrev InPort : PortSetting → List PortIn → Type 0
InPort set told = is_some (first_sample (calls_of set told)) ≡ true

-- it is given neither news of the chain nor a new start
abbrev IsPlain : PortIn → Type 0
IsPlain (Chain news) = ⊥
IsPlain PortReset = ⊥
IsPlain _ = Unit {0}

slave_within : (role : Role) (o : Option Piece) → IsWithin o → IsWithin (only_slave role o)
slave_within Master o h = tt
slave_within Slave o h = h

unless_within : (reason : Option Reason) (o : Option Piece) → IsWithin o → IsWithin (piece_unless reason o)
unless_within None o h = h
unless_within (Some reason) o h = tt

if_within : (b : Bool) (p : Piece) → IsWithin (Some p) → IsWithin (if b then Some p else None)
if_within true p h = h
if_within false p h = tt

piece_within : (role : Role) (head : Head) (body : Body) (stamp : Stamp) (tick : ℕ) → IsWithin (piece_of role head body stamp tick)
piece_within Slave head (Sync origin) stamp tick = tt
piece_within Slave head (FollowUp precise) stamp tick = tt
piece_within Slave head (DelayResp receive requesting) stamp tick = tt
piece_within Slave head (DelayReq origin) stamp tick = tt
piece_within Slave head (Announce origin utc p1 quality p2 gm steps source suffix) stamp tick = tt
piece_within Slave head (Signal target message) stamp tick = tt
piece_within Master head body stamp tick = tt

-- then it is as it was
plain_stays : (set : PortSetting) (input : PortIn) (told : List PortIn) → IsPlain input → first_sample (calls_of set (input ∷ told)) ≡ first_sample (calls_of set told)
plain_stays set (Msg m stamp tick) told h =
    first_stays (calls_of set told) (call_of set (rest_after set told) (Msg m stamp tick))
    (unless_within (early_reason set (rest_after set told).link m) (piece_of set.ds.role m.head m.body stamp tick) (piece_within set.ds.role m.head m.body stamp tick))
plain_stays set Lease told h = refl
plain_stays set (PortTick locked certain) told h =
    first_stays (calls_of set told) (call_of set (rest_after set told) (PortTick locked certain))
    (slave_within set.ds.role (if requests_on (ticked set (rest_after set told) locked) then Some (CallReqOut (ticked set (rest_after set told) locked).ids.request) else None)
    (if_within (requests_on (ticked set (rest_after set told) locked)) (CallReqOut (ticked set (rest_after set told) locked).ids.request) tt))
plain_stays set (PortSent true seq stamp tick) told h =
    first_stays (calls_of set told) (sent_call set.ds.role seq stamp tick) (slave_within set.ds.role (Some (CallReqSent seq stamp tick)) tt)
plain_stays set (PortSent false seq stamp tick) told h = refl
plain_stays set (PortSample number phase) told h =
    first_stays (calls_of set told) (sample_call set.ds.role number phase) (slave_within set.ds.role (Some (SamplePiece number phase)) tt)
plain_stays set (PortCarrier up own_module) told h = refl
plain_stays set (Chain news) told h = absurd h
plain_stays set PortReset told h = absurd h

sample_stays : (set : PortSetting) (o : Option ℤ) (number : ℕ) (told : List PortIn) → first_sample (calls_of set (with_sample o number told)) ≡ first_sample (calls_of set told)
sample_stays set None number told = refl
sample_stays set (Some phase) number told = plain_stays set (PortSample number phase) told tt

-- the news of the chain: it is given when one ends
ended_none : (role : Role) (calls : List Piece) → role ≡ Slave → is_some (first_sample (with_call (only_slave role (Some CallClear)) calls)) ≡ true → ⊥
ended_none Slave calls e h = false≢true h
ended_none Master calls e h = absurd cc

after_news : (set : PortSetting) (a b : Option ℕ) (told : List PortIn) → set.ds.role ≡ Slave → (InPort set told → is_some a ≡ true) → InPort set (with_news (news_of a b) told) → is_some b ≡ true
after_news set None None told slave was now = was now
after_news set None (Some n) told slave was now = refl
after_news set (Some m) None told slave was now = absurd (ended_none set.ds.role (calls_of set told) slave now)
after_news set (Some m) (Some n) told slave was now = refl

-- A node

-- the exchange of its slave port has a chain only if its servo has one
abbrev pub ChainsAgree : NodeSetting → ℕ → NodeAt → Type 0
ChainsAgree fixed p n = InPort (setting_of fixed.set p) (n.told p) → Stands (run (servo_setting_of fixed) n.calls)

-- a port of its node
record IsSlavePort (fixed : NodeSetting) (p : ℕ) : Type 0 where
  port : slave_of fixed.set ≡ Some p
  role : (setting_of fixed.set p).ds.role ≡ Slave

chain_told : (x : ServoSetting) (v : Core) (c : Call) → (answer_to x v c).chain ≡ news_at x v c
chain_told x v (CallSample n base bits) = news_told (heard_as v n base bits) (after x v (CallSample n base bits)) (news_at x v (CallSample n base bits))
chain_told x v (CallMeasured f y) = refl
chain_told x v CallTick = refl
chain_told x v (CallLease fresh) = refl
chain_told x v (CallLink on) = refl
chain_told x v (CallCarrier up) = refl
chain_told x v CallReset = refl

-- its servo is given something
tell_agrees : (fixed : NodeSetting) (p : ℕ) → IsSlavePort fixed p → (call : Option Call) (s : Step) → ChainsAgree fixed p s.node → ChainsAgree fixed p (tell fixed call s).node
tell_agrees fixed p at None s was now =
    was (subst (InPort (setting_of fixed.set p)) (there (slave_of fixed.set) (answer_of fixed None s.node.calls) 0 s.node.told p at.port) now)
tell_agrees fixed p at (Some c) s was now =
    let x : ServoSetting = servo_setting_of fixed in
    let v : Core = run x s.node.calls in
    let set : PortSetting = setting_of fixed.set p in
    let k : ℕ = number_of (Some c) in
    let heard : InPort set (heard_of (answer_to x v c) k (s.node.told p)) =
    subst (InPort set) (there (slave_of fixed.set) (answer_to x v c) k s.node.told p at.port) now in
    let news : InPort set (with_news (answer_to x v c).chain (s.node.told p)) =
    sym (ap is_some (sample_stays set (answer_to x v c).unwrapped k (with_news (answer_to x v c).chain (s.node.told p)))) ∙ heard in
    after_news set v.first (after x v c).first (s.node.told p) at.role was
    (subst (λ z. InPort set (with_news z (s.node.told p))) (chain_told x v c) news)

settled_agrees : (fixed : NodeSetting) (p : ℕ) → IsSlavePort fixed p → (s : Step) → ChainsAgree fixed p s.node → ChainsAgree fixed p (settled fixed s).node
settled_agrees fixed p at s was =
    let w : Step = with_lease fixed s in
    tell_agrees fixed p at (link_change fixed w.node) w (tell_agrees fixed p at (lease_change fixed s.node) s was)

-- one of its ports is given something
told_agrees : (fixed : NodeSetting) (p : ℕ) (b : Bool) (input : PortIn) (n : NodeAt) → IsPlain input → ChainsAgree fixed p n → InPort (setting_of fixed.set p) (if b then input ∷ n.told p else n.told p) → Stands (run (servo_setting_of fixed) n.calls)
told_agrees fixed p true input n plain was now = was (sym (ap is_some (plain_stays (setting_of fixed.set p) input (n.told p) plain)) ∙ now)
told_agrees fixed p false input n plain was now = was now

-- Its inputs

tick_agrees : (fixed : NodeSetting) (p : ℕ) → IsSlavePort fixed p → (n : NodeAt) → ChainsAgree fixed p n → ChainsAgree fixed p (ports_ticked fixed (servo_ticked fixed n)).node
tick_agrees fixed p at n was =
    let set : PortSetting = setting_of fixed.set p in
    let first : Step = step_from (counted_tick fixed n) in
    let leased : ChainsAgree fixed p first.node =
    λ now. was (sym (ap is_some (plain_stays set Lease (n.told p) tt)) ∙ subst (InPort set) (lease_there (slave_of fixed.set) p n.told at.port) now) in
    let mid : Step = servo_ticked fixed n in
    let servo : ChainsAgree fixed p mid.node =
    tell_agrees fixed p at (for_slave fixed (Some CallTick)) (lease_ticked fixed n) (tell_agrees fixed p at (lease_change fixed first.node) first leased) in
    λ now. servo (sym (ap is_some (plain_stays set (tick_of fixed mid.node) (mid.node.told p) tt)) ∙ now)

unless_agrees : (fixed : NodeSetting) (p : ℕ) → IsSlavePort fixed p → (n : NodeAt) (q : ℕ) (input : PortIn) (answer : ℤ) (reason : Option Reason) → IsPlain input → ChainsAgree fixed p n → ChainsAgree fixed p (heard_unless reason fixed q input answer n).node
unless_agrees fixed p at n q input answer None plain was =
    tell_agrees fixed p at (for_slave fixed (measurement_by (measured_at fixed n q input) answer)) (used fixed q input n) (told_agrees fixed p (p == q) input n plain was)
unless_agrees fixed p at n q input answer (Some reason) plain was = was

frame_agrees : (fixed : NodeSetting) (p : ℕ) → IsSlavePort fixed p → (n : NodeAt) (q : ℕ) (says : Result PtpMsg FrameFault) (raw : Raw) (sample : ℕ) (answer : ℤ) → ChainsAgree fixed p n → ChainsAgree fixed p (heard fixed q says raw sample answer n).node
frame_agrees fixed p at n q (Err fault) raw sample answer was = was
frame_agrees fixed p at n q (Ok m) raw sample answer was =
    unless_agrees fixed p at n q (message_of fixed n q m raw sample) answer (early_reason (setting_of fixed.set q) (link_at fixed.set n q) m) tt was

input_agrees : (fixed : NodeSetting) (p : ℕ) → IsSlavePort fixed p → (n : NodeAt) (input : Input) (says : Result PtpMsg FrameFault) (answer : ℤ) → ChainsAgree fixed p n → ChainsAgree fixed p (stepped fixed input says answer n).node
input_agrees fixed p at n TickInput says answer was = tick_agrees fixed p at n was
input_agrees fixed p at n (SampleInput number base bits) says answer was = tell_agrees fixed p at (for_slave fixed (Some (CallSample number base bits))) (step_from n) was
input_agrees fixed p at n (Frame q octets raw sample) says answer was = frame_agrees fixed p at n q says raw sample answer was
input_agrees fixed p at n (Sent q seq delay stamp) says answer was = told_agrees fixed p (p == q) (PortSent delay seq stamp n.ticks) n tt was
input_agrees fixed p at n (Carrier q up own_module) says answer was =
    tell_agrees fixed p at (for_slave fixed (if is_slave_port (slave_of fixed.set) q then Some (CallCarrier up) else None)) (handed fixed q (PortCarrier up own_module) n)
    (told_agrees fixed p (p == q) (PortCarrier up own_module) n tt was)
input_agrees fixed p at n Reset says answer was = λ now. absurd (false≢true now)

-- Every run

any_input : (n : ℕ) (e : Event) → GivesTo (λ i. Unit {0}) n e
any_input n (Tick m) = λ is. tt
any_input n (Sample m base bits) = λ is number. tt
any_input n (Depart m p stamp) = λ q seq delay t. tt
any_input n (Deliver i) = λ q octets raw sample. tt
any_input n (Noise m p octets raw) = λ sample. tt
any_input n (Down m) = λ q. tt
any_input n (Up m off swaps) = (λ is. tt, λ q own_module. tt)
any_input n (Cut k) = λ q. tt
any_input n (Join k ms sm) = λ q own_module. tt
any_input n (Pass dt drifts fibres) = tt
any_input n (Arrive i raw) = tt

chains_agree : (s : Setting) (n p : ℕ) → IsSlavePort (node_setting_of s n) p → (events : List Happened) → ChainsAgree (node_setting_of s n) p ((world_after s events).node n)
chains_agree s n p at [] = λ now. absurd (false≢true now)
chains_agree s n p at (h ∷ before) =
    node_kept (ChainsAgree (node_setting_of s n) p) (λ i. Unit {0}) s h.says h.answer (world_after s before) h.event n
    (λ t m any was. settled_agrees (node_setting_of s n) p at (stepped (node_setting_of s n) t.input t.says t.answer m) (input_agrees (node_setting_of s n) p at m t.input t.says t.answer was))
    (any_input n h.event) (chains_agree s n p at before)

pub in_chain : EndsAreSet → (s : Setting) → IsNetwork s → (events : List Happened) (k : ℕ) (link : LinkCfg) → link_of s k ≡ Some link → is_some (first_sample (exchange_at s link events)) ≡ true → HasChain s link.lower events
in_chain ends s net events k link is now =
    chains_agree s link.lower link.lower_port (record { port = slave_at s net k link is; role = role_is ends s net k Slave link is }) events now

-- What is held only in a chain

no_phase : (o : Option ℕ) (good : List GoodSample) (n : ℕ) (u : ℤ) → phase_since o good n ≡ Some u → is_some o ≡ true
no_phase None good n u e = absurd (none-some u e)
no_phase (Some first) good n u e = refl

kept_first : (f : ℤ → HeldSync) (o : Option ℤ) (held : HeldSync) → option_map f o ≡ Some held → (u : ℤ) × (o ≡ Some u)
kept_first f None held e = absurd (none-some held e)
kept_first f (Some u) held e = (u, refl)

either_first : (P : Type 0) (o p : Option HeldSync) (held : HeldSync) → (o ≡ Some held → P) → (p ≡ Some held → P) → option_or o p ≡ Some held → P
either_first P None p held h k e = k e
either_first P (Some x) p held h k e = h e

last_in_chain : (ring : ℕ) (calls : List Piece) (held : HeldSync) → last_sync ring calls ≡ Some held → is_some (first_sample calls) ≡ true
last_in_chain ring [] held e = absurd (none-some held e)
last_in_chain ring (CallStart first ∷ calls) held e = refl
last_in_chain ring (CallClear ∷ calls) held e = absurd (none-some held e)
last_in_chain ring (CallSync seq correction t2 tick ∷ calls) held e =
    either_first (is_some (first_sample calls) ≡ true) (option_map (held_sync seq correction t2 tick) (phase_since (first_sample calls) (last_samples ring calls) t2.sample)) (last_sync ring calls) held
    (λ now.
    let u : _ = kept_first (held_sync seq correction t2 tick) (phase_since (first_sample calls) (last_samples ring calls) t2.sample) held now in
    no_phase (first_sample calls) (last_samples ring calls) t2.sample u.0 u.1)
    (λ old. last_in_chain ring calls held old) e
last_in_chain ring (SamplePiece number phase ∷ calls) held e = last_in_chain ring calls held e
last_in_chain ring (CallFollowUp seq precise ∷ calls) held e = last_in_chain ring calls held e
last_in_chain ring (CallReqOut seq ∷ calls) held e = last_in_chain ring calls held e
last_in_chain ring (CallReqSent seq t3 tick ∷ calls) held e = last_in_chain ring calls held e
last_in_chain ring (CallResp seq t4 ∷ calls) held e = last_in_chain ring calls held e

-- a Sync that is pending is the last one that was kept
pends_last : (ring : ℕ) (calls : List Piece) (o : Option HeldSync) (held : HeldSync) → option_and_then (λ (s : HeldSync). if is_followed ring s.seq calls then None else Some s) o ≡ Some held → o ≡ Some held
pends_last ring calls None held e = absurd (none-some held e)
pends_last ring calls (Some s) held e = unless (is_followed ring s.seq calls) e
  where
    unless : (b : Bool) → (if b then None else Some s) ≡ Some held → Some s ≡ Some held
    unless true h = absurd (none-some held h)
    unless false h = h

pub pending_last : (ring : ℕ) (calls : List Piece) (held : HeldSync) → pending_sync ring calls ≡ Some held → last_sync ring calls ≡ Some held
pending_last ring calls held e = pends_last ring calls (last_sync ring calls) held e

pub pending_in_chain : (ring : ℕ) (calls : List Piece) (held : HeldSync) → pending_sync ring calls ≡ Some held → is_some (first_sample calls) ≡ true
pending_in_chain ring calls held e = last_in_chain ring calls held (pending_last ring calls held e)

request_first : (o : Option ℕ) (seq id : ℕ) → option_map (λ (first : ℕ). seq) o ≡ Some id → is_some o ≡ true
request_first None seq id e = absurd (none-some id e)
request_first (Some first) seq id e = refl

-- nor is a request open without a chain
pub request_in_chain : (calls : List Piece) (id : ℕ) → last_request calls ≡ Some id → is_some (first_sample calls) ≡ true
request_in_chain [] id e = absurd (none-some id e)
request_in_chain (CallStart first ∷ calls) id e = refl
request_in_chain (CallClear ∷ calls) id e = absurd (none-some id e)
request_in_chain (CallReqOut seq ∷ calls) id e = request_first (first_sample calls) seq id e
request_in_chain (SamplePiece number phase ∷ calls) id e = request_in_chain calls id e
request_in_chain (CallSync seq correction t2 tick ∷ calls) id e = request_in_chain calls id e
request_in_chain (CallFollowUp seq precise ∷ calls) id e = request_in_chain calls id e
request_in_chain (CallReqSent seq t3 tick ∷ calls) id e = request_in_chain calls id e
request_in_chain (CallResp seq t4 ∷ calls) id e = request_in_chain calls id e
