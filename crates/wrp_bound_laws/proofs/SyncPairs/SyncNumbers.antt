-- Samples of an exchange have no higher numbers than the last sample of their node.
use Rattle.std.proofs.Common.{◌≡◌, inl, inr, ◌∙◌, refl, ap, sym, subst, ℕ, ◌+◌, ◌≤◌, ◌==◌, ℤ, Bool, true, false, if◌then◌else◌, is_some, List, [], ◌∷◌, Option, None, Some, Result, Ok, Err, arith}
use Rattle.std.proofs.lemmas.Bool.Decides.{eqb_tells}
use Rattle.std.specs.List.{AllByRecursion}
use Rattle.wrp_base.specs.declared.link.Role.{Role}
use Rattle.wrp_base.specs.declared.link.Role.TheVariants.{Master, Slave}
use Rattle.wrp_base.specs.declared.measurement.ChainNews.{ChainNews}
use Rattle.wrp_base.specs.declared.measurement.ChainNews.TheVariants.{Same, Started, Ended}
use Rattle.wrp_base.specs.declared.message.Body.{Body}
use Rattle.wrp_base.specs.declared.message.Body.TheVariants.{Sync, DelayReq, FollowUp, DelayResp, Announce, Signal}
use Rattle.wrp_base.specs.declared.message.Head.{Head}
use Rattle.wrp_base.specs.declared.message.PtpMsg.{PtpMsg}
use Rattle.wrp_network.specs.declared.network.LinkCfg.{LinkCfg}
use Rattle.wrp_base.specs.declared.time.Stamp.{Stamp}
use Rattle.wrp_base.proofs.Naturals.{eq_self, le_one_more, nat_le_self}
use Rattle.wrp_data.specs.declared.reason.Reason.{Reason}
use Rattle.wrp_exch.specs.declared.ring.GoodSample.{GoodSample}
use Rattle.wrp_exch.specs.Call.{Call as Piece, CallStart, CallClear, CallSample as SamplePiece, CallSync, CallFollowUp, CallReqOut, CallReqSent, CallResp}
use Rattle.wrp_exch.specs.Samples.{samples}
use Rattle.wrp_frame.specs.declared.fault.FrameFault.{FrameFault}
use Rattle.wrp_node.specs.declared.interface.Input.{Input}
use Rattle.wrp_node.specs.declared.interface.Input.TheVariants.{Tick as TickInput, Sample as SampleInput, Frame, Sent, Carrier, Reset}
use Rattle.wrp_node.specs.NodeAt.{NodeSetting, NodeAt, Taken, certain_of, locked_of, link_at, setting_of, slave_of}
use Rattle.wrp_node.specs.NodeStep.{counted_tick, handed, heard, heard_unless, is_slave_port, lease_ticked, measured_at, measurement_by, node_step, servo_ticked, stepped, told_slave, used}
use Rattle.wrp_node.specs.Telling.{Step, answer_of, for_slave, heard_of, lease_change, link_change, number_of, settled, step_from, tell, told_by, with_lease, with_news, with_sample}
use Rattle.wrp_port.specs.declared.interface.PortIn.{PortIn}
use Rattle.wrp_port.specs.declared.interface.PortIn.TheVariants.{Msg, Lease, Tick, Sent as PortSent, Carrier as PortCarrier, Sample, Chain, Reset as PortReset}
use Rattle.wrp_port.specs.declared.setting.Setting.{Setting as PortSetting}
use Rattle.wrp_port.specs.Hearing.{early_reason, piece_of}
use Rattle.wrp_port.specs.History.{calls_of, rest_after}
use Rattle.wrp_port.specs.LineAfter.{requests_on, ticked}
use Rattle.wrp_port.specs.Outputs.{only_slave, piece_unless, with_call}
use Rattle.wrp_servo.specs.declared.interface.ServoOut.{ServoOut}
use Rattle.wrp_servo.specs.Call.{Call, CallCarrier, CallLease, CallLink, CallSample, CallTick}
use Rattle.wrp_course.specs.declared.event.Event.{Event}
use Rattle.wrp_course.specs.declared.event.Event.TheVariants.{Pass, Tick as TickEvent, Sample as SampleEvent, Depart, Arrive, Deliver, Noise, Down, Up, Cut, Join}
use Rattle.wrp_course.specs.Given.{Given, at_ports, comes_from, given_plain, gives, step_of, taken_of}
use Rattle.wrp_course.specs.Moved.{moved}
use Rattle.wrp_course.specs.Run.{Happened, world_after}
use Rattle.wrp_course.specs.Setting.{Setting, node_setting_of}
use Rattle.wrp_course.specs.WorldAt.{WorldAt}
use Rattle.wrp_bound_laws.specs.Exchanges.{exchange_at}
use Rattle.wrp_bound_laws.proofs.Nodes.Inputs.{GivesTo, node_given, node_given_all, node_kept, gives_to}
use Rattle.wrp_bound_laws.proofs.Samples.SampleEvents.{IsLowOf, samples_then, sampled_samples, low_stay}

-- the samples have no higher numbers
abbrev pub AtMost : ℕ → List Piece → Type 0
AtMost n calls = AllByRecursion (λ x. x.number ≤ n) (samples calls)

-- Calls

abbrev IsPlain : ℕ → Option Piece → Type 0
IsPlain n (Some (SamplePiece number phase)) = number ≤ n
IsPlain n _ = Unit {0}

one_more : (n : ℕ) (o : Option Piece) (calls : List Piece) → IsPlain n o → AtMost n calls → AtMost n (with_call o calls)
one_more n None calls p h = h
one_more n (Some (CallStart first)) calls p h = h
one_more n (Some CallClear) calls p h = tt
one_more n (Some (SamplePiece number phase)) calls p h = (p, h)
one_more n (Some (CallSync seq correction t2 tick)) calls p h = h
one_more n (Some (CallFollowUp seq precise)) calls p h = h
one_more n (Some (CallReqOut seq)) calls p h = h
one_more n (Some (CallReqSent seq t3 tick)) calls p h = h
one_more n (Some (CallResp seq t4)) calls p h = h

piece_plain : (n : ℕ) (reason : Option Reason) (role : Role) (head : Head) (body : Body) (stamp : Stamp) (tick : ℕ) → IsPlain n (piece_unless reason (piece_of role head body stamp tick))
piece_plain n (Some reason) role head body stamp tick = tt
piece_plain n None Slave head (Sync origin) stamp tick = tt
piece_plain n None Slave head (FollowUp precise) stamp tick = tt
piece_plain n None Slave head (DelayResp receive requesting) stamp tick = tt
piece_plain n None Slave head (DelayReq origin) stamp tick = tt
piece_plain n None Slave head (Announce origin utc p1 quality p2 gm steps source suffix) stamp tick = tt
piece_plain n None Slave head (Signal target message) stamp tick = tt
piece_plain n None Master head body stamp tick = tt

slave_plain : (n : ℕ) (role : Role) (o : Option Piece) → IsPlain n o → IsPlain n (only_slave role o)
slave_plain n Master o h = tt
slave_plain n Slave o h = h

if_plain : (n : ℕ) (b : Bool) (o : Option Piece) → IsPlain n o → IsPlain n (if b then o else None)
if_plain n true o h = h
if_plain n false o h = tt

-- What a port is given

abbrev IsSmall : ℕ → PortIn → Type 0
IsSmall n (Sample number phase) = number ≤ n
IsSmall n _ = Unit {0}

abbrev Holds : ℕ → PortSetting → List PortIn → Type 0
Holds n set told = AtMost n (calls_of set told)

told_more : (n : ℕ) (set : PortSetting) (x : PortIn) (told : List PortIn) → IsSmall n x → Holds n set told → Holds n set (x ∷ told)
told_more n set (Msg m stamp tick) told p h = one_more n _ (calls_of set told) (piece_plain n (early_reason set (rest_after set told).link m) set.ds.role m.head m.body stamp tick) h
told_more n set Lease told p h = h
told_more n set (Tick locked certain) told p h = one_more n _ (calls_of set told) (slave_plain n set.ds.role _ (if_plain n (requests_on (ticked set (rest_after set told) locked)) (Some (CallReqOut _)) tt)) h
told_more n set (PortSent true seq stamp tick) told p h = one_more n _ (calls_of set told) (slave_plain n set.ds.role (Some (CallReqSent seq stamp tick)) tt) h
told_more n set (PortSent false seq stamp tick) told p h = h
told_more n set (PortCarrier up own_module) told p h = h
told_more n set (Sample number phase) told p h = one_more n _ (calls_of set told) (slave_plain n set.ds.role (Some (SamplePiece number phase)) p) h
told_more n set (Chain Same) told p h = one_more n _ (calls_of set told) (slave_plain n set.ds.role None tt) h
told_more n set (Chain (Started first)) told p h = one_more n _ (calls_of set told) (slave_plain n set.ds.role (Some (CallStart first)) tt) h
told_more n set (Chain Ended) told p h = one_more n _ (calls_of set told) (slave_plain n set.ds.role (Some CallClear) tt) h
told_more n set PortReset told p h = tt

heard_more : (n : ℕ) (set : PortSetting) (o : Option ℤ) (k : ℕ) (news : ChainNews) (told : List PortIn) → k ≤ n → Holds n set told → Holds n set (with_sample o k (with_news news told))
heard_more n set None k Same told l h = h
heard_more n set None k (Started first) told l h = told_more n set (Chain (Started first)) told tt h
heard_more n set None k Ended told l h = told_more n set (Chain Ended) told tt h
heard_more n set (Some u) k Same told l h = told_more n set (Sample k u) told l h
heard_more n set (Some u) k (Started first) told l h = told_more n set (Sample k u) (Chain (Started first) ∷ told) l (told_more n set (Chain (Started first)) told tt h)
heard_more n set (Some u) k Ended told l h = told_more n set (Sample k u) (Chain Ended ∷ told) l (told_more n set (Chain Ended) told tt h)

more_where : (n : ℕ) (set : PortSetting) (b : Bool) (new old : List PortIn) → Holds n set new → Holds n set old → Holds n set (if b then new else old)
more_where n set true new old h k = h
more_where n set false new old h k = k

told_by_more : (n : ℕ) (set : PortSetting) (o : Option ℕ) (out : ServoOut) (k : ℕ) (told : ℕ → List PortIn) (p : ℕ) → k ≤ n → Holds n set (told p) → Holds n set (told_by o out k told p)
told_by_more n set None out k told p l h = h
told_by_more n set (Some q) out k told p l h = more_where n set (p == q) (heard_of out k (told p)) (told p) (heard_more n set out.unwrapped k out.chain (told p) l h) h

-- A node's step

abbrev pub HoldsAt : NodeSetting → ℕ → ℕ → NodeAt → Type 0
HoldsAt fixed p n node = Holds n (setting_of fixed.set p) (node.told p)

tell_more : (fixed : NodeSetting) (p n : ℕ) (o : Option Call) (s : Step) → number_of o ≤ n → HoldsAt fixed p n s.node → HoldsAt fixed p n (tell fixed o s).node
tell_more fixed p n o s l h = told_by_more n (setting_of fixed.set p) (slave_of fixed.set) (answer_of fixed o s.node.calls) (number_of o) s.node.told p l h

small_if : (n : ℕ) (b : Bool) (o : Option Call) → number_of o ≤ n → number_of (if b then o else None) ≤ n
small_if n true o h = h
small_if n false o h = omega arith

least : (n : ℕ) → 0 ≤ n
least n = omega arith

settled_more : (fixed : NodeSetting) (p n : ℕ) (s : Step) → HoldsAt fixed p n s.node → HoldsAt fixed p n (settled fixed s).node
settled_more fixed p n s h =
    let w : Step = with_lease fixed s in
    tell_more fixed p n (link_change fixed w.node) w (small_if n (is_some (slave_of fixed.set)) _ (small_if n _ (Some (CallLink _)) (least n)))
    (tell_more fixed p n (lease_change fixed s.node) s (small_if n (is_some (slave_of fixed.set)) _ (small_if n _ (Some (CallLease _)) (least n))) h)

slave_told : (n : ℕ) (set : PortSetting) (o : Option ℕ) (told : ℕ → List PortIn) (p : ℕ) → Holds n set (told p) → Holds n set (told_slave o Lease told p)
slave_told n set None told p h = h
slave_told n set (Some q) told p h = more_where n set (p == q) (Lease ∷ told p) (told p) h h

tick_more : (fixed : NodeSetting) (p n : ℕ) (node : NodeAt) → HoldsAt fixed p n node → HoldsAt fixed p n (servo_ticked fixed node).node
tick_more fixed p n node h =
    tell_more fixed p n (for_slave fixed (Some CallTick)) (lease_ticked fixed node) (small_if n (is_some (slave_of fixed.set)) (Some CallTick) (least n))
    (tell_more fixed p n (lease_change fixed (counted_tick fixed node)) (step_from (counted_tick fixed node)) (small_if n (is_some (slave_of fixed.set)) _ (small_if n _ (Some (CallLease _)) (least n)))
    (slave_told n (setting_of fixed.set p) (slave_of fixed.set) node.told p h))

unless_more : (fixed : NodeSetting) (p n : ℕ) (node : NodeAt) (q : ℕ) (m : PtpMsg) (stamp : Stamp) (tick : ℕ) (answer : ℤ) (reason : Option Reason) → HoldsAt fixed p n node → HoldsAt fixed p n (heard_unless reason fixed q (Msg m stamp tick) answer node).node
unless_more fixed p n node q m stamp tick answer None h =
    tell_more fixed p n (for_slave fixed (measurement_by (measured_at fixed node q (Msg m stamp tick)) answer)) (used fixed q (Msg m stamp tick) node)
    (small_if n (is_some (slave_of fixed.set)) _ (none_small (measured_at fixed node q (Msg m stamp tick))))
    (more_where n (setting_of fixed.set p) (p == q) (Msg m stamp tick ∷ node.told p) (node.told p) (told_more n (setting_of fixed.set p) (Msg m stamp tick) (node.told p) tt h) h)
  where
    none_small : (o : Option _) → number_of (measurement_by o answer) ≤ n
    none_small None = least n
    none_small (Some four) = least n
unless_more fixed p n node q m stamp tick answer (Some reason) h = h

heard_all : (fixed : NodeSetting) (p n : ℕ) (node : NodeAt) (q : ℕ) (says : Result PtpMsg FrameFault) (raw : _) (sample : ℕ) (answer : ℤ) → HoldsAt fixed p n node → HoldsAt fixed p n (heard fixed q says raw sample answer node).node
heard_all fixed p n node q (Err fault) raw sample answer h = h
heard_all fixed p n node q (Ok m) raw sample answer h = unless_more fixed p n node q m _ node.ticks answer (early_reason (setting_of fixed.set q) (link_at fixed.set node q) m) h

-- an input that is no sample of a higher number
abbrev pub IsLow : ℕ → Input → Type 0
IsLow n (SampleInput number base bits) = number ≤ n
IsLow n _ = Unit {0}

stepped_more : (fixed : NodeSetting) (p n : ℕ) (node : NodeAt) (input : Input) (says : Result PtpMsg FrameFault) (answer : ℤ) → IsLow n input → HoldsAt fixed p n node → HoldsAt fixed p n (stepped fixed input says answer node).node
stepped_more fixed p n node TickInput says answer l h = told_more n (setting_of fixed.set p) (Tick (locked_of fixed (servo_ticked fixed node).node) (certain_of fixed (servo_ticked fixed node).node)) ((servo_ticked fixed node).node.told p) tt (tick_more fixed p n node h)
stepped_more fixed p n node (SampleInput number base bits) says answer l h = tell_more fixed p n (for_slave fixed (Some (CallSample number base bits))) (step_from node) (small_if n (is_some (slave_of fixed.set)) (Some (CallSample number base bits)) l) h
stepped_more fixed p n node (Frame q octets raw sample) says answer l h = heard_all fixed p n node q says raw sample answer h
stepped_more fixed p n node (Sent q seq delay stamp) says answer l h =
    more_where n (setting_of fixed.set p) (p == q) (PortSent delay seq stamp node.ticks ∷ node.told p) (node.told p) (told_more n (setting_of fixed.set p) (PortSent delay seq stamp node.ticks) (node.told p) tt h) h
stepped_more fixed p n node (Carrier q up own_module) says answer l h =
    tell_more fixed p n (for_slave fixed (if is_slave_port (slave_of fixed.set) q then Some (CallCarrier up) else None)) (handed fixed q (PortCarrier up own_module) node)
    (small_if n (is_some (slave_of fixed.set)) _ (small_if n (is_slave_port (slave_of fixed.set) q) (Some (CallCarrier up)) (least n)))
    (more_where n (setting_of fixed.set p) (p == q) (PortCarrier up own_module ∷ node.told p) (node.told p) (told_more n (setting_of fixed.set p) (PortCarrier up own_module) (node.told p) tt h) h)
stepped_more fixed p n node Reset says answer l h = tt

pub step_more : (fixed : NodeSetting) (p n : ℕ) (t : Taken) (node : NodeAt) → IsLow n t.input → HoldsAt fixed p n node → HoldsAt fixed p n (node_step fixed t node).node
step_more fixed p n t node l h = settled_more fixed p n (stepped fixed t.input t.says t.answer node) (stepped_more fixed p n node t.input t.says t.answer l h)

reset_more : (fixed : NodeSetting) (p n : ℕ) (t : Taken) (node : NodeAt) → t.input ≡ Reset → HoldsAt fixed p n (node_step fixed t node).node
reset_more fixed p n t node e =
    subst (λ (i : Input). HoldsAt fixed p n (settled fixed (stepped fixed i t.says t.answer node)).node) (sym e) (settled_more fixed p n (stepped fixed Reset t.says t.answer node) tt)

-- Every run

abbrev NumbersHold : Setting → List Happened → LinkCfg → ℕ → Type 0
NumbersHold s events link n = HoldsAt (node_setting_of s link.lower) link.lower_port n ((world_after s events).node link.lower)

weaker : (a b : ℕ) (calls : List Piece) → a ≤ b → AtMost a calls → AtMost b calls
weaker a b calls l h = all_weaker (samples calls) h
  where
    below : (x : ℕ) → x ≤ a → x ≤ b
    below x k = omega (arith, l, k)

    all_weaker : (xs : List GoodSample) → AllByRecursion (λ x. x.number ≤ a) xs → AllByRecursion (λ x. x.number ≤ b) xs
    all_weaker [] k = tt
    all_weaker (x ∷ xs) k = (below x.number k.0, all_weaker xs k.1)

low_to : (bound n : ℕ) (e : Event) → IsLowOf n e → GivesTo (IsLow bound) n e
low_to bound n (TickEvent m) h = λ is. tt
low_to bound n (SampleEvent m base bits) h = λ is number. absurd (h is)
low_to bound n (Depart m p stamp) h = λ q seq delay t. tt
low_to bound n (Deliver i) h = λ q octets raw sample. tt
low_to bound n (Noise m p octets raw) h = λ sample. tt
low_to bound n (Down m) h = λ q. tt
low_to bound n (Up m off swaps) h = (λ is. tt, λ q own_module. tt)
low_to bound n (Cut k) h = λ q. tt
low_to bound n (Join k ms sm) h = λ q own_module. tt
low_to bound n (Pass dt drifts fibres) h = tt
low_to bound n (Arrive i raw) h = tt

low_numbers : (s : Setting) (h : Happened) (before : List Happened) (link : LinkCfg) → IsLowOf link.lower h.event → NumbersHold s before link ((world_after s before).clock link.lower).samples → NumbersHold s (h ∷ before) link ((world_after s (h ∷ before)).clock link.lower).samples
low_numbers s h before link low old =
    let n : ℕ = link.lower in
    let fixed : NodeSetting = node_setting_of s n in
    let bound : ℕ = ((world_after s before).clock n).samples in
    subst (NumbersHold s (h ∷ before) link) (sym (low_stay s h before n low))
    (node_kept (HoldsAt fixed link.lower_port bound) (IsLow bound) s h.says h.answer (world_after s before) h.event n (λ t m q k. step_more fixed link.lower_port bound t m q k) (low_to bound n h.event low) old)

sample_numbers : (s : Setting) (says : Result PtpMsg FrameFault) (y : ℤ) (before : List Happened) (m base bits : ℕ) (link : LinkCfg) → link.lower ≡ m → NumbersHold s before link ((world_after s before).clock link.lower).samples →
    NumbersHold s (record { event = SampleEvent m base bits; says = says; answer = y } ∷ before) link ((world_after s (record { event = SampleEvent m base bits; says = says; answer = y } ∷ before)).clock link.lower).samples
sample_numbers s says y before m base bits link same old =
    let n : ℕ = link.lower in
    let w : WorldAt = world_after s before in
    let v : WorldAt = moved s w (SampleEvent m base bits) in
    let h : Happened = record { event = SampleEvent m base bits; says = says; answer = y } in
    let fixed : NodeSetting = node_setting_of s n in
    let bound : ℕ = (w.clock n).samples + 1 in
    let number : (v.clock m).samples ≡ bound = ap (λ i. (v.clock i).samples) (sym same) ∙ sampled_samples s w n m base bits same in
    subst (NumbersHold s (h ∷ before) link) (sym (samples_then s h before n ∙ sampled_samples s w n m base bits same))
    (node_given (HoldsAt fixed link.lower_port bound) s y v (given_plain m (SampleInput (v.clock m).samples base bits)) n
    (λ at. step_more fixed link.lower_port bound (taken_of y (given_plain m (SampleInput (v.clock m).samples base bits))) (w.node n) (subst (λ k. k ≤ bound) (sym number) (nat_le_self bound))
    (weaker (w.clock n).samples bound (exchange_at s link before) (le_one_more (w.clock n).samples) old))
    (weaker (w.clock n).samples bound (exchange_at s link before) (le_one_more (w.clock n).samples) old))

up_numbers : (s : Setting) (says : Result PtpMsg FrameFault) (y : ℤ) (before : List Happened) (m : ℕ) (off : ℤ) (swaps : _) (link : LinkCfg) → link.lower ≡ m →
    NumbersHold s (record { event = Up m off swaps; says = says; answer = y } ∷ before) link ((world_after s (record { event = Up m off swaps; says = says; answer = y } ∷ before)).clock link.lower).samples
up_numbers s says y before m off swaps link same =
    let n : ℕ = link.lower in
    let w : WorldAt = world_after s before in
    let v : WorldAt = moved s w (Up m off swaps) in
    let h : Happened = record { event = Up m off swaps; says = says; answer = y } in
    let fixed : NodeSetting = node_setting_of s n in
    let bound : ℕ = ((world_after s (h ∷ before)).clock n).samples in
    let here : (n == m) ≡ true = ap (λ i. i == m) same ∙ eq_self m in
    let g : Given = given_plain m Reset in
    let first : HoldsAt fixed link.lower_port bound ((gives s y v g).node n) =
    subst (λ b. HoldsAt fixed link.lower_port bound (if b then (step_of s y v g).node else v.node n)) (sym here)
    (subst (λ i. HoldsAt fixed link.lower_port bound (node_step (node_setting_of s i) (taken_of y g) (v.node i)).node) same (reset_more fixed link.lower_port bound (taken_of y g) (v.node n) refl)) in
    node_given_all (HoldsAt fixed link.lower_port bound) (IsLow bound) s y n (λ t x q k. step_more fixed link.lower_port bound t x q k) (at_ports s v (comes_from s v) m) (gives s y v g)
    (gives_to (IsLow bound) s w v says n (Up m off swaps) (λ is. tt, λ q own_module. tt)).1 first

event_numbers : (s : Setting) (says : Result PtpMsg FrameFault) (y : ℤ) (before : List Happened) (e : Event) (link : LinkCfg) → NumbersHold s before link ((world_after s before).clock link.lower).samples →
    NumbersHold s (record { event = e; says = says; answer = y } ∷ before) link ((world_after s (record { event = e; says = says; answer = y } ∷ before)).clock link.lower).samples
event_numbers s says y before (SampleEvent m base bits) link old = elim (eqb_tells link.lower m) [
  | inl x ↦ sample_numbers s says y before m base bits link x.1 old
  | inr x ↦ low_numbers s (record { event = SampleEvent m base bits; says = says; answer = y }) before link x.1 old
]
event_numbers s says y before (Up m off swaps) link old = elim (eqb_tells link.lower m) [
  | inl x ↦ up_numbers s says y before m off swaps link x.1
  | inr x ↦ low_numbers s (record { event = Up m off swaps; says = says; answer = y }) before link x.1 old
]
event_numbers s says y before e link old = low_numbers s (record { event = e; says = says; answer = y }) before link tt old

pub numbers_hold : (s : Setting) (events : List Happened) (link : LinkCfg) → AtMost ((world_after s events).clock link.lower).samples (exchange_at s link events)
numbers_hold s [] link = tt
numbers_hold s (h ∷ before) link = event_numbers s h.says h.answer before h.event link (numbers_hold s before link)
