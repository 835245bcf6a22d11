-- Between the inputs of a node, a chain has lasted since a start after which nothing restarted the loop: a carrier that
-- comes while there is one ends the link, and with it the chain.
use Rattle.std.proofs.Common.{◌≡◌, ◌∙◌, refl, ap, sym, ℕ, ℤ, ◌==◌, Bool, true, false, cond, not, ◌&&◌, ◌||◌, if◌then◌else◌, is_some, List, [], ◌∷◌, ◌++◌, ◌⊎◌, inl, inr, Option, None, Some, Result, Ok, Err}
use Rattle.std.proofs.lemmas.Bool.{eqb-true, and_parts, or_from}
use Rattle.std.specs.Prelude.{int_le}
use Rattle.wrp_base.specs.declared.link.Deltas.{Deltas}
use Rattle.wrp_base.specs.declared.link.Module.{Module}
use Rattle.wrp_base.specs.declared.link.Role.{Role}
use Rattle.wrp_base.specs.declared.link.Role.TheVariants.{Master, Slave}
use Rattle.wrp_base.specs.declared.link.ServoState.{ServoState}
use Rattle.wrp_base.specs.declared.link.ServoState.TheVariants.{Uninit, SyncTai, SyncNsec, SyncPhase, WaitStable, Track, Holdover}
use Rattle.wrp_base.specs.declared.measurement.Four.{Four}
use Rattle.wrp_base.specs.declared.message.PtpMsg.{PtpMsg}
use Rattle.wrp_base.specs.declared.time.Raw.{Raw}
use Rattle.wrp_base.proofs.Naturals.{eq_self}
use Rattle.wrp_data.specs.declared.reason.Reason.{Reason}
use Rattle.wrp_frame.specs.declared.fault.FrameFault.{FrameFault}
use Rattle.wrp_link.specs.declared.interface.LinkIn.TheVariants as link
use Rattle.wrp_link.specs.LinkAt.{LinkAt}
use Rattle.wrp_link.specs.Table.{after as link_after_input}
use Rattle.wrp_node.specs.declared.interface.Input.{Input}
use Rattle.wrp_node.specs.declared.interface.Input.TheVariants.{Tick, Sample, Frame, Sent, Carrier, Reset}
use Rattle.wrp_node.specs.LinkNews.{LinkNews, Nothing, Given, link_after, news_at}
use Rattle.wrp_node.specs.NodeAt.{Taken, NodeSetting, NodeAt, slave_of, setting_of, port_of, link_at, servo_setting_of, is_fresh_in, deltas_at, deltas_in}
use Rattle.wrp_node.specs.NodeRun.{node_after}
use Rattle.wrp_node.specs.NodeStep.{counted_tick, lease_ticked, message_of, measurement_by, measured_at, heard_unless, heard, is_slave_port, stepped, node_step}
use Rattle.wrp_node.specs.Telling.{Step, step_from, called, for_slave, is_changed, lease_change, link_change, with_lease, settled}
use Rattle.wrp_node.specs.Unbroken.{leaves_fresh, breaks_chain, ChainIsUnbroken, ChainIsLocked}
use Rattle.wrp_node.proofs.Links.{step_gives_links}
use Rattle.wrp_node.proofs.Settled.{step_settles}
use Rattle.wrp_port.specs.declared.interface.PortIn.{PortIn}
use Rattle.wrp_port.specs.Hearing.{early_reason}
use Rattle.wrp_port.specs.PortAt.{deltas_of}
use Rattle.wrp_servo.specs.Call.{Call, CallSample, CallMeasured, CallTick, CallLease, CallLink, CallCarrier, CallReset, ServoSetting, run}
use Rattle.wrp_servo.specs.declared.machine.Core.{Core}
use Rattle.wrp_servo.specs.LookBack.{chain_starts, chain_ends}
use Rattle.wrp_servo.specs.Sampling.{hears, is_holdover, good_tag, is_far, with_tag, with_last, followed, stays_near, judged, judged_in, chained, may_start, good, lost, heard as heard_tag, by_sample}
use Rattle.wrp_servo.specs.Since.{Since, NoneEnds}
use Rattle.wrp_servo.specs.Table.{ended, ended_in}
use Rattle.wrp_servo.specs.Laws.{ChainSince, ChainIsHeld, ChainHasSignals}
use Rattle.wrp_servo.specs.Tags.{PhaseIsSum, tags, is_empty}
use Rattle.wrp_servo.specs.Told.{lease_told, link_told}
use Rattle.wrp_servo.proofs.Locked.{none-first}

-- ---- the servo alone: what a call that is no carrier coming leaves

-- with a chain the loop has taken a good sample since its last restart
abbrev IsLive : Core → Type 0
IsLive v = is_some v.first ≡ true → v.phase.fresh ≡ false

pub either_fresh : (b : Bool) (v w : Core) (fresh : Bool) → v.phase.fresh ≡ fresh → w.phase.fresh ≡ fresh → (cond b v w).phase.fresh ≡ fresh
either_fresh true v w fresh h k = h
either_fresh false v w fresh h k = k

ended_fresh : (v : Core) (s : ServoState) → (ended (record v { state = s })).phase.fresh ≡ v.phase.fresh
ended_fresh v Track = either_fresh (is_some v.first) (ended_in (record v { state = Track }) Track) (record v { state = Track }) v.phase.fresh refl refl
ended_fresh v SyncNsec = either_fresh (is_some v.first) (ended_in (record v { state = SyncNsec }) SyncNsec) (record v { state = SyncNsec }) v.phase.fresh refl refl
ended_fresh v SyncPhase = either_fresh (is_some v.first) (ended_in (record v { state = SyncPhase }) SyncPhase) (record v { state = SyncPhase }) v.phase.fresh refl refl
ended_fresh v WaitStable = either_fresh (is_some v.first) (ended_in (record v { state = WaitStable }) WaitStable) (record v { state = WaitStable }) v.phase.fresh refl refl
ended_fresh v Uninit = either_fresh (is_some v.first) (ended_in (record v { state = Uninit }) Uninit) (record v { state = Uninit }) v.phase.fresh refl refl
ended_fresh v SyncTai = either_fresh (is_some v.first) (ended_in (record v { state = SyncTai }) SyncTai) (record v { state = SyncTai }) v.phase.fresh refl refl
ended_fresh v Holdover = either_fresh (is_some v.first) (ended_in (record v { state = Holdover }) Holdover) (record v { state = Holdover }) v.phase.fresh refl refl

judged_fresh : (v : Core) (s : ServoState) → (judged_in (record v { state = s }) s).phase.fresh ≡ v.phase.fresh
judged_fresh v SyncPhase =
    either_fresh (int_le v.phase.s v.phase.goal && int_le v.phase.goal v.phase.s) (record v { state = WaitStable; calm = 0 }) (record v { state = SyncPhase }) v.phase.fresh refl refl
judged_fresh v Track =
    either_fresh (stays_near (record v { state = Track })) (record v { state = Track }) (ended (record v { state = Track })) v.phase.fresh refl (ended_fresh v Track)
judged_fresh v _ = refl

pub chained_fresh : (v : Core) (n : ℕ) → (chained v n).phase.fresh ≡ v.phase.fresh
chained_fresh v n =
    either_fresh v.phase.lock.locked (cond (may_start v) (record v { first = Some n }) v) (ended v) v.phase.fresh
    (either_fresh (may_start v) (record v { first = Some n }) v v.phase.fresh refl refl)
    (ended_fresh v v.state)

either-live : (b : Bool) (v w : Core) → IsLive v → IsLive w → IsLive (cond b v w)
either-live true v w h k = h
either-live false v w h k = k

no_chain : (v : Core) → is_some v.first ≡ false → IsLive v
no_chain v h e = absurd cc

judged_live : (w : Core) (n : ℕ) → (judged (chained (followed w) n)).phase.fresh ≡ w.phase.fresh
judged_live w n =
    let c : Core = chained (followed w) n in
    judged_fresh c c.state ∙ chained_fresh (followed w) n

good_live : (w : Core) (n : ℕ) → w.phase.fresh ≡ false → IsLive (good w n)
good_live w n h =
    either-live (is_far w.phase.u) (lost w) (judged (chained (followed w) n)) (no_chain (lost w) (none-first w w.first w.state)) (λ e. judged_live w n ∙ h)

heard_live : (v : Core) (n : ℕ) (tag : Option ℕ) → IsLive v → IsLive (heard_tag v n tag)
heard_live v n None h = h
heard_live v n (Some tag) h = good_live (with_tag v tag) n refl

sample_live : (v : Core) (n base bits : ℕ) → IsLive v → IsLive (by_sample v n base bits)
sample_live v n base bits h =
    either-live (hears v) (heard_tag (with_last v n) n (good_tag v.last n base bits)) v (heard_live (with_last v n) n (good_tag v.last n base bits) h) h

-- what the laws of the servo say of chains
pub record ServoLaws : Type 0 where
  pub since : ChainSince
  pub held : ChainIsHeld
  pub signals : ChainHasSignals
  pub sum : PhaseIsSum

-- ---- one more call, in a chain: it is the start, or there was a chain before and it is not ended

abbrev InChain : ServoSetting → List Call → Call → Type 0
InChain x calls c = (chain_starts x calls c ≡ true) ⊎ ((is_some (run x calls).first ≡ true) × (chain_ends x calls c ≡ false))

head_is : (c d : Call) (calls rest : List Call) → c ∷ calls ≡ d ∷ rest → (c ≡ d) × (calls ≡ rest)
head_is c d calls rest e = (cc, cc)

in_chain : (laws : ServoLaws) (x : ServoSetting) (calls : List Call) (c : Call) (since : List Call) (start : Call) (before : List Call) → c ∷ calls ≡ since ++ start ∷ before → chain_starts x before start ≡ true →
    NoneEnds (chain_ends x) since (start ∷ before) → InChain x calls c
in_chain laws x calls c [] start before e s n =
    let h : (c ≡ start) × (calls ≡ before) = head_is c start calls before e in
    inl (ap (λ (l : List Call). chain_starts x l c) h.1 ∙ ap (chain_starts x before) h.0 ∙ s)
in_chain laws x calls c (d ∷ since) start before e s n =
    let h : (c ≡ d) × (calls ≡ since ++ start ∷ before) = head_is c d calls (since ++ start ∷ before) e in
    inr (
      (laws.since x calls).1 (record { since = since; start = start; before = before; splits = h.1; started = s; stays = n.1 }),
      ap (λ (l : List Call). chain_ends x l c) h.1 ∙ ap (chain_ends x (since ++ start ∷ before)) h.0 ∙ n.0,
    )

stands_at : (laws : ServoLaws) (x : ServoSetting) (calls : List Call) (c : Call) → is_some (run x (c ∷ calls)).first ≡ true → InChain x calls c
stands_at laws x calls c e =
    let s : Since (chain_starts x) (chain_ends x) (c ∷ calls) = (laws.since x (c ∷ calls)).0 e in
    in_chain laws x calls c s.since s.start s.before s.splits s.started s.stays

pub no_start : (b : Bool) → (not b && false) ≡ true → ⊥
no_start true e = cc
no_start false e = cc

-- if the call is no good sample, and the tags since the last restart stay
kept_live : (laws : ServoLaws) (x : ServoSetting) (calls : List Call) (c : Call) → (chain_starts x calls c ≡ true → ⊥) → (is_some (run x calls).first ≡ true → tags x (c ∷ calls) ≡ tags x calls) →
    IsLive (run x calls) → IsLive (run x (c ∷ calls))
kept_live laws x calls c never same h e = elim (stands_at laws x calls c e) [
  | inl s ↦ absurd (never s)
  | inr k ↦ (laws.sum x (c ∷ calls)).fresh ∙ ap is_empty (same k.0) ∙ sym (laws.sum x calls).fresh ∙ h k.0
]

-- a carrier that comes
abbrev is_coming : Call → Bool
is_coming (CallCarrier up) = up
is_coming _ = false

live_more : (laws : ServoLaws) (x : ServoSetting) (calls : List Call) (c : Call) → is_coming c ≡ false → IsLive (run x calls) → IsLive (run x (c ∷ calls))
live_more laws x calls (CallSample n base bits) k h = sample_live (run x calls) n base bits h
live_more laws x calls (CallMeasured f y) k h = kept_live laws x calls (CallMeasured f y) (no_start (is_some (run x calls).first)) (λ s. refl) h
live_more laws x calls CallTick k h =
    kept_live laws x calls CallTick (no_start (is_some (run x calls).first))
    (λ s. ap (λ (b : Bool). cond (b && not (is_holdover (run x (CallTick ∷ calls)).state)) [] (tags x calls)) (laws.held x calls s).state) h
live_more laws x calls (CallLease fresh) k h = kept_live laws x calls (CallLease fresh) (no_start (is_some (run x calls).first)) (λ s. refl) h
live_more laws x calls (CallLink on) k h = kept_live laws x calls (CallLink on) (no_start (is_some (run x calls).first)) (λ s. refl) h
live_more laws x calls (CallCarrier true) k h = absurd cc
live_more laws x calls (CallCarrier false) k h = kept_live laws x calls (CallCarrier false) (no_start (is_some (run x calls).first)) (λ s. refl) h
live_more laws x calls CallReset k h = λ e. absurd cc

-- what calls leave unbroken
record Unbroken (x : ServoSetting) (calls : List Call) : Type 0 where
  live : IsLive (run x calls)
  since : is_some (run x calls).first ≡ true → Since (chain_starts x) (breaks_chain x) calls

first_none : (a b : Bool) → (a || b) ≡ false → a ≡ false
first_none true b h = h
first_none false b h = refl

since_more : (x : ServoSetting) (calls : List Call) (c : Call) → Unbroken x calls → leaves_fresh x calls c ≡ false → InChain x calls c → Since (chain_starts x) (breaks_chain x) (c ∷ calls)
since_more x calls c u live (inl s) = record { since = []; start = c; before = calls; splits = refl; started = s; stays = tt }
since_more x calls c u live (inr k) =
    let s : Since (chain_starts x) (breaks_chain x) calls = u.since k.0 in
    record {
      since = c ∷ s.since;
      start = s.start;
      before = s.before;
      splits = ap (λ (l : List Call). c ∷ l) s.splits;
      started = s.started;
      stays = (
        ap (λ (l : List Call). breaks_chain x l c) (sym s.splits) ∙ or_from (chain_ends x calls c) (leaves_fresh x calls c) k.1 live,
        s.stays,
      );
    }

unbroken_more : (laws : ServoLaws) (x : ServoSetting) (calls : List Call) (c : Call) → is_coming c ≡ false → Unbroken x calls → Unbroken x (c ∷ calls)
unbroken_more laws x calls c k u =
    let live : IsLive (run x (c ∷ calls)) = live_more laws x calls c k u.live in
    record { live = live; since = λ e. since_more x calls c u (live e) (stands_at laws x calls c e) }

unbroken_none : (x : ServoSetting) (calls : List Call) → (is_some (run x calls).first ≡ true → ⊥) → Unbroken x calls
unbroken_none x calls never = record { live = λ e. absurd (never e); since = λ e. absurd (never e) }

-- ---- the calls of a node

abbrev may_come : Option Call → Bool
may_come None = false
may_come (Some c) = is_coming c

unbroken_called : (laws : ServoLaws) (x : ServoSetting) (o : Option Call) (calls : List Call) → may_come o ≡ false → Unbroken x calls → Unbroken x (called o calls)
unbroken_called laws x None calls k u = u
unbroken_called laws x (Some c) calls k u = unbroken_more laws x calls c k u

-- calls of a servo that there is, or is not
where_told : (has : Bool) (o : Option Call) → may_come o ≡ false → may_come (if has then o else None) ≡ false
where_told true o h = h
where_told false o h = refl

where_changed : (has changes : Bool) (c : Call) → is_coming c ≡ false → may_come (if has then (if changes then Some c else None) else None) ≡ false
where_changed true true c h = h
where_changed true false c h = refl
where_changed false changes c h = refl

abbrev UnbrokenAt : NodeSetting → Step → Type 0
UnbrokenAt fixed s = Unbroken (servo_setting_of fixed) s.node.calls

leased : (laws : ServoLaws) (fixed : NodeSetting) (s : Step) → UnbrokenAt fixed s → UnbrokenAt fixed (with_lease fixed s)
leased laws fixed s u =
    unbroken_called laws (servo_setting_of fixed) (lease_change fixed s.node) s.node.calls
    (where_changed (is_some (slave_of fixed.set)) (is_changed (lease_told s.node.calls) (is_fresh_in fixed.set s.node)) (CallLease (is_fresh_in fixed.set s.node)) refl) u

all_settled : (laws : ServoLaws) (fixed : NodeSetting) (s : Step) → UnbrokenAt fixed s → UnbrokenAt fixed (settled fixed s)
all_settled laws fixed s u =
    let r : Step = with_lease fixed s in
    unbroken_called laws (servo_setting_of fixed) (link_change fixed r.node) r.node.calls
    (where_changed (is_some (slave_of fixed.set)) (is_changed (is_some (link_told r.node.calls)) (is_some (deltas_in fixed.set r.node))) (CallLink (deltas_in fixed.set r.node)) refl)
    (leased laws fixed s u)

measured_none : (o : Option Four) (y : ℤ) → may_come (measurement_by o y) ≡ false
measured_none None y = refl
measured_none (Some f) y = refl

unless_unbroken : (laws : ServoLaws) (fixed : NodeSetting) (p : ℕ) (input : PortIn) (y : ℤ) (n : NodeAt) (o : Option Reason) → Unbroken (servo_setting_of fixed) n.calls → UnbrokenAt fixed (heard_unless o fixed p input y n)
unless_unbroken laws fixed p input y n None u =
    unbroken_called laws (servo_setting_of fixed) (for_slave fixed (measurement_by (measured_at fixed n p input) y)) n.calls
    (where_told (is_some (slave_of fixed.set)) (measurement_by (measured_at fixed n p input) y) (measured_none (measured_at fixed n p input) y)) u
unless_unbroken laws fixed p input y n (Some reason) u = u

heard_unbroken : (laws : ServoLaws) (fixed : NodeSetting) (p : ℕ) (says : Result PtpMsg FrameFault) (raw : Raw) (sample : ℕ) (y : ℤ) (n : NodeAt) → Unbroken (servo_setting_of fixed) n.calls → UnbrokenAt fixed (heard fixed p says raw sample y n)
heard_unbroken laws fixed p (Err fault) raw sample y n u = u
heard_unbroken laws fixed p (Ok m) raw sample y n u =
    unless_unbroken laws fixed p (message_of fixed n p m raw sample) y n (early_reason (setting_of fixed.set p) (link_at fixed.set n p) m) u

-- ---- a carrier that comes at the slave port

-- the servo is given it only there
carrier_where : (b up : Bool) → (b && up) ≡ false → may_come (if b then Some (CallCarrier up) else None) ≡ false
carrier_where true up h = h
carrier_where false up h = refl

is_slave_at : (o : Option ℕ) (p : ℕ) → is_slave_port o p ≡ true → o ≡ Some p
is_slave_at None p h = absurd cc
is_slave_at (Some q) p h = ap Some (eqb-true q p h)

no_deltas : (role : Role) (l : LinkAt) (own_module : Option Module) → deltas_of role (link_after_input l (link.CarrierUp own_module)) ≡ None
no_deltas Master l own_module = refl
no_deltas Slave l own_module = refl

still_on : (has b : Bool) (on : Option Deltas) → has ≡ true → b ≡ true → on ≡ None → (if has then (if is_changed b (is_some on) then Some (CallLink on) else None) else None) ≡ None → ⊥
still_on true true None h k e none = cc
still_on true true (Some d) h k e none = cc
still_on true false on h k e none = cc
still_on false b on h k e none = cc

-- the link is off, and with it the chain
no_chain_after : (laws : ServoLaws) (fixed : NodeSetting) (t : Taken) (n : NodeAt) (q : ℕ) (own_module : Option Module) → t.input ≡ Carrier q true own_module → is_slave_port (slave_of fixed.set) q ≡ true →
    is_some (run (servo_setting_of fixed) (node_step fixed t n).node.calls).first ≡ true → ⊥
no_chain_after laws fixed t n q own_module is h e =
    let m : NodeAt = (node_step fixed t n).node in
    let slave : slave_of fixed.set ≡ Some q = is_slave_at (slave_of fixed.set) q h in
    let news : LinkNews = if q == q then Given (link.CarrierUp own_module) else Nothing in
    let gives : link_at fixed.set m q ≡ link_after (setting_of fixed.set q) (link_at fixed.set n q) news =
    step_gives_links fixed t n q ∙ ap (λ (i : Input). link_after (setting_of fixed.set q) (link_at fixed.set n q) (news_at fixed n i t.says q)) is in
    let up : link_at fixed.set m q ≡ link_after_input (link_at fixed.set n q) (link.CarrierUp own_module) =
    gives ∙ ap (λ (b : Bool). link_after (setting_of fixed.set q) (link_at fixed.set n q) (if b then Given (link.CarrierUp own_module) else Nothing)) (eq_self q) in
    let off : deltas_in fixed.set m ≡ None =
    ap (deltas_at fixed.set m) slave ∙ ap (deltas_of (port_of fixed.set q).role) up ∙ no_deltas (port_of fixed.set q).role (link_at fixed.set n q) own_module in
    still_on (is_some (slave_of fixed.set)) (is_some (link_told m.calls)) (deltas_in fixed.set m) (ap is_some slave)
    (laws.signals (servo_setting_of fixed) m.calls e).link off (step_settles fixed t n).link

-- ---- each input

-- a carrier that comes at the slave port
abbrev is_carrier_to : Option ℕ → Input → Bool
is_carrier_to slave (Carrier p up own_module) = is_slave_port slave p && up
is_carrier_to slave _ = false

unbroken_stepped : (laws : ServoLaws) (fixed : NodeSetting) (input : Input) (says : Result PtpMsg FrameFault) (y : ℤ) (n : NodeAt) → Unbroken (servo_setting_of fixed) n.calls → is_carrier_to (slave_of fixed.set) input ≡ false →
    UnbrokenAt fixed (stepped fixed input says y n)
unbroken_stepped laws fixed Tick says y n u k =
    unbroken_called laws (servo_setting_of fixed) (for_slave fixed (Some CallTick)) (lease_ticked fixed n).node.calls (where_told (is_some (slave_of fixed.set)) (Some CallTick) refl)
    (leased laws fixed (step_from (counted_tick fixed n)) u)
unbroken_stepped laws fixed (Sample number base bits) says y n u k =
    unbroken_called laws (servo_setting_of fixed) (for_slave fixed (Some (CallSample number base bits))) n.calls (where_told (is_some (slave_of fixed.set)) (Some (CallSample number base bits)) refl) u
unbroken_stepped laws fixed (Frame p octets raw sample) says y n u k = heard_unbroken laws fixed p says raw sample y n u
unbroken_stepped laws fixed (Sent p seq delay stamp) says y n u k = u
unbroken_stepped laws fixed (Carrier p up own_module) says y n u k =
    let o : Option Call = if is_slave_port (slave_of fixed.set) p then Some (CallCarrier up) else None in
    unbroken_called laws (servo_setting_of fixed) (for_slave fixed o) n.calls (where_told (is_some (slave_of fixed.set)) o (carrier_where (is_slave_port (slave_of fixed.set) p) up k)) u
unbroken_stepped laws fixed Reset says y n u k =
    unbroken_called laws (servo_setting_of fixed) (for_slave fixed (Some CallReset)) n.calls (where_told (is_some (slave_of fixed.set)) (Some CallReset) refl) u

comes_at : (laws : ServoLaws) (fixed : NodeSetting) (t : Taken) (n : NodeAt) (input : Input) → t.input ≡ input → is_carrier_to (slave_of fixed.set) input ≡ true →
    is_some (run (servo_setting_of fixed) (node_step fixed t n).node.calls).first ≡ true → ⊥
comes_at laws fixed t n Tick is h e = cc
comes_at laws fixed t n (Sample number base bits) is h e = cc
comes_at laws fixed t n (Frame p octets raw sample) is h e = cc
comes_at laws fixed t n (Sent p seq delay stamp) is h e = cc
comes_at laws fixed t n (Carrier q up own_module) is h e =
    let k : (is_slave_port (slave_of fixed.set) q ≡ true) × (up ≡ true) = and_parts (is_slave_port (slave_of fixed.set) q) up h in
    no_chain_after laws fixed t n q own_module (is ∙ ap (λ (b : Bool). Carrier q b own_module) k.1) k.0 e
comes_at laws fixed t n Reset is h e = cc

step_unbroken : (laws : ServoLaws) (fixed : NodeSetting) (t : Taken) (n : NodeAt) (b : Bool) → is_carrier_to (slave_of fixed.set) t.input ≡ b → Unbroken (servo_setting_of fixed) n.calls → UnbrokenAt fixed (node_step fixed t n)
step_unbroken laws fixed t n true k u = unbroken_none (servo_setting_of fixed) (node_step fixed t n).node.calls (comes_at laws fixed t n t.input refl k)
step_unbroken laws fixed t n false k u =
    all_settled laws fixed (stepped fixed t.input t.says t.answer n) (unbroken_stepped laws fixed t.input t.says t.answer n u k)

unbroken : (laws : ServoLaws) (fixed : NodeSetting) (inputs : List Taken) → Unbroken (servo_setting_of fixed) (node_after fixed inputs).calls
unbroken laws fixed [] = unbroken_none (servo_setting_of fixed) [] (λ e. cc)
unbroken laws fixed (t ∷ before) = step_unbroken laws fixed t (node_after fixed before) (is_carrier_to (slave_of fixed.set) t.input) refl (unbroken laws fixed before)

-- ---- the laws

fewer_end : (x : ServoSetting) (since before : List Call) → NoneEnds (breaks_chain x) since before → NoneEnds (chain_ends x) since before
fewer_end x [] before h = tt
fewer_end x (c ∷ since) before h =
    (first_none (chain_ends x (since ++ before) c) (leaves_fresh x (since ++ before) c) h.0, fewer_end x since before h.1)

since_unbroken : (x : ServoSetting) (calls : List Call) → Since (chain_starts x) (breaks_chain x) calls → Since (chain_starts x) (chain_ends x) calls
since_unbroken x calls s = record {
  since = s.since;
  start = s.start;
  before = s.before;
  splits = s.splits;
  started = s.started;
  stays = fewer_end x s.since (s.start ∷ s.before) s.stays;
}

pub chain_is_unbroken : ServoLaws → ChainIsUnbroken
chain_is_unbroken laws fixed inputs =
    let calls : List Call = (node_after fixed inputs).calls in
    ((unbroken laws fixed inputs).since, λ s. (laws.since (servo_setting_of fixed) calls).1 (since_unbroken (servo_setting_of fixed) calls s))

either_locked : (locked fresh : Bool) → (locked || fresh) ≡ true → fresh ≡ false → locked ≡ true
either_locked true fresh h k = refl
either_locked false fresh h k = absurd cc

pub chain_is_locked : ServoLaws → ChainIsLocked
chain_is_locked laws fixed inputs e =
    let v : Core = run (servo_setting_of fixed) (node_after fixed inputs).calls in
    either_locked v.phase.lock.locked v.phase.fresh (laws.held (servo_setting_of fixed) (node_after fixed inputs).calls e).locked ((unbroken laws fixed inputs).live e)
