-- The DAC value of a node fits 16 bits, whatever the node was given.
use Rattle.std.proofs.Common.{ℕ, ℤ, ◌≤◌, Bool, true, false, cond, ◌&&◌, Option, None, Some, List, [], ◌∷◌, if◌then◌else◌, is_some, nat_le, ◌-◌, arith}
use Rattle.std.proofs.lemmas.Int.{ints}
use Rattle.std.specs.Int.{saturate_unsigned, w16}
use Rattle.std.specs.Prelude.{int_le}
use Rattle.wrp_base.specs.declared.link.Deltas.{Deltas}
use Rattle.wrp_base.specs.declared.link.ServoState.{ServoState}
use Rattle.wrp_base.specs.declared.link.ServoState.TheVariants.{Uninit, SyncTai, SyncNsec, SyncPhase, WaitStable, Track, Holdover}
use Rattle.wrp_base.specs.declared.measurement.Four.{Four}
use Rattle.wrp_node.specs.NodeAt.{NodeSetting, NodeAt, dac_of, servo_at, servo_setting_of, slave_of}
use Rattle.wrp_pi.specs.Loop.{drive, raised}
use Rattle.wrp_servo.specs.declared.machine.Core.{Core}
use Rattle.wrp_servo.specs.declared.machine.Measurement.{Measurement}
use Rattle.wrp_servo.specs.declared.phase_loop.PhaseLoop.{PhaseLoop}
use Rattle.wrp_servo.specs.Call.{Call, CallSample, CallMeasured, CallTick, CallLease, CallLink, CallCarrier, CallReset, ServoSetting, after, run}
use Rattle.wrp_servo.specs.Following.{approached, e_tau, error_of, restarted}
use Rattle.wrp_servo.specs.Measuring.{aimed, answered, by_period, deltas_in_chain, is_below_second, is_half, is_in, kept_of, may_track, placed, placed_in, settled, stepped, x_of}
use Rattle.wrp_servo.specs.Sampling.{chained, est_of, followed, good, good_tag, heard, hears, is_far, is_within, judged, judged_in, lost, may_start, residual, stays_near, with_last, with_tag}
use Rattle.wrp_servo.specs.Table.{by_tick, carrier_gone, ended, ended_by_age, ended_by_gap, ended_in, holdover_ticked, is_old, is_past_gap, is_track, linked, one_tick, restarted_outside_holdover, uninit_outside_holdover, with_carrier, with_lease, with_link}

abbrev InRange : Core → Type 0
InRange v = (v.phase.dac ≤ 65535) × (v.set.bias ≤ 65535)

either_range : (b : Bool) (v w : Core) → InRange v → InRange w → InRange (cond b v w)
either_range true v w h k = h
either_range false v w h k = k

held_value : (z : ℤ) → saturate_unsigned w16 z ≤ 65535
held_value z = grind (arith, ints)

ended_range : (v : Core) (s : ServoState) → InRange v → InRange (ended_in v s)
ended_range v Track h = h
ended_range v SyncNsec h = h
ended_range v SyncPhase h = h
ended_range v WaitStable h = h
ended_range v _ h = h

end_range : (v : Core) → InRange v → InRange (ended v)
end_range v h = either_range (is_some v.first) (ended_in v v.state) v (ended_range v v.state h) h

uninit_range : (v : Core) (s : ServoState) → InRange v → InRange (uninit_outside_holdover v s)
uninit_range v Holdover h = h
uninit_range v _ h = h

linked_range : (v : Core) (s : ServoState) → InRange v → InRange (linked v s)
linked_range v Uninit h = h
linked_range v _ h = h

judged_range : (v : Core) (s : ServoState) → InRange v → InRange (judged_in v s)
judged_range v SyncPhase h = either_range (int_le v.phase.s v.phase.goal && int_le v.phase.goal v.phase.s) (record v { state = WaitStable; calm = 0 }) v h h
judged_range v WaitStable h = h
judged_range v Track h = either_range (stays_near v) v (ended v) h (end_range v h)
judged_range v _ h = h

chained_range : (v : Core) (n : ℕ) → InRange v → InRange (chained v n)
chained_range v n h =
    either_range v.phase.lock.locked (cond (may_start v) (record v { first = Some n }) v) (ended v)
    (either_range (may_start v) (record v { first = Some n }) v h h) (end_range v h)

abbrev drive_at : Core → ℤ
drive_at v =
    let l : PhaseLoop = approached v.set.phase_step v.phase in
    drive l.pi.gains (raised l.pi.accumulated (error_of (e_tau l))) (error_of (e_tau l))

good_range : (v : Core) (n : ℕ) → InRange v → InRange (good v n)
good_range v n h =
    let c : Core = chained (followed v) n in
    either_range (is_far v.phase.u) (lost v) (judged c) (end_range v h)
    (judged_range c c.state (chained_range (followed v) n (held_value (drive_at v), h.1)))

heard_range : (v : Core) (n : ℕ) (tag : Option ℕ) → InRange v → InRange (heard v n tag)
heard_range v n None h = h
heard_range v n (Some tag) h = good_range (with_tag v tag) n h

holdover_range : (v : Core) → InRange v → InRange (holdover_ticked v)
holdover_range v h =
    either_range (nat_le v.set.holdover (v.ticks - v.left_tick)) (record v { state = cond (is_some v.signals.link) SyncTai Uninit; phase = restarted v.phase }) v h h

later_range : (v : Core) → InRange v → InRange (ended_by_age (ended_by_gap v))
later_range v h =
    let w : Core = ended_by_gap v in
    let k : InRange w = either_range (is_past_gap v) (ended v) v (end_range v h) h in
    either_range (is_track w.state && is_old w) (ended w) w (end_range w k) k

by_period_range : (v : Core) (k : Measurement) (est : ℤ) → InRange v → InRange (by_period v k est)
by_period_range v k est h = either_range (is_half v est) (aimed v k SyncPhase) (stepped v SyncNsec) h h

settled_range : (v : Core) (k : Measurement) (est : ℤ) → InRange v → InRange (settled v k est)
settled_range v k est h =
    either_range (may_track v k) (aimed v k Track) (cond (is_half v est) (aimed v k SyncPhase) (record v { state = SyncNsec })) h
    (either_range (is_half v est) (aimed v k SyncPhase) (record v { state = SyncNsec }) h h)

placed_range : (v : Core) (k : Measurement) (est : ℤ) (s : ServoState) → InRange v → InRange (placed_in v k est s)
placed_range v k est SyncTai h = either_range (is_below_second est) (by_period v k est) (stepped v SyncTai) (by_period_range v k est h) h
placed_range v k est SyncNsec h = by_period_range v k est h
placed_range v k est WaitStable h = either_range (nat_le v.set.stable v.calm) (settled v k est) v (settled_range v k est h) h
placed_range v k est Track h = either_range (is_within v.set.track_tau (residual v.phase k)) (aimed v k Track) (ended v) h (end_range v h)
placed_range v k est _ h = h

answered_range : (x : ServoSetting) (v : Core) (f : Four) (y : ℤ) (on : Option Deltas) → InRange v → InRange (answered x.lo x.hi v f y on)
answered_range x v f y None h = h
answered_range x v f y (Some d) h =
    either_range (is_in x.lo x.hi (x_of d f)) (placed v (kept_of f d y)) (ended v)
    (placed_range (record v { kept = Some (kept_of f d y) }) (kept_of f d y) (est_of v.phase.u (kept_of f d y)) v.state h) (end_range v h)

tick_range : (v : Core) (s : ServoState) → InRange v → InRange (by_tick (record v { state = s }))
tick_range v Holdover h = holdover_range (one_tick (record v { state = Holdover })) h
tick_range v Uninit h = later_range (one_tick (record v { state = Uninit })) h
tick_range v SyncTai h = later_range (one_tick (record v { state = SyncTai })) h
tick_range v SyncNsec h = later_range (one_tick (record v { state = SyncNsec })) h
tick_range v SyncPhase h = later_range (one_tick (record v { state = SyncPhase })) h
tick_range v WaitStable h = later_range (one_tick (record v { state = WaitStable })) h
tick_range v Track h = later_range (one_tick (record v { state = Track })) h

restarted_range : (v : Core) (s : ServoState) → InRange v → InRange (restarted_outside_holdover v s)
restarted_range v Holdover h = h
restarted_range v _ h = h

call_range : (x : ServoSetting) (v : Core) (call : Call) → InRange v → InRange (after x v call)
call_range x v (CallSample n base bits) h =
    either_range (hears v) (heard (with_last v n) n (good_tag v.last n base bits)) v (heard_range (with_last v n) n (good_tag v.last n base bits) h) h
call_range x v (CallMeasured f y) h = answered_range x v f y (deltas_in_chain v) h
call_range x v CallTick h = tick_range v v.state h
call_range x v (CallLease true) h = h
call_range x v (CallLease false) h = end_range (with_lease v false) h
call_range x v (CallLink (Some d)) h = linked_range (with_link v (Some d)) v.state h
call_range x v (CallLink None) h =
    let w : Core = ended (with_link v None) in
    uninit_range w w.state (end_range (with_link v None) h)
call_range x v (CallCarrier true) h = restarted_range (with_carrier v true) v.state h
call_range x v (CallCarrier false) h =
    let w : Core = ended (carrier_gone v) in
    uninit_range w w.state (end_range (carrier_gone v) h)
call_range x v CallReset h = (h.1, h.1)

run_range : (x : ServoSetting) (calls : List Call) → x.set.bias ≤ 65535 → InRange (run x calls)
run_range x [] h = (h, h)
run_range x (call ∷ calls) h = call_range x (run x calls) call (run_range x calls h)

value_where : (b : Bool) (value bias : ℕ) → value ≤ 65535 → bias ≤ 65535 → (if b then value else bias) ≤ 65535
value_where true value bias h k = h
value_where false value bias h k = k

pub dac_small : (fixed : NodeSetting) (n : NodeAt) → fixed.set.servo.bias ≤ 65535 → dac_of fixed n ≤ 65535
dac_small fixed n h =
    value_where (is_some (slave_of fixed.set)) (servo_at fixed n).phase.dac fixed.set.servo.bias (run_range (servo_setting_of fixed) n.calls h).0 h
