-- While there is a chain, the lock detector is locked, or the loop has restarted since its last good sample.
use Rattle.std.proofs.Common.{◌≡◌, refl, ap, ℕ, ℤ, Bool, true, false, cond, not, ◌&&◌, ◌||◌, nat_le, ◌-◌, is_some, Option, None, Some, [], ◌∷◌}
use Rattle.std.specs.Prelude.{int_le}
use Rattle.wrp_base.specs.declared.link.Deltas.{Deltas}
use Rattle.wrp_base.specs.declared.link.ServoState.{ServoState}
use Rattle.wrp_base.specs.declared.link.ServoState.TheVariants.{Uninit, SyncTai, SyncNsec, SyncPhase, WaitStable, Track, Holdover}
use Rattle.wrp_base.specs.declared.measurement.Four.{Four}
use Rattle.wrp_servo.specs.declared.machine.Measurement.{Measurement}
use Rattle.wrp_servo.specs.declared.machine.Core.{Core}
use Rattle.wrp_servo.specs.Following.{restarted}
use Rattle.wrp_servo.specs.Table.{is_past_gap, is_old, is_track, one_tick, ended, uninit_outside_holdover, ended_by_gap, ended_by_age, by_tick, holdover_ticked, carrier_gone, with_link, with_lease, with_carrier, linked, restarted_outside_holdover}
use Rattle.wrp_servo.specs.Sampling.{hears, good_tag, is_far, is_within, residual, with_tag, with_last, followed, stays_near, judged, judged_in, chained, may_start, good, heard, lost, est_of, by_sample}
use Rattle.wrp_servo.specs.Measuring.{deltas_in_chain, is_in, x_of, delay_of, may_track, answered, placed, placed_in, aimed, by_period, settled, stepped, is_half, is_below_second}
use Rattle.wrp_servo.specs.Call.{Call, CallSample, CallMeasured, CallTick, CallLease, CallLink, CallCarrier, CallReset, ServoSetting, after, run}
use Rattle.wrp_servo.specs.Laws.{InChain, ChainIsHeld}
use Rattle.wrp_servo.specs.Sampling.{is_holdover}

-- what holds with a chain
abbrev IsHeld : Core → Type 0
IsHeld v = is_some v.first ≡ true → InChain v

either-held : (b : Bool) (v w : Core) → IsHeld v → IsHeld w → IsHeld (cond b v w)
either-held true v w h k = h
either-held false v w h k = k

-- after the end of a chain there is none
pub none-first : (v : Core) (first : Option ℕ) (s : ServoState) → is_some (ended (record v { state = s; first = first })).first ≡ false
none-first v None s = refl
none-first v (Some m) Track = refl
none-first v (Some m) SyncNsec = refl
none-first v (Some m) SyncPhase = refl
none-first v (Some m) WaitStable = refl
none-first v (Some m) _ = refl

end-first : (v : Core) → is_some (ended v).first ≡ false
end-first v = none-first v v.first v.state

no-chain : (v : Core) → is_some v.first ≡ false → IsHeld v
no-chain v h e = absurd cc

end-held : (v : Core) → IsHeld (ended v)
end-held v = no-chain (ended v) (end-first v)

uninit_outside_holdover-held : (v : Core) (s : ServoState) → IsHeld (record v { state = s }) → IsHeld (uninit_outside_holdover (record v { state = s }) s)
uninit_outside_holdover-held v Holdover h = h
uninit_outside_holdover-held v _ h = λ e. record { locked = (h e).locked; state = refl }

linked-held : (v : Core) (s : ServoState) → IsHeld (record v { state = s }) → IsHeld (linked (record v { state = s }) s)
linked-held v Uninit h = λ e. record { locked = (h e).locked; state = refl }
linked-held v _ h = λ e. record { locked = (h e).locked; state = (h e).state }

restarted_outside_holdover-held : (v : Core) (s : ServoState) → IsHeld (record v { state = s }) → IsHeld (restarted_outside_holdover (record v { state = s }) s)
restarted_outside_holdover-held v Holdover h = h
restarted_outside_holdover-held v _ h = λ e. record { locked = refl; state = refl }

judged-held : (v : Core) (s : ServoState) → IsHeld (record v { state = s }) → IsHeld (judged_in (record v { state = s }) s)
judged-held v SyncPhase h = either-held (int_le v.phase.s v.phase.goal && int_le v.phase.goal v.phase.s) (record v { state = WaitStable; calm = 0 }) (record v { state = SyncPhase }) (λ e. record { locked = (h e).locked; state = refl }) h
judged-held v Track h = either-held (stays_near (record v { state = Track })) (record v { state = Track }) (ended (record v { state = Track })) h (end-held (record v { state = Track }))
judged-held v _ h = λ e. record { locked = (h e).locked; state = (h e).state }

chained-held : (v : Core) (n : ℕ) → is_holdover v.state ≡ false → IsHeld (chained v n)
chained-held v n state =
    let known : (l : Bool) → v.phase.lock.locked ≡ l → IsHeld (cond l (cond (may_start v) (record v { first = Some n }) v) (ended v)) =
    elim [
      | true ↦ λ is. either-held (may_start v) (record v { first = Some n }) v
          (λ e. record { locked = ap (λ (b : Bool). b || v.phase.fresh) is; state = state })
          (λ e. record { locked = ap (λ (b : Bool). b || v.phase.fresh) is; state = state })
      | false ↦ λ is. end-held v
    ] in
    known v.phase.lock.locked refl

good-held : (v : Core) (n : ℕ) → is_holdover v.state ≡ false → IsHeld (good v n)
good-held v n state =
    let c : Core = chained (followed v) n in
    either-held (is_far v.phase.u) (lost v) (judged c) (no-chain (lost v) (end-first v)) (judged-held c c.state (chained-held (followed v) n state))

heard-held : (v : Core) (n : ℕ) (tag : Option ℕ) → is_holdover v.state ≡ false → IsHeld v → IsHeld (heard v n tag)
heard-held v n None state h = h
heard-held v n (Some tag) state h = good-held (with_tag v tag) n state

-- a sample that is heard comes outside HOLDOVER
heard_outside : (carrier held : Bool) → (carrier && not held) ≡ true → held ≡ false
heard_outside true true h = absurd cc
heard_outside true false h = refl
heard_outside false held h = absurd cc

sample-held : (v : Core) (n base bits : ℕ) → IsHeld v → IsHeld (by_sample v n base bits)
sample-held v n base bits h =
    let known : (b : Bool) → hears v ≡ b → IsHeld (cond b (heard (with_last v n) n (good_tag v.last n base bits)) v) =
    elim [
      | true ↦ λ is. heard-held (with_last v n) n (good_tag v.last n base bits) (heard_outside v.signals.carrier (is_holdover v.state) is) (λ e. record { locked = (h e).locked; state = (h e).state })
      | false ↦ λ is. h
    ] in
    known (hears v) refl

-- there is no chain in HOLDOVER
none_held : (v : Core) → IsHeld (record v { state = Holdover }) → IsHeld (holdover_ticked (record v { state = Holdover }))
none_held v h =
    let w : Core = record v { state = Holdover } in
    either-held (nat_le v.set.holdover (v.ticks - v.left_tick)) (record w { state = cond (is_some v.signals.link) SyncTai Uninit; phase = restarted v.phase }) w
    (λ e. absurd (let no : true ≡ false = (h e).state in cc)) h

ended_by_gap-held : (v : Core) → IsHeld v → IsHeld (ended_by_gap v)
ended_by_gap-held v h = either-held (is_past_gap v) (ended v) v (end-held v) h

ended_by_age-held : (v : Core) → IsHeld v → IsHeld (ended_by_age v)
ended_by_age-held v h = either-held (is_track v.state && is_old v) (ended v) v (end-held v) h

later-held : (v : Core) → IsHeld v → IsHeld (ended_by_age (ended_by_gap v))
later-held v h = ended_by_age-held (ended_by_gap v) (ended_by_gap-held v h)

ticks-held : (v : Core) → IsHeld v → IsHeld (one_tick v)
ticks-held v h = λ e. record { locked = (h e).locked; state = (h e).state }

tick-held : (v : Core) (s : ServoState) → IsHeld (record v { state = s }) → IsHeld (by_tick (record v { state = s }))
tick-held v Holdover h = none_held (one_tick v) (ticks-held (record v { state = Holdover }) h)
tick-held v Track h = later-held (one_tick (record v { state = Track })) (ticks-held (record v { state = Track }) h)
tick-held v Uninit h = later-held (one_tick (record v { state = Uninit })) (ticks-held (record v { state = Uninit }) h)
tick-held v SyncTai h = later-held (one_tick (record v { state = SyncTai })) (ticks-held (record v { state = SyncTai }) h)
tick-held v SyncNsec h = later-held (one_tick (record v { state = SyncNsec })) (ticks-held (record v { state = SyncNsec }) h)
tick-held v SyncPhase h = later-held (one_tick (record v { state = SyncPhase })) (ticks-held (record v { state = SyncPhase }) h)
tick-held v WaitStable h = later-held (one_tick (record v { state = WaitStable })) (ticks-held (record v { state = WaitStable }) h)

by_period-held : (v : Core) (k : Measurement) (est : ℤ) → IsHeld v → IsHeld (by_period v k est)
by_period-held v k est h = either-held (is_half v est) (aimed v k SyncPhase) (stepped v SyncNsec) (λ e. record { locked = (h e).locked; state = refl }) (no-chain (stepped v SyncNsec) refl)

settled-held : (v : Core) (k : Measurement) (est : ℤ) → IsHeld v → IsHeld (settled v k est)
settled-held v k est h =
    either-held (may_track v k) (aimed v k Track) (cond (is_half v est) (aimed v k SyncPhase) (record v { state = SyncNsec })) (λ e. record { locked = (h e).locked; state = refl })
    (either-held (is_half v est) (aimed v k SyncPhase) (record v { state = SyncNsec }) (λ e. record { locked = (h e).locked; state = refl }) (λ e. record { locked = (h e).locked; state = refl }))

placed-held : (v : Core) (k : Measurement) (est : ℤ) (s : ServoState) → IsHeld (record v { state = s }) → IsHeld (placed_in (record v { state = s }) k est s)
placed-held v k est SyncTai h =
    let w : Core = record v { state = SyncTai } in
    either-held (is_below_second est) (by_period w k est) (stepped w SyncTai) (by_period-held w k est h) (no-chain (stepped w SyncTai) refl)
placed-held v k est SyncNsec h = by_period-held (record v { state = SyncNsec }) k est h
placed-held v k est WaitStable h =
    let w : Core = record v { state = WaitStable } in
    either-held (nat_le v.set.stable v.calm) (settled w k est) w (settled-held w k est h) h
placed-held v k est Track h =
    let w : Core = record v { state = Track } in
    either-held (is_within v.set.track_tau (residual v.phase k)) (aimed w k Track) (ended w) (λ e. record { locked = (h e).locked; state = refl }) (end-held w)
placed-held v k est _ h = h

answered-held : (x : ServoSetting) (v : Core) (f : Four) (y : ℤ) (on : Option Deltas) → IsHeld v → IsHeld (answered x.lo x.hi v f y on)
answered-held x v f y None h = h
answered-held x v f y (Some d) h =
    let k : Measurement = record { four = f; delay = delay_of d y } in
    either-held (is_in x.lo x.hi (x_of d f)) (placed v k) (ended v)
    (placed-held (record v { kept = Some k }) k (est_of v.phase.u k) v.state (λ e. record { locked = (h e).locked; state = (h e).state }))
    (end-held v)

-- any call
held : (x : ServoSetting) (v : Core) (call : Call) → IsHeld v → IsHeld (after x v call)
held x v (CallSample n base bits) h = sample-held v n base bits h
held x v (CallMeasured f y) h = answered-held x v f y (deltas_in_chain v) h
held x v CallTick h = tick-held v v.state h
held x v (CallLease true) h = λ e. record { locked = (h e).locked; state = (h e).state }
held x v (CallLease false) h = end-held (with_lease v false)
held x v (CallLink (Some d)) h = linked-held (with_link v (Some d)) v.state (λ e. record { locked = (h e).locked; state = (h e).state })
held x v (CallLink None) h = let w : Core = ended (with_link v None) in uninit_outside_holdover-held w w.state (end-held (with_link v None))
held x v (CallCarrier true) h = restarted_outside_holdover-held (with_carrier v true) v.state (λ e. record { locked = (h e).locked; state = (h e).state })
held x v (CallCarrier false) h = let w : Core = ended (carrier_gone v) in uninit_outside_holdover-held w w.state (end-held (carrier_gone v))
held x v CallReset h = λ e. absurd cc

pub chain_stays_held : ChainIsHeld
chain_stays_held x [] = λ e. absurd cc
chain_stays_held x (call ∷ calls) = held x (run x calls) call (chain_stays_held x calls)
