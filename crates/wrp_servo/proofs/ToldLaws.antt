-- The carrier, the link, the lease and the ticks are the ones that the list of calls last gave.
use Rattle.std.proofs.Common.{◌≡◌, refl, ap, ◌∙◌, sym, ℕ, ℤ, Bool, true, false, cond, nat_le, ◌+◌, ◌-◌, is_some, Option, None, Some, List, [], ◌∷◌, subst, ◌≤◌, arith}
use Rattle.wrp_base.specs.declared.link.Deltas.{Deltas}
use Rattle.wrp_base.specs.declared.link.ServoState.{ServoState}
use Rattle.wrp_base.specs.declared.link.ServoState.TheVariants.{Uninit, SyncTai, SyncNsec, SyncPhase, WaitStable, Track, Holdover}
use Rattle.wrp_base.specs.declared.measurement.Four.{Four}
use Rattle.wrp_servo.specs.declared.machine.Signals.{Signals}
use Rattle.wrp_servo.specs.declared.machine.Core.{Core}
use Rattle.wrp_servo.specs.Following.{restarted}
use Rattle.wrp_servo.specs.Table.{one_tick, ended, uninit_outside_holdover, ended_by_gap, ended_by_age, by_tick, holdover_ticked, carrier_gone, with_link, with_lease, with_carrier, linked, restarted_outside_holdover}
use Rattle.wrp_servo.specs.Sampling.{hears, good_tag, is_far, with_tag, with_last, followed, judged, judged_in, chained, good, heard, lost, by_sample}
use Rattle.wrp_servo.specs.Measuring.{deltas_in_chain, answered}
use Rattle.wrp_servo.specs.Call.{Call, CallSample, CallMeasured, CallTick, CallLease, CallLink, CallCarrier, CallReset, ServoSetting, after, run}
use Rattle.wrp_servo.specs.Told.{carrier_told, link_told, lease_told, ticks_told, ToldLast}
use Rattle.wrp_servo.proofs.Rests.{Rest, end-rest, uninit_outside_holdover-rest, linked-rest, judged-rest, chained-rest, later-rest, answered-rest}

-- what the servo was given by its node
record Heart : Type 0 where
  signals : Signals
  ticks : ℕ

abbrev heart : Core → Heart
heart v = record { signals = v.signals; ticks = v.ticks }

either-heart : (b : Bool) (v w : Core) (h : Heart) → heart v ≡ h → heart w ≡ h → heart (cond b v w) ≡ h
either-heart true v w h p q = p
either-heart false v w h p q = q

abbrev told : Rest → Heart
told r = record { signals = r.signals; ticks = r.ticks }

-- what most rows leave
end-heart : (v : Core) → heart (ended v) ≡ heart v
end-heart v = ap told (end-rest v)

uninit_outside_holdover-heart : (v : Core) (s : ServoState) → heart (uninit_outside_holdover (record v { state = s }) s) ≡ heart v
uninit_outside_holdover-heart v s = ap told (uninit_outside_holdover-rest v s)

linked-heart : (v : Core) (s : ServoState) → heart (linked (record v { state = s }) s) ≡ heart v
linked-heart v s = ap told (linked-rest v s)

judged-heart : (v : Core) (s : ServoState) → heart (judged_in (record v { state = s }) s) ≡ heart v
judged-heart v s = ap told (judged-rest v s)

chained-heart : (v : Core) (n : ℕ) → heart (chained v n) ≡ heart v
chained-heart v n = ap told (chained-rest v n)

later-heart : (v : Core) → heart (ended_by_age (ended_by_gap v)) ≡ heart v
later-heart v = ap told (later-rest v)

answered-heart : (x : ServoSetting) (v : Core) (f : Four) (y : ℤ) (on : Option Deltas) → heart (answered x.lo x.hi v f y on) ≡ heart v
answered-heart x v f y on = ap told (answered-rest x v f y on)

restarted_outside_holdover-heart : (v : Core) (s : ServoState) → heart (restarted_outside_holdover (record v { state = s }) s) ≡ heart v
restarted_outside_holdover-heart v Holdover = refl
restarted_outside_holdover-heart v _ = refl

good-heart : (v : Core) (n : ℕ) → heart (good v n) ≡ heart v
good-heart v n =
    let c : Core = chained (followed v) n in
    either-heart (is_far v.phase.u) (lost v) (judged c) (heart v) (end-heart v) (judged-heart c c.state ∙ chained-heart (followed v) n)

heard-heart : (v : Core) (n : ℕ) (tag : Option ℕ) → heart (heard v n tag) ≡ heart v
heard-heart v n None = refl
heard-heart v n (Some tag) = good-heart (with_tag v tag) n

sample-heart : (v : Core) (n base bits : ℕ) → heart (by_sample v n base bits) ≡ heart v
sample-heart v n base bits = either-heart (hears v) (heard (with_last v n) n (good_tag v.last n base bits)) v (heart v) (heard-heart (with_last v n) n (good_tag v.last n base bits)) refl

holdover_ticked-heart : (v : Core) → heart (holdover_ticked v) ≡ heart v
holdover_ticked-heart v = either-heart (nat_le v.set.holdover (v.ticks - v.left_tick)) (record v { state = cond (is_some v.signals.link) SyncTai Uninit; phase = restarted v.phase }) v (heart v) refl refl

tick-heart : (v : Core) (s : ServoState) → heart (by_tick (record v { state = s })) ≡ heart (one_tick v)
tick-heart v Holdover = holdover_ticked-heart (one_tick (record v { state = Holdover }))
tick-heart v Track = later-heart (one_tick (record v { state = Track }))
tick-heart v Uninit = later-heart (one_tick (record v { state = Uninit }))
tick-heart v SyncTai = later-heart (one_tick (record v { state = SyncTai }))
tick-heart v SyncNsec = later-heart (one_tick (record v { state = SyncNsec }))
tick-heart v SyncPhase = later-heart (one_tick (record v { state = SyncPhase }))
tick-heart v WaitStable = later-heart (one_tick (record v { state = WaitStable }))

-- what one more call gives
told-by : Heart → Call → Heart
told-by h (CallCarrier up) = record h { signals = record h.signals { carrier = up } }
told-by h (CallLink on) = record h { signals = record h.signals { link = on } }
told-by h (CallLease fresh) = record h { signals = record h.signals { lease = fresh } }
told-by h CallTick = record h { ticks = h.ticks + 1 }
told-by h CallReset = record { signals = record { carrier = false; link = None; lease = false }; ticks = 0 }
told-by h _ = h

call-heart : (x : ServoSetting) (v : Core) (call : Call) → heart (after x v call) ≡ told-by (heart v) call
unfolding told-by
call-heart x v (CallSample n base bits) = sample-heart v n base bits
call-heart x v (CallMeasured f y) = answered-heart x v f y (deltas_in_chain v)
call-heart x v CallTick = tick-heart v v.state
call-heart x v (CallLease true) = refl
call-heart x v (CallLease false) = end-heart (with_lease v false)
call-heart x v (CallLink (Some d)) = linked-heart (with_link v (Some d)) v.state
call-heart x v (CallLink None) = let w : Core = ended (with_link v None) in uninit_outside_holdover-heart w w.state ∙ end-heart (with_link v None)
call-heart x v (CallCarrier true) = restarted_outside_holdover-heart (with_carrier v true) v.state
call-heart x v (CallCarrier false) = let w : Core = ended (carrier_gone v) in uninit_outside_holdover-heart w w.state ∙ end-heart (carrier_gone v)
call-heart x v CallReset = refl

told-ticks : (h : Heart) (call : Call) → (told-by h call).ticks ≤ h.ticks + 1
unfolding told-by
told-ticks h CallReset = omega arith
told-ticks h _ = omega arith

-- a call brings at most one tick
pub after-ticks : (x : ServoSetting) (v : Core) (call : Call) → (after x v call).ticks ≤ v.ticks + 1
after-ticks x v call = subst (λ (n : ℕ). n ≤ v.ticks + 1) (sym (ap (λ (h : Heart). h.ticks) (call-heart x v call))) (told-ticks (heart v) call)

looked : List Call → Heart
looked calls = record { signals = record { carrier = carrier_told calls; link = link_told calls; lease = lease_told calls }; ticks = ticks_told calls }

looked-by : (call : Call) (calls : List Call) → looked (call ∷ calls) ≡ told-by (looked calls) call
unfolding looked told-by
looked-by (CallSample n base bits) calls = refl
looked-by (CallMeasured f y) calls = refl
looked-by CallTick calls = refl
looked-by (CallLease fresh) calls = refl
looked-by (CallLink on) calls = refl
looked-by (CallCarrier up) calls = refl
looked-by CallReset calls = refl

heart-told : (x : ServoSetting) (calls : List Call) → heart (run x calls) ≡ looked calls
unfolding looked
heart-told x [] = refl
heart-told x (call ∷ calls) = call-heart x (run x calls) call ∙ ap (λ (h : Heart). told-by h call) (heart-told x calls) ∙ sym (looked-by call calls)

pub last_told : ToldLast
unfolding looked
last_told x calls = record {
  carrier = ap (λ (h : Heart). h.signals.carrier) (heart-told x calls);
  link = ap (λ (h : Heart). h.signals.link) (heart-told x calls);
  lease = ap (λ (h : Heart). h.signals.lease) (heart-told x calls);
  ticks = ap (λ (h : Heart). h.ticks) (heart-told x calls);
}
