-- u changes by the next good tag alone.
use Rattle.std.proofs.Common.{◌≡◌, refl, ap, ◌∙◌, ℕ, ℤ, Bool, true, false, cond, nat_le, ◌-◌, is_some, Option, None, Some}
use Rattle.wrp_base.specs.declared.link.ServoState.{ServoState}
use Rattle.wrp_base.specs.declared.link.ServoState.TheVariants.{Uninit, SyncTai, SyncNsec, SyncPhase, WaitStable, Track, Holdover}
use Rattle.wrp_servo.specs.declared.machine.Core.{Core}
use Rattle.wrp_servo.specs.Following.{restarted}
use Rattle.wrp_servo.specs.Table.{one_tick, ended, by_tick, carrier_gone, with_link, with_lease, with_carrier, restarted_outside_holdover}
use Rattle.wrp_servo.specs.Sampling.{hears, good_tag, is_far, with_tag, with_last, followed, judged, chained, good, heard, lost, by_sample}
use Rattle.wrp_servo.specs.Measuring.{deltas_in_chain}
use Rattle.wrp_servo.specs.Call.{CallSample, CallMeasured, CallTick, CallLease, CallLink, CallCarrier, CallReset, run}
use Rattle.wrp_servo.proofs.Rests.{Rest, end-rest, uninit_outside_holdover-rest, linked-rest, judged-rest, chained-rest, later-rest, answered-rest}
use Rattle.wrp_servo.specs.Laws.{PhaseMovesByTags, phase_after}

either-u : (b : Bool) (v w : Core) (z : ℤ) → v.phase.u ≡ z → w.phase.u ≡ z → (cond b v w).phase.u ≡ z
either-u true v w z h k = h
either-u false v w z h k = k

good-u : (v : Core) (n : ℕ) → (good v n).phase.u ≡ v.phase.u
good-u v n =
    let c : Core = chained (followed v) n in
    either-u (is_far v.phase.u) (lost v) (judged c) v.phase.u
    (ap (λ (r : Rest). r.u) (end-rest v))
    (ap (λ (r : Rest). r.u) (judged-rest c c.state ∙ chained-rest (followed v) n))

heard-u : (v : Core) (n : ℕ) (tag : Option ℕ) → (heard v n tag).phase.u ≡ phase_after v tag
heard-u v n None = refl
heard-u v n (Some tag) = good-u (with_tag v tag) n

heard-last : (v : Core) (n : ℕ) (tag : Option ℕ) → (heard (with_last v n) n tag).phase.u ≡ phase_after v tag
heard-last v n None = refl
heard-last v n (Some tag) = heard-u (with_last v n) n (Some tag)

sample-u : (v : Core) (n base bits : ℕ) → (by_sample v n base bits).phase.u ≡ phase_after v (cond (hears v) (good_tag v.last n base bits) None)
sample-u v n base bits =
    elim (hears v) as (λ b. (cond b (heard (with_last v n) n (good_tag v.last n base bits)) v).phase.u ≡ phase_after v (cond b (good_tag v.last n base bits) None)) [
      | true ↦ heard-last v n (good_tag v.last n base bits)
      | false ↦ refl
    ]

tick-u : (v : Core) (s : ServoState) → (by_tick (record v { state = s })).phase.u ≡ v.phase.u
tick-u v Holdover =
    let w : Core = one_tick (record v { state = Holdover }) in
    either-u (nat_le w.set.holdover (w.ticks - w.left_tick)) (record w { state = cond (is_some w.signals.link) SyncTai Uninit; phase = restarted w.phase }) w v.phase.u refl refl
tick-u v Track = ap (λ (r : Rest). r.u) (later-rest (one_tick (record v { state = Track })))
tick-u v Uninit = ap (λ (r : Rest). r.u) (later-rest (one_tick (record v { state = Uninit })))
tick-u v SyncTai = ap (λ (r : Rest). r.u) (later-rest (one_tick (record v { state = SyncTai })))
tick-u v SyncNsec = ap (λ (r : Rest). r.u) (later-rest (one_tick (record v { state = SyncNsec })))
tick-u v SyncPhase = ap (λ (r : Rest). r.u) (later-rest (one_tick (record v { state = SyncPhase })))
tick-u v WaitStable = ap (λ (r : Rest). r.u) (later-rest (one_tick (record v { state = WaitStable })))

restarted-u : (v : Core) (s : ServoState) → (restarted_outside_holdover (record v { state = s }) s).phase.u ≡ v.phase.u
restarted-u v Holdover = refl
restarted-u v _ = refl

pub phase_moves : PhaseMovesByTags
phase_moves x calls (CallSample n base bits) h = sample-u (run x calls) n base bits
phase_moves x calls (CallMeasured f y) h = ap (λ (r : Rest). r.u) (answered-rest x (run x calls) f y (deltas_in_chain (run x calls)))
phase_moves x calls CallTick h = tick-u (run x calls) (run x calls).state
phase_moves x calls (CallLease true) h = refl
phase_moves x calls (CallLease false) h = ap (λ (r : Rest). r.u) (end-rest (with_lease (run x calls) false))
phase_moves x calls (CallLink (Some d)) h = ap (λ (r : Rest). r.u) (linked-rest (with_link (run x calls) (Some d)) (run x calls).state)
phase_moves x calls (CallLink None) h =
    let w : Core = ended (with_link (run x calls) None) in
    ap (λ (r : Rest). r.u) (uninit_outside_holdover-rest w w.state ∙ end-rest (with_link (run x calls) None))
phase_moves x calls (CallCarrier true) h = restarted-u (with_carrier (run x calls) true) (run x calls).state
phase_moves x calls (CallCarrier false) h =
    let w : Core = ended (carrier_gone (run x calls)) in
    ap (λ (r : Rest). r.u) (uninit_outside_holdover-rest w w.state ∙ end-rest (carrier_gone (run x calls)))
phase_moves x calls CallReset h = absurd cc
