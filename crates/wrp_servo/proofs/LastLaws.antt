-- The greatest number of a sample, looking back.
use Rattle.std.specs.Prelude.{max}
use Rattle.std.proofs.Common.{◌≡◌, refl, ap, ◌∙◌, ℕ, Bool, true, false, cond, nat_le, ◌-◌, is_some, Option, None, Some, List, [], ◌∷◌}
use Rattle.wrp_base.specs.declared.link.ServoState.{ServoState}
use Rattle.wrp_base.specs.declared.link.ServoState.TheVariants.{Uninit, SyncTai, SyncNsec, SyncPhase, WaitStable, Track, Holdover}
use Rattle.wrp_servo.specs.declared.machine.Core.{Core}
use Rattle.wrp_servo.specs.Following.{restarted}
use Rattle.wrp_servo.specs.Table.{one_tick, ended, by_tick, carrier_gone, with_link, with_lease, with_carrier, restarted_outside_holdover}
use Rattle.wrp_servo.specs.Sampling.{hears, good_tag, is_far, with_tag, with_last, followed, judged, chained, good, heard, lost, by_sample}
use Rattle.wrp_servo.specs.Measuring.{deltas_in_chain}
use Rattle.wrp_servo.specs.Call.{Call, CallSample, CallMeasured, CallTick, CallLease, CallLink, CallCarrier, CallReset, ServoSetting, run}
use Rattle.wrp_servo.proofs.Rests.{Rest, end-rest, uninit_outside_holdover-rest, linked-rest, judged-rest, chained-rest, later-rest, answered-rest}
use Rattle.wrp_servo.specs.LookBack.{last_told}

either-last : (b : Bool) (v w : Core) (n : ℕ) → v.last ≡ n → w.last ≡ n → (cond b v w).last ≡ n
either-last true v w n h k = h
either-last false v w n h k = k

good-last : (v : Core) (n : ℕ) → (good v n).last ≡ v.last
good-last v n =
    let c : Core = chained (followed v) n in
    either-last (is_far v.phase.u) (lost v) (judged c) v.last
    (ap (λ (r : Rest). r.last) (end-rest v))
    (ap (λ (r : Rest). r.last) (judged-rest c c.state ∙ chained-rest (followed v) n))

heard-last : (v : Core) (n : ℕ) (tag : Option ℕ) → (heard v n tag).last ≡ v.last
heard-last v n None = refl
heard-last v n (Some tag) = good-last (with_tag v tag) n

sample-last : (v : Core) (n base bits : ℕ) → (by_sample v n base bits).last ≡ cond (hears v) (max v.last n) v.last
sample-last v n base bits =
    elim (hears v) as (λ b. (cond b (heard (with_last v n) n (good_tag v.last n base bits)) v).last ≡ cond b (max v.last n) v.last) [
      | true ↦ heard-last (with_last v n) n (good_tag v.last n base bits)
      | false ↦ refl
    ]

tick-last : (v : Core) (s : ServoState) → (by_tick (record v { state = s })).last ≡ v.last
tick-last v Holdover =
    let w : Core = one_tick (record v { state = Holdover }) in
    either-last (nat_le w.set.holdover (w.ticks - w.left_tick)) (record w { state = cond (is_some w.signals.link) SyncTai Uninit; phase = restarted w.phase }) w v.last refl refl
tick-last v Track = ap (λ (r : Rest). r.last) (later-rest (one_tick (record v { state = Track })))
tick-last v Uninit = ap (λ (r : Rest). r.last) (later-rest (one_tick (record v { state = Uninit })))
tick-last v SyncTai = ap (λ (r : Rest). r.last) (later-rest (one_tick (record v { state = SyncTai })))
tick-last v SyncNsec = ap (λ (r : Rest). r.last) (later-rest (one_tick (record v { state = SyncNsec })))
tick-last v SyncPhase = ap (λ (r : Rest). r.last) (later-rest (one_tick (record v { state = SyncPhase })))
tick-last v WaitStable = ap (λ (r : Rest). r.last) (later-rest (one_tick (record v { state = WaitStable })))

restarted-last : (v : Core) (s : ServoState) → (restarted_outside_holdover (record v { state = s }) s).last ≡ v.last
restarted-last v Holdover = refl
restarted-last v _ = refl

pub last_is : (x : ServoSetting) (calls : List Call) → (run x calls).last ≡ last_told x calls
last_is x [] = refl
last_is x (CallSample n base bits ∷ calls) =
    sample-last (run x calls) n base bits ∙ ap (λ (m : ℕ). cond (hears (run x calls)) (max m n) m) (last_is x calls)
last_is x (CallMeasured f y ∷ calls) = ap (λ (r : Rest). r.last) (answered-rest x (run x calls) f y (deltas_in_chain (run x calls))) ∙ last_is x calls
last_is x (CallTick ∷ calls) = tick-last (run x calls) (run x calls).state ∙ last_is x calls
last_is x (CallLease true ∷ calls) = last_is x calls
last_is x (CallLease false ∷ calls) = ap (λ (r : Rest). r.last) (end-rest (with_lease (run x calls) false)) ∙ last_is x calls
last_is x (CallLink (Some d) ∷ calls) = ap (λ (r : Rest). r.last) (linked-rest (with_link (run x calls) (Some d)) (run x calls).state) ∙ last_is x calls
last_is x (CallLink None ∷ calls) =
    let w : Core = ended (with_link (run x calls) None) in
    ap (λ (r : Rest). r.last) (uninit_outside_holdover-rest w w.state ∙ end-rest (with_link (run x calls) None)) ∙ last_is x calls
last_is x (CallCarrier true ∷ calls) = restarted-last (with_carrier (run x calls) true) (run x calls).state ∙ last_is x calls
last_is x (CallCarrier false ∷ calls) =
    let w : Core = ended (carrier_gone (run x calls)) in
    ap (λ (r : Rest). r.last) (uninit_outside_holdover-rest w w.state ∙ end-rest (carrier_gone (run x calls))) ∙ last_is x calls
last_is x (CallReset ∷ calls) = refl
