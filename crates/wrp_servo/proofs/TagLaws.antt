-- u is the sum of the wrapped differences of the good tags since the loop's last restart.
use Rattle.std.proofs.Common.{◌≡◌, refl, ap, ◌∙◌, sym, ℕ, ℤ, Bool, true, false, cond, not, ◌&&◌, nat_le, ◌-◌, is_some, Option, None, Some, List, [], ◌∷◌, subst}
use Rattle.wrp_base.specs.declared.link.Deltas.{Deltas}
use Rattle.wrp_base.specs.declared.link.ServoState.{ServoState}
use Rattle.wrp_base.specs.declared.link.ServoState.TheVariants.{Uninit, SyncTai, SyncNsec, SyncPhase, WaitStable, Track, Holdover}
use Rattle.wrp_base.specs.declared.measurement.Four.{Four}
use Rattle.wrp_phase.specs.Unwrapping.{Unwrapping, StandsFor, unwrapped, pushed, untouched}
use Rattle.wrp_phase.proofs.UnwrapLaws.{StandsFor-pushed}
use Rattle.wrp_servo.specs.declared.interface.ServoSet.{ServoSet}
use Rattle.wrp_servo.specs.declared.machine.Core.{Core}
use Rattle.wrp_servo.specs.Following.{restarted}
use Rattle.wrp_servo.specs.Table.{one_tick, ended, uninit_outside_holdover, ended_by_gap, ended_by_age, by_tick, holdover_ticked, carrier_gone, with_link, with_lease, with_carrier, linked, restarted_outside_holdover}
use Rattle.wrp_servo.specs.Sampling.{hears, is_holdover, good_tag, is_far, with_tag, with_last, followed, judged, judged_in, chained, good, heard, lost, by_sample}
use Rattle.wrp_servo.specs.Measuring.{deltas_in_chain, answered}
use Rattle.wrp_servo.specs.Call.{Call, CallSample, CallMeasured, CallTick, CallLease, CallLink, CallCarrier, CallReset, ServoSetting, run}
use Rattle.wrp_servo.specs.Tags.{with_more, tags, is_empty, PhaseIsSum}
use Rattle.wrp_servo.proofs.Rests.{Rest, end-rest, uninit_outside_holdover-rest, linked-rest, judged-rest, chained-rest, later-rest, answered-rest}

-- what unwrapping is about
record Heart : Type 0 where
  set : ServoSet
  unwrap : Unwrapping
  fresh : Bool
  u : ℤ

abbrev heart : Core → Heart
heart v = record { set = v.set; unwrap = v.phase.unwrap; fresh = v.phase.fresh; u = v.phase.u }

abbrev tagged : Rest → Heart
tagged r = record { set = r.set; unwrap = r.unwrap; fresh = r.fresh; u = r.u }

-- what most rows leave
end-heart : (v : Core) → heart (ended v) ≡ heart v
end-heart v = ap tagged (end-rest v)

uninit_outside_holdover-heart : (v : Core) (s : ServoState) → heart (uninit_outside_holdover (record v { state = s }) s) ≡ heart v
uninit_outside_holdover-heart v s = ap tagged (uninit_outside_holdover-rest v s)

linked-heart : (v : Core) (s : ServoState) → heart (linked (record v { state = s }) s) ≡ heart v
linked-heart v s = ap tagged (linked-rest v s)

judged-heart : (v : Core) (s : ServoState) → heart (judged_in (record v { state = s }) s) ≡ heart v
judged-heart v s = ap tagged (judged-rest v s)

chained-heart : (v : Core) (n : ℕ) → heart (chained v n) ≡ heart v
chained-heart v n = ap tagged (chained-rest v n)

later-heart : (v : Core) → heart (ended_by_age (ended_by_gap v)) ≡ heart v
later-heart v = ap tagged (later-rest v)

answered-heart : (x : ServoSetting) (v : Core) (f : Four) (y : ℤ) (on : Option Deltas) → heart (answered x.lo x.hi v f y on) ≡ heart v
answered-heart x v f y on = ap tagged (answered-rest x v f y on)

-- ---- the law, one call at a time

-- a heart has taken these tags
record Took (x : ServoSetting) (h : Heart) (ts : List ℕ) : Type 0 where
  set : h.set ≡ x.set
  clock : h.unwrap.clock ≡ x.set.clock
  stands : StandsFor h.unwrap ts
  fresh : h.fresh ≡ is_empty ts
  u : is_empty ts ≡ false → h.u ≡ unwrapped x.set.clock ts

rest : (x : ServoSetting) (set : ServoSet) (unwrap : Unwrapping) (u : ℤ) → set ≡ x.set → unwrap.clock ≡ x.set.clock → Took x (record { set = set; unwrap = untouched unwrap.clock; fresh = true; u = u }) []
rest x set unwrap u h e = record { set = h; clock = e; stands = record { last = refl; answer = refl }; fresh = refl; u = λ h. absurd cc }

push : (x : ServoSetting) (h : Heart) (ts : List ℕ) (tag : ℕ) → Took x h ts →
    Took x (record { set = h.set; unwrap = pushed h.unwrap tag; fresh = false; u = (pushed h.unwrap tag).answer }) (tag ∷ ts)
push x h ts tag t =
    let s : StandsFor (pushed h.unwrap tag) (tag ∷ ts) = StandsFor-pushed h.unwrap tag ts t.stands in
    record {
      set = t.set;
      clock = t.clock;
      stands = s;
      fresh = refl;
      u = λ e. s.answer ∙ ap (λ c. unwrapped c (tag ∷ ts)) t.clock;
    }

pushed-answer : (x : ServoSetting) (h : Heart) (ts : List ℕ) (tag : ℕ) → Took x h ts → (pushed h.unwrap tag).answer ≡ unwrapped x.set.clock (tag ∷ ts)
pushed-answer x h ts tag t = (push x h ts tag t).u refl

-- a good sample
good-took : (x : ServoSetting) (v : Core) (n tag : ℕ) (ts : List ℕ) → Took x (heart v) ts → Took x (heart (good (with_tag v tag) n)) (with_more x ts (Some tag))
good-took x v n tag ts t =
    let w : Core = with_tag v tag in
    let p : Took x (heart w) (tag ∷ ts) = push x (heart v) ts tag t in
    let same : w.phase.u ≡ unwrapped x.set.clock (tag ∷ ts) = pushed-answer x (heart v) ts tag t in
    subst (λ (z : ℤ). Took x (heart (good w n)) (cond (is_far z) [] (tag ∷ ts))) same
    (elim (is_far w.phase.u) as (λ b. Took x (heart (cond b (lost w) (judged (chained (followed w) n)))) (cond b [] (tag ∷ ts))) [
      | true ↦ subst (λ (h : Heart). Took x (record { set = h.set; unwrap = untouched h.unwrap.clock; fresh = true; u = h.u }) []) (sym (end-heart w)) (rest x w.set w.phase.unwrap w.phase.u p.set p.clock)
      | false ↦ subst (λ (h : Heart). Took x h (tag ∷ ts)) (sym (judged-heart (chained (followed w) n) (chained (followed w) n).state ∙ chained-heart (followed w) n)) p
    ])

heard-took : (x : ServoSetting) (v : Core) (n : ℕ) (tag : Option ℕ) (ts : List ℕ) → Took x (heart v) ts → Took x (heart (heard v n tag)) (with_more x ts tag)
heard-took x v n None ts t = t
heard-took x v n (Some tag) ts t = good-took x v n tag ts t

sample-took : (x : ServoSetting) (v : Core) (n base bits : ℕ) (ts : List ℕ) → Took x (heart v) ts →
    Took x (heart (by_sample v n base bits)) (with_more x ts (cond (hears v) (good_tag v.last n base bits) None))
sample-took x v n base bits ts t =
    elim (hears v) as (λ b. Took x (heart (cond b (heard (with_last v n) n (good_tag v.last n base bits)) v)) (with_more x ts (cond b (good_tag v.last n base bits) None))) [
      | true ↦ heard-took x (with_last v n) n (good_tag v.last n base bits) ts t
      | false ↦ t
    ]

tick_in_holdover-took : (x : ServoSetting) (v : Core) (ts : List ℕ) → Took x (heart v) ts →
    Took x (heart (holdover_ticked (record v { state = Holdover }))) (cond (not (is_holdover (holdover_ticked (record v { state = Holdover })).state)) [] ts)
tick_in_holdover-took x v ts t =
    let w : Core = record v { state = Holdover } in
    elim (nat_le v.set.holdover (v.ticks - v.left_tick)) as (λ b. Took x (heart (cond b (record w { state = cond (is_some v.signals.link) SyncTai Uninit; phase = restarted v.phase }) w)) (cond (not (is_holdover (cond b (record w { state = cond (is_some v.signals.link) SyncTai Uninit; phase = restarted v.phase }) w).state)) [] ts)) [
      | true ↦ elim (is_some v.signals.link) as (λ l. Took x (heart (record w { state = cond l SyncTai Uninit; phase = restarted v.phase })) (cond (not (is_holdover (cond l SyncTai Uninit))) [] ts)) [
        | true ↦ rest x v.set v.phase.unwrap v.phase.u t.set t.clock
        | false ↦ rest x v.set v.phase.unwrap v.phase.u t.set t.clock
      ]
      | false ↦ t
    ]

later-took : (x : ServoSetting) (v : Core) (ts : List ℕ) → Took x (heart v) ts → Took x (heart (ended_by_age (ended_by_gap v))) ts
later-took x v ts t = subst (λ (h : Heart). Took x h ts) (sym (later-heart v)) t

tick-took : (x : ServoSetting) (v : Core) (s : ServoState) (ts : List ℕ) → Took x (heart v) ts →
    Took x (heart (by_tick (record v { state = s }))) (cond (is_holdover s && not (is_holdover (by_tick (record v { state = s })).state)) [] ts)
tick-took x v Holdover ts t = tick_in_holdover-took x (one_tick v) ts t
tick-took x v Track ts t = later-took x (one_tick (record v { state = Track })) ts t
tick-took x v Uninit ts t = later-took x (one_tick (record v { state = Uninit })) ts t
tick-took x v SyncTai ts t = later-took x (one_tick (record v { state = SyncTai })) ts t
tick-took x v SyncNsec ts t = later-took x (one_tick (record v { state = SyncNsec })) ts t
tick-took x v SyncPhase ts t = later-took x (one_tick (record v { state = SyncPhase })) ts t
tick-took x v WaitStable ts t = later-took x (one_tick (record v { state = WaitStable })) ts t

restarted_outside_holdover-took : (x : ServoSetting) (v : Core) (s : ServoState) (ts : List ℕ) → Took x (heart v) ts → Took x (heart (restarted_outside_holdover (record v { state = s }) s)) (cond (is_holdover s) ts [])
restarted_outside_holdover-took x v Holdover ts t = t
restarted_outside_holdover-took x v _ ts t = rest x v.set v.phase.unwrap v.phase.u t.set t.clock

took : (x : ServoSetting) (calls : List Call) → Took x (heart (run x calls)) (tags x calls) → (call : Call) → Took x (heart (run x (call ∷ calls))) (tags x (call ∷ calls))
took x calls t (CallSample n base bits) = sample-took x (run x calls) n base bits (tags x calls) t
took x calls t (CallMeasured f y) = subst (λ (h : Heart). Took x h (tags x calls)) (sym (answered-heart x (run x calls) f y (deltas_in_chain (run x calls)))) t
took x calls t CallTick = tick-took x (run x calls) (run x calls).state (tags x calls) t
took x calls t (CallLease true) = t
took x calls t (CallLease false) = subst (λ (h : Heart). Took x h (tags x calls)) (sym (end-heart (with_lease (run x calls) false))) t
took x calls t (CallLink (Some d)) = subst (λ (h : Heart). Took x h (tags x calls)) (sym (linked-heart (with_link (run x calls) (Some d)) (run x calls).state)) t
took x calls t (CallLink None) =
    let w : Core = ended (with_link (run x calls) None) in
    subst (λ (h : Heart). Took x h (tags x calls)) (sym (uninit_outside_holdover-heart w w.state ∙ end-heart (with_link (run x calls) None))) t
took x calls t (CallCarrier true) = restarted_outside_holdover-took x (with_carrier (run x calls) true) (run x calls).state (tags x calls) t
took x calls t (CallCarrier false) =
    let w : Core = ended (carrier_gone (run x calls)) in
    subst (λ (h : Heart). Took x h (tags x calls)) (sym (uninit_outside_holdover-heart w w.state ∙ end-heart (carrier_gone (run x calls)))) t
took x calls t CallReset = record { set = t.set; clock = ap (λ (s : ServoSet). s.clock) t.set; stands = record { last = refl; answer = refl }; fresh = refl; u = λ h. absurd cc }

took_all : (x : ServoSetting) (calls : List Call) → Took x (heart (run x calls)) (tags x calls)
took_all x [] = record { set = refl; clock = refl; stands = record { last = refl; answer = refl }; fresh = refl; u = λ h. absurd cc }
took_all x (call ∷ calls) = took x calls (took_all x calls) call

pub phase_sums_tags : PhaseIsSum
phase_sums_tags x calls =
    let t : Took x (heart (run x calls)) (tags x calls) = took_all x calls in
    record { clock = t.clock; stands = t.stands; fresh = t.fresh; u = t.u }
