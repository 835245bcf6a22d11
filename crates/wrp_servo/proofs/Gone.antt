-- The ticks of a servo are the ticks at its last good sample and the ticks since.
use Rattle.std.proofs.Common.{◌≡◌, refl, ap, ◌∙◌, sym, ℕ, Bool, true, false, cond, nat_le, ◌+◌, ◌-◌, is_some, Option, None, Some, List, [], ◌∷◌, subst, arith}
use Rattle.wrp_base.specs.declared.link.ServoState.{ServoState}
use Rattle.wrp_base.specs.declared.link.ServoState.TheVariants.{Uninit, SyncTai, SyncNsec, SyncPhase, WaitStable, Track, Holdover}
use Rattle.wrp_servo.specs.declared.machine.Core.{Core}
use Rattle.wrp_servo.specs.Following.{restarted}
use Rattle.wrp_servo.specs.Table.{one_tick, ended, by_tick, carrier_gone, with_link, with_lease, with_carrier, restarted_outside_holdover}
use Rattle.wrp_servo.specs.Sampling.{hears, good_tag, is_far, with_tag, with_last, followed, judged, chained, good, heard, lost, by_sample}
use Rattle.wrp_servo.specs.Measuring.{deltas_in_chain}
use Rattle.wrp_servo.specs.Call.{Call, CallSample, CallMeasured, CallTick, CallLease, CallLink, CallCarrier, CallReset, ServoSetting, run}
use Rattle.wrp_servo.proofs.Rests.{Rest, end-rest, uninit_outside_holdover-rest, linked-rest, judged-rest, chained-rest, later-rest, answered-rest}
use Rattle.wrp_servo.specs.declared.interface.ServoSet.{ServoSet}
use Rattle.wrp_servo.specs.Told.{ticks_since_good}

-- the set, the ticks, and the tick of the last good sample
pub record Heart : Type 0 where
  pub set : ServoSet
  pub ticks : ℕ
  pub good_tick : ℕ

abbrev pub heart : Core → Heart
heart v = record { set = v.set; ticks = v.ticks; good_tick = v.good_tick }

abbrev timed : Rest → Heart
timed r = record { set = r.set; ticks = r.ticks; good_tick = r.good_tick }

either-heart : (b : Bool) (v w : Core) (h : Heart) → heart v ≡ h → heart w ≡ h → heart (cond b v w) ≡ h
either-heart true v w h p q = p
either-heart false v w h p q = q

good-heart : (v : Core) (n : ℕ) → heart (good v n) ≡ heart v
good-heart v n =
    let c : Core = chained (followed v) n in
    either-heart (is_far v.phase.u) (lost v) (judged c) (heart v)
    (ap timed (end-rest v))
    (ap timed (judged-rest c c.state ∙ chained-rest (followed v) n))

tick-heart : (v : Core) (s : ServoState) → heart (by_tick (record v { state = s })) ≡ heart (one_tick v)
tick-heart v Holdover =
    let w : Core = one_tick (record v { state = Holdover }) in
    either-heart (nat_le w.set.holdover (w.ticks - w.left_tick)) (record w { state = cond (is_some w.signals.link) SyncTai Uninit; phase = restarted w.phase }) w (heart (one_tick v)) refl refl
tick-heart v Track = ap timed (later-rest (one_tick (record v { state = Track })))
tick-heart v Uninit = ap timed (later-rest (one_tick (record v { state = Uninit })))
tick-heart v SyncTai = ap timed (later-rest (one_tick (record v { state = SyncTai })))
tick-heart v SyncNsec = ap timed (later-rest (one_tick (record v { state = SyncNsec })))
tick-heart v SyncPhase = ap timed (later-rest (one_tick (record v { state = SyncPhase })))
tick-heart v WaitStable = ap timed (later-rest (one_tick (record v { state = WaitStable })))

restarted-heart : (v : Core) (s : ServoState) → heart (restarted_outside_holdover (record v { state = s }) s) ≡ heart v
restarted-heart v Holdover = refl
restarted-heart v _ = refl

-- ---- the ticks of a servo are the ticks at its last good sample and the ticks since

pub record Gone (x : ServoSetting) (h : Heart) (n : ℕ) : Type 0 where
  pub set : h.set ≡ x.set
  pub ticks : h.ticks ≡ h.good_tick + n

same_gone : (x : ServoSetting) (h k : Heart) (n : ℕ) → h ≡ k → Gone x k n → Gone x h n
same_gone x h k n e g = subst (λ z. Gone x z n) (sym e) g

fresh_gone : (x : ServoSetting) (set : ServoSet) (ticks : ℕ) → set ≡ x.set → Gone x (record { set = set; ticks = ticks; good_tick = ticks }) 0
fresh_gone x set ticks e = record { set = e; ticks = omega arith }

heard_gone : (x : ServoSetting) (v : Core) (n : ℕ) (tag : Option ℕ) (m : ℕ) → Gone x (heart v) m → Gone x (heart (heard (with_last v n) n tag)) (cond (is_some tag) 0 m)
heard_gone x v n None m g = g
heard_gone x v n (Some tag) m g =
    same_gone x (heart (good (with_tag (with_last v n) tag) n)) (heart (with_tag (with_last v n) tag)) 0 (good-heart (with_tag (with_last v n) tag) n)
    (fresh_gone x v.set v.ticks g.set)

sample_gone : (x : ServoSetting) (v : Core) (n base bits m : ℕ) → Gone x (heart v) m → Gone x (heart (by_sample v n base bits)) (cond (is_some (cond (hears v) (good_tag v.last n base bits) None)) 0 m)
sample_gone x v n base bits m g =
    elim (hears v) as (λ b. Gone x (heart (cond b (heard (with_last v n) n (good_tag v.last n base bits)) v)) (cond (is_some (cond b (good_tag v.last n base bits) None)) 0 m)) [
      | true ↦ heard_gone x v n (good_tag v.last n base bits) m g
      | false ↦ g
    ]

one_more : (x : ServoSetting) (h : Heart) (m : ℕ) → Gone x h m → Gone x (record h { ticks = h.ticks + 1 }) (m + 1)
one_more x h m g = let t : h.ticks ≡ h.good_tick + m = g.ticks in record { set = g.set; ticks = omega arith }

pub gone : (x : ServoSetting) (calls : List Call) → Gone x (heart (run x calls)) (ticks_since_good x calls)
gone x [] = fresh_gone x x.set 0 refl
gone x (CallSample n base bits ∷ calls) = sample_gone x (run x calls) n base bits (ticks_since_good x calls) (gone x calls)
gone x (CallMeasured f y ∷ calls) = same_gone x _ (heart (run x calls)) (ticks_since_good x calls) (ap timed (answered-rest x (run x calls) f y (deltas_in_chain (run x calls)))) (gone x calls)
gone x (CallTick ∷ calls) =
    same_gone x (heart (by_tick (run x calls))) (heart (one_tick (run x calls))) (ticks_since_good x calls + 1) (tick-heart (run x calls) (run x calls).state)
    (one_more x (heart (run x calls)) (ticks_since_good x calls) (gone x calls))
gone x (CallLease true ∷ calls) = gone x calls
gone x (CallLease false ∷ calls) = same_gone x _ (heart (run x calls)) (ticks_since_good x calls) (ap timed (end-rest (with_lease (run x calls) false))) (gone x calls)
gone x (CallLink (Some d) ∷ calls) = same_gone x _ (heart (run x calls)) (ticks_since_good x calls) (ap timed (linked-rest (with_link (run x calls) (Some d)) (run x calls).state)) (gone x calls)
gone x (CallLink None ∷ calls) =
    let w : Core = ended (with_link (run x calls) None) in
    same_gone x _ (heart (run x calls)) (ticks_since_good x calls) (ap timed (uninit_outside_holdover-rest w w.state ∙ end-rest (with_link (run x calls) None))) (gone x calls)
gone x (CallCarrier true ∷ calls) = same_gone x _ (heart (run x calls)) (ticks_since_good x calls) (restarted-heart (with_carrier (run x calls) true) (run x calls).state) (gone x calls)
gone x (CallCarrier false ∷ calls) =
    let w : Core = ended (carrier_gone (run x calls)) in
    same_gone x _ (heart (run x calls)) (ticks_since_good x calls) (ap timed (uninit_outside_holdover-rest w w.state ∙ end-rest (carrier_gone (run x calls)))) (gone x calls)
gone x (CallReset ∷ calls) = fresh_gone x (run x calls).set 0 (gone x calls).set

-- the settings stay
pub set_is : (x : ServoSetting) (calls : List Call) → (run x calls).set ≡ x.set
set_is x calls = (gone x calls).set
