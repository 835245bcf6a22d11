-- What looking back finds of the samples, of u and of the ticks is what the rows hold.
use Rattle.std.specs.Prelude.{max, nat_lt}
use Rattle.std.proofs.Common.{◌≡◌, refl, ap, ap₂, ◌∙◌, ℕ, ℤ, ◌+◌, ◌-◌, Bool, true, false, cond, not, ◌&&◌, is_some, Option, None, Some, List, [], ◌∷◌, inl, inr, arith}
use Rattle.wrp_base.specs.declared.link.Deltas.{Deltas}
use Rattle.wrp_base.specs.declared.measurement.Four.{Four}
use Rattle.wrp_base.specs.declared.time.Clock.{Clock}
use Rattle.wrp_phase.specs.Beat.{deglitched}
use Rattle.wrp_phase.specs.Unwrapping.{Unwrapping, last_tag, pushed, unwrapped}
use Rattle.wrp_servo.specs.declared.machine.Core.{Core}
use Rattle.wrp_servo.specs.Call.{Call, CallSample, CallMeasured, CallTick, CallLease, CallLink, CallCarrier, CallReset, ServoSetting, run}
use Rattle.wrp_servo.specs.Laws.{phase_after, PhaseMovesByTags}
use Rattle.wrp_servo.specs.LookBack.{phase_with}
use Rattle.wrp_servo.specs.Measuring.{answered, deltas_in_chain}
use Rattle.wrp_servo.specs.Sampling.{is_holdover, hears, good_tag, with_tag, with_last, good, heard, by_sample}
use Rattle.wrp_servo.specs.Tags.{heard_tag, tags, with_more, HasTaken, PhaseIsSum}
use Rattle.wrp_servo.specs.Told.{ToldLast, ticks_since_good}
use Rattle.wrp_servo.proofs.Gone.{gone}
use Rattle.wrp_lookback_laws.specs.Heard.{is_heard, greatest_heard, tag_at, tags_since, u_at, ticks_without}
use Rattle.wrp_lookback_laws.proofs.Calls.{Answers, Good, lease-next, link-next, gone-next, comes-next, answered-next, good-next}
use Rattle.wrp_lookback_laws.proofs.Rows.{tick-next}

-- what the servo proves of u and of what it was given
pub record Known : Type 0 where
  pub told : ToldLast
  pub sum : PhaseIsSum
  pub moves : PhaseMovesByTags

-- ---- the greatest number of a sample

good-last : (v : Core) (n : ℕ) (w : Core) → Good v n w → w.last ≡ v.last
good-last v n w (inl (far, t)) = t.last
good-last v n w (inr (near, t)) = t.held.last

heard-last : (v : Core) (n : ℕ) (tag : Option ℕ) → (heard (with_last v n) n tag).last ≡ max v.last n
heard-last v n None = refl
heard-last v n (Some tag) =
    let w : Core = with_tag (with_last v n) tag in
    good-last w n (good w n) (good-next w n)

sample-last : (v : Core) (n base bits : ℕ) → (by_sample v n base bits).last ≡ cond (hears v) (max v.last n) v.last
sample-last v n base bits =
    elim (hears v) as (λ b. (cond b (heard (with_last v n) n (good_tag v.last n base bits)) v).last ≡ cond b (max v.last n) v.last) [
      | true ↦ heard-last v n (good_tag v.last n base bits)
      | false ↦ refl
    ]

answered-last : (lo hi : ℤ) (v : Core) (f : Four) (y : ℤ) (on : Option Deltas) (w : Core) → Answers lo hi v f y on w → w.last ≡ v.last
answered-last lo hi v f y None w e = ap (λ (c : Core). c.last) e
answered-last lo hi v f y (Some d) w (inl (r, t)) = t.held.last
answered-last lo hi v f y (Some d) w (inr (r, t)) = t.held.last

pub heard-by : Known → (x : ServoSetting) (calls : List Call) → hears (run x calls) ≡ is_heard x calls
heard-by known x calls = ap (λ (b : Bool). b && not (is_holdover (run x calls).state)) (known.told x calls).carrier

pub last-is : Known → (x : ServoSetting) (calls : List Call) → (run x calls).last ≡ greatest_heard x calls
last-is known x [] = refl
last-is known x (CallSample n base bits ∷ calls) =
    sample-last (run x calls) n base bits
    ∙ ap₂ (λ (b : Bool) (l : ℕ). cond b (max l n) l) (heard-by known x calls) (last-is known x calls)
last-is known x (CallMeasured f y ∷ calls) =
    let v : Core = run x calls in
    let on : Option Deltas = deltas_in_chain v in
    answered-last x.lo x.hi v f y on (answered x.lo x.hi v f y on) (answered-next x.lo x.hi v f y on) ∙ last-is known x calls
last-is known x (CallTick ∷ calls) = (tick-next (run x calls) (run x calls).state).held.last ∙ last-is known x calls
last-is known x (CallLease fresh ∷ calls) = (lease-next (run x calls) fresh).held.last ∙ last-is known x calls
last-is known x (CallLink on ∷ calls) = (link-next (run x calls) on).held.last ∙ last-is known x calls
last-is known x (CallCarrier true ∷ calls) = (comes-next (run x calls)).held.last ∙ last-is known x calls
last-is known x (CallCarrier false ∷ calls) = (gone-next (run x calls)).held.last ∙ last-is known x calls
last-is known x (CallReset ∷ calls) = refl

-- the tag of a good sample
pub tag-is : Known → (x : ServoSetting) (calls : List Call) (n base bits : ℕ) → heard_tag x calls n base bits ≡ tag_at x calls n base bits
tag-is known x calls n base bits =
    ap₂ (λ (b : Bool) (l : ℕ). cond b (cond (nat_lt l n) (deglitched base bits) None) None) (heard-by known x calls) (last-is known x calls)

-- ---- u

pub tags-are : Known → (x : ServoSetting) (calls : List Call) → tags x calls ≡ tags_since x calls
tags-are known x [] = refl
tags-are known x (CallSample n base bits ∷ calls) = ap₂ (λ (ts : List ℕ) (t : Option ℕ). with_more x ts t) (tags-are known x calls) (tag-is known x calls n base bits)
tags-are known x (CallMeasured f y ∷ calls) = tags-are known x calls
tags-are known x (CallTick ∷ calls) = ap (λ (ts : List ℕ). cond (is_holdover (run x calls).state && not (is_holdover (run x (CallTick ∷ calls)).state)) [] ts) (tags-are known x calls)
tags-are known x (CallLease fresh ∷ calls) = tags-are known x calls
tags-are known x (CallLink on ∷ calls) = tags-are known x calls
tags-are known x (CallCarrier true ∷ calls) = ap (λ (ts : List ℕ). cond (is_holdover (run x calls).state) ts []) (tags-are known x calls)
tags-are known x (CallCarrier false ∷ calls) = tags-are known x calls
tags-are known x (CallReset ∷ calls) = refl

made : (u : Unwrapping) (clock : Clock) (ts : List ℕ) → u.clock ≡ clock → u.last ≡ last_tag ts → u.answer ≡ unwrapped u.clock ts → u ≡ record { clock = clock; last = last_tag ts; answer = unwrapped clock ts }
made u clock ts c l a =
    ap (λ (o : Option ℕ). record { clock = u.clock; last = o; answer = u.answer }) l
    ∙ ap (λ (z : ℤ). record { clock = u.clock; last = last_tag ts; answer = z }) a
    ∙ ap (λ (k : Clock). record { clock = k; last = last_tag ts; answer = unwrapped k ts }) c

pub unwrap-is : Known → (x : ServoSetting) (calls : List Call) →
    (run x calls).phase.unwrap ≡ record { clock = x.set.clock; last = last_tag (tags_since x calls); answer = unwrapped x.set.clock (tags_since x calls) }
unwrap-is known x calls =
    let t : HasTaken x (run x calls) (tags x calls) = known.sum x calls in
    made (run x calls).phase.unwrap x.set.clock (tags x calls) t.clock t.stands.last t.stands.answer
    ∙ ap (λ (ts : List ℕ). record { clock = x.set.clock; last = last_tag ts; answer = unwrapped x.set.clock ts }) (tags-are known x calls)

-- u with a good tag is the sum with it
pub pushed-is : Known → (x : ServoSetting) (calls : List Call) (tag : ℕ) → (pushed (run x calls).phase.unwrap tag).answer ≡ unwrapped x.set.clock (tag ∷ tags_since x calls)
pushed-is known x calls tag = ap (λ (u : Unwrapping). (pushed u tag).answer) (unwrap-is known x calls)

moved : Known → (x : ServoSetting) (calls : List Call) (before : ℤ) (tag : Option ℕ) → (run x calls).phase.u ≡ before → phase_after (run x calls) tag ≡ phase_with x (tags_since x calls) before tag
moved known x calls before None e = e
moved known x calls before (Some tag) e = pushed-is known x calls tag

pub u-is : Known → (x : ServoSetting) (calls : List Call) → (run x calls).phase.u ≡ u_at x calls
u-is known x [] = refl
u-is known x (CallSample n base bits ∷ calls) =
    known.moves x calls (CallSample n base bits) refl
    ∙ ap (phase_after (run x calls)) (tag-is known x calls n base bits)
    ∙ moved known x calls (u_at x calls) (tag_at x calls n base bits) (u-is known x calls)
u-is known x (CallMeasured f y ∷ calls) = known.moves x calls (CallMeasured f y) refl ∙ u-is known x calls
u-is known x (CallTick ∷ calls) = known.moves x calls CallTick refl ∙ u-is known x calls
u-is known x (CallLease fresh ∷ calls) = known.moves x calls (CallLease fresh) refl ∙ u-is known x calls
u-is known x (CallLink on ∷ calls) = known.moves x calls (CallLink on) refl ∙ u-is known x calls
u-is known x (CallCarrier up ∷ calls) = known.moves x calls (CallCarrier up) refl ∙ u-is known x calls
u-is known x (CallReset ∷ calls) = refl

-- ---- ticks

since-is : Known → (x : ServoSetting) (calls : List Call) → ticks_since_good x calls ≡ ticks_without x calls
since-is known x [] = refl
since-is known x (CallSample n base bits ∷ calls) = ap₂ (λ (t : Option ℕ) (k : ℕ). cond (is_some t) 0 k) (tag-is known x calls n base bits) (since-is known x calls)
since-is known x (CallMeasured f y ∷ calls) = since-is known x calls
since-is known x (CallTick ∷ calls) = ap (λ (k : ℕ). k + 1) (since-is known x calls)
since-is known x (CallLease fresh ∷ calls) = since-is known x calls
since-is known x (CallLink on ∷ calls) = since-is known x calls
since-is known x (CallCarrier up ∷ calls) = since-is known x calls
since-is known x (CallReset ∷ calls) = refl

past : (ticks good since : ℕ) → ticks ≡ good + since → (ticks + 1) - good ≡ since + 1
past ticks good since h = omega arith

-- the ticks since the last good sample, with one more
pub past-is : Known → (x : ServoSetting) (calls : List Call) → ((run x calls).ticks + 1) - (run x calls).good_tick ≡ ticks_without x calls + 1
past-is known x calls =
    past (run x calls).ticks (run x calls).good_tick (ticks_since_good x calls) (gone x calls).ticks
    ∙ ap (λ (k : ℕ). k + 1) (since-is known x calls)
