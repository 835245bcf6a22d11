-- What looking back finds is what the rows hold.
use Rattle.std.proofs.Common.{◌≡◌, refl, ap, ◌∙◌, ℕ, ℤ, ◌+◌, ◌-◌, Bool, Option, None, Some, List, [], ◌∷◌, arith}
use Rattle.wrp_base.specs.declared.time.Clock.{Clock}
use Rattle.wrp_phase.specs.Unwrapping.{Unwrapping, last_tag, pushed, unwrapped}
use Rattle.wrp_servo.specs.declared.machine.Core.{Core}
use Rattle.wrp_servo.specs.declared.machine.Signals.{Signals}
use Rattle.wrp_servo.specs.Call.{Call, CallSample, CallMeasured, CallTick, CallLease, CallLink, CallCarrier, CallReset, ServoSetting, run}
use Rattle.wrp_servo.specs.Laws.{phase_after}
use Rattle.wrp_servo.specs.LookBack.{phase_with, phase_told, last_told, seen}
use Rattle.wrp_servo.specs.Tags.{heard_tag, tags, HasTaken}
use Rattle.wrp_servo.specs.Told.{IsTold, carrier_told, link_told, lease_told, ticks_told, ticks_since_good}
use Rattle.wrp_servo.proofs.Gone.{gone}
use Rattle.wrp_servo.proofs.LastLaws.{last_is}
use Rattle.wrp_servo.proofs.PhaseLaws.{phase_moves}
use Rattle.wrp_servo.proofs.TagLaws.{phase_sums_tags}
use Rattle.wrp_servo.proofs.ToldLaws.{last_told as told_last}

-- an unwrapper that has taken these tags
abbrev unwrapping : ServoSetting → List Call → Unwrapping
unwrapping x calls = record { clock = x.set.clock; last = last_tag (tags x calls); answer = unwrapped x.set.clock (tags x calls) }

made : (u : Unwrapping) (clock : Clock) (ts : List ℕ) → u.clock ≡ clock → u.last ≡ last_tag ts → u.answer ≡ unwrapped u.clock ts → u ≡ record { clock = clock; last = last_tag ts; answer = unwrapped clock ts }
made u clock ts c l a =
    ap (λ (o : Option ℕ). record { clock = u.clock; last = o; answer = u.answer }) l
    ∙ ap (λ (z : ℤ). record { clock = u.clock; last = last_tag ts; answer = z }) a
    ∙ ap (λ (k : Clock). record { clock = k; last = last_tag ts; answer = unwrapped k ts }) c

unwrap_is : (x : ServoSetting) (calls : List Call) → (run x calls).phase.unwrap ≡ record { clock = x.set.clock; last = last_tag (tags x calls); answer = unwrapped x.set.clock (tags x calls) }
unwrap_is x calls =
    let t : HasTaken x (run x calls) (tags x calls) = phase_sums_tags x calls in
    made (run x calls).phase.unwrap x.set.clock (tags x calls) t.clock t.stands.last t.stands.answer

-- the phase after a tag is the sum with it
moved : (x : ServoSetting) (calls : List Call) (before : ℤ) (tag : Option ℕ) → (run x calls).phase.u ≡ before → phase_after (run x calls) tag ≡ phase_with x (tags x calls) before tag
moved x calls before None e = e
moved x calls before (Some tag) e = ap (λ (u : Unwrapping). (pushed u tag).answer) (unwrap_is x calls)

phase_is : (x : ServoSetting) (calls : List Call) → (run x calls).phase.u ≡ phase_told x calls
phase_is x [] = refl
phase_is x (CallSample n base bits ∷ calls) =
    phase_moves x calls (CallSample n base bits) refl ∙ moved x calls (phase_told x calls) (heard_tag x calls n base bits) (phase_is x calls)
phase_is x (CallMeasured f y ∷ calls) = phase_moves x calls (CallMeasured f y) refl ∙ phase_is x calls
phase_is x (CallTick ∷ calls) = phase_moves x calls CallTick refl ∙ phase_is x calls
phase_is x (CallLease fresh ∷ calls) = phase_moves x calls (CallLease fresh) refl ∙ phase_is x calls
phase_is x (CallLink on ∷ calls) = phase_moves x calls (CallLink on) refl ∙ phase_is x calls
phase_is x (CallCarrier up ∷ calls) = phase_moves x calls (CallCarrier up) refl ∙ phase_is x calls
phase_is x (CallReset ∷ calls) = refl

before_is : (ticks good n told : ℕ) → ticks ≡ good + n → ticks ≡ told → good ≡ told - n
before_is ticks good n told h e = omega arith

good_tick_is : (x : ServoSetting) (calls : List Call) → (run x calls).good_tick ≡ ticks_told calls - ticks_since_good x calls
good_tick_is x calls =
    before_is (run x calls).ticks (run x calls).good_tick (ticks_since_good x calls) (ticks_told calls)
    (gone x calls).ticks (told_last x calls).ticks

-- what a servo holds, with these in their places
abbrev put : Core → Signals → ℕ → ℕ → ℕ → Unwrapping → ℤ → Core
put v signals last ticks good unwrap u =
    record v { signals = signals; last = last; ticks = ticks; good_tick = good; phase = record v.phase { unwrap = unwrap; u = u } }

-- the signals as last given
abbrev signals_told : List Call → Signals
signals_told calls = record { carrier = carrier_told calls; link = link_told calls; lease = lease_told calls }

signals_are : (v : Core) (calls : List Call) → IsTold v calls → v.signals ≡ record { carrier = carrier_told calls; link = link_told calls; lease = lease_told calls }
signals_are v calls t =
    ap (λ (b : Bool). record { carrier = b; link = v.signals.link; lease = v.signals.lease }) t.carrier
    ∙ ap (λ o. record { carrier = carrier_told calls; link = o; lease = v.signals.lease }) t.link
    ∙ ap (λ (b : Bool). record { carrier = carrier_told calls; link = link_told calls; lease = b }) t.lease

pub seen-is : (x : ServoSetting) (calls : List Call) → run x calls ≡ seen x calls
seen-is x calls =
    let v : Core = run x calls in
    ap (λ (s : Signals). put v s v.last v.ticks v.good_tick v.phase.unwrap v.phase.u) (signals_are v calls (told_last x calls))
    ∙ ap (λ (n : ℕ). put v (signals_told calls) n v.ticks v.good_tick v.phase.unwrap v.phase.u) (last_is x calls)
    ∙ ap (λ (n : ℕ). put v (signals_told calls) (last_told x calls) n v.good_tick v.phase.unwrap v.phase.u) (told_last x calls).ticks
    ∙ ap (λ (n : ℕ). put v (signals_told calls) (last_told x calls) (ticks_told calls) n v.phase.unwrap v.phase.u) (good_tick_is x calls)
    ∙ ap (λ (w : Unwrapping). put v (signals_told calls) (last_told x calls) (ticks_told calls) (ticks_told calls - ticks_since_good x calls) w v.phase.u) (unwrap_is x calls)
    ∙ ap (λ (z : ℤ). put v (signals_told calls) (last_told x calls) (ticks_told calls) (ticks_told calls - ticks_since_good x calls) (unwrapping x calls) z) (phase_is x calls)
