-- What the servo's own look-backs find is what its rows hold.
use Rattle.std.specs.Prelude.{max}
use Rattle.std.proofs.Common.{◌≡◌, refl, ap, ap₂, ◌∙◌, sym, ℕ, ℤ, ◌+◌, ◌-◌, Bool, cond, Option, None, Some, List, [], ◌∷◌, arith}
use Rattle.wrp_phase.specs.Unwrapping.{Unwrapping, last_tag, unwrapped}
use Rattle.wrp_servo.specs.declared.machine.Core.{Core}
use Rattle.wrp_servo.specs.declared.machine.Signals.{Signals}
use Rattle.wrp_servo.specs.Call.{Call, CallSample, CallMeasured, CallTick, CallLease, CallLink, CallCarrier, CallReset, ServoSetting, run}
use Rattle.wrp_servo.specs.LookBack.{phase_with, phase_told, last_told, seen}
use Rattle.wrp_servo.specs.Tags.{tags}
use Rattle.wrp_servo.specs.Told.{IsTold, carrier_told, link_told, lease_told, ticks_told, ticks_since_good}
use Rattle.wrp_servo.proofs.Gone.{gone}
use Rattle.wrp_lookback_laws.specs.Heard.{greatest_heard, tag_at, tags_since, u_at}
use Rattle.wrp_lookback_laws.proofs.HeardLaws.{Known, heard-by, last-is, tag-is, tags-are, u-is, unwrap-is}

last-told : Known → (x : ServoSetting) (calls : List Call) → last_told x calls ≡ greatest_heard x calls
last-told known x [] = refl
last-told known x (CallSample n base bits ∷ calls) = ap₂ (λ (b : Bool) (l : ℕ). cond b (max l n) l) (heard-by known x calls) (last-told known x calls)
last-told known x (CallMeasured f y ∷ calls) = last-told known x calls
last-told known x (CallTick ∷ calls) = last-told known x calls
last-told known x (CallLease fresh ∷ calls) = last-told known x calls
last-told known x (CallLink on ∷ calls) = last-told known x calls
last-told known x (CallCarrier up ∷ calls) = last-told known x calls
last-told known x (CallReset ∷ calls) = refl

with-tag : Known → (x : ServoSetting) (calls : List Call) (before : ℤ) (tag : Option ℕ) → before ≡ u_at x calls → phase_with x (tags x calls) before tag ≡ phase_with x (tags_since x calls) (u_at x calls) tag
with-tag known x calls before None e = e
with-tag known x calls before (Some tag) e = ap (λ (ts : List ℕ). unwrapped x.set.clock (tag ∷ ts)) (tags-are known x calls)

phase-told : Known → (x : ServoSetting) (calls : List Call) → phase_told x calls ≡ u_at x calls
phase-told known x [] = refl
phase-told known x (CallSample n base bits ∷ calls) =
    ap (phase_with x (tags x calls) (phase_told x calls)) (tag-is known x calls n base bits)
    ∙ with-tag known x calls (phase_told x calls) (tag_at x calls n base bits) (phase-told known x calls)
phase-told known x (CallMeasured f y ∷ calls) = phase-told known x calls
phase-told known x (CallTick ∷ calls) = phase-told known x calls
phase-told known x (CallLease fresh ∷ calls) = phase-told known x calls
phase-told known x (CallLink on ∷ calls) = phase-told known x calls
phase-told known x (CallCarrier up ∷ calls) = phase-told known x calls
phase-told known x (CallReset ∷ calls) = refl

before_is : (ticks good n told : ℕ) → ticks ≡ good + n → ticks ≡ told → good ≡ told - n
before_is ticks good n told h e = omega arith

-- what a servo holds, with these in their places
abbrev put : Core → Signals → ℕ → ℕ → ℕ → Unwrapping → ℤ → Core
put v signals last ticks good unwrap u =
    record v { signals = signals; last = last; ticks = ticks; good_tick = good; phase = record v.phase { unwrap = unwrap; u = u } }

abbrev signals_told : List Call → Signals
signals_told calls = record { carrier = carrier_told calls; link = link_told calls; lease = lease_told calls }

signals_are : (v : Core) (calls : List Call) → IsTold v calls → v.signals ≡ record { carrier = carrier_told calls; link = link_told calls; lease = lease_told calls }
signals_are v calls t =
    ap (λ (b : Bool). record { carrier = b; link = v.signals.link; lease = v.signals.lease }) t.carrier
    ∙ ap (λ o. record { carrier = carrier_told calls; link = o; lease = v.signals.lease }) t.link
    ∙ ap (λ (b : Bool). record { carrier = carrier_told calls; link = link_told calls; lease = b }) t.lease

abbrev unwrapping : ServoSetting → List ℕ → Unwrapping
unwrapping x ts = record { clock = x.set.clock; last = last_tag ts; answer = unwrapped x.set.clock ts }

pub seen-is : Known → (x : ServoSetting) (calls : List Call) → run x calls ≡ seen x calls
seen-is known x calls =
    let v : Core = run x calls in
    let good : ℕ = ticks_told calls - ticks_since_good x calls in
    ap (λ (s : Signals). put v s v.last v.ticks v.good_tick v.phase.unwrap v.phase.u) (signals_are v calls (known.told x calls))
    ∙ ap (λ (n : ℕ). put v (signals_told calls) n v.ticks v.good_tick v.phase.unwrap v.phase.u) (last-is known x calls ∙ sym (last-told known x calls))
    ∙ ap (λ (n : ℕ). put v (signals_told calls) (last_told x calls) n v.good_tick v.phase.unwrap v.phase.u) (known.told x calls).ticks
    ∙ ap (λ (n : ℕ). put v (signals_told calls) (last_told x calls) (ticks_told calls) n v.phase.unwrap v.phase.u)
    (before_is v.ticks v.good_tick (ticks_since_good x calls) (ticks_told calls) (gone x calls).ticks (known.told x calls).ticks)
    ∙ ap (λ (w : Unwrapping). put v (signals_told calls) (last_told x calls) (ticks_told calls) good w v.phase.u) (unwrap-is known x calls ∙ sym (ap (unwrapping x) (tags-are known x calls)))
    ∙ ap (λ (z : ℤ). put v (signals_told calls) (last_told x calls) (ticks_told calls) good (unwrapping x (tags x calls)) z) (u-is known x calls ∙ sym (phase-told known x calls))
