-- With a chain there are a carrier, a link that is on and a fresh lease.
use Rattle.std.proofs.Common.{◌≡◌, refl, ap, ◌∙◌, sym, ℕ, Bool, true, false, cond, not, ◌&&◌, is_some, Option, None, Some, List, [], ◌∷◌}
use Rattle.wrp_base.proofs.Booleans.{and_first, and_second}
use Rattle.wrp_servo.specs.declared.machine.Core.{Core}
use Rattle.wrp_servo.specs.Call.{Call, CallSample, CallMeasured, CallTick, CallLease, CallLink, CallCarrier, CallReset, ServoSetting, run}
use Rattle.wrp_servo.specs.Chain.{ends_chain, starts, starts_by}
use Rattle.wrp_servo.specs.Laws.{HasSignals, ChainHasSignals}
use Rattle.wrp_servo.specs.Sampling.{hears, is_holdover, good_tag, is_far, with_tag, followed}
use Rattle.wrp_servo.specs.Told.{IsTold}
use Rattle.wrp_servo.proofs.BothLaws.{next}
use Rattle.wrp_servo.proofs.ToldLaws.{last_told}

-- if there is a chain, there was one before and it did not end, or it has started
pub stood_or_starts : {P : Type 0} (stood ends starts : Bool) → cond stood (not ends) starts ≡ true → (stood ≡ true → ends ≡ false → P) → (starts ≡ true → P) → P
stood_or_starts true true starts h f g = absurd cc
stood_or_starts true false starts h f g = f refl refl
stood_or_starts false ends starts h f g = g h

-- what was given when a chain starts
record StartsWith (v : Core) : Type 0 where
  carrier : v.signals.carrier ≡ true
  link : is_some v.signals.link ≡ true
  lease : v.signals.lease ≡ true

starts_with : (v : Core) (tag : Option ℕ) → (hears v && starts_by v tag) ≡ true → StartsWith v
starts_with v None h = absurd (let e : false ≡ true = and_second (hears v) false h in cc)
starts_with v (Some tag) h =
    let locked : Bool = (followed (with_tag v tag)).phase.lock.locked in
    let signals : Bool = is_some v.signals.link && v.signals.lease in
    let heard : hears v ≡ true = and_first (hears v) (starts_by v (Some tag)) h in
    let near : (not (is_far (with_tag v tag).phase.u) && (locked && signals)) ≡ true = and_second (hears v) (starts_by v (Some tag)) h in
    let both : signals ≡ true = and_second locked signals (and_second (not (is_far (with_tag v tag).phase.u)) (locked && signals) near) in
    record {
      carrier = and_first v.signals.carrier (not (is_holdover v.state)) heard;
      link = and_first (is_some v.signals.link) v.signals.lease both;
      lease = and_second (is_some v.signals.link) v.signals.lease both;
    }

started : (v : Core) (calls : List Call) (tag : Option ℕ) → IsTold v calls → (hears v && starts_by v tag) ≡ true → HasSignals calls
started v calls tag told h =
    let s : StartsWith v = starts_with v tag h in
    record {
      carrier = sym told.carrier ∙ s.carrier;
      link = ap (λ o. is_some o) (sym told.link) ∙ s.link;
      lease = sym told.lease ∙ s.lease;
    }

kept : (x : ServoSetting) (call : Call) (calls : List Call) → HasSignals calls → ends_chain x (run x calls) call ≡ false → HasSignals (call ∷ calls)
kept x (CallSample n base bits) calls s e = record { carrier = s.carrier; link = s.link; lease = s.lease }
kept x (CallMeasured f y) calls s e = record { carrier = s.carrier; link = s.link; lease = s.lease }
kept x CallTick calls s e = record { carrier = s.carrier; link = s.link; lease = s.lease }
kept x (CallLease true) calls s e = record { carrier = s.carrier; link = s.link; lease = refl }
kept x (CallLease false) calls s e = absurd cc
kept x (CallLink (Some d)) calls s e = record { carrier = s.carrier; link = refl; lease = s.lease }
kept x (CallLink None) calls s e = absurd cc
kept x (CallCarrier true) calls s e = record { carrier = refl; link = s.link; lease = s.lease }
kept x (CallCarrier false) calls s e = absurd cc
kept x CallReset calls s e = absurd cc

begun : (x : ServoSetting) (call : Call) (calls : List Call) → starts x (run x calls) call ≡ true → HasSignals (call ∷ calls)
begun x (CallSample n base bits) calls h =
    let s : HasSignals calls = started (run x calls) calls (good_tag (run x calls).last n base bits) (last_told x calls) h in
    record { carrier = s.carrier; link = s.link; lease = s.lease }
begun x _ calls h = absurd cc

pub chain_keeps_signals : ChainHasSignals
chain_keeps_signals x [] h = absurd cc
chain_keeps_signals x (call ∷ calls) h =
    stood_or_starts (is_some (run x calls).first) (ends_chain x (run x calls) call) (starts x (run x calls) call)
    (sym (next x calls call).chain ∙ h)
    (λ stood stays. kept x call calls (chain_keeps_signals x calls stood) stays)
    (λ starts. begun x call calls starts)
