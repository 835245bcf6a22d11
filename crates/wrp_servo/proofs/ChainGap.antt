-- With a chain at most `gap` ticks passed since the last good sample.
use Rattle.std.proofs.Common.{◌≡◌, refl, ◌∙◌, sym, ℕ, Bool, true, false, cond, not, ◌&&◌, ◌||◌, nat_lt, ◌+◌, ◌-◌, ◌≤◌, is_some, Option, None, Some, List, [], ◌∷◌, subst, arith}
use Rattle.wrp_servo.specs.declared.machine.Core.{Core}
use Rattle.wrp_servo.specs.Table.{one_tick, is_past_gap, is_track}
use Rattle.wrp_servo.specs.Sampling.{hears, is_holdover, good_tag, good, heard}
use Rattle.wrp_servo.specs.Call.{Call, CallSample, CallTick, CallReset, ServoSetting, run}
use Rattle.std.proofs.lemmas.Bool.Decides.{nat_tests}
use Rattle.wrp_servo.specs.declared.interface.ServoSet.{ServoSet}
use Rattle.wrp_servo.specs.Chain.{ends_chain, starts, starts_by}
use Rattle.wrp_servo.specs.Laws.{ChainKeepsGap}
use Rattle.wrp_servo.specs.Told.{ticks_since_good}
use Rattle.wrp_servo.proofs.BothLaws.{next}
use Rattle.wrp_servo.proofs.ChainSignals.{stood_or_starts}
use Rattle.wrp_servo.proofs.Gone.{Gone, heart, gone}
use Rattle.wrp_servo.proofs.Locked.{chain_stays_held}

-- ---- while there is a chain, it has not ended by the gap

no_gap : (held gap old track : Bool) → held ≡ false → ((not held && gap) || (track && old)) ≡ false → gap ≡ false
no_gap true gap old track h e = absurd cc
no_gap false true old track h e = absurd cc
no_gap false false old track h e = refl

within : (gap ticks good m : ℕ) → nat_lt gap ((ticks + 1) - good) ≡ false → ticks ≡ good + m → m + 1 ≤ gap
within gap ticks good m test is =
    let at_most : (ticks + 1) - good ≤ gap = grind (arith, nat_tests) in
    omega arith

either_le : (b : Bool) (m gap : ℕ) → m ≤ gap → cond b 0 m ≤ gap
either_le true m gap h = omega arith
either_le false m gap h = h

started_at : (x : ServoSetting) (heard : Bool) (v : Core) (tag : Option ℕ) (m : ℕ) → (heard && starts_by v tag) ≡ true → cond (is_some (cond heard tag None)) 0 m ≤ x.set.gap
started_at x false v tag m h = absurd cc
started_at x true v None m h = absurd cc
started_at x true v (Some tag) m h = omega arith

kept : (x : ServoSetting) (call : Call) (calls : List Call) → is_some (run x calls).first ≡ true → ticks_since_good x calls ≤ x.set.gap → ends_chain x (run x calls) call ≡ false → ticks_since_good x (call ∷ calls) ≤ x.set.gap
kept x (CallSample n base bits) calls stood g e = either_le (is_some (cond (hears (run x calls)) (good_tag (run x calls).last n base bits) None)) (ticks_since_good x calls) x.set.gap g
kept x CallTick calls stood g e =
    let v : Core = run x calls in
    let all : Gone x (heart v) (ticks_since_good x calls) = gone x calls in
    let test : is_past_gap (one_tick v) ≡ false = no_gap (is_holdover v.state) (is_past_gap (one_tick v)) _ (is_track v.state) (chain_stays_held x calls stood).state e in
    let below : ticks_since_good x calls + 1 ≤ v.set.gap = within v.set.gap v.ticks v.good_tick (ticks_since_good x calls) test all.ticks in
    subst (λ (s : ServoSet). ticks_since_good x calls + 1 ≤ s.gap) all.set below
kept x CallReset calls stood g e = omega arith
kept x _ calls stood g e = g

begun : (x : ServoSetting) (call : Call) (calls : List Call) → starts x (run x calls) call ≡ true → ticks_since_good x (call ∷ calls) ≤ x.set.gap
begun x (CallSample n base bits) calls h = started_at x (hears (run x calls)) (run x calls) (good_tag (run x calls).last n base bits) (ticks_since_good x calls) h
begun x _ calls h = absurd cc

pub chain_stays_in_gap : ChainKeepsGap
chain_stays_in_gap x [] h = absurd cc
chain_stays_in_gap x (call ∷ calls) h =
    stood_or_starts (is_some (run x calls).first) (ends_chain x (run x calls) call) (starts x (run x calls) call)
    (sym (next x calls call).chain ∙ h)
    (λ stood stays. kept x call calls stood (chain_stays_in_gap x calls stood) stays)
    (λ starts. begun x call calls starts)
