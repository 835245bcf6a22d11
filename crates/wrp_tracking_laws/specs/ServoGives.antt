-- What the servo of a node gives to the bound of its hop, over all lists of its calls, the newest first
-- (this project's profile).
use Rattle.std.specs.Prelude.{ℤ, pos, ◌≡◌, ◌+◌, ◌≤◌, true, List, [], ◌∷◌, ◌++◌, Some, IfSome}
use Rattle.wrp_base.specs.declared.link.Deltas.{Deltas}
use Rattle.wrp_servo.specs.declared.interface.ServoSet.{ServoSet}
use Rattle.wrp_servo.specs.declared.machine.Measurement.{Measurement}
use Rattle.wrp_servo.specs.declared.machine.Core.{Core}
use Rattle.wrp_servo.specs.Following.{e_tau}
use Rattle.wrp_servo.specs.Table.{is_track}
use Rattle.wrp_servo.specs.Sampling.{est_of}
use Rattle.wrp_servo.specs.Measuring.{deltas_in_chain, is_in, x_of, delay_of}
use Rattle.wrp_servo.specs.Call.{Call, CallMeasured, ServoSetting, run}
use Rattle.wrp_servo.specs.Laws.{InTrack, TrackHasChain, TrackIsNear}
use Rattle.wrp_bounds.specs.declared.numbers.HopNumbers.{HopNumbers}
use Rattle.wrp_tracking_laws.specs.ErrorSum.{TrackFacts}

-- the limits of a servo are those of the hop
pub record HasLimits (hop : HopNumbers) (set : ServoSet) : Type 0 where
  pub track : set.track_tau ≡ pos hop.track_tau
  pub loop : set.loop_tau ≡ pos hop.loop_tau

-- what holds in TRACK: a measurement, by which the loop's error and the residual are within the limits
pub record Tracks (hop : HopNumbers) (v : Core) : Type 0 where
  pub kept : Measurement
  pub is : v.kept ≡ Some kept
  pub limits : TrackFacts hop (est_of v.phase.u kept) (e_tau v.phase)

-- what the servo's law says of TRACK gives this, in the hop's numbers
abbrev pub TrackGives : Type 0
TrackGives =
    (hop : HopNumbers) (v : Core) →
    HasLimits hop v.set →
    InTrack v →
    Tracks hop v

-- a measurement was brought by a call, in a chain and in the law's range, with the law's answer
pub record WasMeasured (x : ServoSetting) (calls : List Call) (kept : Measurement) : Type 0 where
  pub since : List Call
  pub before : List Call
  pub deltas : Deltas
  pub answer : ℤ
  pub splits : calls ≡ since ++ CallMeasured kept.four answer ∷ before
  pub in_chain : deltas_in_chain (run x before) ≡ Some deltas
  pub in_range : is_in x.lo x.hi (x_of deltas kept.four) ≡ true
  pub delay : kept.delay ≡ delay_of deltas answer

-- the measurement that the servo holds was brought by such a call
abbrev pub KeptIsMeasured : Type 0
KeptIsMeasured =
    (x : ServoSetting) (calls : List Call) (kept : Measurement) →
    (run x calls).kept ≡ Some kept →
    WasMeasured x calls kept

-- no measured four is older than the one that the servo holds
abbrev pub FoursRise : ServoSetting → List Call → Type 0
FoursRise x [] = Unit {0}
FoursRise x (CallMeasured f y ∷ calls) =
    IfSome (run x calls).kept (λ k. k.four.tick ≤ f.tick) × FoursRise x calls
FoursRise x (call ∷ calls) = FoursRise x calls

-- then in TRACK, if there are a chain and a four as the servo's laws say, that four is young
abbrev pub TrackIsYoung : Type 0
TrackIsYoung =
    (x : ServoSetting) (calls : List Call) (kept : Measurement) →
    TrackHasChain → TrackIsNear →
    FoursRise x calls →
    is_track (run x calls).state ≡ true →
    (run x calls).kept ≡ Some kept →
    (run x calls).ticks ≤ kept.four.tick + (run x calls).set.age
