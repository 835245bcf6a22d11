-- The four that a servo holds, by looking back: the newest measurement of the chain in the law's range, with no end of
-- the chain and no step since (this project's profile).
use Rattle.std.specs.Prelude.{◌≡◌, ◌↔◌, ◌<◌, ℤ, Bool, true, false, Some, List, [], ◌∷◌, ◌++◌}
use Rattle.wrp_base.specs.declared.link.Deltas.{Deltas}
use Rattle.wrp_servo.specs.declared.machine.Measurement.{Measurement}
use Rattle.wrp_servo.specs.Call.{Call, CallMeasured, ServoSetting, run}
use Rattle.wrp_servo.specs.Measuring.{is_in, x_of, delay_of}
use Rattle.wrp_servo.specs.Told.{link_told}
use Rattle.wrp_lookback_laws.specs.Chains.{EndsChain, NoneEnds, ChainStands}

abbrev pub is_measured : Call → Bool
is_measured (CallMeasured f y) = true
is_measured _ = false

-- none of these calls is a measurement
abbrev pub NoneMeasures : List Call → Type 0
NoneMeasures [] = Unit {0}
NoneMeasures (call ∷ since) = (is_measured call ≡ false) × NoneMeasures since

-- a measurement brought the four in a chain, in the law's range, its delay computed from the deltas of that time; it
-- and the calls since did not end that chain, and none of these was a measurement
pub record FourStands (x : ServoSetting) (calls : List Call) (kept : Measurement) : Type 0 where
  pub since : List Call
  pub answer : ℤ
  pub before : List Call
  pub deltas : Deltas
  pub splits : calls ≡ since ++ CallMeasured kept.four answer ∷ before
  pub chain : ChainStands x before
  pub link : link_told before ≡ Some deltas
  pub range : is_in x.lo x.hi (x_of deltas kept.four) ≡ true
  pub delay : kept.delay ≡ delay_of deltas answer
  pub holds : EndsChain x before (CallMeasured kept.four answer) → ⊥
  pub stays : NoneEnds x since (CallMeasured kept.four answer ∷ before)
  pub newest : NoneMeasures since

-- the four that the servo holds is that one
abbrev pub FourLooksBack : Type 0
FourLooksBack =
    (x : ServoSetting) (calls : List Call) (kept : Measurement) → 0 < x.set.lock_samples →
    ((run x calls).kept ≡ Some kept) ↔ FourStands x calls kept
