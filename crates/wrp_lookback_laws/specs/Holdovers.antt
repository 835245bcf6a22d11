-- HOLDOVER, by looking back: a call left TRACK, and few ticks came since (this project's profile).
use Rattle.std.specs.Prelude.{◌≡◌, ◌↔◌, ◌<◌, ◌≤◌, true, false, List, ◌∷◌, ◌++◌}
use Rattle.wrp_servo.specs.Call.{Call, ServoSetting, is_reset}
use Rattle.wrp_servo.specs.Holdover.{NoneResets, ticks_among}
use Rattle.wrp_servo.specs.Sampling.{is_holdover}
use Rattle.wrp_lookback_laws.specs.Heard.{state_at}
use Rattle.wrp_lookback_laws.specs.Tracks.{Leaves, TrackStands}

-- the servo was in TRACK, a call other than a reset left it, and since then there were no reset and fewer than
-- `holdover` ticks
pub record HoldoverStands (x : ServoSetting) (calls : List Call) : Type 0 where
  pub since : List Call
  pub leave : Call
  pub before : List Call
  pub splits : calls ≡ since ++ leave ∷ before
  pub track : TrackStands x before
  pub left : Leaves x before leave
  pub not_reset : is_reset leave ≡ false
  pub none_since : NoneResets since
  pub few_ticks : ticks_among since < x.set.holdover

abbrev pub HoldoverLooksBack : Type 0
HoldoverLooksBack =
    (x : ServoSetting) (calls : List Call) → 0 < x.set.lock_samples → 1 ≤ x.set.holdover →
    (is_holdover (state_at x calls) ≡ true) ↔ HoldoverStands x calls
