-- What holds of every servo, whatever calls it was given.
use Rattle.std.specs.Prelude.{◌≡◌, true, is_some}
use Rattle.wrp_servo.specs.declared.machine.Core.{Core}
use Rattle.wrp_servo.specs.Table.{is_track}
use Rattle.wrp_servo.specs.Sizes.{IsSafe}
use Rattle.wrp_servo.specs.Laws.{InTrack}

-- a servo as calls can leave it: its numbers are in their ranges, and in TRACK it has what TRACK needs
pub record IsValid (v : Core) : Type 0 where
  -- its numbers keep their sizes
  pub safe : IsSafe v
  -- in TRACK there are a chain and a four, and the loop's error and the residual are within their limits
  pub chain : is_track v.state ≡ true → is_some v.first ≡ true
  pub near : is_track v.state ≡ true → InTrack v
