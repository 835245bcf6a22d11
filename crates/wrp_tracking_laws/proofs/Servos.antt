-- In TRACK the servo holds a measurement, by which the loop's error and the residual are within their limits.
use Rattle.std.proofs.Common.{◌≡◌, ℕ, ℤ, pos, ◌≤◌, sym, ap, subst, ◌∙◌, true, false, is_some, Option, Some, None, refl}
use Rattle.std.specs.Prelude.{unsigned_abs}
use Rattle.wrp_base.proofs.Integers.{pos_le}
use Rattle.wrp_servo.specs.declared.machine.Measurement.{Measurement}
use Rattle.wrp_servo.specs.declared.machine.Core.{Core}
use Rattle.wrp_servo.specs.Following.{e_tau}
use Rattle.wrp_servo.specs.Sampling.{is_within, is_near, residual}
use Rattle.wrp_servo.specs.Laws.{InTrack}
use Rattle.wrp_bounds.specs.declared.numbers.HopNumbers.{HopNumbers}
use Rattle.wrp_servo.proofs.Sized.{within_says}
use Rattle.wrp_tracking_laws.specs.ServoGives.{HasLimits, Tracks, TrackGives}

-- a limit that the servo keeps is the hop's
limit-is : (set : ℤ) (limit : ℕ) (x : ℤ) → set ≡ pos limit → is_within set x ≡ true → unsigned_abs x ≤ limit
limit-is set limit x same within =
    let P : ℤ → Type 0 = λ l. is_within l x ≡ true in
    pos_le (unsigned_abs x) limit (within_says (pos limit) x (subst P same within))

tracks_by : (hop : HopNumbers) (v : Core) (o : Option Measurement) → v.kept ≡ o → HasLimits hop v.set → InTrack v → Tracks hop v
tracks_by hop v None is limits stands =
    let some : is_some v.kept ≡ true = stands.kept in
    let none : is_some v.kept ≡ false = ap is_some is in
    absurd (cc)
tracks_by hop v (Some k) is limits stands = record {
  kept = k;
  is = is;
  limits = record {
    loop_limit = limit-is v.set.loop_tau hop.loop_tau (e_tau v.phase) limits.loop stands.calm;
    track_limit = limit-is v.set.track_tau hop.track_tau (residual v.phase k) limits.track (sym (ap (is_near v.set.track_tau v.phase) is) ∙ stands.near);
  };
}

pub track-gives : TrackGives
track-gives hop v limits stands = tracks_by hop v v.kept refl limits stands
