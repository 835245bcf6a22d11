-- What holds of every servo stays so over any call.
use Rattle.std.proofs.Common.{◌≡◌, refl, ap, ◌∙◌, sym, ℕ, ℤ, arith, Bool, true, false, cond, is_some, Option, Some, None, subst}
use Rattle.wrp_base.specs.declared.link.Deltas.{Deltas}
use Rattle.wrp_base.specs.declared.measurement.Four.{Four}
use Rattle.wrp_servo.specs.declared.machine.Core.{Core}
use Rattle.wrp_servo.specs.Table.{is_track, ended}
use Rattle.wrp_servo.specs.Call.{Call, CallMeasured, ServoSetting, after}
use Rattle.wrp_servo.specs.Sizes.{FitsFour}
use Rattle.wrp_servo.specs.Valid.{IsValid}
use Rattle.wrp_servo.proofs.Tracks.{call-at, ended-other}
use Rattle.wrp_servo.proofs.InTrack.{shows-at}
use Rattle.wrp_servo.proofs.Safe.{FitsCall, sizes_stay, end-safe}
use Rattle.std.proofs.lemmas.Int.{ints}
use Rattle.std.proofs.lemmas.Option.{same_Some}
use Rattle.wrp_base.specs.declared.link.ServoState.{ServoState}
use Rattle.wrp_base.specs.declared.link.ServoState.TheVariants.{Uninit, SyncTai, SyncNsec, SyncPhase, WaitStable, Track, Holdover}
use Rattle.wrp_servo.specs.Measuring.{deltas_in_chain, placed, kept_of, x_of, is_in, answered}

pub valid : (x : ServoSetting) (v : Core) (call : Call) → FitsCall v call → IsValid v → IsValid (after x v call)
valid x v call f i = record {
  safe = sizes_stay x v call f (λ e. (i.near e).calm) i.safe;
  chain = (call-at x v v.state v.first call i.chain).chain;
  near = shows-at x v v.state v.first call i.chain i.near;
}

-- the same, for a servo that is known to be the old one after the call
pub becomes : (x : ServoSetting) (v w : Core) (call : Call) → FitsCall v call → IsValid v → w ≡ after x v call → IsValid w
becomes x v w call f i e = subst IsValid (sym e) (valid x v call f i)

either-le : (z : ℤ) → is_in z z z ≡ true
either-le z = grind (arith, ints)

pub becomes_placed : (v w : Core) (f : Four) (d : Deltas) (y : ℤ) → FitsFour (kept_of f d y) → IsValid v → deltas_in_chain v ≡ Some d → w ≡ placed v (kept_of f d y) → IsValid w
becomes_placed v w f d y t i a e =
    let z : ℤ = x_of d f in
    let x : ServoSetting = record { set = v.set; lo = z; hi = z } in
    becomes x v w (CallMeasured f y) (λ e h. subst (λ (z : Deltas). FitsFour (kept_of f z y)) (same_Some d e (sym a ∙ h)) t) i
    (e ∙ sym (ap (λ (b : Bool). cond b (placed v (kept_of f d y)) (ended v)) (either-le z)) ∙ sym (ap (λ (on : Option Deltas). answered z z v f y on) a))

ended-track : (v : Core) (s : ServoState) (first : Option ℕ) → (is_track s ≡ true → is_some first ≡ true) → is_track (ended (record v { state = s; first = first })).state ≡ false
ended-track v Track None h = absurd (let e : false ≡ true = h refl in cc)
ended-track v Track (Some m) h = refl
ended-track v Uninit first h = ended-other (record v { first = first }) Uninit refl
ended-track v SyncTai first h = ended-other (record v { first = first }) SyncTai refl
ended-track v SyncNsec first h = ended-other (record v { first = first }) SyncNsec refl
ended-track v SyncPhase first h = ended-other (record v { first = first }) SyncPhase refl
ended-track v WaitStable first h = ended-other (record v { first = first }) WaitStable refl
ended-track v Holdover first h = ended-other (record v { first = first }) Holdover refl

-- a chain that ended
pub becomes_ended : (v w : Core) → IsValid v → w ≡ ended v → IsValid w
becomes_ended v w i e =
    let t : is_track (ended v).state ≡ false = ended-track v v.state v.first i.chain in
    subst IsValid (sym e) (record { safe = end-safe v i.safe; chain = λ h. absurd cc; near = λ h. absurd cc })
