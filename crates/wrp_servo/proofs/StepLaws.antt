-- No step is commanded in TRACK or HOLDOVER.
use Rattle.std.proofs.Common.{◌≡◌, refl, ℤ, pos, Bool, true, false, cond, ◌||◌, Option, None, Some}
use Rattle.wrp_base.specs.declared.link.Deltas.{Deltas}
use Rattle.wrp_base.specs.declared.link.ServoState.{ServoState}
use Rattle.wrp_base.specs.declared.link.ServoState.TheVariants.{Uninit, SyncTai, SyncNsec, SyncPhase, WaitStable, Track, Holdover}
use Rattle.wrp_base.specs.declared.measurement.ChainNews.{ChainNews}
use Rattle.wrp_base.specs.declared.measurement.Four.{Four}
use Rattle.wrp_servo.specs.declared.machine.Core.{Core}
use Rattle.wrp_servo.specs.declared.sampling.Heard.{Heard}
use Rattle.wrp_servo.specs.declared.sampling.Heard.TheVariants.{Ignored, Refused, Lost, Followed}
use Rattle.wrp_servo.specs.Call.{Call, CallSample, CallMeasured, ServoSetting, after, run}
use Rattle.wrp_servo.specs.Laws.{NoStepInTrack}
use Rattle.wrp_servo.specs.Measuring.{answered_cycles, cycles_in, deltas_in_chain, is_in, kept_of, x_of}
use Rattle.wrp_servo.specs.Sampling.{est_of, heard_as, is_holdover}
use Rattle.wrp_servo.specs.Servo.{answer_to, news_of, out_by}
use Rattle.wrp_servo.specs.Table.{is_track}

either_zero : (b : Bool) (z : ℤ) → z ≡ pos 0 → cond b z (pos 0) ≡ pos 0
either_zero true z h = h
either_zero false z h = refl

quiet : (v : Core) (est : ℤ) (s : ServoState) → (is_track s || is_holdover s) ≡ true → cycles_in v est s ≡ pos 0
quiet v est Track h = refl
quiet v est Holdover h = refl
quiet v est Uninit h = refl
quiet v est SyncTai h = absurd cc
quiet v est SyncNsec h = absurd cc
quiet v est SyncPhase h = refl
quiet v est WaitStable h = refl

measured_quiet : (x : ServoSetting) (v : Core) (f : Four) (y : ℤ) (on : Option Deltas) → (is_track v.state || is_holdover v.state) ≡ true → answered_cycles x.lo x.hi v f y on ≡ pos 0
measured_quiet x v f y None h = refl
measured_quiet x v f y (Some d) h = either_zero (is_in x.lo x.hi (x_of d f)) (cycles_in v (est_of v.phase.u (kept_of f d y)) v.state) (quiet v (est_of v.phase.u (kept_of f d y)) v.state h)

sampled_quiet : (heard : Heard) (v : Core) (chain : ChainNews) → (out_by heard v chain).cycles ≡ pos 0
sampled_quiet Ignored v chain = refl
sampled_quiet Refused v chain = refl
sampled_quiet Lost v chain = refl
sampled_quiet Followed v chain = refl

quiet_call : (x : ServoSetting) (v : Core) (call : Call) → (is_track v.state || is_holdover v.state) ≡ true → (answer_to x v call).cycles ≡ pos 0
quiet_call x v (CallSample n base bits) h = sampled_quiet (heard_as v n base bits) (after x v (CallSample n base bits)) (news_of v.first (after x v (CallSample n base bits)).first)
quiet_call x v (CallMeasured f y) h = measured_quiet x v f y (deltas_in_chain v) h
quiet_call x v _ h = refl

pub no_step : NoStepInTrack
no_step x calls call h = quiet_call x (run x calls) call h
