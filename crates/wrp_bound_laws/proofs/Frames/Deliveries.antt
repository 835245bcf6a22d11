-- A frame that is handed over is not older than its life, and its link has its carrier.
use Rattle.std.proofs.Common.{◌≡◌, sym, subst, ℕ, ℤ, pos, ◌+ℤ◌, ◌-ℤ◌, ◌≤ℤ◌, not, true, false, Option, None, Some, Result, arith}
use Rattle.std.proofs.lemmas.Int.{ints}
use Rattle.std.specs.Int.Signed.{le_z}
use Rattle.std.proofs.lemmas.Bool.{false≢true, not-false}
use Rattle.wrp_base.specs.declared.message.PtpMsg.{PtpMsg}
use Rattle.wrp_bounds.specs.Times.{frame_life}
use Rattle.wrp_frame.specs.declared.fault.FrameFault.{FrameFault}
use Rattle.wrp_course.specs.declared.event.Event.TheVariants.{Deliver}
use Rattle.wrp_course.specs.Checks.{AllHold}
use Rattle.wrp_course.specs.Premises.{Accepts, deliver_by, deliver_checks}
use Rattle.wrp_course.specs.Setting.{Setting}
use Rattle.wrp_course.specs.WorldAt.{Arrival, FrameAt, WorldAt, has_carrier}

young : (now at : ℤ) (life : ℕ) → not (le_z (now -ℤ at) (pos life)) ≡ false → now ≤ℤ (at +ℤ pos life)
young now at life h = grind (arith, ints, h)

handed_by : (s : Setting) (w : WorldAt) (i : ℕ) (f : FrameAt) (o : Option Arrival) → AllHold (deliver_by s w i f o) → (w.time ≤ℤ (f.sending.at +ℤ pos (frame_life s.cfg))) × (has_carrier s w f.link ≡ true)
handed_by s w i f None a = absurd (false≢true (sym a.1.0))
handed_by s w i f (Some arrival) a = (young w.time f.sending.at (frame_life s.cfg) a.0, not-false (has_carrier s w f.link) a.1.0)

pub deliver_holds : (s : Setting) (w : WorldAt) (says : Result PtpMsg FrameFault) (i : ℕ) (f : FrameAt) → Accepts s w says (Deliver i) → w.frame i ≡ Some f → (w.time ≤ℤ (f.sending.at +ℤ pos (frame_life s.cfg))) × (has_carrier s w f.link ≡ true)
deliver_holds s w says i f a there = handed_by s w i f f.arrival (subst (λ o. AllHold (deliver_checks s w i o)) there a)
