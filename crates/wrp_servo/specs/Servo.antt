-- The servo with its law: the list of calls that it stands for, and what each call answers (this project's profile).
use Rattle.std.specs.Prelude.{◌≡◌, ℕ, ℤ, pos, cond, IsTrue, Option, None, Some, List, [], ◌∷◌}
use Rattle.std.specs.Option.{option_map}
use Rattle.wrp_base.specs.declared.link.Deltas.{Deltas}
use Rattle.wrp_base.specs.declared.measurement.Four.{Four}
use Rattle.wrp_base.specs.declared.measurement.ChainNews.{ChainNews}
use Rattle.wrp_base.specs.declared.measurement.ChainNews.TheVariants.{Same, Started, Ended}
use Rattle.wrp_base.specs.Calls.{Adds}
use Rattle.wrp_law.specs.Law.{LawOf}
use Rattle.wrp_servo.specs.declared.interface.ServoSet.{ServoSet}
use Rattle.wrp_servo.specs.declared.interface.ServoOut.{ServoOut}
use Rattle.wrp_servo.specs.declared.sampling.Heard.{Heard}
use Rattle.wrp_servo.specs.declared.sampling.Heard.TheVariants.{Ignored, Refused, Lost, Followed}
use Rattle.wrp_servo.specs.declared.machine.Core.{Core}
use Rattle.wrp_servo.specs.Sampling.{heard_as, est_of}
use Rattle.wrp_servo.specs.Measuring.{deltas_in_chain, is_in, x_of, cycles_of}
use Rattle.wrp_servo.specs.Call.{Call, CallSample, CallMeasured, ServoSetting, after, run}

-- what a servo is seen as: what it holds, and its law
pub record ServoOf (F : Type 0) : Type 0 where
  pub core : Core
  pub law : LawOf F

-- the setting of a set and a law
abbrev pub servo_setting_of : {F : Type 0} → ServoSet → LawOf F → ServoSetting
servo_setting_of set law = record { set = set; lo = law.lo; hi = law.hi }

-- the answer beside a measurement is one of the law's answers, if the law is asked
abbrev pub IsAnswer : (ℤ → ℤ → Type 0) → ServoSetting → Core → Four → ℤ → Type 0
IsAnswer answers x v f y = (d : Deltas) → deltas_in_chain v ≡ Some d → IsTrue (is_in x.lo x.hi (x_of d f)) → answers (x_of d f) y

-- each measurement's answer is one of the law's
abbrev pub AllAnswered : (ℤ → ℤ → Type 0) → ServoSetting → List Call → Type 0
AllAnswered answers x [] = Unit {0}
AllAnswered answers x (CallMeasured f y ∷ calls) = IsAnswer answers x (run x calls) f y × AllAnswered answers x calls
AllAnswered answers x (call ∷ calls) = AllAnswered answers x calls

-- the servo stands for this list of calls
pub record StandsFor {F : Type 0} (post : F → ℤ → ℤ → Type 0) (x : ServoSetting) (servo : ServoOf F) (calls : List Call) : Type 0 where
  pub core : servo.core ≡ run x calls
  pub fixed : x ≡ record { set = x.set; lo = servo.law.lo; hi = servo.law.hi }
  pub answered : AllAnswered (post servo.law.closure) x calls

-- the new servo stands for what the old one stood for, with this call in front
abbrev pub AddsCall : {F : Type 0} → (F → ℤ → ℤ → Type 0) → ServoOf F → ServoOf F → Call → Type 0
AddsCall post old new call = (x : ServoSetting) → Adds (StandsFor post x) old new call

-- the servo after a call
abbrev pub after_call : {F : Type 0} → ServoOf F → Call → ServoOf F
after_call servo call =
    record { core = after (servo_setting_of servo.core.set servo.law) servo.core call; law = servo.law }

-- what became of the chain
abbrev pub news_of : Option ℕ → Option ℕ → ChainNews
news_of (Some m) None = Ended
news_of None (Some n) = Started n
news_of _ _ = Same

-- what becomes of the chain at a call
abbrev pub news_at : ServoSetting → Core → Call → ChainNews
news_at x v call = news_of v.first (after x v call).first

-- an answer without a sample
abbrev pub plain_out : ℤ → ChainNews → Option ℕ → ServoOut
plain_out cycles chain refused =
    record { cycles = cycles; dac = None; unwrapped = None; chain = chain; refused = refused }

-- an answer by what became of a sample
abbrev pub out_by : Heard → Core → ChainNews → ServoOut
out_by Ignored v chain = plain_out (pos 0) chain None
out_by Refused v chain = plain_out (pos 0) chain (Some 15)
out_by Lost v chain = record { cycles = pos 0; dac = None; unwrapped = Some v.phase.u; chain = chain; refused = None }
out_by Followed v chain =
    record { cycles = pos 0; dac = Some v.phase.dac; unwrapped = Some v.phase.u; chain = chain; refused = None }

-- the reason for which a measurement is refused
abbrev pub refused_by : ServoSetting → Four → Option Deltas → Option ℕ
refused_by x f None = None
refused_by x f (Some d) = cond (is_in x.lo x.hi (x_of d f)) None (Some 14)

-- the answer to a call
abbrev pub answer_to : ServoSetting → Core → Call → ServoOut
answer_to x v (CallSample n base bits) =
    out_by (heard_as v n base bits) (after x v (CallSample n base bits)) (news_at x v (CallSample n base bits))
answer_to x v (CallMeasured f y) =
    plain_out (cycles_of x.lo x.hi v f y) (news_at x v (CallMeasured f y)) (refused_by x f (deltas_in_chain v))
answer_to x v call = plain_out (pos 0) (news_at x v call) None

-- the answer of a servo to a call
abbrev pub out_of : {F : Type 0} → ServoOf F → Call → ServoOut
out_of servo call = answer_to (servo_setting_of servo.core.set servo.law) servo.core call

-- a measurement with an answer y: y is one of the law's answers, the new servo is the old one after it and stands for
-- the list with it, and the output is the one of its row
pub record AddsMeasured {F : Type 0} (post : F → ℤ → ℤ → Type 0) (old new : ServoOf F) (f : Four) (y : ℤ) (out : ServoOut) : Type 0 where
  pub answer : IsAnswer (post old.law.closure) (servo_setting_of old.core.set old.law) old.core f y
  pub value : new ≡ after_call old (CallMeasured f y)
  pub stands : AddsCall post old new (CallMeasured f y)
  pub out_is : out ≡ out_of old (CallMeasured f y)

-- est, if there is a four
abbrev pub est_now : Core → Option ℤ
est_now v = option_map (est_of v.phase.u) v.kept
