-- The breach of an event, for each kind of event.
use Rattle.std.proofs.Common.{◌≡◌, ◌≤◌, ◌^◌, ℤ, List, sym, subst, unsigned_abs, to_z, of_z, FitsSigned, Option, arith}
use Rattle.std.proofs.lemmas.Int.{ints, to_z-of_z}
use Rattle.std.specs.Int.{w64}
use Rattle.wrp_network.specs.declared.configuration.NetCfg.{NetCfg}
use Rattle.wrp_base.specs.Ranges.{IsFromTo}
use Rattle.wrp_course.specs.declared.breach.Breach.{Breach}
use Rattle.wrp_course.specs.declared.event.Event.{Event}
use Rattle.wrp_course.specs.EventAt.{IsEventOf, IsPass}
use Rattle.wrp_world.specs.StandsFor.{WorldOf}
use Rattle.wrp_world.specs.Step.{TellsBreach}

pub breach_as : {F : Type 0} (post : F → ℤ → ℤ → Type 0) (world : WorldOf F) (breach : Option Breach) (e kind : Event) → e ≡ kind →
    TellsBreach post kind world breach → TellsBreach post e world breach
breach_as post world breach e kind same h = subst (λ x. TellsBreach post x world breach) (sym same) h

pub event_as : (cfg : NetCfg) (e kind : Event) → e ≡ kind → IsEventOf cfg e → IsEventOf cfg kind
event_as cfg e kind same h = subst (IsEventOf cfg) same h

-- the numbers of an event are read unchanged
pub span_read : (cfg : NetCfg) (dt : ℤ) (drifts : List ℤ) (moves : List (ℤ × ℤ)) → IsPass cfg dt drifts moves → to_z w64 (of_z w64 dt) ≡ dt
span_read cfg dt drifts moves h =
    let fits : FitsSigned w64 dt = omega (arith, ints, h.span.0, h.span.1) in
    to_z-of_z w64 dt fits

pub delay_small : (d : ℤ) → IsFromTo 0 9_223_372_036_854_775_807 d → unsigned_abs d ≤ 2 ^ 63
delay_small d h = omega (arith, ints, h.0, h.1)
