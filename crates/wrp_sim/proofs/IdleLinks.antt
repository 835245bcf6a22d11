-- A link at whose ends no frame was put out now leaves the first port unchanged.
use Rattle.std.proofs.Common.{◌≡◌, ◌∙◌, refl, ap, sym, ℕ, ◌||◌, Bool, true, false, if◌then◌else◌, Option, None, Some}
use Rattle.wrp_base.specs.declared.link.Role.{Role}
use Rattle.wrp_base.specs.declared.link.Role.TheVariants.{Master, Slave}
use Rattle.wrp_course.specs.Setting.{Setting}
use Rattle.wrp_course.specs.WorldAt.{WorldAt}
use Rattle.wrp_plant.specs.PutOut.{puts_out_at}
use Rattle.wrp_sim.specs.declared.sim.departing.Departure.{Departure}
use Rattle.wrp_sim.specs.Departures.{departing_at, departing_over, first_of_two, told_at}

neither : (a b : Bool) → (a || b) ≡ false → (a ≡ false) × (b ≡ false)
neither true b e = absurd (cc)
neither false b e = (refl, e)

first_alone : (first : Option Departure) → first_of_two first None ≡ first
first_alone None = refl
first_alone (Some first) = refl

none_at : (s : Setting) (w : WorldAt) (k : ℕ) (r : Role) → puts_out_at w k r ≡ false → departing_at s w k r ≡ None
none_at s w k r e = ap (λ b. let it : Option Departure = if b then told_at s w k r else None in it) e

pub idle_over : (s : Setting) (w : WorldAt) (first : Option Departure) (k : ℕ) → (puts_out_at w k Master || puts_out_at w k Slave) ≡ false →
    first ≡ departing_over s w first k
idle_over s w first k e =
    let none = neither (puts_out_at w k Master) (puts_out_at w k Slave) e in
    sym (ap (λ o. first_of_two (first_of_two first o) (departing_at s w k Slave)) (none_at s w k Master none.0)
    ∙ ap (λ o. first_of_two (first_of_two first None) o) (none_at s w k Slave none.1)
    ∙ first_alone (first_of_two first None) ∙ first_alone first)
