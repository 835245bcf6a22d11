-- The checks of the delays of a joined link.
use Rattle.std.proofs.Common.{◌≡◌, ◌∙◌, ap₂, ℤ, pos, ◌^◌, ◌*◌, true, false, not, List, [], ◌∷◌, Option, arith}
use Rattle.std.proofs.lemmas.Int.{ints}
use Rattle.std.specs.Int.Signed.{le_z, lt_z}
use Rattle.wrp_network.specs.declared.network.LinkCfg.{LinkCfg}
use Rattle.wrp_course.specs.Checks.{Check, told_of, at_least, at_most, size_of}
use Rattle.wrp_course.specs.declared.breach.Breach.{Breach}
use Rattle.wrp_course.specs.declared.fibres.FibreState.{FibreState}
use Rattle.wrp_course.specs.Premises.{fibre_by, asymmetry}
use Rattle.wrp_course.proofs.Told.{fails_first, holds_first}

low : (x b : ℤ) → lt_z x b ≡ true → not (le_z b x) ≡ true
low x b h = grind (arith, ints)

not_low : (x b : ℤ) → lt_z x b ≡ false → not (le_z b x) ≡ false
not_low x b h = grind (arith, ints)

abbrev pub asymmetry_check : FibreState → LinkCfg → Check
asymmetry_check fibre link = at_most 5 (size_of (asymmetry link.kappa fibre.ms fibre.sm)) (pos (2 ^ 40 * link.e_asym))

abbrev pub up_checks : ℤ → FibreState → ℤ → LinkCfg → List Check
up_checks most fibre up link = at_most 5 up most ∷ (asymmetry_check fibre link ∷ [])

abbrev pub down_checks : ℤ → FibreState → ℤ → ℤ → LinkCfg → List Check
down_checks most fibre down up link = at_most 5 down most ∷ up_checks most fibre up link

abbrev pub sm_checks : ℤ → FibreState → ℤ → ℤ → LinkCfg → List Check
sm_checks most fibre down up link = at_least 5 fibre.sm (pos 0) ∷ down_checks most fibre down up link

-- the delay down is below 0
pub ms_low : (most : ℤ) (fibre : FibreState) (down up : ℤ) (link : LinkCfg) (r : Option Breach) →
    lt_z fibre.ms (pos 0) ≡ true → r ≡ told_of (at_least 5 fibre.ms (pos 0) ∷ []) → r ≡ told_of (fibre_by most fibre down up link)
ms_low most fibre down up link r h e =
    e ∙ fails_first (at_least 5 fibre.ms (pos 0)) (sm_checks most fibre down up link) (low fibre.ms (pos 0) h)

after_ms : (most : ℤ) (fibre : FibreState) (down up : ℤ) (link : LinkCfg) → lt_z fibre.ms (pos 0) ≡ false →
    told_of (sm_checks most fibre down up link) ≡ told_of (fibre_by most fibre down up link)
after_ms most fibre down up link h =
    holds_first (at_least 5 fibre.ms (pos 0)) (sm_checks most fibre down up link) (not_low fibre.ms (pos 0) h)

-- the delay up is below 0
pub sm_low : (most : ℤ) (fibre : FibreState) (down up : ℤ) (link : LinkCfg) (r : Option Breach) →
    lt_z fibre.ms (pos 0) ≡ false → lt_z fibre.sm (pos 0) ≡ true → r ≡ told_of (at_least 5 fibre.sm (pos 0) ∷ []) →
    r ≡ told_of (fibre_by most fibre down up link)
sm_low most fibre down up link r h k e =
    e ∙ fails_first (at_least 5 fibre.sm (pos 0)) (down_checks most fibre down up link) (low fibre.sm (pos 0) k)
    ∙ after_ms most fibre down up link h

after_sm : (most : ℤ) (fibre : FibreState) (down up : ℤ) (link : LinkCfg) → lt_z fibre.ms (pos 0) ≡ false → lt_z fibre.sm (pos 0) ≡ false →
    told_of (down_checks most fibre down up link) ≡ told_of (fibre_by most fibre down up link)
after_sm most fibre down up link h k =
    holds_first (at_least 5 fibre.sm (pos 0)) (down_checks most fibre down up link) (not_low fibre.sm (pos 0) k)
    ∙ after_ms most fibre down up link h

-- the delay down is too long
pub down_long : (most : ℤ) (fibre : FibreState) (down up : ℤ) (link : LinkCfg) (r : Option Breach) →
    lt_z fibre.ms (pos 0) ≡ false → lt_z fibre.sm (pos 0) ≡ false → lt_z most down ≡ true →
    r ≡ told_of (at_most 5 down most ∷ []) → r ≡ told_of (fibre_by most fibre down up link)
down_long most fibre down up link r h k l e =
    e ∙ fails_first (at_most 5 down most) (up_checks most fibre up link) (low most down l)
    ∙ after_sm most fibre down up link h k

after_down : (most : ℤ) (fibre : FibreState) (down up : ℤ) (link : LinkCfg) →
    lt_z fibre.ms (pos 0) ≡ false → lt_z fibre.sm (pos 0) ≡ false → lt_z most down ≡ false →
    told_of (up_checks most fibre up link) ≡ told_of (fibre_by most fibre down up link)
after_down most fibre down up link h k l =
    holds_first (at_most 5 down most) (up_checks most fibre up link) (not_low most down l)
    ∙ after_sm most fibre down up link h k

-- the delay up is too long
pub up_long : (most : ℤ) (fibre : FibreState) (down up : ℤ) (link : LinkCfg) (r : Option Breach) →
    lt_z fibre.ms (pos 0) ≡ false → lt_z fibre.sm (pos 0) ≡ false → lt_z most down ≡ false →
    lt_z most up ≡ true → r ≡ told_of (at_most 5 up most ∷ []) → r ≡ told_of (fibre_by most fibre down up link)
up_long most fibre down up link r h k l m e =
    e ∙ fails_first (at_most 5 up most) (asymmetry_check fibre link ∷ []) (low most up m)
    ∙ after_down most fibre down up link h k l

-- both delays are short enough
pub both_short : (most : ℤ) (fibre : FibreState) (down up : ℤ) (link : LinkCfg) (r : Option Breach) →
    lt_z fibre.ms (pos 0) ≡ false → lt_z fibre.sm (pos 0) ≡ false → lt_z most down ≡ false →
    lt_z most up ≡ false → r ≡ told_of (asymmetry_check fibre link ∷ []) → r ≡ told_of (fibre_by most fibre down up link)
both_short most fibre down up link r h k l m e =
    e ∙ holds_first (at_most 5 up most) (asymmetry_check fibre link ∷ []) (not_low most up m)
    ∙ after_down most fibre down up link h k l

-- the last comparison, from its parts
pub last_check : (fibre : FibreState) (link : LinkCfg) (r : Option Breach) (shown bound : ℤ) → r ≡ told_of (at_most 5 shown bound ∷ []) →
    shown ≡ size_of (asymmetry link.kappa fibre.ms fibre.sm) → bound ≡ pos (2 ^ 40 * link.e_asym) →
    r ≡ told_of (asymmetry_check fibre link ∷ [])
last_check fibre link r shown bound e f g = e ∙ ap₂ (λ s b. told_of (at_most 5 s b ∷ [])) f g
