-- The checks of modules that are installed.
use Rattle.std.proofs.Common.{◌≡◌, ◌∙◌, ap, sym, ℕ, Option, None, Some}
use Rattle.wrp_base.specs.declared.link.Module.{Module}
use Rattle.wrp_course.specs.Checks.{told_of}
use Rattle.wrp_course.specs.declared.breach.Breach.{Breach}
use Rattle.wrp_course.specs.declared.event.Swap.{Swap}
use Rattle.wrp_course.specs.declared.place.Place.{Place}
use Rattle.wrp_course.specs.Premises.{entry_for, module_checks, module_kept}
use Rattle.wrp_course.specs.Setting.{Setting, entry_at, place_of}

-- a module that is installed
pub module_told : (s : Setting) (n : ℕ) (swap : Swap) (place : Place) (entry : Option Module) (r : Option Breach) → r ≡ told_of (module_checks swap entry) →
    entry ≡ entry_at s place.link place.role swap.name.bytes → place_of s n swap.port ≡ Some place → r ≡ told_of (module_kept s n swap)
module_told s n swap place entry r e f g =
    e ∙ ap (λ o. told_of (module_checks swap o)) f ∙ sym (ap (λ o. told_of (module_checks swap (entry_for s swap o))) g)

pub no_module_told : (s : Setting) (n : ℕ) (swap : Swap) → place_of s n swap.port ≡ None → None ≡ told_of (module_kept s n swap)
no_module_told s n swap g = sym (ap (λ o. told_of (module_checks swap (entry_for s swap o))) g)
