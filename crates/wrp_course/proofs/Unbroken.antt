-- No check of a list fails if and only if none is the first that fails.
use Rattle.std.proofs.Common.{◌≡◌, refl, List, [], ◌∷◌, None, Some}
use Rattle.wrp_handshake_laws.proofs.Parts.{by_bool}
use Rattle.wrp_course.specs.Checks.{Check, AllHold, first_broken}
use Rattle.wrp_course.specs.Laws.{AcceptedIsUnbroken}
use Rattle.wrp_course.specs.Premises.{checks_of}

none_fails : (checks : List Check) → AllHold checks → first_broken checks ≡ None
none_fails [] hold = refl
none_fails (check ∷ checks) hold = rw hold.0 (none_fails checks hold.1)

pub none_is : {A : Type 0} {x : A} → Some x ≡ None → ⊥
none_is e = cc

all_hold : (checks : List Check) → first_broken checks ≡ None → AllHold checks
all_hold [] none = tt
all_hold (check ∷ checks) none = by_bool check.fails
    (λ e. absurd (none_is (rw e at none)))
    (λ e. (e, all_hold checks (rw e at none)))

pub accepted_is_unbroken : AcceptedIsUnbroken
accepted_is_unbroken s w says e =
    (λ hold. none_fails (checks_of s w says e) hold, λ none. all_hold (checks_of s w says e) none)
