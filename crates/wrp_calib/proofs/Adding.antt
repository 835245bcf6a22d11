-- One more run joins the ends of its kind.
use Rattle.std.proofs.Common.{◌≡◌, ℤ, List, [], ◌∷◌, Option, Some, refl, ap, ◌∙◌, sym, subst}
use Rattle.wrp_base.specs.Calls.{Adds}
use Rattle.wrp_calib.specs.declared.run.RunKind.{RunKind}
use Rattle.wrp_calib.specs.declared.run.RunKind.TheVariants.{Ref, Straight, Swapped}
use Rattle.wrp_calib.specs.declared.run.Ends.{Ends}
use Rattle.wrp_calib.specs.Run.{Run, run_of, runs_of}
use Rattle.wrp_calib.specs.Estimate.{Errors}
use Rattle.wrp_calib.specs.StandsFor.{CalibAt, ends_of, run_ends, joined, StandsFor}

-- the ends with one more run in front
ends_of-cons : (run : Run) (runs : List Run) → ends_of (run ∷ runs) ≡ Some (joined (run_ends run) (ends_of runs))
ends_of-cons run [] = refl
ends_of-cons run (next ∷ rest) = refl

-- a kind's ends after one more run of it
grown : (run : Run) (runs : List Run) (ends new : Ends) (kept : Option Ends) →
    ends ≡ run_ends run → new ≡ joined ends kept → kept ≡ ends_of runs → Some new ≡ ends_of (run ∷ runs)
grown run runs ends new kept is joins known =
    ap Some (joins ∙ ap (λ (e : Ends). joined e kept) is ∙ ap (joined (run_ends run)) known) ∙ sym (ends_of-cons run runs)

-- what a run of each kind adds
pub Adds-reference : (kind : RunKind) (t : List ℤ) (told : Errors) (a b c : Option Ends) (old : CalibAt) (ends new : Ends) →
    kind ≡ Ref → record { errors = told; reference = a; straight = b; swapped = c } ≡ old →
    ends ≡ run_ends (run_of kind t) → new ≡ joined ends a → (errors : Errors) →
    Adds (StandsFor errors) old (record { errors = told; reference = Some new; straight = b; swapped = c }) (run_of kind t)
Adds-reference kind t told a b c old ends new at_kind is at_run joins errors calls stands =
    let P : CalibAt → Type 0 = λ calib. StandsFor errors calib calls in
    let known : StandsFor errors (record { errors = told; reference = a; straight = b; swapped = c }) calls = subst P (sym is) stands in
    let Q : RunKind → Type 0 = λ k. ends ≡ run_ends (run_of k t) → StandsFor errors (record { errors = told; reference = Some new; straight = b; swapped = c }) (run_of k t ∷ calls) in
    subst Q (sym at_kind) (λ (at : ends ≡ run_ends (run_of Ref t)). record {
      errors_are = known.errors_are;
      reference = grown (run_of Ref t) (runs_of Ref calls) ends new a at joins known.reference;
      straight = known.straight;
      swapped = known.swapped;
    }) at_run

pub Adds-straight : (kind : RunKind) (t : List ℤ) (told : Errors) (a b c : Option Ends) (old : CalibAt) (ends new : Ends) →
    kind ≡ Straight → record { errors = told; reference = a; straight = b; swapped = c } ≡ old →
    ends ≡ run_ends (run_of kind t) → new ≡ joined ends b → (errors : Errors) →
    Adds (StandsFor errors) old (record { errors = told; reference = a; straight = Some new; swapped = c }) (run_of kind t)
Adds-straight kind t told a b c old ends new at_kind is at_run joins errors calls stands =
    let P : CalibAt → Type 0 = λ calib. StandsFor errors calib calls in
    let known : StandsFor errors (record { errors = told; reference = a; straight = b; swapped = c }) calls = subst P (sym is) stands in
    let Q : RunKind → Type 0 = λ k. ends ≡ run_ends (run_of k t) → StandsFor errors (record { errors = told; reference = a; straight = Some new; swapped = c }) (run_of k t ∷ calls) in
    subst Q (sym at_kind) (λ (at : ends ≡ run_ends (run_of Straight t)). record {
      errors_are = known.errors_are;
      reference = known.reference;
      straight = grown (run_of Straight t) (runs_of Straight calls) ends new b at joins known.straight;
      swapped = known.swapped;
    }) at_run

pub Adds-swapped : (kind : RunKind) (t : List ℤ) (told : Errors) (a b c : Option Ends) (old : CalibAt) (ends new : Ends) →
    kind ≡ Swapped → record { errors = told; reference = a; straight = b; swapped = c } ≡ old →
    ends ≡ run_ends (run_of kind t) → new ≡ joined ends c → (errors : Errors) →
    Adds (StandsFor errors) old (record { errors = told; reference = a; straight = b; swapped = Some new }) (run_of kind t)
Adds-swapped kind t told a b c old ends new at_kind is at_run joins errors calls stands =
    let P : CalibAt → Type 0 = λ calib. StandsFor errors calib calls in
    let known : StandsFor errors (record { errors = told; reference = a; straight = b; swapped = c }) calls = subst P (sym is) stands in
    let Q : RunKind → Type 0 = λ k. ends ≡ run_ends (run_of k t) → StandsFor errors (record { errors = told; reference = a; straight = b; swapped = Some new }) (run_of k t ∷ calls) in
    subst Q (sym at_kind) (λ (at : ends ≡ run_ends (run_of Swapped t)). record {
      errors_are = known.errors_are;
      reference = known.reference;
      straight = known.straight;
      swapped = grown (run_of Swapped t) (runs_of Swapped calls) ends new c at joins known.swapped;
    }) at_run
