-- What is expected for an input whose records keep the stated errors is true.
use Rattle.std.proofs.Common.{◌≡◌, ℕ, List, [], ◌∷◌, ◌++◌, map, refl, sym, ap, ◌∙◌, subst}
use Rattle.std.proofs.lemmas.List.{map-append}
use Rattle.wrp_records.specs.declared.machine.Refusal.TheVariants.{BadTrace}
use Rattle.wrp_records.specs.declared.status.Status.TheVariants as status
use Rattle.wrp_records.specs.Lines.{content_of, lines_of}
use Rattle.wrp_records.specs.RecordsAnswer.{IsRefused}
use Rattle.wrp_calib.specs.LinesMeaning.{Accepts, calibration}
use Rattle.wrp_calib.specs.LinesTold.{InputsTellTruth, SayTruly}
use Rattle.wrp_calib.specs.LinesTruth.{HoldsTruth, IsShort}
use Rattle.wrp_calib.specs.Truth.{Delays}
use Rattle.wrp_calib.proofs.LinesExact.{not_both}
use Rattle.wrp_calib.proofs.LinesTelling.{lines_tell_truth}

-- none of the lines is refused
none_refused : (input : List ℕ) (delays : Delays) → SayTruly input delays → (text : List ℕ) → IsRefused calibration BadTrace (lines_of input) text → ⊥
none_refused input delays say text refused =
    let parts : map content_of (lines_of input) ≡ map content_of refused.before ++ content_of refused.line ∷ map content_of refused.behind =
    ap (λ (ls : List (List ℕ)). map content_of ls) refused.divided ∙ map-append content_of refused.before (refused.line ∷ refused.behind) in
    let accepted : Accepts (map content_of (lines_of input)) [] = (say.records, say.say, refl) in
    not_both (map content_of refused.before) (map content_of refused.behind) (content_of refused.line) [] refused.refused.0
    (subst (λ (ls : List (List ℕ)). Accepts ls []) parts accepted) refused.refused.1

pub inputs_tell_truth : InputsTellTruth
inputs_tell_truth input delays say status.Done text due =
    let tells = lines_tell_truth (map content_of (lines_of input)) say.records delays say.say say.keep in
    let whole : due.last ≡ text = sym (due.is ∙ ap (λ (octets : List ℕ). octets ++ due.last) due.handled.accepted.2) in
    subst (HoldsTruth delays) whole (tells.answer due.last due.closed)
inputs_tell_truth input delays say status.BadCalib text due =
    let tells = lines_tell_truth (map content_of (lines_of input)) say.records delays say.say say.keep in
    let whole : due.last ≡ text = sym (due.is ∙ ap (λ (octets : List ℕ). octets ++ due.last) due.handled.accepted.2) in
    subst IsShort whole (tells.refusal due.last due.broken)
inputs_tell_truth input delays say status.BadTrace text due = none_refused input delays say text due
inputs_tell_truth input delays say status.Broken text due = due.refused
inputs_tell_truth input delays say _ text due = tt
