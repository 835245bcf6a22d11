-- The lines of an event: if one reports TRACK, so does its output, and what it reports is true.
use Rattle.std.proofs.Common.{◌≡◌, ◌∙◌, refl, ap, sym, subst, ℕ, ℤ, pos, List, [], ◌∷◌, ◌++◌, flat_map, Some, Bool, arith, codes}
use Rattle.std.specs.List.{AllByRecursion}
use Rattle.std.specs.Fmt.{decimal, signed_decimal}
use Rattle.wrp_base.proofs.Lists.{all_weaker}
use Rattle.wrp_network.specs.Network.{name_at}
use Rattle.wrp_bounds.specs.Bounds.{path_of}
use Rattle.wrp_config.specs.Accepted.{HasNames}
use Rattle.wrp_lines.specs.Lines.{output_words}
use Rattle.wrp_records.specs.Words.{line_of, IsWord}
use Rattle.wrp_node.specs.declared.interface.Output.{Output}
use Rattle.wrp_node.specs.declared.interface.Output.TheVariants.{Send, Step, Dac, Report}
use Rattle.wrp_node.specs.declared.interface.Report.TheVariants.{Link, Servo, Track}
use Rattle.wrp_bound_laws.specs.Bounds.{IsTrueOutput, IsTrueReport, IsTrueStep}
use Rattle.wrp_course.specs.Given.{NodeStepAt}
use Rattle.wrp_course.specs.Setting.{Setting}
use Rattle.wrp_course.specs.WorldAt.{WorldAt}
use Rattle.wrp_records.specs.Lines.{lines_of}
use Rattle.wrp_asked.specs.TrackLines.{IsTrueLine}
use Rattle.wrp_asked.proofs.EventLines.{line_at, lines_by, steps_lines}
use Rattle.wrp_lines.proofs.LineWords.{at_word, behind_two}
use Rattle.wrp_records.proofs.WordLemmas.{SameWord, decimal_word, first_word, head_of, rest_of, signed_word}

-- what reports TRACK in a line, after the first two words
abbrev TrueLine : (off : List ℕ) → List ℕ
TrueLine off = codes "true" ++ 32 ∷ (off ++ 10 ∷ [])

abbrev TrackLine : (est bound off : List ℕ) → List ℕ
TrackLine est bound off = codes "track" ++ 32 ∷ (est ++ 32 ∷ (bound ++ 32 ∷ TrueLine off))

-- what says it after two words
record SaysTrack (o : Output) (most truth : ℤ) (est bound off : List ℕ) : Type 0 where
  estimate : ℤ
  is : o ≡ Report (Track estimate)
  estimated : signed_decimal estimate ≡ est
  bounded : signed_decimal most ≡ bound
  told : signed_decimal truth ≡ off

track_says : (estimate most truth : ℤ) (est bound off : List ℕ) → IsWord est → IsWord bound → IsWord off →
    TrackLine (signed_decimal estimate) (signed_decimal most) (signed_decimal truth) ≡ TrackLine est bound off
    → SaysTrack (Report (Track estimate)) most truth est bound off
track_says estimate most truth est bound off h k l e =
    let told : List ℕ = TrueLine (signed_decimal truth) in
    let tail : signed_decimal estimate ++ 32 ∷ (signed_decimal most ++ 32 ∷ told) ≡ est ++ 32 ∷ (bound ++ 32 ∷ TrueLine off) =
    ap (λ (x : List ℕ). rest_of (rest_of (rest_of (rest_of (rest_of (rest_of x)))))) e in
    let one : SameWord (signed_decimal estimate) est 32 32 (signed_decimal most ++ 32 ∷ told) (bound ++ 32 ∷ TrueLine off) =
    first_word (signed_decimal estimate) est 32 32 (signed_decimal most ++ 32 ∷ told) (bound ++ 32 ∷ TrueLine off) (signed_word estimate) h refl refl tail in
    let two : SameWord (signed_decimal most) bound 32 32 told (TrueLine off) =
    first_word (signed_decimal most) bound 32 32 told (TrueLine off) (signed_word most) k refl refl one.rest in
    let last : signed_decimal truth ++ 10 ∷ [] ≡ off ++ 10 ∷ [] = ap (λ (x : List ℕ). rest_of (rest_of (rest_of (rest_of (rest_of x))))) two.rest in
    let three : SameWord (signed_decimal truth) off 10 10 [] [] = first_word (signed_decimal truth) off 10 10 [] [] (signed_word truth) l refl refl last in
    record { estimate = estimate; is = refl; estimated = one.word; bounded = two.word; told = three.word }

says : (o : Output) (most truth : ℤ) (est bound off : List ℕ) → IsWord est → IsWord bound → IsWord off
    → line_of (output_words o most (Some truth)) ≡ TrackLine est bound off → SaysTrack o most truth est bound off
says (Send p frame) most truth est bound off h k l e = absurd (let f : 115 ≡ 116 = ap head_of e in omega (arith, f))
says (Step cycles) most truth est bound off h k l e = absurd (let f : 115 ≡ 116 = ap head_of e in omega (arith, f))
says (Dac value) most truth est bound off h k l e = absurd (let f : 100 ≡ 116 = ap head_of e in omega (arith, f))
says (Report (Link p word)) most truth est bound off h k l e = absurd (let f : 108 ≡ 116 = ap head_of e in omega (arith, f))
says (Report (Servo state)) most truth est bound off h k l e = absurd (let f : 115 ≡ 116 = ap head_of e in omega (arith, f))
says (Report (Track estimate)) most truth est bound off h k l e = track_says estimate most truth est bound off h k l e

true_there : (s : Setting) (w : WorldAt) (n : ℕ) (o : Output) (estimate : ℤ) → IsTrueOutput s w n o → o ≡ Report (Track estimate) → IsTrueReport s w n estimate
true_there s w n o estimate true_ is = subst (IsTrueOutput s w n) is true_

pub line_true : (s : Setting) (w : WorldAt) (n : ℕ) (o : Output) → HasNames s.cfg → IsTrueOutput s w n o → IsTrueLine s w (line_at s w n o)
line_true s w n o names true_ = λ node tick est bound off a b c d f e.
    let most : ℤ = pos (path_of s.cfg n) in
    let truth : ℤ = (w.clock n).off in
    let ticks : ℕ = (w.node n).ticks in
    let line : List ℕ = line_of (output_words o most (Some truth)) in
    let parts : name_at s.cfg n ++ 32 ∷ (decimal ticks ++ 32 ∷ line) ≡ node ++ 32 ∷ (tick ++ 32 ∷ TrackLine est bound off) =
    sym (behind_two (name_at s.cfg n) (decimal ticks) o most (Some truth)) ∙ e in
    let one =
    first_word (name_at s.cfg n) node 32 32 (decimal ticks ++ 32 ∷ line) (tick ++ 32 ∷ TrackLine est bound off) (at_word s.cfg names n) a refl refl parts in
    let two = first_word (decimal ticks) tick 32 32 line (TrackLine est bound off) (decimal_word ticks) b refl refl one.rest in
    let it : SaysTrack o most truth est bound off = says o most truth est bound off c d f two.rest in
    let report : IsTrueReport s w n it.estimate = true_there s w n o it.estimate true_ it.is in
    record {
      number = n;
      estimate = it.estimate;
      most = path_of s.cfg n;
      offset = truth;
      name_is = one.word;
      estimate_is = it.estimated;
      most_is = it.bounded;
      offset_is = it.told;
      within = report.path;
      path = refl;
      own = refl;
      report = report;
    }

step_true : (s : Setting) (w : WorldAt) (step : NodeStepAt) → HasNames s.cfg → IsTrueStep s w step
    → AllByRecursion (λ (o : Output). IsTrueLine s w (line_at s w step.node o)) step.outs
step_true s w step names are =
    all_weaker (IsTrueOutput s w step.node) (λ (o : Output). IsTrueLine s w (line_at s w step.node o))
    (λ o true_. line_true s w step.node o names true_) step.outs are

-- each line of the steps of an event
pub lines_are_true : (has_line : Output → Bool) (s : Setting) (w : WorldAt) (steps : List NodeStepAt) → HasNames s.cfg → AllByRecursion (IsTrueStep s w) steps →
    AllByRecursion (IsTrueLine s w) (lines_of (flat_map (lines_by has_line s w) steps))
lines_are_true has_line s w steps names are =
    steps_lines (IsTrueLine s w) has_line s w steps names
    (all_weaker (IsTrueStep s w) (λ (step : NodeStepAt). AllByRecursion (λ (o : Output). IsTrueLine s w (line_at s w step.node o)) step.outs) (λ step true_. step_true s w step names true_) steps are)
