-- The lines of an event: if one says that a link is on, so does its output.
use Rattle.std.proofs.Common.{◌≡◌, ◌∙◌, refl, ap, sym, subst, ℕ, ℤ, pos, List, [], ◌∷◌, ◌++◌, flat_map, Option, Some, Bool, arith, codes}
use Rattle.std.specs.List.{AllByRecursion}
use Rattle.std.specs.Fmt.{decimal}
use Rattle.wrp_base.specs.declared.link.LinkState.TheVariants.{Idle, Present, SLock, MLock, Locked, Calibration, Calibrated, RespCalib, LinkOn}
use Rattle.wrp_base.specs.declared.link.LinkWord.{LinkWord}
use Rattle.wrp_base.specs.declared.link.LinkWord.TheVariants.{Down, Quiet, Ptp, In}
use Rattle.wrp_network.specs.Network.{name_at}
use Rattle.wrp_base.proofs.Lists.{all_weaker}
use Rattle.wrp_bounds.specs.Bounds.{path_of}
use Rattle.wrp_config.specs.Accepted.{HasNames}
use Rattle.wrp_lines.specs.Lines.{output_line, output_words}
use Rattle.wrp_records.specs.Words.{line_of, IsWord}
use Rattle.wrp_lines.specs.Words.{link_word}
use Rattle.wrp_node.specs.declared.interface.Output.{Output}
use Rattle.wrp_node.specs.declared.interface.Output.TheVariants.{Send, Step, Dac, Report}
use Rattle.wrp_node.specs.declared.interface.Report.TheVariants.{Link, Servo, Track}
use Rattle.wrp_course.specs.Earned.{AreTrueReports, IsOn, IsEarnedReport}
use Rattle.wrp_course.specs.Given.{NodeStepAt}
use Rattle.wrp_course.specs.Setting.{Setting}
use Rattle.wrp_course.specs.WorldAt.{WorldAt}
use Rattle.wrp_asked.specs.Headline.{IsEarnedLine}
use Rattle.wrp_records.specs.Lines.{lines_of}
use Rattle.wrp_asked.proofs.EventLines.{line_at, lines_by, next_of, steps_lines}
use Rattle.wrp_lines.proofs.LineWords.{at_word, behind_two}
use Rattle.wrp_records.proofs.WordLemmas.{SameWord, decimal_word, first_word, head_of, rest_of}

-- the line that says that a link is on, after the first two words
abbrev OnLine : List ℕ → List ℕ
OnLine port = codes "link" ++ 32 ∷ (port ++ 32 ∷ (codes "link-on" ++ 10 ∷ []))

-- what says it after two words
record SaysOn (o : Output) (port : List ℕ) : Type 0 where
  number : ℕ
  is : o ≡ Report (Link number (In LinkOn))
  written : decimal number ≡ port

on_word : (p : ℕ) (word : LinkWord) → link_word word ++ 10 ∷ [] ≡ codes "link-on" ++ 10 ∷ [] → Report (Link p word) ≡ Report (Link p (In LinkOn))
on_word p Down e = absurd (let f : 100 ≡ 108 = ap head_of e in omega (arith, f))
on_word p Quiet e = absurd (let f : 113 ≡ 108 = ap head_of e in omega (arith, f))
on_word p Ptp e = absurd (let f : 112 ≡ 108 = ap head_of e in omega (arith, f))
on_word p (In Idle) e = absurd (let f : 112 ≡ 108 = ap head_of e in omega (arith, f))
on_word p (In Present) e = absurd (let f : 112 ≡ 108 = ap head_of e in omega (arith, f))
on_word p (In SLock) e = absurd (let f : 115 ≡ 108 = ap head_of e in omega (arith, f))
on_word p (In MLock) e = absurd (let f : 109 ≡ 108 = ap head_of e in omega (arith, f))
on_word p (In Locked) e = absurd (let f : 111 ≡ 105 = ap next_of e in omega (arith, f))
on_word p (In Calibration) e = absurd (let f : 99 ≡ 108 = ap head_of e in omega (arith, f))
on_word p (In Calibrated) e = absurd (let f : 99 ≡ 108 = ap head_of e in omega (arith, f))
on_word p (In RespCalib) e = absurd (let f : 114 ≡ 108 = ap head_of e in omega (arith, f))
on_word p (In LinkOn) e = refl

link_says : (p : ℕ) (word : LinkWord) (port : List ℕ) → IsWord port → codes "link" ++ 32 ∷ (decimal p ++ 32 ∷ (link_word word ++ 10 ∷ [])) ≡ OnLine port
    → SaysOn (Report (Link p word)) port
link_says p word port h e =
    let tail : decimal p ++ 32 ∷ (link_word word ++ 10 ∷ []) ≡ port ++ 32 ∷ (codes "link-on" ++ 10 ∷ []) =
    ap (λ (l : List ℕ). rest_of (rest_of (rest_of (rest_of (rest_of l))))) e in
    let it : SameWord (decimal p) port 32 32 (link_word word ++ 10 ∷ []) (codes "link-on" ++ 10 ∷ []) =
    first_word (decimal p) port 32 32 (link_word word ++ 10 ∷ []) (codes "link-on" ++ 10 ∷ []) (decimal_word p) h refl refl tail in
    record { number = p; is = on_word p word it.rest; written = it.word }

says : (o : Output) (bound : ℤ) (truth : Option ℤ) (port : List ℕ) → IsWord port → line_of (output_words o bound truth) ≡ OnLine port → SaysOn o port
says (Send p frame) bound truth port h e = absurd (let f : 115 ≡ 108 = ap head_of e in omega (arith, f))
says (Step cycles) bound truth port h e = absurd (let f : 115 ≡ 108 = ap head_of e in omega (arith, f))
says (Dac value) bound truth port h e = absurd (let f : 100 ≡ 108 = ap head_of e in omega (arith, f))
says (Report (Link p word)) bound truth port h e = link_says p word port h e
says (Report (Servo state)) bound truth port h e = absurd (let f : 115 ≡ 108 = ap head_of e in omega (arith, f))
says (Report (Track est)) bound truth port h e = absurd (let f : 116 ≡ 108 = ap head_of e in omega (arith, f))

on_there : (s : Setting) (w : WorldAt) (n : ℕ) (o : Output) (port : List ℕ) → IsEarnedReport s w n o → (h : SaysOn o port) → IsOn s w n h.number
on_there s w n o port true_ h = subst (IsEarnedReport s w n) h.is true_

line_earned : (s : Setting) (w : WorldAt) (n tick : ℕ) (o : Output) (truth : Option ℤ) → HasNames s.cfg → IsEarnedReport s w n o
    → IsEarnedLine s w (output_line s.cfg n tick o truth)
line_earned s w n tick o truth names true_ = λ node at port a b c e.
    let bound : ℤ = pos (path_of s.cfg n) in
    let parts : name_at s.cfg n ++ 32 ∷ (decimal tick ++ 32 ∷ line_of (output_words o bound truth)) ≡ node ++ 32 ∷ (at ++ 32 ∷ OnLine port) =
    sym (behind_two (name_at s.cfg n) (decimal tick) o bound truth) ∙ e in
    let one =
    first_word (name_at s.cfg n) node 32 32 (decimal tick ++ 32 ∷ line_of (output_words o bound truth)) (at ++ 32 ∷ OnLine port)
    (at_word s.cfg names n) a refl refl parts in
    let two = first_word (decimal tick) at 32 32 (line_of (output_words o bound truth)) (OnLine port) (decimal_word tick) b refl refl one.rest in
    let on : SaysOn o port = says o bound truth port c two.rest in
    (n, on.number, one.word, on.written, on_there s w n o port true_ on)

-- All lines of an event

step_earned : (s : Setting) (w : WorldAt) (step : NodeStepAt) → HasNames s.cfg → AreTrueReports s w step
    → AllByRecursion (λ (o : Output). IsEarnedLine s w (line_at s w step.node o)) step.outs
step_earned s w step names are =
    all_weaker (IsEarnedReport s w step.node) (λ (o : Output). IsEarnedLine s w (line_at s w step.node o))
    (λ o true_. line_earned s w step.node (w.node step.node).ticks o (Some (w.clock step.node).off) names true_) step.outs are

-- each line of the steps of an event
pub lines_are_earned : (has_line : Output → Bool) (s : Setting) (w : WorldAt) (steps : List NodeStepAt) → HasNames s.cfg
    → AllByRecursion (AreTrueReports s w) steps →
    AllByRecursion (IsEarnedLine s w) (lines_of (flat_map (lines_by has_line s w) steps))
lines_are_earned has_line s w steps names are =
    steps_lines (IsEarnedLine s w) has_line s w steps names
    (all_weaker (AreTrueReports s w) (λ (step : NodeStepAt). AllByRecursion (λ (o : Output). IsEarnedLine s w (line_at s w step.node o)) step.outs) (λ step true_. step_earned s w step names true_) steps are)
