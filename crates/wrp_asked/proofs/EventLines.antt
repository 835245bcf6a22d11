-- The lines that are written of an event: each is the line of one output, and its words say of which.
use Rattle.std.proofs.Common.{◌≡◌, ◌∙◌, refl, ap, sym, subst, ℕ, ℤ, pos, Bool, true, false, if◌then◌else◌, List, [], ◌∷◌, ◌++◌, append_assoc, flat_map, Option, Some}
use Rattle.std.specs.List.{AllByRecursion}
use Rattle.std.specs.Fmt.{decimal}
use Rattle.wrp_network.specs.Network.{name_at}
use Rattle.wrp_bounds.specs.Bounds.{path_of}
use Rattle.wrp_config.specs.Accepted.{HasNames}
use Rattle.wrp_lines.specs.Lines.{output_line, output_words}
use Rattle.wrp_lines.proofs.LineWords.{at_word, output_are}
use Rattle.wrp_node.specs.declared.interface.Output.{Output}
use Rattle.wrp_course.specs.Given.{NodeStepAt}
use Rattle.wrp_course.specs.Setting.{Setting}
use Rattle.wrp_course.specs.WorldAt.{WorldAt}
use Rattle.wrp_records.specs.Lines.{IsWhole, lines_of}
use Rattle.wrp_records.proofs.WordLemmas.{decimal_word, head_of, line_in_front, line_whole}

-- the second octet of a text
abbrev pub next_of : List ℕ → ℕ
next_of [] = 0
next_of (c ∷ cs) = head_of cs

-- All lines of an event

line_if : (P : List ℕ → Type 0) (b : Bool) (line rest : List ℕ) → IsWhole line → P line → AllByRecursion P (lines_of rest)
    → AllByRecursion P (lines_of ((if b then line else []) ++ rest))
line_if P true line rest whole h k = line_in_front P line rest whole h k
line_if P false line rest whole h k = k

pub whole_line : (s : Setting) (n tick : ℕ) (o : Output) (truth : Option ℤ) → HasNames s.cfg → IsWhole (output_line s.cfg n tick o truth)
whole_line s n tick o truth names =
    line_whole (name_at s.cfg n ∷ decimal tick ∷ output_words o (pos (path_of s.cfg n)) truth)
    (at_word s.cfg names n, (decimal_word tick, output_are o (pos (path_of s.cfg n)) truth))

-- the line of what a node put out in an event that led to this world
abbrev pub line_at : Setting → WorldAt → ℕ → Output → List ℕ
line_at s w n o = output_line s.cfg n (w.node n).ticks o (Some (w.clock n).off)

-- the lines of the outputs of a step that have one
abbrev pub lines_by : (Output → Bool) → Setting → WorldAt → NodeStepAt → List ℕ
lines_by has_line s w step = flat_map (λ o. if has_line o then line_at s w step.node o else []) step.outs

pub outs_lines : (P : List ℕ → Type 0) (has_line : Output → Bool) (s : Setting) (w : WorldAt) (n : ℕ) (outs : List Output) (rest : List ℕ) → HasNames s.cfg
    → AllByRecursion (λ (o : Output). P (line_at s w n o)) outs →
    AllByRecursion P (lines_of rest) → AllByRecursion P (lines_of (flat_map (λ o. if has_line o then line_at s w n o else []) outs ++ rest))
outs_lines P has_line s w n [] rest names are k = k
outs_lines P has_line s w n (o ∷ outs) rest names are k =
    let line : List ℕ = if has_line o then line_at s w n o else [] in
    let lines : List ℕ = flat_map (λ x. if has_line x then line_at s w n x else []) outs in
    subst (λ (l : List ℕ). AllByRecursion P (lines_of l)) (sym (append_assoc line lines rest))
    (line_if P (has_line o) (line_at s w n o) (lines ++ rest) (whole_line s n (w.node n).ticks o (Some (w.clock n).off) names) are.0
    (outs_lines P has_line s w n outs rest names are.1 k))

-- what holds of the line of each output holds of each line that is written of some steps
pub steps_lines : (P : List ℕ → Type 0) (has_line : Output → Bool) (s : Setting) (w : WorldAt) (steps : List NodeStepAt) → HasNames s.cfg →
    AllByRecursion (λ (step : NodeStepAt). AllByRecursion (λ (o : Output). P (line_at s w step.node o)) step.outs) steps
    → AllByRecursion P (lines_of (flat_map (lines_by has_line s w) steps))
steps_lines P has_line s w [] names are = tt
steps_lines P has_line s w (step ∷ steps) names are =
    outs_lines P has_line s w step.node step.outs (flat_map (lines_by has_line s w) steps) names are.0 (steps_lines P has_line s w steps names are.1)

-- if nothing was put out, nothing is written
pub no_lines : (has_line : Output → Bool) (s : Setting) (w : WorldAt) (steps : List NodeStepAt) → AllByRecursion (λ (step : NodeStepAt). step.outs ≡ []) steps
    → flat_map (lines_by has_line s w) steps ≡ []
no_lines has_line s w [] h = refl
no_lines has_line s w (step ∷ steps) h =
    let first : lines_by has_line s w step ≡ [] =
    ap (flat_map (λ (o : Output). if has_line o then line_at s w step.node o else [])) h.0 in
    ap (λ (l : List ℕ). l ++ flat_map (lines_by has_line s w) steps) first ∙ no_lines has_line s w steps h.1
