-- The event lines of a loop, given to an audit, print its other lines again.
use Rattle.std.proofs.Common.{◌≡◌, ◌∙◌, refl, ap, ap₂, ℕ, ℤ, pos, ◌≤◌, length, ◌==◌, ◌&&◌, nat_le, not, cond, Bool, true, false, if◌then◌else◌, Option, None, Some, List, [], ◌∷◌, ◌++◌, map, flat_map, codes, append-nil, arith}
use Rattle.std.proofs.lemmas.Bool.{and_parts, leb-true, ne_eqb}
use Rattle.std.proofs.lemmas.List.Elements.{filter-append, filter_map-append}
use Rattle.std.specs.Fmt.{decimal}
use Rattle.std.specs.List.{cons_option, list_all}
use Rattle.std.specs.Option.{option_map_or}
use Rattle.std.specs.Prelude.{slice_get}
use Rattle.wrp_network.specs.declared.network.NodeCfg.{NodeCfg}
use Rattle.wrp_bounds.specs.Bounds.{path_of}
use Rattle.wrp_caldb.specs.Name.{is_letter, is_name, is_name_octet}
use Rattle.wrp_course.specs.Given.{NodeStepAt}
use Rattle.wrp_course.specs.Run.{Happened, steps_at, world_after}
use Rattle.wrp_course.specs.Runs.{IsNetwork}
use Rattle.wrp_course.specs.Setting.{Setting}
use Rattle.wrp_course.specs.WorldAt.{WorldAt}
use Rattle.wrp_lines.specs.Lines.{output_line, output_words}
use Rattle.wrp_node.specs.declared.interface.Output.{Output}
use Rattle.wrp_records.specs.Words.{line_of}
use Rattle.wrp_loop.specs.Laws.{LoopIsAudited}
use Rattle.wrp_loop.specs.LoopText.{NoneIsMarked, audit_lines, behind_mark, event_line, forged_lines, is_marked, loop_lines, marked_in, marked_line, others_in, step_lines, steps_lines, told_lines}

-- Lines that do not begin with `= `

kept : (line : List ℕ) (lines : List (List ℕ)) → is_marked line ≡ false → others_in (line ∷ lines) ≡ line ∷ others_in lines
kept line lines e = ap (λ b. cond (not b) (line ∷ others_in lines) (others_in lines)) e

if_false : (b : Bool) (rest : List ℕ) → b ≡ false → (if b then Some rest else None) ≡ None
if_false b rest e = ap (λ c. if c then Some rest else None) e

no_mark : (line : List ℕ) → is_marked line ≡ false → behind_mark line ≡ None
no_mark [] e = refl
no_mark (a ∷ []) e = refl
no_mark (a ∷ (b ∷ rest)) e = if_false ((a == 61) && (b == 32)) rest e

passed : (line : List ℕ) (lines : List (List ℕ)) → is_marked line ≡ false → marked_in (line ∷ lines) ≡ marked_in lines
passed line lines e = ap (λ o. cons_option o (marked_in lines)) (no_mark line e)

all_kept : (lines : List (List ℕ)) → NoneIsMarked lines → others_in lines ≡ lines
all_kept [] h = refl
all_kept (line ∷ lines) h = kept line lines h.0 ∙ ap (λ rest. line ∷ rest) (all_kept lines h.1)

all_passed : (lines : List (List ℕ)) → NoneIsMarked lines → marked_in lines ≡ []
all_passed [] h = refl
all_passed (line ∷ lines) h = passed line lines h.0 ∙ all_passed lines h.1

-- Two lists in a row

others_join : (a b : List (List ℕ)) → others_in (a ++ b) ≡ others_in a ++ others_in b
others_join a b = filter-append (λ line. not (is_marked line)) a b

marked_join : (a b : List (List ℕ)) → marked_in (a ++ b) ≡ marked_in a ++ marked_in b
marked_join a b = filter_map-append behind_mark a b

both_plain : (a b : List (List ℕ)) → NoneIsMarked a → NoneIsMarked b → NoneIsMarked (a ++ b)
both_plain [] b h k = k
both_plain (line ∷ a) b h k = (h.0, both_plain a b h.1 k)

-- The lines of a node begin with its name, and the name begins with a letter

letter_no_mark : (c : ℕ) → is_letter c ≡ true → (c == 61) ≡ false
letter_no_mark c h =
    let low : 97 ≤ c = leb-true 97 c (and_parts (nat_le 97 c) (nat_le c 122) h).0 in
    ne_eqb c 61 (λ e. omega (arith, low, e))

first_tells : (c b : ℕ) → (c == 61) ≡ false → ((c == 61) && (b == 32)) ≡ false
first_tells c b e = ap (λ t. t && (b == 32)) e

begins : (c : ℕ) (cs rest : List ℕ) → (c == 61) ≡ false → is_marked ((c ∷ cs) ++ 32 ∷ rest) ≡ false
begins c [] rest e = first_tells c 32 e
begins c (d ∷ cs) rest e = first_tells c d e

named_plain : (name rest : List ℕ) → is_name name ≡ true → is_marked (name ++ 32 ∷ rest) ≡ false
named_plain [] rest h = absurd (let e : false ≡ true = h in cc)
named_plain (c ∷ cs) rest h =
    let both = and_parts (is_letter c) (list_all is_name_octet cs && nat_le (length cs) 15) h in
    begins c cs rest (letter_no_mark c both.0)

space_plain : (rest : List ℕ) → is_marked (32 ∷ rest) ≡ false
space_plain [] = refl
space_plain (b ∷ rest) = refl

pub at_name : (o : Option NodeCfg) (rest : List ℕ) → ((node : NodeCfg) → o ≡ Some node → is_name node.name.bytes ≡ true) →
    is_marked (option_map_or (λ (node : NodeCfg). node.name.bytes) o [] ++ 32 ∷ rest) ≡ false
at_name None rest h = space_plain rest
at_name (Some node) rest h = named_plain node.name.bytes rest (h node refl)

output_plain : (s : Setting) → IsNetwork s → (n tick : ℕ) (o : Output) (truth : Option ℤ) → is_marked (output_line s.cfg n tick o truth) ≡ false
output_plain s net n tick o truth =
    at_name (slice_get s.cfg.nodes.items n) (line_of (decimal tick ∷ output_words o (pos (path_of s.cfg n)) truth)) (λ node is. net.accepted.names.node n node is)

outputs_plain : (s : Setting) → IsNetwork s → (n tick : ℕ) (truth : Option ℤ) (outs : List Output) → NoneIsMarked (map (λ o. output_line s.cfg n tick o truth) outs)
outputs_plain s net n tick truth [] = tt
outputs_plain s net n tick truth (o ∷ outs) = (output_plain s net n tick o truth, outputs_plain s net n tick truth outs)

steps_plain : (s : Setting) → IsNetwork s → (w : WorldAt) (steps : List NodeStepAt) → NoneIsMarked (flat_map (step_lines s w) steps)
steps_plain s net w [] = tt
steps_plain s net w (step ∷ steps) =
    both_plain (step_lines s w step) (flat_map (step_lines s w) steps)
    (outputs_plain s net step.node (w.node step.node).ticks (Some (w.clock step.node).off) step.outs) (steps_plain s net w steps)

event_plain : (s : Setting) → IsNetwork s → (before : List Happened) (h : Happened) → NoneIsMarked (steps_lines s before h)
event_plain s net before h = steps_plain s net (world_after s (h ∷ before)) (steps_at s before h)

forged_plain : (count : ℕ) (none : Bool) → NoneIsMarked (if none then [] else line_of (codes "forged" ∷ decimal count ∷ []) ∷ [])
forged_plain count true = tt
forged_plain count false = (refl, tt)

-- All events

others_of : (s : Setting) → IsNetwork s → (events : List Happened) → others_in (loop_lines s events) ≡ audit_lines s events
others_of s net [] = refl
others_of s net (h ∷ before) =
    others_join (loop_lines s before) (marked_line s.cfg h.event ∷ steps_lines s before h)
    ∙ ap₂ (λ (a b : List (List ℕ)). a ++ b) (others_of s net before) (all_kept (steps_lines s before h) (event_plain s net before h))

marked_of : (s : Setting) → IsNetwork s → (events : List Happened) → marked_in (loop_lines s events) ≡ told_lines s events
marked_of s net [] = refl
marked_of s net (h ∷ before) =
    marked_join (loop_lines s before) (marked_line s.cfg h.event ∷ steps_lines s before h)
    ∙ ap₂ (λ (a b : List (List ℕ)). a ++ (event_line s.cfg h.event ∷ b)) (marked_of s net before) (all_passed (steps_lines s before h) (event_plain s net before h))

pub loop_is_audited : LoopIsAudited
loop_is_audited s events counts forged net plain =
    let last : NoneIsMarked (forged_lines forged) = forged_plain forged (forged == 0) in (
      marked_join (loop_lines s events ++ counts) (forged_lines forged)
          ∙ (ap₂ (λ (a b : List (List ℕ)). a ++ b)
          (marked_join (loop_lines s events) counts
          ∙ (ap₂ (λ (a b : List (List ℕ)). a ++ b) (marked_of s net events) (all_passed counts plain) ∙ append-nil (told_lines s events)))
          (all_passed (forged_lines forged) last)
          ∙ append-nil (told_lines s events)),
      others_join (loop_lines s events ++ counts) (forged_lines forged)
          ∙ ap₂ (λ (a b : List (List ℕ)). a ++ b)
          (others_join (loop_lines s events) counts ∙ ap₂ (λ (a b : List (List ℕ)). a ++ b) (others_of s net events) (all_kept counts plain))
          (all_kept (forged_lines forged) last),
    )
