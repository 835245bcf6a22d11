use Rattle.std.proofs.Common.{◌≡◌, ◌∙◌, ℕ, ℤ, pos, ◌+◌, ◌<◌, ◌++◌, List, length, drop, get_or, refl, sym, ap, arith}
use Rattle.std.proofs.lemmas.List.{drop_more, append_assoc}
use Rattle.std.specs.String.{string_bytes}
use Rattle.wrp_network.specs.declared.network.LinkCfg.{LinkCfg}
use Rattle.wrp_trace.specs.EventPrinting.{further, move_piece, move_texts}
use Rattle.wrp_trace.proofs.FurtherLemmas.{move_step}
use Rattle.wrp_trace.proofs.events.printing.add_moves.Goals as goal

-- after one more piece, what is left is still to be printed
printed : (links : List LinkCfg) (moves : List (ℤ × ℤ)) (l : ℕ) (link : LinkCfg) (move d : ℤ × ℤ) (before after part all : List ℕ) → l < length links → length moves ≡ length links
    → link ≡ get_or links l link → move ≡ get_or moves l d → part ≡ move_piece link move → after ≡ before ++ part
    → before ++ further (move_texts (drop l links) (drop l moves)) ≡ all → after ++ further (move_texts (drop (l + 1) links) (drop (l + 1) moves)) ≡ all
printed links moves l link move d before after part all below same e1 e is more left =
    let rest = further (move_texts (drop (l + 1) links) (drop (l + 1) moves)) in
    let within : l < length moves = omega arith in
    let e2 : move ≡ get_or moves l move = let a = drop_more moves l d within in let b = drop_more moves l move within in cc in
    ap (λ (t : List ℕ). t ++ rest) (more ∙ ap (λ (t : List ℕ). before ++ t) is) ∙ append_assoc before (move_piece link move) rest
    ∙ ap (λ (t : List ℕ). before ++ t) (sym (move_step links moves l link move below same e1 e2)) ∙ left

pub loop-l-preserved : goal.loop-l-preserved
loop-l-preserved c =
    let move = get_or c.args.moves.now c.loop-l.l (pos 0, pos 0) in
    printed c.args.links.now c.args.moves.now c.loop-l.l c.index-links-l.result move (pos 0, pos 0) (string_bytes c.loop-l.text) (string_bytes c.push_str.new.self) c.as_str.result.now
    (string_bytes c.args.text.now ++ further (move_texts c.args.links.now c.args.moves.now)) c.loop-l-test.true c.requires c.index-links-l.is refl (c.as_str.ensures.value ∙ c.in_ok-part.ensures)
    c.in_ok-push_str.ensures.bytes c.loop-l.invariant
