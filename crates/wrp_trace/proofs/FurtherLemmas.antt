-- Texts after commas, one after another.
use Rattle.std.proofs.Common.{◌≡◌, ◌∙◌, ℕ, ℤ, ◌+◌, ◌<◌, List, [], ◌∷◌, ◌++◌, Bool, true, false, length, map, drop, get_or, refl, sym, ap, ap₂, arith}
use Rattle.std.specs.Prelude.{codes, ◌==◌, ◌&&◌, unsigned_abs, if◌then◌else◌}
use Rattle.std.specs.Fmt.{signed_decimal}
use Rattle.std.proofs.lemmas.List.{drop_more, append_assoc, append-nil}
use Rattle.wrp_network.specs.declared.configuration.NetCfg.{NetCfg}
use Rattle.wrp_network.specs.declared.network.LinkCfg.{LinkCfg}
use Rattle.wrp_network.specs.declared.network.NodeCfg.{NodeCfg}
use Rattle.wrp_course.specs.declared.event.Swap.{Swap}
use Rattle.wrp_trace.specs.Printing.{joined}
use Rattle.wrp_trace.specs.EventPrinting.{further, drift_words, drift_text, drift_piece, drift_texts, move_words, move_text, move_piece, move_texts, swap_text, pass_texts}

-- joined texts are the first one, and the others after commas
pub joined_further : (text : List ℕ) (texts : List (List ℕ)) → joined (text ∷ texts) ≡ text ++ further texts
joined_further text [] = sym (append-nil text)
joined_further text (next ∷ texts) = ap (λ l. text ++ 44 ∷ l) (joined_further next texts)

further_more : (some more : List (List ℕ)) → further (some ++ more) ≡ further some ++ further more
further_more [] more = refl
further_more (text ∷ some) more =
    ap (λ l. (44 ∷ text) ++ l) (further_more some more) ∙ sym (append_assoc (44 ∷ text) (further some) (further more))

-- a text after a comma, or no text
one_piece : (b : Bool) (text : List ℕ) → further (if b then [] else text ∷ []) ≡ (if b then [] else 44 ∷ text)
one_piece true text = refl
one_piece false text = append-nil (44 ∷ text)

-- what is left to print of the drifts, and of the moves
pub drift_step : (nodes : List NodeCfg) (drifts : List ℤ) (n : ℕ) (node : NodeCfg) (drift : ℤ) → n < length nodes → length drifts ≡ length nodes
    → node ≡ get_or nodes n node → drift ≡ get_or drifts n drift
    → further (drift_texts (drop n nodes) (drop n drifts)) ≡ drift_piece node drift ++ further (drift_texts (drop (n + 1) nodes) (drop (n + 1) drifts))
drift_step nodes drifts n node drift below same e1 e2 =
    ap₂ (λ a b. further (drift_texts a b))
    (drop_more nodes n node below ∙ ap (λ x. x ∷ drop (n + 1) nodes) (sym e1))
    (drop_more drifts n drift (omega arith) ∙ ap (λ x. x ∷ drop (n + 1) drifts) (sym e2))
    ∙ further_more (drift_text node drift) (drift_texts (drop (n + 1) nodes) (drop (n + 1) drifts))
    ∙ ap (λ p. p ++ further (drift_texts (drop (n + 1) nodes) (drop (n + 1) drifts))) (one_piece (unsigned_abs drift == 0) (drift_words node drift))

pub move_step : (links : List LinkCfg) (moves : List (ℤ × ℤ)) (l : ℕ) (link : LinkCfg) (move : ℤ × ℤ) → l < length links → length moves ≡ length links
    → link ≡ get_or links l link → move ≡ get_or moves l move
    → further (move_texts (drop l links) (drop l moves)) ≡ move_piece link move ++ further (move_texts (drop (l + 1) links) (drop (l + 1) moves))
move_step links moves l link move below same e1 e2 =
    ap₂ (λ a b. further (move_texts a b))
    (drop_more links l link below ∙ ap (λ x. x ∷ drop (l + 1) links) (sym e1))
    (drop_more moves l move (omega arith) ∙ ap (λ x. x ∷ drop (l + 1) moves) (sym e2))
    ∙ further_more (move_text link move) (move_texts (drop (l + 1) links) (drop (l + 1) moves))
    ∙ ap (λ p. p ++ further (move_texts (drop (l + 1) links) (drop (l + 1) moves))) (one_piece ((unsigned_abs move.0 == 0) && (unsigned_abs move.1 == 0)) (move_words link move))

-- lines of a first part and further texts
pub pass_joined : (cfg : NetCfg) (dt : ℤ) (drifts : List ℤ) (moves : List (ℤ × ℤ))
    → (joined (codes "pass" ∷ signed_decimal dt ∷ []) ++ further (drift_texts cfg.nodes.items drifts)) ++ further (move_texts cfg.links.items moves)
    ≡ joined (pass_texts cfg dt drifts moves)
pass_joined cfg dt drifts moves =
    append_assoc (joined (codes "pass" ∷ signed_decimal dt ∷ [])) (further (drift_texts cfg.nodes.items drifts)) (further (move_texts cfg.links.items moves))
    ∙ ap (λ l. joined (codes "pass" ∷ signed_decimal dt ∷ []) ++ l) (sym (further_more (drift_texts cfg.nodes.items drifts) (move_texts cfg.links.items moves)))
    ∙ ap (λ l. codes "pass" ++ 44 ∷ l) (sym (joined_further (signed_decimal dt) (drift_texts cfg.nodes.items drifts ++ move_texts cfg.links.items moves)))

pub up_joined : (name : List ℕ) (off : ℤ) (swaps : List Swap)
    → joined (codes "up" ∷ name ∷ signed_decimal off ∷ []) ++ further (map swap_text swaps)
    ≡ joined (codes "up" ∷ name ∷ signed_decimal off ∷ map swap_text swaps)
up_joined name off swaps =
    append_assoc (codes "up" ++ 44 ∷ name) (44 ∷ signed_decimal off) (further (map swap_text swaps))
    ∙ ap (λ l. (codes "up" ++ 44 ∷ name) ++ 44 ∷ l) (sym (joined_further (signed_decimal off) (map swap_text swaps)))
    ∙ append_assoc (codes "up" ++ (44 ∷ [])) name (44 ∷ joined (signed_decimal off ∷ map swap_text swaps))
