use Rattle.std.proofs.Common.{◌≡◌, ◌∙◌, ℕ, ℤ, pos, ◌+◌, ◌<◌, ◌++◌, List, length, drop, get_or, to_z, of_z, SFits, rules, sym, ap, arith}
use Rattle.std.proofs.lemmas.Int.{to_z-of_z}
use Rattle.std.proofs.lemmas.List.{drop_more, append_assoc}
use Rattle.std.specs.Int.{w64}
use Rattle.std.specs.String.{string_bytes}
use Rattle.wrp_network.specs.declared.network.NodeCfg.{NodeCfg}
use Rattle.wrp_trace.specs.EventPrinting.{further, drift_piece, drift_texts}
use Rattle.wrp_trace.proofs.FurtherLemmas.{drift_step}
use Rattle.wrp_trace.proofs.events.printing.add_drifts.Goals as goal

-- after one more piece, what is left is still to be printed
printed : (nodes : List NodeCfg) (drifts : List ℤ) (n : ℕ) (node : NodeCfg) (drift d : ℤ) (before after part all : List ℕ) → n < length nodes → length drifts ≡ length nodes
    → node ≡ get_or nodes n node → drift ≡ get_or drifts n d → part ≡ drift_piece node drift → after ≡ before ++ part
    → before ++ further (drift_texts (drop n nodes) (drop n drifts)) ≡ all → after ++ further (drift_texts (drop (n + 1) nodes) (drop (n + 1) drifts)) ≡ all
printed nodes drifts n node drift d before after part all below same e1 e is more left =
    let rest = further (drift_texts (drop (n + 1) nodes) (drop (n + 1) drifts)) in
    let within : n < length drifts = omega arith in
    let e2 : drift ≡ get_or drifts n drift = let a = drop_more drifts n d within in let b = drop_more drifts n drift within in cc in
    ap (λ (t : List ℕ). t ++ rest) (more ∙ ap (λ (t : List ℕ). before ++ t) is) ∙ append_assoc before (drift_piece node drift) rest
    ∙ ap (λ (t : List ℕ). before ++ t) (sym (drift_step nodes drifts n node drift below same e1 e2)) ∙ left

pub loop-n-preserved : goal.loop-n-preserved
loop-n-preserved c =
    let drift = get_or c.args.drifts.now c.loop-n.n (pos 0) in
    let fits : SFits w64 drift = search rules in
    printed c.args.nodes.now c.args.drifts.now c.loop-n.n c.index-nodes-n.result (to_z w64 (of_z w64 drift)) (pos 0) (string_bytes c.loop-n.text) (string_bytes c.push_str.new.self) c.as_str.result.now
    (string_bytes c.args.text.now ++ further (drift_texts c.args.nodes.now c.args.drifts.now)) c.loop-n-test.true c.requires c.index-nodes-n.is (to_z-of_z w64 drift fits) (c.as_str.ensures.value ∙ c.in_ok-part.ensures)
    c.in_ok-push_str.ensures.bytes c.loop-n.invariant
