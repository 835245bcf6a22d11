-- The counters come first, and then the number.
use Rattle.std.proofs.Common.{◌∙◌, ◌++◌, ap, append_assoc, IfOk, List, ℕ, Ok, Err, Result}
use Rattle.std.specs.List.{concat}
use Rattle.std.specs.Result.{OnOk}
use Rattle.wrp_loop.specs.LoopText.{forged_lines}
use Rattle.wrp_network_world.specs.Counts.{all_counts}
use Rattle.wrp_loop.proofs.running.append_closing.Goals as goal

if_ok : {T E : Type 0} (P Q : Type 0) (r : Result T E) → OnOk r Q → (Q → P) → IfOk r (λ value. P)
if_ok P Q (Ok value) holds means = means holds
if_ok P Q (Err error) holds means = tt

pub returns : goal.returns
returns g c = if_ok _ _ c.append_forged.result c.append_forged.ensures (λ last s w stands.
    last ∙ ap (λ (l : List ℕ). l ++ concat (forged_lines c.args.course.now.forged)) (c.in_ok-append_all_counts.ensures s w stands)
    ∙ append_assoc c.args.text.now.items (all_counts s w) (concat (forged_lines c.args.course.now.forged)))
