-- The line of the command follows the line of the report.
use Rattle.std.proofs.Common.{◌≡◌, ◌∙◌, ◌++◌, ℕ, List, ap, append_assoc, to_z, of_z, rules}
use Rattle.std.specs.Int.{w64, w128}
use Rattle.std.proofs.lemmas.Int.{to_z-of_z}
use Rattle.std.proofs.lemmas.Result.{IfOk-weaker}
use Rattle.wrp_plain.specs.LineText.{report_text, step_text}
use Rattle.wrp_plain.proofs.lines.printing.append_seen.Goals as goal

pub returns : goal.returns
returns c =
    let off : to_z w128 (of_z w128 c.args.seen.off) ≡ c.args.seen.off = search (to_z-of_z, rules) in
    let by : to_z w64 (of_z w64 c.args.seen.command) ≡ c.args.seen.command = search (to_z-of_z, rules) in
    let report : List ℕ = report_text c.args.tick c.args.seen.report c.args.seen.off in
    let step : List ℕ = step_text c.args.tick c.args.seen.command in
    IfOk-weaker c.append_step.result _ _
    (λ x wrote. (rw by at wrote) ∙ ap (λ (text : List ℕ). text ++ step) (rw off at c.in_ok-append_report.ensures) ∙ append_assoc c.args.text.now.items report step)
    c.append_step.ensures
