use Rattle.std.proofs.Common.{◌≡◌, ◌↔◌, Some, None}
use Rattle.toml.specs.View.{table_view}
use Rattle.wrp_caldb.specs.Calibration.{first_place, IsRefused, IsAccepted}
use Rattle.wrp_caldb.specs.Refusal.{least_of}
use Rattle.wrp_calibration_text.proofs.Refusals.{least_exact, least_none, on_answer}
use Rattle.wrp_calibration_text.proofs.judging.refusal.Goals as goal

pub returns-clause-refused : goal.returns-clause-refused
returns-clause-refused c code place =
    let first = first_place c.args.others (table_view c.args.doc.now) in
    on_answer (λ least. (least ≡ Some (code, place)) ↔ IsRefused c.args.others (table_view c.args.doc.now) code place)
    (least_of first) c.least_of.result c.least_of.ensures (least_exact first code place)

pub returns-clause-taken : goal.returns-clause-taken
returns-clause-taken c =
    let first = first_place c.args.others (table_view c.args.doc.now) in
    on_answer (λ least. (least ≡ None) ↔ IsAccepted c.args.others (table_view c.args.doc.now))
    (least_of first) c.least_of.result c.least_of.ensures (least_none first)
