use Rattle.std.proofs.Common.{◌≡◌, ◌↔◌, Some, None}
use Rattle.toml.specs.View.{table_view}
use Rattle.wrp_caldb.specs.Refusal.{least_of}
use Rattle.wrp_calibration_text.proofs.Refusals.{least_exact, least_none, on_answer}
use Rattle.wrp_network_text.specs.Places.{first_place, IsRefused, IsTaken}
use Rattle.wrp_network_text.proofs.judging.refusal.Goals as goal

pub returns-clause-refused : goal.returns-clause-refused
returns-clause-refused c code place =
    let first = first_place (table_view c.args.doc.now) in
    on_answer (λ least. (least ≡ Some (code, place)) ↔ IsRefused (table_view c.args.doc.now) code place)
    (least_of first) c.least_of.result c.least_of.ensures (least_exact first code place)

pub returns-clause-taken : goal.returns-clause-taken
returns-clause-taken c =
    let first = first_place (table_view c.args.doc.now) in
    on_answer (λ least. (least ≡ None) ↔ IsTaken (table_view c.args.doc.now))
    (least_of first) c.least_of.result c.least_of.ensures (least_none first)
