use Rattle.std.proofs.Common.{ap, ◌∙◌}
use Rattle.toml.specs.View.{view, members_view, table_view}
use Rattle.wrp_calibration_text.specs.Text.{with_member}
use Rattle.wrp_calibration_text.proofs.Inserts.{members_view-insert}
use Rattle.wrp_calibration_text.proofs.text.put.Goals as goal

pub returns : goal.returns
returns c =
    ap members_view c.in_ok-insert.ensures.entries
    ∙ members_view-insert c.args.table.now.entries c.in_ok-from_str.field-0 c.args.value
    ∙ ap (λ key. with_member key (view c.args.value) (table_view c.args.table.now)) c.in_ok-from_str.ensures.ok
