use Rattle.std.proofs.Common.{◌≤◌, Some, false, ap, sym, subst, ◌∙◌}
use Rattle.std.specs.Prelude.{string_bytes}
use Rattle.std.specs.Str.{IsUtf8}
use Rattle.toml.specs.Data.{members_depth}
use Rattle.toml.specs.Parse.{parse_document}
use Rattle.toml.specs.Text.{IsDocumentText}
use Rattle.wrp_calibration_text.specs.Reading.{IsTextOf}
use Rattle.wrp_calibration_text.specs.Text.{document_of, IsTextDue}
use Rattle.wrp_calibration_text.proofs.Depth.{document_depth}
use Rattle.wrp_calibration_text.proofs.Migration.{same_again}
use Rattle.wrp_calibration_text.proofs.OneText.{one_text}
use Rattle.wrp_calibration_text.proofs.text.CalDbWriteCalibration.text.Goals as goal

pub returns : goal.returns
returns c =
    let shallow = subst (λ ms. members_depth ms ≤ 80) (sym c.in_ok-document.ensures) (document_depth c.args.self.now) in
    let text : IsTextOf (document_of c.args.self.now) c.octets_of.result.items = (
      subst IsUtf8 (sym c.octets_of.ensures.value) c.octets_of.ensures.utf8,
      ap parse_document c.octets_of.ensures.value ∙ c.in_ok-text.ensures.reads_back shallow ∙ ap Some c.in_ok-document.ensures,
    ) in
    let due : IsTextDue c.args.self.now c.octets_of.result.items =
    subst (IsDocumentText false (document_of c.args.self.now)) (sym c.octets_of.ensures.value)
    (subst (λ ms. IsDocumentText false ms (string_bytes c.in_ok-text.text)) c.in_ok-document.ensures c.in_ok-text.ensures.printed) in
    let listed = c.lists-lists.ensures.listed in
    record { due = due; only = λ other is. one_text c.args.self.now other c.octets_of.result.items is due; text = text; same = same_again c.args.self.now c.octets_of.result.items listed text }
