-- If a measurement is kept there is a report.
use Rattle.std.proofs.Common.{sym, subst, IsSome, Option}
use Rattle.wrp_plain.specs.declared.settings.PlainReport.{PlainReport}
use Rattle.wrp_plain.specs.StandsFor.{marks_at}
use Rattle.wrp_plain.proofs.Least.{least_report_some}
use Rattle.wrp_plain.proofs.servo.Plain.best.Goals as goal

pub unwrap-requires : goal.unwrap-requires
unwrap-requires c =
    let P : Option PlainReport → Type 0 = λ o. IsSome o in
    subst P (sym c.report.ensures.value) (least_report_some c.args.self.now.set (marks_at c.args.self.now) c.requires)
