-- At the end of the scan the best report is the first of the least bound.
use Rattle.std.proofs.Common.{◌≡◌, ℤ, List, [], map, Option, ◌∙◌, subst}
use Rattle.wrp_plain.specs.declared.settings.PlainReport.{PlainReport}
use Rattle.wrp_plain.specs.declared.kept.Kept.{Kept}
use Rattle.wrp_plain.specs.Report.{report_at, least_report}
use Rattle.wrp_plain.specs.StandsFor.{PlainAt, marks_at}
use Rattle.wrp_plain.proofs.Least.{Scans, least_report_is}
use Rattle.wrp_plain.proofs.servo.Plain.report.Goals as goal

ended : (plain : PlainAt) (best : Option PlainReport) (moved : ℤ) (left : List Kept) → Scans plain best moved left → left ≡ [] →
    best ≡ least_report (map (report_at plain.set) (marks_at plain))
ended plain best moved left scans none =
    let P : List Kept → Type 0 = λ l. Scans plain best moved l in
    let last : Scans plain best moved [] = subst P none scans in
    last.same ∙ least_report_is (map (report_at plain.set) (marks_at plain))

pub returns-clause-value : goal.returns-clause-value
returns-clause-value c =
    ended c.args.self.now c.loop-kept.scan.best c.loop-kept.scan.moved c.loop-kept.kept-iterator c.loop-kept.invariant (c.in-None.ensures.steps.0)
