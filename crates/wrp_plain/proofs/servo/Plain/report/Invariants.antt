use Rattle.wrp_plain.proofs.Least.{Scans}
use Rattle.wrp_plain.proofs.servo.Plain.report.Given as goal

abbrev pub invariant-loop-kept : goal.invariant-loop-kept
invariant-loop-kept l = Scans l.self l.scan.best l.scan.moved l.kept-iterator
