-- What is reported at the end is expected after the lines that were taken.
use Rattle.std.proofs.Common.{subst}
use Rattle.std.proofs.lemmas.Result.{IfOk-weaker}
use Rattle.wrp_records.specs.declared.machine.Closing.{Closing}
use Rattle.wrp_calib.specs.LinesStand.{Ends}
use Rattle.wrp_calib.proofs.lines.CalibLinesMachine.close.Goals as goal

pub returns-clause-closed : goal.returns-clause-closed
returns-clause-closed c = λ lines.
    IfOk-weaker c.end.result _ _ (λ closing ends is has. subst (λ (told : Closing). Ends lines told c.end.new.text.items) is (ends lines has)) c.end.ensures

pub returns-clause-barred : goal.returns-clause-barred
returns-clause-barred c = λ lines.
    IfOk-weaker c.end.result _ _ (λ closing ends is has. subst (λ (told : Closing). Ends lines told c.end.new.text.items) is (ends lines has)) c.end.ensures
