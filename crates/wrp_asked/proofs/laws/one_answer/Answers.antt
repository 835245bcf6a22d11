-- One status and one text are expected.
use Rattle.wrp_asked.proofs.OneAnswer.{one_answer}
use Rattle.wrp_asked.proofs.laws.one_answer.Goals as goal

pub returns : goal.returns
returns c = one_answer (record { run = c.one_run.ensures.run; node = c.one_run.ensures.node; audit = c.one_audit.ensures; last = c.told_last.ensures })
