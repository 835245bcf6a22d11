use Rattle.wrp_changes.proofs.FrameGifts.{none_spelled, one_spelled}
use Rattle.wrp_changes.proofs.giving.frames.sending_in.Goals as goal

pub returns-in-Ok-clause-is : goal.returns-in-Ok-clause-is
returns-in-Ok-clause-is c m spells =
    one_spelled c.args.port c.args.stamp c.in-Ok.message m c.decode.result c.sending.result c.in-Ok.is ((c.decode.ensures.spelled m).1 spells) c.sending.ensures.is

pub returns-in-Err-clause-is : goal.returns-in-Err-clause-is
returns-in-Err-clause-is c m spells = absurd (none_spelled m _ c.decode.result c.in-Err.is ((c.decode.ensures.spelled m).1 spells))
