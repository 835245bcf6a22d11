use Rattle.wrp_loop.proofs.Saying.{by_message, by_none}
use Rattle.wrp_loop.proofs.fate.is_by.Goals as goal

pub returns-in-Ok : goal.returns-in-Ok
returns-in-Ok c = by_message c.args.port c.args.octets.now _ _ _ c.in-Ok.is c.decode.ensures.spelled c.eq.ensures

pub returns-in-Err : goal.returns-in-Err
returns-in-Err c = by_none c.args.port c.args.octets.now _ _ c.in-Err.is c.decode.ensures.spelled
