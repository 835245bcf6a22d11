-- A kept measurement stays near the true offset, also if later commands move both.
use Rattle.wrp_plain.proofs.Steering.{reports_hold_until_tick_holds}
use Rattle.wrp_plain.proofs.law.reports_hold_until_tick.Goals as goal

pub returns : goal.returns
returns c = reports_hold_until_tick_holds
