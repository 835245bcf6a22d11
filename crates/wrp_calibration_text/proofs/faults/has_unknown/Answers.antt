use Rattle.wrp_calibration_text.proofs.Values.{any_unknown}
use Rattle.wrp_calibration_text.proofs.faults.has_unknown.Goals as goal

pub loop-key-init : goal.loop-key-init
loop-key-init c = rw (c.into_iter-key-iterator.ensures.into_iter_gives, c.keys-key-items.ensures.rest) (any_unknown c.args.rows.now c.args.table.now.entries)
