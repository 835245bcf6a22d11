use Rattle.wrp_premises.proofs.TriedRates.{still_fibre}
use Rattle.wrp_premises.proofs.premises.rates.fibre_rate.Goals as goal

pub returns-then-is_still : goal.returns-then-is_still
returns-then-is_still c = still_fibre c.args.by.now c.args.dt (c.is_still.ensures.still c.if-is_still.true)
