-- One more is counted, and the greatest is kept.
use Rattle.std.proofs.Common.{◌∙◌, ap}
use Rattle.std.proofs.lemmas.Int.{to_z-of_z}
use Rattle.std.specs.Int.{w128}
use Rattle.std.specs.Prelude.{max, unsigned_abs}
use Rattle.wrp_simulate.proofs.SimLines.{total_more}
use Rattle.wrp_simulate.proofs.totals.Total.with.Goals as goal

pub returns : goal.returns
returns c = λ offs tells.
    total_more offs c.args.off c.args.self _ tells c.saturating_add.ensures
    (c.max.ensures ∙ ap (max c.args.self.worst) (c.unsigned_abs.ensures.value ∙ ap unsigned_abs (to_z-of_z w128 c.args.off c.ranges.off)))
