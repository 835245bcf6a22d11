-- What looking back finds is shown.
use Rattle.std.proofs.Common.{◌∙◌, ap}
use Rattle.wrp_l1sync.specs.Pair.{side_of, end_at}
use Rattle.wrp_l1sync.proofs.PairLaws.{ticks_shown}
use Rattle.wrp_l1sync.proofs.pair.L1Pair.ticks.Goals as goal

pub returns : goal.returns
returns c events stands = ticks_shown c.args.self.now events (side_of c.args.end) c.ticks_at.result (c.ticks_at.ensures ∙ ap (λ s. (end_at s c.args.self.now).ticks) c.of.ensures) stands
