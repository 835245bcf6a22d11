-- What looking back finds is shown.
use Rattle.std.proofs.Common.{◌∙◌, ap}
use Rattle.wrp_l1sync.specs.Pair.{side_of, end_at}
use Rattle.wrp_l1sync.specs.PortAt.{state_by}
use Rattle.wrp_l1sync.proofs.PairLaws.{state_shown}
use Rattle.wrp_l1sync.proofs.pair.L1Pair.state.Goals as goal

pub returns : goal.returns
returns c events stands = state_shown c.args.self.now events (side_of c.args.end) c.state_at.result (c.state_at.ensures ∙ ap (λ s. state_by (end_at s c.args.self.now).port) c.of.ensures) stands
