-- What looking back finds is shown.
use Rattle.wrp_l1sync.proofs.PairLaws.{last_shown}
use Rattle.wrp_l1sync.proofs.pair.L1Pair.last.Goals as goal

pub returns : goal.returns
returns c events stands = last_shown c.args.self.now events c.numbers.result c.numbers.ensures stands
