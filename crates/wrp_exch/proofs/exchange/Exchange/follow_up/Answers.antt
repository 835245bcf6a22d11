-- Without a chain there is nothing that could be matched.
use Rattle.std.proofs.Common.{arith}
use Rattle.std.proofs.lemmas.Grind.{common_steps}
use Rattle.wrp_exch.proofs.NoChain.{last_sync-no_chain}
use Rattle.wrp_exch.proofs.exchange.Exchange.follow_up.Goals as goal

pub returns-clause-no_chain : goal.returns-clause-no_chain
returns-clause-no_chain c = grind (arith, common_steps, last_sync-no_chain)
