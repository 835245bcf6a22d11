-- A request that is answered has its sending, so a further one is not kept.
use Rattle.std.proofs.Common.{arith}
use Rattle.std.proofs.lemmas.Grind.{common_steps}
use Rattle.wrp_exch.proofs.Sendings.{sent-answered}
use Rattle.wrp_exch.proofs.exchange.Exchange.req_sent.Goals as goal

pub returns-clause-kept : goal.returns-clause-kept
returns-clause-kept c = grind (arith, common_steps, sent-answered)
