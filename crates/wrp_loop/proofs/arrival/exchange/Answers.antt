use Rattle.wrp_loop.proofs.Adding.{cut_more}
use Rattle.wrp_loop.proofs.arrival.exchange.Goals as goal

pub returns-clause-cut : goal.returns-clause-cut
returns-clause-cut g c = cut_more _ _ _ _ _ _ _ c.in_ok-send.ensures.tells c.take_all.ensures.cut
