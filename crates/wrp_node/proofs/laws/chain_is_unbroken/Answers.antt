-- A carrier that comes while there is one ends the link, and with it the chain.
use Rattle.wrp_node.proofs.Unbroken.{ServoLaws, chain_is_unbroken, chain_is_locked}
use Rattle.wrp_node.proofs.laws.chain_is_unbroken.Goals as goal

pub returns : goal.returns
returns c =
    let laws : ServoLaws = record {
      since = c.chain_since.ensures;
      held = c.chain_is_held.ensures;
      signals = c.chain_has_signals.ensures;
      sum = c.phase_is_sum.ensures.sum;
    } in
    record { since = chain_is_unbroken laws; locked = chain_is_locked laws }
