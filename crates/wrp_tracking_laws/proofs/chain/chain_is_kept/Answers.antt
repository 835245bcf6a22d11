use Rattle.wrp_tracking_laws.proofs.Chains as proof
use Rattle.wrp_tracking_laws.proofs.chain.chain_is_kept.Goals as goal

pub returns-clause-starts : goal.returns-clause-starts
returns-clause-starts c = proof.chain-starts

pub returns-clause-moment : goal.returns-clause-moment
returns-clause-moment c = proof.moment-keeps_chain

pub returns-clause-sample : goal.returns-clause-sample
returns-clause-sample c = proof.sample-keeps_chain
