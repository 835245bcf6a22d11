use Rattle.wrp_tracking_laws.proofs.Chains as proof
use Rattle.wrp_tracking_laws.proofs.chain.stamps_tell_constant.Goals as goal

pub returns-clause-sync : goal.returns-clause-sync
returns-clause-sync c = proof.sync-tells_constant

pub returns-clause-delay : goal.returns-clause-delay
returns-clause-delay c = proof.delay-tells_ways
