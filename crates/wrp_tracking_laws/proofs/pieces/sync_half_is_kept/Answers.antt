use Rattle.wrp_tracking_laws.proofs.SyncHalves as proof
use Rattle.wrp_tracking_laws.proofs.pieces.sync_half_is_kept.Goals as goal

pub returns-clause-sync : goal.returns-clause-sync
returns-clause-sync c = proof.sync-keeps

pub returns-clause-follow_up : goal.returns-clause-follow_up
returns-clause-follow_up c = proof.follow_up-keeps

pub returns-clause-sample : goal.returns-clause-sample
returns-clause-sample c = proof.sample-keeps_sync

pub returns-clause-others : goal.returns-clause-others
returns-clause-others c = proof.others-keep_sync
