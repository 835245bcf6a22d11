-- The four's times are in their ranges.
use Rattle.std.proofs.Common.{◌^◌, ◌<◌, Option, Some, None, IfSome, unsigned_abs}
use Rattle.wrp_exch.specs.declared.sync.SyncPair.{SyncPair}
use Rattle.wrp_exch.specs.declared.delay.DelayPair.{DelayPair}
use Rattle.wrp_exch.specs.Exchange.{join_pairs, HasTimes}

-- the times of both pairs are the times of the four
pub join_pairs-times : (sync : Option SyncPair) (delay : Option DelayPair)
    → IfSome sync (λ p. (unsigned_abs p.t1 < 2 ^ 105) × (unsigned_abs p.t2 < 2 ^ 105))
    → IfSome delay (λ p. (unsigned_abs p.t3 < 2 ^ 105) × (unsigned_abs p.t4 < 2 ^ 105))
    → IfSome (join_pairs sync delay) HasTimes
join_pairs-times None delay down up = tt
join_pairs-times (Some s) None down up = tt
join_pairs-times (Some s) (Some d) down up = (down.0, down.1, up.0, up.1)
