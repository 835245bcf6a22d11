-- A two-step exchange: its four stamps, and the list of calls that it stands for.
use Rattle.std.specs.Prelude.{◌≡◌, ℕ, ◌^◌, ◌<◌, min, unsigned_abs, List, Option, None}
use Rattle.std.specs.Option.{option_map, option_and_then}
use Rattle.circular_buffer.specs.Buffer.{Buffer, buffer}
use Rattle.wrp_base.specs.declared.measurement.Four.{Four}
use Rattle.wrp_exch.specs.declared.ring.GoodSample.{GoodSample}
use Rattle.wrp_exch.specs.declared.sync.SyncPair.{SyncPair}
use Rattle.wrp_exch.specs.declared.sync.SyncHalf.{SyncHalf}
use Rattle.wrp_exch.specs.declared.delay.DelayPair.{DelayPair}
use Rattle.wrp_exch.specs.declared.delay.DelayHalf.{DelayHalf}
use Rattle.wrp_exch.specs.Call.{Call}
use Rattle.wrp_exch.specs.Samples.{last_samples}
use Rattle.wrp_exch.specs.Chain.{first_sample}
use Rattle.wrp_exch.specs.SyncPair.{sync_pair}
use Rattle.wrp_exch.specs.DelayPair.{delay_pair}
use Rattle.wrp_exch.specs.SyncHalf.{sync_half}
use Rattle.wrp_exch.specs.DelayHalf.{delay_half}

-- the four stamps of the two pairs; the tick is the older of theirs
abbrev pub four_from : SyncPair → DelayPair → Four
four_from s d = record { t1 = s.t1; t2 = s.t2; t3 = d.t3; t4 = d.t4; u2 = s.u2; u3 = d.u3; tick = min s.tick d.tick }

-- the four, if both pairs are there
abbrev pub join_pairs : Option SyncPair → Option DelayPair → Option Four
join_pairs sync delay = option_and_then (λ s. option_map (four_from s) delay) sync

-- the newest matched four after these calls, with a ring of `ring` samples
abbrev pub four_of : ℕ → List Call → Option Four
four_of ring calls = join_pairs (sync_pair ring calls) (delay_pair ring calls)

-- each of the four times lies strictly between -2^105 and 2^105
abbrev pub HasTimes : Four → Type 0
HasTimes f = (unsigned_abs f.t1 < 2 ^ 105) × (unsigned_abs f.t2 < 2 ^ 105) × (unsigned_abs f.t3 < 2 ^ 105) × (unsigned_abs f.t4 < 2 ^ 105)

-- what an exchange keeps
pub record ExchangeAt : Type 0 where
  pub ring : Buffer GoodSample
  pub first : Option ℕ
  pub sync : SyncHalf
  pub delay : DelayHalf

-- an exchange whose chain begins at this sample, if one does, with its samples and nothing else kept
abbrev pub renewed : ExchangeAt → Option ℕ → ExchangeAt
renewed e first =
    record {
      ring = e.ring;
      first = first;
      sync = record { pending = None; pair = None };
      delay = record { request = None; pair = None };
    }

-- an exchange with a ring of `ring` samples stands for these calls: it keeps what looking back finds
abbrev pub StandsFor : ℕ → ExchangeAt → List Call → Type 0
StandsFor ring exchange calls =
    exchange
    ≡ record {
      ring = buffer (last_samples ring calls) ring;
      first = first_sample calls;
      sync = sync_half ring calls;
      delay = delay_half ring calls;
    }
