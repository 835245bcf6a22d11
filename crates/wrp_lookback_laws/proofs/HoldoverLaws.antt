-- HOLDOVER over the list of calls.
use Rattle.std.proofs.Common.{◌≡◌, ◌<◌, true, List}
use Rattle.wrp_servo.specs.Call.{Call, ServoSetting, run}
use Rattle.wrp_servo.specs.Holdover.{InHoldover, HoldoverSince}
use Rattle.wrp_servo.specs.Table.{is_track}
use Rattle.wrp_lookback_laws.specs.Holdovers.{HoldoverStands, HoldoverLooksBack}
use Rattle.wrp_lookback_laws.proofs.TrackCauses.{TrackKnown, leaves-list, list-leaves}
use Rattle.wrp_lookback_laws.proofs.TrackLaws.{track_looks_back}

stands : TrackKnown → (x : ServoSetting) (calls : List Call) → 0 < x.set.lock_samples → InHoldover x calls → HoldoverStands x calls
stands known x calls positive t = record {
  since = t.since;
  leave = t.leave;
  before = t.before;
  splits = t.splits;
  track = (track_looks_back known x t.before positive).0 t.stood;
  left = leaves-list known x t.before t.leave positive t.stood t.left;
  not_reset = t.no_reset;
  none_since = t.none_since;
  few_ticks = t.few_ticks;
}

from-stands : TrackKnown → (x : ServoSetting) (calls : List Call) → 0 < x.set.lock_samples → HoldoverStands x calls → InHoldover x calls
from-stands known x calls positive t =
    let stood : is_track (run x t.before).state ≡ true = (track_looks_back known x t.before positive).1 t.track in
    record {
      since = t.since;
      leave = t.leave;
      before = t.before;
      splits = t.splits;
      stood = stood;
      left = list-leaves known x t.before t.leave positive stood t.left;
      no_reset = t.not_reset;
      none_since = t.none_since;
      few_ticks = t.few_ticks;
    }

pub holdover_looks_back : TrackKnown → HoldoverSince → HoldoverLooksBack
holdover_looks_back known law x calls positive lasts = (
  λ h. stands known x calls positive ((law x calls lasts).0 h),
  λ t. (law x calls lasts).1 (from-stands known x calls positive t),
)
