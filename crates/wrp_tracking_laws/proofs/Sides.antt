-- The sync side and the delay side of an exchange: what two stamps and the phase that one of them latched give, from
-- only the stamps, the flight and the waiting.
use Rattle.std.proofs.Common.{◌≡◌, ℕ, ℤ, ◌+◌, ◌≤◌, ◌-ℤ◌, ◌+ℤ◌, arith}
use Rattle.std.proofs.lemmas.Int.{ints}
use Rattle.std.specs.Prelude.{unsigned_abs}
use Rattle.wrp_base.specs.Closeness.{IsWithin}
use Rattle.wrp_bounds.specs.declared.numbers.HopNumbers.{HopNumbers}
use Rattle.wrp_bounds.specs.Hop.{detector_error, gap_motion, reach_motion, down_error, up_error}
use Rattle.wrp_tracking_laws.specs.Moment.{Moment, phase_at, ways_at}
use Rattle.wrp_tracking_laws.specs.Rates.{KeepsRates, KeepsParentRate}
use Rattle.wrp_tracking_laws.proofs.Sums.{sync_stamps, sync_side, delay_stamps, delay_side, moved_three, moved_two, moved_one}

-- a stamp latched the phase u of a good sample, which gives the chain's constant, at most a gap before
pub record Latched (hop : HopNumbers) (constant u : ℤ) (sample stamped : Moment) (wait : ℕ) : Type 0 where
  pub since : KeepsRates hop sample stamped wait
  pub near : wait ≤ hop.gap_time
  pub phase : IsWithin (detector_error hop) (u -ℤ phase_at sample) constant

-- a frame was on the fibre this long
pub record Flown (hop : HopNumbers) (sent came : Moment) (way : ℤ) (flight : ℕ) : Type 0 where
  pub time : came.time ≡ sent.time +ℤ way
  pub rates : KeepsParentRate hop sent came flight
  pub short : flight ≤ hop.reach

-- what is known of a Sync: the parent's send stamp, the way down, the own receive stamp and its phase
pub record SyncFacts (hop : HopNumbers) (constant t1 t2 u2 : ℤ) (sent sample came : Moment) (flight wait : ℕ) : Type 0 where
  pub departure : IsWithin hop.parent.e_tx t1 (sent.time +ℤ sent.parent)
  pub flown : Flown hop sent came sent.down flight
  pub arrival : IsWithin hop.own.e_tag t2 (came.time +ℤ came.own)
  pub latched : Latched hop constant u2 sample came wait

-- what is known of a Delay_Req: the own send stamp and its phase, the way up, the parent's receive stamp
pub record DelayFacts (hop : HopNumbers) (constant t3 t4 u3 : ℤ) (sample sent came : Moment) (wait flight : ℕ) : Type 0 where
  pub departure : IsWithin hop.own.e_tx t3 (sent.time +ℤ sent.own)
  pub flown : Flown hop sent came sent.up flight
  pub arrival : IsWithin hop.parent.e_tag t4 (came.time +ℤ came.parent)
  pub latched : Latched hop constant u3 sample sent wait

-- differences of differences
grouped : (a1 b1 c1 a2 b2 c2 : ℤ) (h : ℕ) → unsigned_abs ((a1 -ℤ a2) -ℤ (b1 -ℤ b2) +ℤ (c1 -ℤ c2)) ≤ h → IsWithin h (a1 -ℤ b1 +ℤ c1) (a2 -ℤ b2 +ℤ c2)
grouped a1 b1 c1 a2 b2 c2 h moved = omega (arith, ints)

grouped_two : (b1 c1 b2 c2 : ℤ) (h : ℕ) → unsigned_abs ((c1 -ℤ c2) -ℤ (b1 -ℤ b2)) ≤ h → IsWithin h (c1 -ℤ b1) (c2 -ℤ b2)
grouped_two b1 c1 b2 c2 h moved = omega (arith, ints)

-- in the gap between good samples the phase moves at most by the drift's part
pub phase_moved : (hop : HopNumbers) (a b : Moment) (time : ℕ) → KeepsRates hop a b time → time ≤ hop.gap_time → IsWithin (gap_motion hop) (phase_at b) (phase_at a)
phase_moved hop a b time rates near =
    let moved : unsigned_abs ((b.own -ℤ a.own) -ℤ (b.parent -ℤ a.parent) +ℤ (b.down -ℤ a.down)) ≤ gap_motion hop =
    moved_three (b.own -ℤ a.own) (b.parent -ℤ a.parent) (b.down -ℤ a.down) hop.own.rate hop.parent.rate time hop.gap_time rates.own rates.above.parent rates.above.down near in
    grouped b.own b.parent b.down a.own a.parent a.down (gap_motion hop) moved

-- while a frame is on the fibre, the parent and the way down move at most by the flight's part
flight_moved : (hop : HopNumbers) (a b : Moment) (time : ℕ) → KeepsParentRate hop a b time → time ≤ hop.reach → IsWithin (reach_motion hop) (b.down -ℤ b.parent) (a.down -ℤ a.parent)
flight_moved hop a b time rates near =
    let moved : unsigned_abs ((b.down -ℤ a.down) -ℤ (b.parent -ℤ a.parent)) ≤ reach_motion hop =
    moved_two (b.parent -ℤ a.parent) (b.down -ℤ a.down) hop.parent.rate time hop.reach rates.parent rates.down near in
    grouped_two b.parent b.down a.parent a.down (reach_motion hop) moved

parent_moved : (hop : HopNumbers) (a b : Moment) (time : ℕ) → KeepsParentRate hop a b time → time ≤ hop.reach → IsWithin (reach_motion hop) b.parent a.parent
parent_moved hop a b time rates near = moved_one (b.parent -ℤ a.parent) hop.parent.rate time hop.reach rates.parent near

turned : (e : ℕ) (a b : ℤ) → IsWithin e a b → IsWithin e b a
turned e a b h = omega (arith, ints)

-- a Sync gives the chain's constant C: t2 - t1 - u2 is within the error of the way down of -C
pub sync-side : (hop : HopNumbers) (constant t1 t2 u2 : ℤ) (sent sample came : Moment) (flight wait : ℕ) → SyncFacts hop constant t1 t2 u2 sent sample came flight wait →
    IsWithin (down_error hop) ((t1 -ℤ t2) +ℤ u2) constant
sync-side hop constant t1 t2 u2 sent sample came flight wait facts =
    sync_side t1 t2 u2 (phase_at came) (phase_at sample) constant (hop.parent.e_tx + hop.own.e_tag + reach_motion hop) (gap_motion hop) (detector_error hop)
    (sync_stamps sent.time came.time t1 t2 sent.down came.down came.own sent.parent came.parent hop.parent.e_tx hop.own.e_tag (reach_motion hop) facts.departure facts.arrival facts.flown.time
    (turned (reach_motion hop) (came.down -ℤ came.parent) (sent.down -ℤ sent.parent) (flight_moved hop sent came flight facts.flown.rates facts.flown.short)))
    (phase_moved hop sample came wait facts.latched.since facts.latched.near) facts.latched.phase

-- a Delay_Req gives C and both ways as they were when it departed: t4 - t3 + u3 is within the error of the way up of
-- their sum
pub delay-side : (hop : HopNumbers) (constant t3 t4 u3 : ℤ) (sample sent came : Moment) (wait flight : ℕ) → DelayFacts hop constant t3 t4 u3 sample sent came wait flight →
    IsWithin (up_error hop) ((t4 -ℤ t3) +ℤ u3) (constant +ℤ ways_at sent)
delay-side hop constant t3 t4 u3 sample sent came wait flight facts =
    delay_side t3 t4 u3 (phase_at sent) (phase_at sample) constant (ways_at sent) (hop.own.e_tx + hop.parent.e_tag + reach_motion hop) (gap_motion hop) (detector_error hop)
    (delay_stamps sent.time came.time t3 t4 sent.down sent.up sent.own sent.parent came.parent hop.own.e_tx hop.parent.e_tag (reach_motion hop) facts.departure facts.arrival facts.flown.time
    (parent_moved hop sent came flight facts.flown.rates facts.flown.short))
    (phase_moved hop sample sent wait facts.latched.since facts.latched.near) facts.latched.phase
