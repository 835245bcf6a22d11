-- The error sum worked out on the numbers of the reference network: a grandmaster, a switch below it and a
-- leaf below that, at either clock (this project's profile).
use Rattle.std.specs.Prelude.{ℕ, pos, ◌≡◌}
use Rattle.wrp_base.specs.declared.time.Clock.{Clock}
use Rattle.wrp_base.specs.declared.time.Clock.TheVariants.{Mhz125, Mhz62}
use Rattle.wrp_bounds.specs.declared.numbers.HopNumbers.{HopNumbers}
use Rattle.wrp_bounds.specs.Hop.{detector_error, gap_motion, reach_motion, down_error, up_error, age_motion, both_ways_error, scaled_error, estimate_error, hop_bound}
use Rattle.wrp_bounds.specs.Motion.{motion}
use Rattle.wrp_tracking_laws.specs.ChainPhase.{HasPhaseRoom}

-- a hop of the reference network: send stamps within 10 ps, tags within 2 steps of 32,000 tau, clocks
-- within 500 parts in 10^12, ticks of at most 11 ms, a gap of 2 and an age of 300 ticks
abbrev pub reference_hop : Clock → (parent_rate : ℕ) → HopNumbers
reference_hop clock parent_rate = record {
  clock = clock;
  track_tau = 3_276_800;
  loop_tau = 3_276_800;
  own = record { e_tx = 655_360; e_tag = 64_000; rate = 500 };
  parent = record { e_tx = 655_360; e_tag = 64_000; rate = parent_rate };
  beat = 4;
  kappa = pos 73_622_176;
  e_db = 1_310_720;
  e_asym = 1_310_720;
  law_err = 1;
  gap_time = 2_162_688_000_000_000;
  age_time = 224_264_192_000_000_000;
  reach = 6_553_600_000_000;
}

-- the hop of the switch, whose parent is the grandmaster
abbrev pub switch_hop : HopNumbers
switch_hop = reference_hop Mhz125 0

-- each term of its bound, in tau
pub record SwitchTerms : Type 0 where
  pub detector : detector_error switch_hop ≡ 160_000
  pub gap : gap_motion switch_hop ≡ 1_085_670
  pub reach : reach_motion switch_hop ≡ 14
  pub down : down_error switch_hop ≡ 1_965_044
  pub up : up_error switch_hop ≡ 1_965_044
  pub age : age_motion switch_hop ≡ 897_057
  pub both_ways : both_ways_error switch_hop ≡ 10_070_025
  pub scaled : scaled_error switch_hop ≡ 5_035_687
  pub estimate : estimate_error switch_hop ≡ 13_075_619
  pub hop : hop_bound switch_hop ≡ 19_629_219
  pub room : HasPhaseRoom Mhz125 160_000 1_085_670

-- the bounds of the hops at either clock, and how far a node moves in HOLDOVER at 10 parts in 10^12, in tau
pub record ReferenceBounds : Type 0 where
  pub switch : SwitchTerms
  pub leaf : hop_bound (reference_hop Mhz125 500) ≡ 22_879_949
  pub slow_switch : hop_bound (reference_hop Mhz62 0) ≡ 20_109_241
  pub slow_leaf : hop_bound (reference_hop Mhz62 500) ≡ 23_359_970
  pub held : motion 10 231_407_616_000_000_000 ≡ 2_314_077
