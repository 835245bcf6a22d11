-- The worked hop, number by number.
use Rattle.std.proofs.Common.{◌≡◌, ℕ, ℤ, pos, neg_ℤ, ◌+ℤ◌, ◌-ℤ◌, ◌*ℤ◌, ◌*◌, ◌^◌, ◌≤◌, refl, arith}
use Rattle.std.proofs.lemmas.Int.{ints}
use Rattle.wrp_base.specs.Closeness.{IsWithin}
use Rattle.wrp_bounds.specs.declared.numbers.HopNumbers.{HopNumbers}
use Rattle.wrp_bounds.specs.Hop.{detector_error, down_error, up_error, age_motion}
use Rattle.wrp_servo.specs.Measuring.{x_of}
use Rattle.wrp_tracking_laws.specs.Moment.{Moment, phase_at, ways_at}
use Rattle.wrp_tracking_laws.specs.Rates.{KeepsRates}
use Rattle.wrp_tracking_laws.specs.ErrorSum.{sync_sum, delay_sum, numerator_of}
use Rattle.wrp_tracking_laws.specs.Reference.{switch_hop}
use Rattle.wrp_tracking_laws.specs.Worked.{worked_moment, worked_deltas, worked_four, worked_answer, WorkedHop}

-- what is equal is close
exact : (e : ℕ) (a b : ℤ) → a ≡ b → IsWithin e a b
exact e a b same = omega (arith, ints)

-- no time passes
at_rest : (hop : HopNumbers) (m : Moment) → KeepsRates hop m m 0
at_rest hop m = record {
  above = record {
    later = omega (arith, ints);
    parent = omega (arith, ints);
    down = omega (arith, ints);
    up = omega (arith, ints);
  };
  own = omega (arith, ints);
}

-- the loop's error, and the residual
small : 500_000 ≤ 3_276_800
small = omega arith

pub worked-hop : WorkedHop
worked-hop = record {
  facts = record {
    stamps = record {
      ways = ways_at worked_moment;
      sync = exact (down_error switch_hop) (sync_sum worked_four) (neg_ℤ (pos 551_829_936_064)) refl;
      delay = exact (up_error switch_hop) (delay_sum worked_four) ((neg_ℤ (pos 551_829_936_064)) +ℤ ways_at worked_moment) refl;
      moved = exact (age_motion switch_hop) (ways_at worked_moment) (ways_at worked_moment) refl;
    };
    phase = record {
      phase = exact (detector_error switch_hop) (pos 500_000 -ℤ phase_at worked_moment) (neg_ℤ (pos 551_829_936_064)) refl;
      wait = 0;
      since = at_rest switch_hop worked_moment;
      near = omega arith;
    };
    fibre = record {
      ports = worked_deltas;
      down_fibre = pos 549_829_436_064;
      up_fibre = pos 549_682_191_712;
      down = refl;
      up = refl;
      database = record {
        txm = exact (1_310_720) (pos 1_000_000_000) (pos 1_000_000_000) refl;
        rxs = exact (1_310_720) (pos 1_000_000_000) (pos 1_000_000_000) refl;
        txs = exact (1_310_720) (pos 1_000_000_000) (pos 1_000_000_000) refl;
        rxm = exact (1_310_720) (pos 1_000_000_000) (pos 1_000_000_000) refl;
      };
      asymmetry = exact (2 ^ 40 * 1_310_720) (pos (2 ^ 40) *ℤ pos 549_829_436_064) (numerator_of (pos 73_622_176) (pos 549_829_436_064 +ℤ pos 549_682_191_712)) refl;
    };
    answer = exact (2 ^ 40 * 1) (pos (2 ^ 40) *ℤ worked_answer) (numerator_of (pos 73_622_176) (x_of worked_deltas worked_four)) refl;
  };
  track = record {
    loop_limit = small;
    track_limit = small;
  };
  estimate = refl;
}
