-- The worked runs are what they are said to be.
use Rattle.std.proofs.Common.{◌≡◌, refl, true, List, arith}
use Rattle.std.proofs.lemmas.Int.{ints}
use Rattle.wrp_base.specs.declared.link.LinkState.TheVariants.{Calibration, Calibrated, LinkOn}
use Rattle.wrp_handshake_laws.specs.Ends.{Change}
use Rattle.wrp_link_up_laws.specs.Laws.{new, changes, lit, IsServed, BothOutlast, BothInTurn}
use Rattle.wrp_link_up_laws.specs.Slow.{slow_pace, slow_changes, slow_run, NoSooner}
use Rattle.wrp_link_up_laws.specs.Worked.{pace, on_time, stays_on, run_of, WorkedUp, NoSoonerInTurn}
use Rattle.wrp_link_up_laws.proofs.Tests.{come, good, turns, all_come, is_good, are_turns}

served_by : (since : List Change) → come 1 10 (new (run_of since)) (changes (run_of since)) ≡ true → good pace (lit (run_of since)) since ≡ true → IsServed 1 10 pace (run_of since)
served_by since may well =
    record {
      master_wr = refl;
      slave_wr = refl;
      master_quiet = omega arith;
      slave_quiet = omega arith;
      come = all_come 1 10 (new (run_of since)) (changes (run_of since)) may;
      good = is_good pace (lit (run_of since)) since well;
    }

both_outlast : (since : List Change) → BothOutlast 10 pace (run_of since)
both_outlast since =
    record {
      master = record { retry = omega arith; waits = omega arith; locks = omega arith };
      slave = record { retry = omega arith; waits = omega arith; locks = omega arith };
    }

both_in_turn : (since : List Change) → turns (lit (run_of since)) since ≡ true → BothInTurn 10 pace (run_of since)
both_in_turn since in_turn =
    record {
      master = record { waits = omega arith; locks = omega arith };
      slave = record { waits = omega arith; locks = omega arith };
      in_turn = are_turns (lit (run_of since)) since in_turn;
    }

pub worked_up : WorkedUp
worked_up =
    record {
      served = served_by stays_on refl refl;
      outlast = both_outlast stays_on;
      in_turn = both_in_turn stays_on refl;
      past = omega (arith, ints);
    }

pub no_sooner_in_turn : NoSoonerInTurn
no_sooner_in_turn =
    record {
      served = served_by on_time refl refl;
      in_turn = both_in_turn on_time refl;
      passed = refl;
      not_up = λ up. (let x : Calibration ≡ LinkOn = up.slave in cc);
    }

pub no_sooner : NoSooner
no_sooner =
    record {
      served =
          record {
            master_wr = refl;
            slave_wr = refl;
            master_quiet = omega arith;
            slave_quiet = omega arith;
            come = all_come 10 10 (new slow_run) (changes slow_run) refl;
            good = is_good slow_pace (lit slow_run) slow_changes refl;
          };
      outlast =
          record {
            master = record { retry = omega arith; waits = omega arith; locks = omega arith };
            slave = record { retry = omega arith; waits = omega arith; locks = omega arith };
          };
      passed = refl;
      not_up = λ up. (let x : Calibrated ≡ LinkOn = up.slave in cc);
    }
