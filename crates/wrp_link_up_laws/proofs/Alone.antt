-- The runs of which only one thing fails are what they are said to be.
use Rattle.std.proofs.Common.{◌≡◌, refl, arith}
use Rattle.std.proofs.lemmas.Int.{ints}
use Rattle.wrp_base.specs.declared.link.LinkState.TheVariants.{Idle, LinkOn}
use Rattle.wrp_link_up_laws.specs.Laws.{new, changes, lit}
use Rattle.wrp_link_up_laws.specs.Alone.{hasty_pace, hasty_changes, hasty_run, NeedsRetries, NeedsOrder}
use Rattle.wrp_link_up_laws.proofs.Tests.{all_come, is_good}
use Rattle.wrp_link_up_laws.proofs.Worked.{no_sooner}

pub needs_retries : NeedsRetries
needs_retries =
    record {
      served =
          record {
            master_wr = refl;
            slave_wr = refl;
            master_quiet = omega arith;
            slave_quiet = omega arith;
            come = all_come 10 10 (new hasty_run) (changes hasty_run) refl;
            good = is_good hasty_pace (lit hasty_run) hasty_changes refl;
          };
      retry = omega arith;
      locks = omega arith;
      past = omega (arith, ints);
      not_up = λ up. (let x : Idle ≡ LinkOn = up.slave in cc);
    }

pub needs_order : NeedsOrder
needs_order =
    record {
      served = no_sooner.served;
      outlasts = record { waits = omega arith; locks = omega arith };
      past = omega (arith, ints);
      not_up = no_sooner.not_up;
    }
