-- The run whose first handshake fails is what it is said to be.
use Rattle.std.proofs.Common.{inl, inr, refl, pos, ◌≤ℤ◌, arith}
use Rattle.std.proofs.lemmas.Int.{ints}
use Rattle.wrp_base.specs.declared.link.Role.{Role}
use Rattle.wrp_base.specs.declared.link.Role.TheVariants.{Master, Slave}
use Rattle.wrp_handshake_laws.specs.Ends.{IsAmong, Sending, end_of}
use Rattle.wrp_link_up_laws.specs.Again.{WorkedAgain, again_run, failed, stays_on_again, rests_of}
use Rattle.wrp_link_up_laws.specs.Rest.{IsResting, first_ends, resting_ends}
use Rattle.wrp_link_up_laws.specs.Worked.{pace}
use Rattle.wrp_link_up_laws.proofs.Tests.{all_come, is_good, are_turns}
use Rattle.std.proofs.Common.{◌++◌, ap, sym, subst}

sent_before : (f : Sending) → IsAmong f (end_of (resting_ends again_run) Slave).sent → f.1 ≤ℤ pos 160
sent_before f i = elim i [
  | inl e ↦ subst (λ t. t ≤ℤ pos 160) (sym (ap (λ (x : Sending). x.1) e)) (omega (arith, ints))
  | inr j ↦ elim j [
    | inl e ↦ subst (λ t. t ≤ℤ pos 160) (sym (ap (λ (x : Sending). x.1) e)) (omega (arith, ints))
    | inr none ↦ absurd none
  ]
]

both_rest : (role : Role) → IsResting 1 10 pace.dmax (pos 160) (rests_of role) (end_of (resting_ends again_run) role)
both_rest Master =
    record {
      lit = refl;
      listed = refl;
      idle = refl;
      silent = λ f none. absurd none;
      outlives = omega arith;
      late = inr (omega (arith, ints));
      soon = inl refl;
    }
both_rest Slave =
    record {
      lit = refl;
      listed = refl;
      idle = refl;
      silent = sent_before;
      outlives = omega arith;
      late = inr (omega (arith, ints));
      soon = inr (omega (arith, ints));
    }

pub worked_again : WorkedAgain
worked_again =
    record {
      served =
          record {
            master_wr = refl;
            slave_wr = refl;
            master_quiet = omega arith;
            slave_quiet = omega arith;
            come = all_come 1 10 (first_ends again_run) (stays_on_again ++ failed) refl;
            past = omega (arith, ints);
            resting = both_rest;
            yet = inr (omega arith);
            good = is_good pace (resting_ends again_run) stays_on_again refl;
          };
      outlast =
          record {
            master = record { retry = omega arith; waits = omega arith; locks = omega arith };
            slave = record { retry = omega arith; waits = omega arith; locks = omega arith };
          };
      in_turn =
          record {
            master = record { waits = omega arith; locks = omega arith };
            slave = record { waits = omega arith; locks = omega arith };
            in_turn = are_turns (resting_ends again_run) stays_on_again refl;
          };
      past = omega (arith, ints);
    }
