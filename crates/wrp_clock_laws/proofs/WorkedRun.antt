-- The worked run, by computing it.
use Rattle.std.proofs.Common.{◌≡◌, refl, ℕ, ◌+◌, ℤ, pos, ◌<ℤ◌, not, Bool, true, false, Err, List, [], ◌∷◌, arith, lit<, lit≤}
use Rattle.std.proofs.lemmas.Bool.{and_parts}
use Rattle.std.proofs.lemmas.Int.{ints}
use Rattle.std.specs.List.{list_all}
use Rattle.wrp_frame.specs.declared.fault.FrameFault.TheVariants.{Short}
use Rattle.wrp_course.specs.Checks.{AllHold, Check}
use Rattle.wrp_course.specs.declared.event.Event.{Event}
use Rattle.wrp_course.specs.Premises.{Accepts, checks_of}
use Rattle.wrp_course.specs.Rows.{comes_up}
use Rattle.wrp_course.specs.Run.{Happened, world_after}
use Rattle.wrp_course.specs.WorldAt.{reading}
use Rattle.wrp_clock_laws.specs.WorkedRun.{RunsBackward, earlier, later, loses, worked}
use Rattle.wrp_clock_laws.proofs.WorkedNetwork.{between, network_is_accepted}

not_true : (b : Bool) → not b ≡ true → b ≡ false
not_true false e = refl
not_true true e = cc

-- no check fails if each is tried
none_fails : (checks : List Check) → list_all (λ check. not check.fails) checks ≡ true → AllHold checks
none_fails [] h = tt
none_fails (check ∷ checks) h =
    let both : (not check.fails ≡ true) × (list_all (λ c. not c.fails) checks ≡ true) = and_parts (not check.fails) (list_all (λ c. not c.fails) checks) h in
    (not_true check.fails both.0, none_fails checks both.1)

accepts : (before : List Happened) (e : Event) → list_all (λ check. not check.fails) (checks_of worked (world_after worked before) (Err Short) e) ≡ true → Accepts worked (world_after worked before) (Err Short) e
accepts before e h = none_fails (checks_of worked (world_after worked before) (Err Short) e) h

one_less : (a b : ℤ) (n : ℕ) → a ≡ pos n → b ≡ pos (n + 1) → a <ℤ b
one_less a b n e f = omega (arith, ints, e, f)

pub runs_backward : RunsBackward
runs_backward = record {
  run = record {
    network = record { accepted = network_is_accepted; set = λ n. refl };
    each = (
      record {
        span = between 1 9_223_372_036_854_775_807 10 (lit≤ tt) (lit≤ tt);
        nodes = refl;
        links = refl;
        drift = (lit≤ tt, (lit≤ tt, tt));
        move = ((lit≤ tt, lit≤ tt), tt);
      },
      ((lit< tt, lit≤ tt, record { each = tt; apart = λ i j swap above below. absurd (omega (arith, below)) }), tt),
    );
    accepted = (accepts earlier loses refl, (accepts [] (comes_up 1) refl, tt));
  };
  up = refl;
  there = refl;
  falls = one_less (reading (world_after worked later) 1) (reading (world_after worked earlier) 1) 65_535_999_999_999_999_999_999 refl refl;
}
