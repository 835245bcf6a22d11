-- The true counters and the true tag of a reading keep the stamp bound.
use Rattle.std.proofs.Common.{◌≡◌, sym, subst, ℕ, ◌+◌, ◌-◌, ◌*◌, ◌/◌, ◌%◌, ◌<◌, ◌≤◌, pos, arith}
use Rattle.std.proofs.lemmas.Int.{ints}
use Rattle.wrp_base.specs.declared.time.Clock.{Clock}
use Rattle.wrp_base.specs.declared.time.Clock.TheVariants.{Mhz125, Mhz62}
use Rattle.wrp_base.specs.Circle.{distance_round}
use Rattle.wrp_base.specs.Clock.{period_of, step_of}

-- a place in the period, and the step in which it lies
near_step : (clock : Clock) (q : ℕ) → q < period_of clock → distance_round clock (pos (step_of clock * (q / step_of clock))) (pos q) < step_of clock
near_step Mhz125 q h = grind (arith, ints)
near_step Mhz62 q h = grind (arith, ints)

-- the step that a tag gives, counted from the transition
step_back : (c transition : ℕ) → c < 16384 → transition ≤ 16383 → ((c + transition) % 16384 + 16384 - transition) % 16384 ≡ c
step_back c transition h k = omega arith

steps_in : (clock : Clock) (q : ℕ) → q < period_of clock → q / step_of clock < 16384
steps_in Mhz125 q h = omega arith
steps_in Mhz62 q h = omega arith

pub true_tag : (clock : Clock) (q transition e_tag : ℕ) → q < period_of clock → transition ≤ 16383 → step_of clock ≤ e_tag →
    distance_round clock (pos (step_of clock * (((q / step_of clock + transition) % 16384 + 16384 - transition) % 16384))) (pos q) ≤ e_tag
true_tag clock q transition e_tag h t e =
    let back : ((q / step_of clock + transition) % 16384 + 16384 - transition) % 16384 ≡ q / step_of clock = step_back (q / step_of clock) transition (steps_in clock q h) t in
    let near : distance_round clock (pos (step_of clock * (q / step_of clock))) (pos q) < step_of clock = near_step clock q h in
    let P : ℕ → Type 0 = λ (x : ℕ). distance_round clock (pos (step_of clock * x)) (pos q) ≤ e_tag in
    let less : distance_round clock (pos (step_of clock * (q / step_of clock))) (pos q) ≤ e_tag = omega (arith, near, e) in
    subst P (sym back) less
