-- Whole periods are few.
use Rattle.std.proofs.Common.{◌≡◌, ℤ, pos, to_z, of_z, ◌∙◌, ◌^◌, ◌≤◌, ◌+ℤ◌, ◌*ℤ◌, ◌≤ℤ◌, ◌<ℤ◌, unsigned_abs, arith}
use Rattle.std.proofs.lemmas.Int.{ints, to_z-of_z}
use Rattle.std.specs.Int.{w128}
use Rattle.wrp_base.specs.declared.time.Clock.{Clock}
use Rattle.wrp_base.specs.declared.time.Clock.TheVariants.{Mhz125, Mhz62}
use Rattle.wrp_base.specs.Clock.{period_of}
use Rattle.wrp_servo.proofs.measuring.whole_periods.Goals as goal

-- a number of periods in a time is smaller than the time
few : (clock : Clock) (b r a : ℤ) → b ≡ pos (period_of clock) → (b *ℤ r) ≤ℤ a → a <ℤ (b *ℤ r +ℤ b) → unsigned_abs a ≤ 2 ^ 126 → unsigned_abs r ≤ 2 ^ 120
few Mhz125 b r a e l k h = let m = rw e at l in let n = rw e at k in omega (arith, ints)
few Mhz62 b r a e l k h = let m = rw e at l in let n = rw e at k in omega (arith, ints)

pub returns-clause-size : goal.returns-clause-size
returns-clause-size c =
    let size : unsigned_abs (to_z w128 (of_z w128 c.sum.result)) ≤ 2 ^ 126 = rw (to_z-of_z w128 c.sum.result (record { sfits = c.sum.type_inv })) c.sum.ensures.size in
    rw (to_z-of_z w128 c.floor_div.result (record { sfits = c.floor_div.type_inv }))
    (few c.args.clock (to_z w128 (of_z w128 c.period.result)) c.floor_div.result (to_z w128 (of_z w128 c.sum.result)) (to_z-of_z w128 c.period.result (record { sfits = c.period.type_inv }) ∙ c.period.ensures) c.floor_div.ensures.at_most c.floor_div.ensures.next size)
