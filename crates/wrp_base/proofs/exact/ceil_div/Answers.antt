-- The value is the quotient rounded up, and the two inequalities are its laws.
use Rattle.std.proofs.Common.{◌≡◌, ℕ, ℤ, pos, negsuc, suc, zero, ◌+ℤ◌, ◌-ℤ◌, ◌<◌, ◌≤ℤ◌, ◌<ℤ◌, true, false, int_lt, int_div, SFits, of_z, refl, arith}
use Rattle.std.proofs.lemmas.Int.{ints, to_z-of_z, quot_fits}
use Rattle.std.specs.Int.{w128}
use Rattle.wrp_base.specs.Division.{ceil_quotient}
use Rattle.wrp_base.proofs.DivisionLaws.{ceil_quotient-at_least, ceil_quotient-next}
use Rattle.wrp_base.proofs.exact.ceil_div.Goals as goal

-- one less than a number above 0
less_is : (a : ℕ) → pos (suc a) -ℤ pos 1 ≡ pos a
less_is a = omega (arith, ints)

-- what the test says of a
is_above : (a : ℤ) → int_lt (pos 0) a ≡ true → pos 0 <ℤ a
is_above (pos zero) test = cc
is_above (pos (suc a)) test = omega (arith, ints)
is_above (negsuc a) test = cc

-- and in the other branch
is_not_above : (a : ℤ) → int_lt (pos 0) a ≡ false → a ≤ℤ pos 0
is_not_above a test = grind (arith, ints)

-- the quotient rounded up, of a number above 0
above : (a b : ℤ) → pos 0 <ℤ a → pos 0 <ℤ b → int_div (a -ℤ pos 1) b +ℤ pos 1 ≡ ceil_quotient a b
above (pos zero) b h positive = absurd h.lt
above (pos (suc a)) (pos b) h positive = rw (less_is a) (omega (arith, ints))
above (negsuc a) b h positive = absurd h.lt
above a (negsuc b) h positive = absurd positive.lt

-- and of one that is not
not_above : (a b : ℤ) → a ≤ℤ pos 0 → pos 0 <ℤ b → int_div a b ≡ ceil_quotient a b
not_above (pos zero) (pos b) h positive = omega (arith, ints)
not_above (pos (suc a)) b h positive = omega (arith, ints)
not_above (negsuc a) (pos b) h positive = refl
not_above a (negsuc b) h positive = absurd positive.lt

-- each number on the way fits
less_fits : (a : ℤ) → SFits w128 a → pos 0 <ℤ a → SFits w128 (a -ℤ pos 1)
less_fits a fits h = omega (arith, ints)

more_fits : (a b : ℤ) → SFits w128 a → pos 0 <ℤ a → pos 0 <ℤ b → SFits w128 (int_div (a -ℤ pos 1) b +ℤ pos 1)
more_fits (pos zero) b fits h positive = absurd h.lt
more_fits (pos (suc a)) (pos b) fits h positive = rw (less_is a) (omega (arith, ints))
more_fits (negsuc a) b fits h positive = absurd h.lt
more_fits a (negsuc b) fits h positive = absurd positive.lt

-- a number above 0 has bits above 0
positive_bits : (b : ℤ) → pos 0 <ℤ b → 0 < of_z w128 b
positive_bits (pos b) positive = omega (arith, ints)
positive_bits (negsuc b) positive = absurd positive.lt

-- in the first branch a is above 0
a_above : (c : goal.Then-a-gt0) → pos 0 <ℤ c.args.a
a_above c = is_above c.args.a (rw (to_z-of_z w128 c.args.a c.ranges.a) at c.if-a-gt0.true)

pub overflow_sub-result : goal.overflow_sub-result
overflow_sub-result c = rw (to_z-of_z w128 c.args.a c.ranges.a) (less_fits c.args.a c.ranges.a (a_above c))

pub nonzero_div-result : goal.nonzero_div-result
nonzero_div-result c =
    let less = less_fits c.args.a c.ranges.a (a_above c) in
    (positive_bits c.args.b c.requires, simp (to_z-of_z, c.ranges.a, c.ranges.b, less) (quot_fits w128 _ c.args.b less c.requires))

pub overflow_add-result : goal.overflow_add-result
overflow_add-result c =
    let less = less_fits c.args.a c.ranges.a (a_above c) in
    let quotient = quot_fits w128 _ c.args.b less c.requires in
    simp (to_z-of_z, c.ranges.a, c.ranges.b, less, quotient) (more_fits c.args.a c.args.b c.ranges.a (a_above c) c.requires)

pub nonzero_div-result-else-a-gt0 : goal.nonzero_div-result-else-a-gt0
nonzero_div-result-else-a-gt0 c =
    (positive_bits c.args.b c.requires, simp (to_z-of_z, c.ranges.a, c.ranges.b) (quot_fits w128 c.args.a c.args.b c.ranges.a c.requires))

pub returns-then-a-gt0-clause-value : goal.returns-then-a-gt0-clause-value
returns-then-a-gt0-clause-value c =
    let less = less_fits c.args.a c.ranges.a (a_above c) in
    let quotient = quot_fits w128 _ c.args.b less c.requires in
    let more = more_fits c.args.a c.args.b c.ranges.a (a_above c) c.requires in
    simp (to_z-of_z, c.ranges.a, c.ranges.b, less, quotient, more) (above c.args.a c.args.b (a_above c) c.requires)

pub returns-then-a-gt0-clause-at_least : goal.returns-then-a-gt0-clause-at_least
returns-then-a-gt0-clause-at_least c = rw (returns-then-a-gt0-clause-value c) (ceil_quotient-at_least c.args.a c.args.b c.requires)

pub returns-then-a-gt0-clause-next : goal.returns-then-a-gt0-clause-next
returns-then-a-gt0-clause-next c = rw (returns-then-a-gt0-clause-value c) (ceil_quotient-next c.args.a c.args.b c.requires)

pub returns-else-a-gt0-clause-value : goal.returns-else-a-gt0-clause-value
returns-else-a-gt0-clause-value c =
    let a_not_above = is_not_above c.args.a (rw (to_z-of_z w128 c.args.a c.ranges.a) at c.if-a-gt0.false) in
    let quotient = quot_fits w128 c.args.a c.args.b c.ranges.a c.requires in
    simp (to_z-of_z, c.ranges.a, c.ranges.b, quotient) (not_above c.args.a c.args.b a_not_above c.requires)

pub returns-else-a-gt0-clause-at_least : goal.returns-else-a-gt0-clause-at_least
returns-else-a-gt0-clause-at_least c = rw (returns-else-a-gt0-clause-value c) (ceil_quotient-at_least c.args.a c.args.b c.requires)

pub returns-else-a-gt0-clause-next : goal.returns-else-a-gt0-clause-next
returns-else-a-gt0-clause-next c = rw (returns-else-a-gt0-clause-value c) (ceil_quotient-next c.args.a c.args.b c.requires)
