-- The offset is the sum of two parts: one of the four's times and the delay, one of two phases.
use Rattle.std.proofs.Common.{◌≡◌, ℤ, ◌^◌, ◌≤◌, ◌<◌, ◌+ℤ◌, ◌-ℤ◌, unsigned_abs, to_z, of_z, SFits, rules, lit<, arith, ◌∙◌}
use Rattle.std.specs.Int.{w64, w128}
use Rattle.wrp_servo.specs.Sampling.{est_of}
use Rattle.wrp_servo.proofs.Passed.{arrives, keeps, small, difference_of, sum_of, widened}
use Rattle.wrp_servo.proofs.sampling.est.Goals as goal

-- a delay is smaller than a time
few : (y : ℤ) → unsigned_abs y ≤ 2 ^ 67 → unsigned_abs y < 2 ^ 106
few y h = omega arith

-- the part of the times and the delay
by_times : (a b y d x : ℤ) → unsigned_abs a < 2 ^ 105 → unsigned_abs b < 2 ^ 105 → unsigned_abs y ≤ 2 ^ 67 → d ≡ to_z w128 (of_z w128 a) -ℤ to_z w128 (of_z w128 b) → x ≡ to_z w128 (of_z w128 d) -ℤ to_z w128 (of_z w128 y) → (x ≡ (a -ℤ b) -ℤ y) × (unsigned_abs x < 2 ^ 107)
by_times a b y d x h k l e f =
    let times = difference_of a b d (2 ^ 105) (lit< tt) h k e in
    let all = difference_of d y x (2 ^ 106) (lit< tt) times.1 (few y l) f in
    (all.0 ∙ (λ i. times.0 i -ℤ y), all.1)

-- the part of the phases
by_phases : (u v p q x : ℤ) → SFits w64 u → SFits w64 v → p ≡ to_z w64 (of_z w64 u) → q ≡ to_z w64 (of_z w64 v) → x ≡ to_z w128 (of_z w128 p) -ℤ to_z w128 (of_z w128 q) → (x ≡ u -ℤ v) × (unsigned_abs x < 2 ^ 107)
by_phases u v p q x fits_u fits_v e f g =
    let now = widened u p fits_u e in
    let then = widened v q fits_v f in
    let all = difference_of p q x (2 ^ 106) (lit< tt) now.1 then.1 g in
    (all.0 ∙ (λ i. now.0 i -ℤ then.0 i), all.1)

pub difference-there-requires-clause-a : goal.difference-there-requires-clause-a
difference-there-requires-clause-a c =
    small c.difference.result (2 ^ 106) (lit< tt) (difference_of c.args.kept.now.four.t2 c.args.kept.now.four.t1 c.difference.result (2 ^ 105) (lit< tt) c.requires.four.t2 c.requires.four.t1 c.difference.ensures.value).1

pub difference-requires-2-clause-a : goal.difference-requires-2-clause-a
difference-requires-2-clause-a c = small c.from.result (2 ^ 106) (lit< tt) (widened c.args.u c.from.result c.ranges.u c.from.ensures).1

pub difference-requires-2-clause-b : goal.difference-requires-2-clause-b
difference-requires-2-clause-b c =
    let fits : SFits w64 c.args.kept.now.four.u2 = search rules in
    small c.from-2.result (2 ^ 106) (lit< tt) (widened c.args.kept.now.four.u2 c.from-2.result fits c.from-2.ensures).1

pub sum-requires-clause-a : goal.sum-requires-clause-a
sum-requires-clause-a c =
    small c.difference-there.result (2 ^ 107) (lit< tt) (by_times c.args.kept.now.four.t2 c.args.kept.now.four.t1 c.args.kept.now.delay c.difference.result c.difference-there.result c.requires.four.t2 c.requires.four.t1 c.requires.four.delay c.difference.ensures.value c.difference-there.ensures.value).1

pub sum-requires-clause-b : goal.sum-requires-clause-b
sum-requires-clause-b c =
    let fits : SFits w64 c.args.kept.now.four.u2 = search rules in
    small c.difference-2.result (2 ^ 107) (lit< tt) (by_phases c.args.u c.args.kept.now.four.u2 c.from.result c.from-2.result c.difference-2.result c.ranges.u fits c.from.ensures c.from-2.ensures c.difference-2.ensures.value).1

-- both parts
both : (c : goal.After-sum) → (c.sum.result ≡ est_of c.args.u c.args.kept.now) × (unsigned_abs c.sum.result < 2 ^ 108)
both c =
    let fits : SFits w64 c.args.kept.now.four.u2 = search rules in
    let there = by_times c.args.kept.now.four.t2 c.args.kept.now.four.t1 c.args.kept.now.delay c.difference.result c.difference-there.result c.requires.four.t2 c.requires.four.t1 c.requires.four.delay c.difference.ensures.value c.difference-there.ensures.value in
    let since = by_phases c.args.u c.args.kept.now.four.u2 c.from.result c.from-2.result c.difference-2.result c.ranges.u fits c.from.ensures c.from-2.ensures c.difference-2.ensures.value in
    let all = sum_of c.difference-there.result c.difference-2.result c.sum.result (2 ^ 107) (lit< tt) there.1 since.1 c.sum.ensures.value in
    (all.0 ∙ (λ i. there.0 i +ℤ since.0 i), all.1)

pub returns-clause-value : goal.returns-clause-value
returns-clause-value c = arrives c.sum.result (2 ^ 108) (lit< tt) (both c).1 ∙ (both c).0

pub returns-clause-size : goal.returns-clause-size
returns-clause-size c = keeps c.sum.result (2 ^ 108) (2 ^ 110) (lit< tt) (lit< tt) (both c).1
