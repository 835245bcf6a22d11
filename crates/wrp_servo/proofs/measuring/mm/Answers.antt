-- The round trip is the sum of two legs, each of two times and a phase.
use Rattle.std.proofs.Common.{◌≡◌, ℤ, ◌^◌, ◌<◌, ◌+ℤ◌, ◌-ℤ◌, unsigned_abs, to_z, of_z, SFits, rules, lit<, ◌∙◌}
use Rattle.std.specs.Int.{w64, w128}
use Rattle.wrp_servo.specs.Measuring.{mm_of}
use Rattle.wrp_servo.proofs.Passed.{arrives, keeps, small, difference_of, sum_of, widened}
use Rattle.wrp_servo.proofs.measuring.mm.Goals as goal

-- the leg down
down_leg : (a b u d v x : ℤ) → unsigned_abs a < 2 ^ 105 → unsigned_abs b < 2 ^ 105 → SFits w64 u → d ≡ to_z w128 (of_z w128 a) -ℤ to_z w128 (of_z w128 b) → v ≡ to_z w64 (of_z w64 u) → x ≡ to_z w128 (of_z w128 d) -ℤ to_z w128 (of_z w128 v) → (x ≡ (a -ℤ b) -ℤ u) × (unsigned_abs x < 2 ^ 107)
down_leg a b u d v x h k fits e f g =
    let times = difference_of a b d (2 ^ 105) (lit< tt) h k e in
    let phase = widened u v fits f in
    let leg = difference_of d v x (2 ^ 106) (lit< tt) times.1 phase.1 g in
    (leg.0 ∙ (λ i. times.0 i -ℤ phase.0 i), leg.1)

-- the leg up
up_leg : (a b u d v x : ℤ) → unsigned_abs a < 2 ^ 105 → unsigned_abs b < 2 ^ 105 → SFits w64 u → d ≡ to_z w128 (of_z w128 a) -ℤ to_z w128 (of_z w128 b) → v ≡ to_z w64 (of_z w64 u) → x ≡ to_z w128 (of_z w128 d) +ℤ to_z w128 (of_z w128 v) → (x ≡ (a -ℤ b) +ℤ u) × (unsigned_abs x < 2 ^ 107)
up_leg a b u d v x h k fits e f g =
    let times = difference_of a b d (2 ^ 105) (lit< tt) h k e in
    let phase = widened u v fits f in
    let leg = sum_of d v x (2 ^ 106) (lit< tt) times.1 phase.1 g in
    (leg.0 ∙ (λ i. times.0 i +ℤ phase.0 i), leg.1)

pub difference-down-requires-clause-a : goal.difference-down-requires-clause-a
difference-down-requires-clause-a c =
    small c.difference.result (2 ^ 106) (lit< tt) (difference_of c.args.four.now.t2 c.args.four.now.t1 c.difference.result (2 ^ 105) (lit< tt) c.requires.t2 c.requires.t1 c.difference.ensures.value).1

pub difference-down-requires-clause-b : goal.difference-down-requires-clause-b
difference-down-requires-clause-b c =
    let fits : SFits w64 c.args.four.now.u2 = search rules in
    small c.from.result (2 ^ 106) (lit< tt) (widened c.args.four.now.u2 c.from.result fits c.from.ensures).1

pub sum-up-requires-clause-a : goal.sum-up-requires-clause-a
sum-up-requires-clause-a c =
    small c.difference-2.result (2 ^ 106) (lit< tt) (difference_of c.args.four.now.t4 c.args.four.now.t3 c.difference-2.result (2 ^ 105) (lit< tt) c.requires.t4 c.requires.t3 c.difference-2.ensures.value).1

pub sum-up-requires-clause-b : goal.sum-up-requires-clause-b
sum-up-requires-clause-b c =
    let fits : SFits w64 c.args.four.now.u3 = search rules in
    small c.from-2.result (2 ^ 106) (lit< tt) (widened c.args.four.now.u3 c.from-2.result fits c.from-2.ensures).1

pub sum-requires-clause-a : goal.sum-requires-clause-a
sum-requires-clause-a c =
    let fits : SFits w64 c.args.four.now.u2 = search rules in
    small c.difference-down.result (2 ^ 107) (lit< tt) (down_leg c.args.four.now.t2 c.args.four.now.t1 c.args.four.now.u2 c.difference.result c.from.result c.difference-down.result c.requires.t2 c.requires.t1 fits c.difference.ensures.value c.from.ensures c.difference-down.ensures.value).1

pub sum-requires-clause-b : goal.sum-requires-clause-b
sum-requires-clause-b c =
    let fits : SFits w64 c.args.four.now.u3 = search rules in
    small c.sum-up.result (2 ^ 107) (lit< tt) (up_leg c.args.four.now.t4 c.args.four.now.t3 c.args.four.now.u3 c.difference-2.result c.from-2.result c.sum-up.result c.requires.t4 c.requires.t3 fits c.difference-2.ensures.value c.from-2.ensures c.sum-up.ensures.value).1

-- both legs
trip : (c : goal.After-sum) → (c.sum.result ≡ mm_of c.args.four.now) × (unsigned_abs c.sum.result < 2 ^ 108)
trip c =
    let fits2 : SFits w64 c.args.four.now.u2 = search rules in
    let fits3 : SFits w64 c.args.four.now.u3 = search rules in
    let down = down_leg c.args.four.now.t2 c.args.four.now.t1 c.args.four.now.u2 c.difference.result c.from.result c.difference-down.result c.requires.t2 c.requires.t1 fits2 c.difference.ensures.value c.from.ensures c.difference-down.ensures.value in
    let up = up_leg c.args.four.now.t4 c.args.four.now.t3 c.args.four.now.u3 c.difference-2.result c.from-2.result c.sum-up.result c.requires.t4 c.requires.t3 fits3 c.difference-2.ensures.value c.from-2.ensures c.sum-up.ensures.value in
    let both = sum_of c.difference-down.result c.sum-up.result c.sum.result (2 ^ 107) (lit< tt) down.1 up.1 c.sum.ensures.value in
    (both.0 ∙ (λ i. down.0 i +ℤ up.0 i), both.1)

pub returns-clause-value : goal.returns-clause-value
returns-clause-value c = arrives c.sum.result (2 ^ 108) (lit< tt) (trip c).1 ∙ (trip c).0

pub returns-clause-size : goal.returns-clause-size
returns-clause-size c = keeps c.sum.result (2 ^ 108) (2 ^ 109) (lit< tt) (lit< tt) (trip c).1
