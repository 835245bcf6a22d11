-- The offset from the differences of its stamps.
use Rattle.std.proofs.Common.{◌≡◌, ℤ, pos, ◌^◌, ◌≤◌, ◌-ℤ◌, ◌+ℤ◌, ◌*ℤ◌, ◌≤ℤ◌, ◌<ℤ◌, unsigned_abs, FitsSigned, to_z, of_z, ap, ap₂, ◌∙◌, arith}
use Rattle.std.specs.Int.{w64, w128}
use Rattle.std.proofs.lemmas.Int.{ints, to_z-of_z}
use Rattle.wrp_base.specs.Division.{floor_quotient}
use Rattle.wrp_plain.proofs.numbers.offset.Goals as goal

-- the difference of two stamps, as it is read
apart_is : (x y r : ℤ) → FitsSigned w64 x → FitsSigned w64 y → FitsSigned w128 r →
    r ≡ to_z w64 (of_z w64 y) -ℤ to_z w64 (of_z w64 x) → to_z w128 (of_z w128 r) ≡ y -ℤ x
apart_is x y r f g h e = to_z-of_z w128 r h ∙ e ∙ ap₂ (λ (a b : ℤ). a -ℤ b) (to_z-of_z w64 y g) (to_z-of_z w64 x f)

-- a difference of two numbers is at most twice as large as they
apart_small : (a b d : ℤ) → unsigned_abs a ≤ 2 ^ 62 → unsigned_abs b ≤ 2 ^ 62 → d ≡ a -ℤ b → unsigned_abs d ≤ 2 ^ 63
apart_small a b d h k e = omega (arith, ints)

-- half of a number, rounded down, is no larger
half_small : (d r : ℤ) → unsigned_abs d ≤ 2 ^ 63 → (pos 2 *ℤ r) ≤ℤ d → d <ℤ (pos 2 *ℤ r +ℤ pos 2) → unsigned_abs r ≤ 2 ^ 63
half_small d r h low high = omega (arith, ints)

pub returns-clause-value : goal.returns-clause-value
returns-clause-value c =
    to_z-of_z w128 c.floor_div.result (record { sfits = c.floor_div.type_inv }) ∙ c.floor_div.ensures.value
    ∙ ap (λ (n : ℤ). floor_quotient n (pos 2)) (to_z-of_z w128 c.difference.result (record { sfits = c.difference.type_inv })
    ∙ c.difference.ensures.value
    ∙ ap₂ (λ (a b : ℤ). a -ℤ b)
    (apart_is c.args.t1 c.args.t2 c.apart.result c.ranges.t1 c.ranges.t2 (record { sfits = c.apart.type_inv }) c.apart.ensures.value)
    (apart_is c.args.t3 c.args.t4 c.apart-2.result c.ranges.t3 c.ranges.t4 (record { sfits = c.apart-2.type_inv }) c.apart-2.ensures.value))

pub returns-clause-small : goal.returns-clause-small
returns-clause-small c =
    let a : FitsSigned w128 c.apart.result = record { sfits = c.apart.type_inv } in
    let b : FitsSigned w128 c.apart-2.result = record { sfits = c.apart-2.type_inv } in
    let d : FitsSigned w128 c.difference.result = record { sfits = c.difference.type_inv } in
    let e = simp (to_z-of_z w128 c.apart.result a, to_z-of_z w128 c.apart-2.result b) at c.difference.ensures.value in
    let low = simp (to_z-of_z w128 c.difference.result d) at c.floor_div.ensures.at_most in
    let high = simp (to_z-of_z w128 c.difference.result d) at c.floor_div.ensures.next in
    rw (to_z-of_z w128 c.floor_div.result (record { sfits = c.floor_div.type_inv }))
    (half_small c.difference.result c.floor_div.result (apart_small c.apart.result c.apart-2.result c.difference.result c.apart.ensures.small c.apart-2.ensures.small e) low high)
