-- The least round trip, step by step.
use Rattle.std.proofs.Common.{◌≡◌, ℕ, ℤ, pos, ◌+◌, ◌*◌, ◌^◌, ◌≤◌, ◌-ℤ◌, ◌*ℤ◌, ◌≤ℤ◌, unsigned_abs, FitsSigned, to_z, of_z, ap, ap₂, ◌∙◌, sym, arith}
use Rattle.std.specs.Int.{w64, w128}
use Rattle.std.proofs.lemmas.Int.{ints, to_z-of_z, to_z_pos, fits_signed_from_abs}
use Rattle.wrp_plain.specs.Measurement.{exchange_move, least_round}
use Rattle.wrp_plain.specs.StandsFor.{PlainAt}
use Rattle.wrp_plain.proofs.servo.Plain.least_round.Goals as goal

-- twice the least delay, as it is read
twice_is : (least l : ℤ) → pos 0 ≤ℤ least → least ≤ℤ pos (10 ^ 15) → FitsSigned w128 l → l ≡ to_z w64 (of_z w64 least) →
    to_z w128 (of_z w128 (pos 2 *ℤ to_z w128 (of_z w128 l))) ≡ pos 2 *ℤ least
twice_is least l low high f e =
    ap (λ (x : ℤ). to_z w128 (of_z w128 (pos 2 *ℤ x)))
    (to_z-of_z w128 l f ∙ e ∙ to_z-of_z w64 least (fits_signed_from_abs w64 least (omega (arith, ints))))
    ∙ to_z-of_z w128 (pos 2 *ℤ least) (fits_signed_from_abs w128 (pos 2 *ℤ least) (omega (arith, ints)))

-- the two parts that are taken from it
moves_is : (m : ℕ) → m ≤ 10 ^ 12 + 1 → to_z w128 (2 * m) ≡ pos (2 * m)
moves_is m h = to_z_pos w128 (2 * m) (omega arith)

errors_is : (m n : ℕ) → n ≤ 10 ^ 9 → m ≡ n → to_z w128 (4 * m) ≡ pos (4 * n)
errors_is m n h e = to_z_pos w128 (4 * m) (omega arith) ∙ ap (λ (k : ℕ). pos (4 * k)) e

-- what is left is small
round_small : (least r : ℤ) (m e : ℕ) → pos 0 ≤ℤ least → least ≤ℤ pos (10 ^ 15) → m ≤ 10 ^ 12 + 1 → e ≤ 10 ^ 9 →
    r ≡ ((pos 2 *ℤ least) -ℤ pos (2 * m)) -ℤ pos (4 * e) → unsigned_abs r ≤ 2 ^ 60
round_small least r m e low high h k is = omega (arith, ints)

-- the least round trip of the settings that are kept
round_is : (c : goal.After-difference-2) →
    c.difference-2.result ≡ ((pos 2 *ℤ c.self.inside.set.least) -ℤ pos (2 * c.exchange_move-moves.result)) -ℤ pos (4 * c.self.inside.set.err)
round_is c =
    let ranges = c.self.invariant.0 in
    let minus = λ (a b : ℤ). a -ℤ b in
    c.difference-2.ensures.value
    ∙ ap₂ minus
    (to_z-of_z w128 c.difference.result (record { sfits = c.difference.type_inv }) ∙ c.difference.ensures.value
    ∙ ap₂ minus
    (twice_is c.self.inside.set.least c.from-least.result ranges.least.0 ranges.least.1 (record { sfits = c.from-least.type_inv }) c.from-least.ensures)
    (moves_is c.exchange_move-moves.result c.exchange_move-moves.ensures.small))
    (errors_is c.from-errors.result c.self.inside.set.err ranges.err c.from-errors.ensures)

pub returns-clause-value : goal.returns-clause-value
returns-clause-value c =
    to_z-of_z w128 c.difference-2.result (record { sfits = c.difference-2.type_inv }) ∙ round_is c
    ∙ ap (λ (m : ℕ). ((pos 2 *ℤ c.self.inside.set.least) -ℤ pos (2 * m)) -ℤ pos (4 * c.self.inside.set.err))
    (c.exchange_move-moves.ensures.value ∙ ap (λ (p : PlainAt). exchange_move p.set) (sym c.self.view_is))
    ∙ ap (λ (p : PlainAt). least_round p.set) c.self.view_is

pub returns-clause-small : goal.returns-clause-small
returns-clause-small c =
    let ranges = c.self.invariant.0 in
    rw (to_z-of_z w128 c.difference-2.result (record { sfits = c.difference-2.type_inv }))
    (round_small c.self.inside.set.least c.difference-2.result c.exchange_move-moves.result c.self.inside.set.err
    ranges.least.0 ranges.least.1 c.exchange_move-moves.ensures.small ranges.err (round_is c))
