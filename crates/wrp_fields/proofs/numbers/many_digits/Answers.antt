-- By the numbers of both parts.
use Rattle.std.proofs.Common.{◌≡◌, ◌≤◌, ◌∙◌, ◌+◌, ◌*◌, ℕ, Option, Some, List, length, ap₂, arith}
use Rattle.wrp_fields.proofs.TwoParts.{read_in_parts}
use Rattle.wrp_fields.proofs.numbers.many_digits.Goals as goal

abbrev joined : ℕ → ℕ → Option ℕ
joined h l = Some (h * 10_000_000_000_000_000_000 + l)

pub returns : goal.returns
returns c =
    let high : List ℕ = c.split_at.result.0.now in
    let low : List ℕ = c.split_at.result.1.now in
    let some : 1 ≤ length high = omega (arith, c.split_at.ensures.front_len, c.requires.least) in
    let few : length high ≤ 19 = omega (arith, c.split_at.ensures.front_len, c.requires.most) in
    let size : length low ≡ 19 = omega (arith, c.split_at.ensures.back_len, c.requires.least) in
    ap₂ joined c.from.ensures c.from-2.ensures
    ∙ read_in_parts c.args.digits.now high low (Some c.in_ok-high.high) (Some c.in_ok-low.low) c.split_at.ensures.by_index.0 some few size c.in_ok-high.ensures c.in_ok-low.ensures
