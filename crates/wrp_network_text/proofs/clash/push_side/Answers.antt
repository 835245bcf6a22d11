use Rattle.std.proofs.Common.{◌≡◌, ◌≤◌, ◌∙◌, length, ap, arith, lit<}
use Rattle.std.proofs.lemmas.Int.{to_z-of_z}
use Rattle.std.specs.Fmt.{signed_decimal}
use Rattle.std.specs.Int.{w128}
use Rattle.wrp_network_text.proofs.TextSizes.{side_short}
use Rattle.wrp_network_text.proofs.clash.push_side.Goals as goal

pub push_str-requires-2 : goal.push_str-requires-2
push_str-requires-2 c =
    let digits : length c.as_str.result.now ≡ length (signed_decimal c.args.side) =
    ap length (c.as_str.ensures.value ∙ c.in_ok-digits.ensures.ok)
    ∙ ap (λ z. length (signed_decimal z)) (to_z-of_z w128 c.args.side c.ranges.side) in
    let few : length (signed_decimal c.args.side) ≤ 40 = side_short c.args.side c.ranges.side in
    (lit< tt, omega (arith, digits, few, c.push_str.ensures.len, c.requires))

pub returns-clause-short : goal.returns-clause-short
returns-clause-short c =
    let digits : length c.as_str.result.now ≡ length (signed_decimal c.args.side) =
    ap length (c.as_str.ensures.value ∙ c.in_ok-digits.ensures.ok)
    ∙ ap (λ z. length (signed_decimal z)) (to_z-of_z w128 c.args.side c.ranges.side) in
    let few : length (signed_decimal c.args.side) ≤ 40 = side_short c.args.side c.ranges.side in
    omega (arith, digits, few, c.push_str.ensures.len, c.push_str-2.ensures.len)
