use Rattle.std.proofs.Common.{◌≡◌, ◌≤◌, ◌<◌, ◌∙◌, length, ap, arith, lit<, rules}
use Rattle.std.specs.Prelude.{decimal}
use Rattle.wrp_network_text.proofs.TextSizes.{octet_short}
use Rattle.wrp_network_text.proofs.clash.clash_text.Goals as goal

pub push_str-requires : goal.push_str-requires
push_str-requires c =
    let digits =
    ap length (c.as_str.ensures.value ∙ c.in_ok-digits.ensures.ok) in
    let small : c.args.clash.now.number < 256 = search rules in
    let few : length (decimal c.args.clash.now.number) ≤ 3 = octet_short c.args.clash.now.number small in
    let empty : length c.new-text.result.bytes ≡ 0 = ap length c.new-text.ensures in
    (lit< tt, omega (arith, digits, few, empty))

pub push_side-requires : goal.push_side-requires
push_side-requires c =
    let digits =
    ap length (c.as_str.ensures.value ∙ c.in_ok-digits.ensures.ok) in
    let small : c.args.clash.now.number < 256 = search rules in
    let few : length (decimal c.args.clash.now.number) ≤ 3 = octet_short c.args.clash.now.number small in
    let empty : length c.new-text.result.bytes ≡ 0 = ap length c.new-text.ensures in
    omega (arith, digits, few, empty, c.push_str.ensures.len)

pub push_side-requires-2 : goal.push_side-requires-2
push_side-requires-2 c =
    let digits =
    ap length (c.as_str.ensures.value ∙ c.in_ok-digits.ensures.ok) in
    let small : c.args.clash.now.number < 256 = search rules in
    let few : length (decimal c.args.clash.now.number) ≤ 3 = octet_short c.args.clash.now.number small in
    let empty : length c.new-text.result.bytes ≡ 0 = ap length c.new-text.ensures in
    omega (arith, digits, few, empty, c.push_str.ensures.len, c.in_ok-push_side.ensures.short)
