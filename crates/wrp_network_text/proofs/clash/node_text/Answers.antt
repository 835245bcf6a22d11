use Rattle.std.proofs.Common.{◌≡◌, ◌≤◌, ◌+◌, ◌∙◌, length, ap, arith, lit<}
use Rattle.std.specs.Prelude.{decimal}
use Rattle.wrp_network_text.proofs.TextSizes.{word_short}
use Rattle.wrp_network_text.proofs.clash.node_text.Goals as goal

pub push_str-requires : goal.push_str-requires
push_str-requires c =
    let digits =
    ap length (c.as_str.ensures.value ∙ c.in_ok-digits.ensures.ok) in
    let few : length (decimal (c.from.result + 1)) ≤ 5 = word_short (c.from.result + 1) (omega (arith, c.from.ensures)) in
    let empty : length c.new-text.result.bytes ≡ 0 = ap length c.new-text.ensures in
    (lit< tt, omega (arith, digits, few, empty))
