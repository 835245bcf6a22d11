use Rattle.std.proofs.Common.{◌≡◌, ◌<◌, ◌≤◌, ◌^◌, ◌∙◌, length, ap, arith, lit<}
use Rattle.std.specs.Fmt.{decimal}
use Rattle.std.proofs.lemmas.Fmt.{length-decimal-le}
use Rattle.wrp_calibration_text.proofs.place.push_number.Goals as goal

-- a number of 64 bits has at most 20 digits
short : (n : _) → n < 2 ^ 64 → length (decimal n) ≤ 20
short n h = length-decimal-le 20 n (lit< tt) (omega arith) h

pub push_str-requires : goal.push_str-requires
push_str-requires c =
    let digits : length c.as_str.result.now ≡ length (decimal c.args.number) =
    ap length (c.as_str.ensures.value ∙ c.in_ok-digits.ensures.ok) in
    let few : length (decimal c.args.number) ≤ 20 = short c.args.number (omega arith) in
    (lit< tt, omega arith)

pub returns-clause-short : goal.returns-clause-short
returns-clause-short c =
    let digits : length c.as_str.result.now ≡ length (decimal c.args.number) =
    ap length (c.as_str.ensures.value ∙ c.in_ok-digits.ensures.ok) in
    let few : length (decimal c.args.number) ≤ 20 = short c.args.number (omega arith) in
    omega (arith, c.push_str.ensures.len)
