use Rattle.std.proofs.Common.{◌≡◌, ◌<◌, ◌^◌, take, true}
use Rattle.std.specs.List.{list_all}
use Rattle.std.specs.Char.{is_ascii_digit}
use Rattle.wrp_fields.specs.Numbers.{value_of}
use Rattle.wrp_fields.proofs.numbers.few_digits.Given as goal

abbrev pub invariant-loop-digit : goal.invariant-loop-digit
invariant-loop-digit l =
    (l.value ≡ value_of (take l.digit-index l.digits)) × (list_all is_ascii_digit (take l.digit-index l.digits) ≡ true)
    × (l.value < 10 ^ l.digit-index)
