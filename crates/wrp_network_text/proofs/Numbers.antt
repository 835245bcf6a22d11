-- A number that has no fault is in the range of its row.
use Rattle.std.proofs.Common.{◌≡◌, ◌≤◌, ◌&&◌, ℕ, ℤ, pos, List, true, false, Option, None, Some, unsigned_abs, arith}
use Rattle.std.proofs.lemmas.Bool.{and_parts, false≢true, not-false}
use Rattle.std.proofs.lemmas.Int.{ints}
use Rattle.std.specs.Prelude.{unwrap_or}
use Rattle.std.specs.Int.Signed.{le_z}
use Rattle.toml.specs.Data.{Data, as_integer}
use Rattle.wrp_base.specs.Ranges.{IsFromTo, IsAmong}
use Rattle.wrp_caldb.specs.Rows.{has_fault, in_range, number_in}
use Rattle.wrp_caldb.specs.declared.row.Code.TheVariants as co
use Rattle.wrp_network_text.specs.Keys.{number}

between : (least greatest : ℕ) (z : ℤ) → (le_z (pos least) z && le_z z (pos greatest)) ≡ true → IsFromTo least greatest z
between least greatest z e =
    let parts = and_parts (le_z (pos least) z) (le_z z (pos greatest)) e in
    (grind (arith, ints, parts.0), grind (arith, ints, parts.1))

pub in_range_between : (least greatest : ℕ) (o : Option ℤ) → in_range (pos least) (pos greatest) o ≡ true
    → IsFromTo least greatest (unwrap_or o (pos 0))
in_range_between least greatest None e = absurd (false≢true e)
in_range_between least greatest (Some z) e = between least greatest z e

-- a number of a row with a default
pub number_between : (name : List ℕ) (least greatest default : ℕ) → least ≤ default → default ≤ greatest → (found : Option Data)
    → has_fault co.Range (number name least greatest default) found ≡ false
    → IsFromTo least greatest (unwrap_or (number_in (number name least greatest default) found) (pos 0))
number_between name least greatest default low high None e = (omega (arith, ints), omega (arith, ints))
number_between name least greatest default low high (Some d) e =
    let fits = not-false (in_range (pos least) (pos greatest) (as_integer d)) e in
    rw fits (in_range_between least greatest (as_integer d) fits)

-- the same without a sign
pub natural_between : (least greatest : ℕ) (z : ℤ) → IsFromTo least greatest z → IsAmong least greatest (unsigned_abs z)
natural_between least greatest z h = (omega (arith, ints, h.0, h.1), omega (arith, ints, h.0, h.1))
