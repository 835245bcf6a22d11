-- A number from 0 on, read in 64 bits.
use Rattle.std.proofs.Common.{◌≡◌, ◌&&◌, ℕ, ℤ, pos, negsuc, Bool, true, false, if◌then◌else◌, Option, None, Some, List, refl}
use Rattle.std.specs.Prelude.{int_le, option_and_then, option_map, unsigned_abs}
use Rattle.wrp_fields.specs.Numbers.{kept_in, natural_in, number_in, number_of}

kept_by : (t : Bool) (n : ℕ) → (if t then Some (pos n) else None) ≡ option_map pos (option_map unsigned_abs (if t then Some (pos n) else None))
kept_by true n = refl
kept_by false n = refl

kept_back : (least greatest : ℕ) (z : Option ℤ) → option_and_then (kept_in (pos least) (pos greatest)) z
    ≡ option_map pos (option_map unsigned_abs (option_and_then (kept_in (pos least) (pos greatest)) z))
kept_back least greatest None = refl
kept_back least greatest (Some (pos n)) = kept_by (int_le (pos least) (pos n) && int_le (pos n) (pos greatest)) n
kept_back least greatest (Some (negsuc n)) = refl

-- a number from 0 on has no sign
pub natural_back : (least greatest : ℕ) (text : List ℕ) → number_in (pos least) (pos greatest) text ≡ option_map pos (natural_in least greatest text)
natural_back least greatest text = kept_back least greatest (number_of text)
