-- Seeds: the numbers that the words of the command line may write (this project's profile).
use Rattle.std.specs.Prelude.{ℕ, nat_le, if◌then◌else◌, Option, None, List, length}
use Rattle.wrp_fields.specs.Numbers.{unsigned_in}

-- the seed that a text writes: 1 to 20 digits, whose number is at most the greatest u64
abbrev pub seed_of : List ℕ → Option ℕ
seed_of text =
    if nat_le (length text) 20 then unsigned_in 0 18_446_744_073_709_551_615 text else None
