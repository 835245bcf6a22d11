-- What a reader of a block of lines has left.
use Rattle.std.specs.Prelude.{ℕ, Bool, List, [], ◌∷◌, ◌≡◌, ◌<◌, Option, Some, None, option_and_then, if◌then◌else◌, ◌==◌, true, false}
use Rattle.std.specs.Borrow.{Bor}
use Rattle.std.specs.Io.Chain.{chain_remaining}
use Rattle.std.specs.declared.io.traits.Chain.{Chain}
use Rattle.csv.specs.declared.parser.State.{State}
use Rattle.csv.specs.declared.parser.State.TheVariants.{StartRecord, AfterCr}
use Rattle.csv.specs.declared.reader.Reader.{Reader}
use Rattle.csv.specs.declared.reader.Trim.TheVariants as trim
use Rattle.wrp_base.specs.Lines.{parts_of}
use Rattle.csv.specs.Reading.{Ready, default_config, has_failed, is_flexible, reader_config, reader_trim}

-- the octets that two slices, one after the other, have left
abbrev pub left_in : Chain (Bor (List ℕ)) (Bor (List ℕ)) → Option (List ℕ)
left_in chain = chain_remaining (λ (s : Bor (List ℕ)). Some s.now) (λ (s : Bor (List ℕ)). Some s.now) chain

-- the first octet, if any, is below 128
abbrev pub StartsPlain : List ℕ → Type 0
StartsPlain [] = Unit {0}
StartsPlain (octet ∷ octets) = octet < 128

-- the octets after an LF, if these octets begin with one
abbrev pub after_feed : List ℕ → Option (List ℕ)
after_feed [] = None
after_feed (octet ∷ octets) = if octet == 10 then Some octets else None

-- the octets that a reader at the start of a line has left: without an LF that follows the CR of the
-- last line
abbrev pub at_start : State → Option (List ℕ) → Option (List ℕ)
at_start StartRecord left = left
at_start AfterCr left = option_and_then after_feed left
at_start _ left = None

-- a reader without header row, without trimming, for records of any length, unless it has failed
abbrev pub IsPlainReader : {R : Type 0} → Reader R → Type 0
IsPlainReader r = has_failed r ≡ false
    → (reader_config r ≡ default_config) × (reader_trim r ≡ trim.None) × (is_flexible r ≡ true) × Ready r

-- a read found this line: the row has its parts, and the rest is left
abbrev pub IsFound : List ℕ → List ℕ → Bool → List (List ℕ) → Option (List ℕ) → Type 0
IsFound line rest found row left = (found ≡ true) × (row ≡ parts_of line) × (left ≡ Some rest)
