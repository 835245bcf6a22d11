-- Reading a line: which octets it may have, its fields, which count from 1, and its fault, which is the
-- first from the left (this project's profile).
use Rattle.std.specs.Prelude.{◌≡◌, ◌==◌, ◌&&◌, not, nat_lt, Bool, false, ℕ, ◌-◌, Option, unwrap_or, ok_or, Result, Ok, Err, List, [], ◌∷◌, slice_get}
use Rattle.std.specs.List.{list_all}
use Rattle.wrp_base.specs.declared.fault.TraceFault.{TraceFault}
use Rattle.wrp_base.specs.declared.fault.TraceFault.TheVariants.{Number, Name, Memory}

-- whether a line may have this octet: it is below 128, and not a quotation mark, CR or LF
abbrev pub is_plain_octet : ℕ → Bool
is_plain_octet octet =
    not (octet == 34) && (not (octet == 13) && (not (octet == 10) && nat_lt octet 128))

-- whether a line has octets, and all of them are allowed
abbrev pub is_plain : List ℕ → Bool
is_plain [] = false
is_plain (octet ∷ octets) = list_all is_plain_octet (octet ∷ octets)

-- the field at this place; empty if there is none
abbrev pub field_of : ℕ → List (List ℕ) → List ℕ
field_of place fields = unwrap_or (slice_get fields (place - 1)) []

-- the second reading, if the first gave a value; otherwise the first one's fault
infixl 10 ◌>>=◌
abbrev pub ◌>>=◌ : {A B : Type 0} → Result A TraceFault → (A → Result B TraceFault) → Result B TraceFault
Ok value >>= next = next value
Err fault >>= next = Err fault

-- the number at a place, or the fault that there is none
abbrev pub number_or_fault : {A : Type 0} → ℕ → Option A → Result A TraceFault
number_or_fault place read = ok_or read (Number place)

-- what the name at a place stands for, or the fault that it is not known
abbrev pub name_or_fault : {A : Type 0} → ℕ → Option A → Result A TraceFault
name_or_fault place read = ok_or read (Name place)

-- a result that is this reading, or lack of memory
abbrev pub IsReading : {A : Type 0} → Result A TraceFault → Result A TraceFault → Type 0
IsReading read (Err (Memory e)) = Unit {0}
IsReading read answer = answer ≡ read
