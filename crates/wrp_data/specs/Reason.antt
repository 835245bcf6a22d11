-- The reasons for which something is dropped: their order, numbers and names (this project's profile).
use Rattle.std.specs.Prelude.{ℕ, ◌≤◌, List, [], ◌∷◌, Option, IfSome, codes}
use Rattle.wrp_data.specs.declared.reason.Reason.{Reason}
use Rattle.wrp_data.specs.declared.reason.Reason.TheVariants.{Short, Version, Kind, Length, Time, Tlv, BadWr, OneStep, Domain, Stranger, NotForUs, Quiet, Unmatched, Range, Sample}

-- the number of a reason
abbrev pub number_of : Reason → ℕ
number_of Short = 1
number_of Version = 2
number_of Kind = 3
number_of Length = 4
number_of Time = 5
number_of Tlv = 6
number_of BadWr = 7
number_of OneStep = 8
number_of Domain = 9
number_of Stranger = 10
number_of NotForUs = 11
number_of Quiet = 12
number_of Unmatched = 13
number_of Range = 14
number_of Sample = 15

-- if there is a number, it is the number of a reason: 1 to 15
abbrev pub IsReason : Option ℕ → Type 0
IsReason reason = IfSome reason (λ number. (1 ≤ number) × (number ≤ 15))

-- the name of a reason
abbrev pub name_of : Reason → List ℕ
name_of Short = codes "short"
name_of Version = codes "version"
name_of Kind = codes "kind"
name_of Length = codes "length"
name_of Time = codes "time"
name_of Tlv = codes "tlv"
name_of BadWr = codes "badwr"
name_of OneStep = codes "onestep"
name_of Domain = codes "domain"
name_of Stranger = codes "stranger"
name_of NotForUs = codes "notforus"
name_of Quiet = codes "quiet"
name_of Unmatched = codes "unmatched"
name_of Range = codes "range"
name_of Sample = codes "sample"

-- every reason, in the order of their numbers
abbrev pub reasons : List Reason
reasons =
    Short ∷ Version ∷ Kind ∷ Length ∷ Time ∷ Tlv ∷ BadWr ∷ OneStep ∷ Domain ∷ Stranger ∷ NotForUs
    ∷ Quiet ∷ Unmatched ∷ Range ∷ Sample ∷ []
