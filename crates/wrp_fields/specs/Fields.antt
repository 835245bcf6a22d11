-- The fields of a line that are numbers (this project's profile).
use Rattle.std.specs.Prelude.{ℕ, Result, List}
use Rattle.wrp_base.specs.declared.fault.TraceFault.{TraceFault}
use Rattle.wrp_fields.specs.Numbers.{natural_in}
use Rattle.wrp_fields.specs.Reading.{field_of, number_or_fault}

-- the number in the field at a place, if it is from least to greatest
abbrev pub number_at : ℕ → ℕ → ℕ → List (List ℕ) → Result ℕ TraceFault
number_at least greatest place fields =
    number_or_fault place (natural_in least greatest (field_of place fields))
