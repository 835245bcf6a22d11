-- The fields of an event line that an input line does not have: names of nodes and links, and signed
-- numbers (this project's profile).
use Rattle.std.specs.Prelude.{ℕ, ℤ, pos, negsuc, ◌==◌, Result, List}
use Rattle.std.specs.List.{before_first, after_first}
use Rattle.wrp_base.specs.declared.fault.TraceFault.{TraceFault}
use Rattle.wrp_fields.specs.Numbers.{number_in}
use Rattle.wrp_fields.specs.Reading.{field_of, number_or_fault}
pub use Rattle.wrp_names.specs.Fields.{node_at, link_at}

-- how much true time passes, in tau: 1 to 2^63 - 1
abbrev pub span_at : ℕ → List (List ℕ) → Result ℤ TraceFault
span_at place fields =
    number_or_fault place (number_in (pos 1) (pos 9_223_372_036_854_775_807) (field_of place fields))

-- a one-way delay, in tau: 0 to 2^63 - 1
abbrev pub delay_at : ℕ → List (List ℕ) → Result ℤ TraceFault
delay_at place fields =
    number_or_fault place (number_in (pos 0) (pos 9_223_372_036_854_775_807) (field_of place fields))

-- a clock's offset, in tau: within 2^90
abbrev pub offset_at : ℕ → List (List ℕ) → Result ℤ TraceFault
offset_at place fields =
    number_or_fault place
    (number_in (negsuc 1_237_940_039_285_380_274_899_124_223) (pos 1_237_940_039_285_380_274_899_124_224)
    (field_of place fields))

-- a field of several parts: what comes before the first octet of this value, or the whole field if
-- there is none
abbrev pub before : ℕ → List ℕ → List ℕ
before octet text = before_first (λ c. c == octet) text

-- what comes after that octet, or nothing if there is none
abbrev pub behind : ℕ → List ℕ → List ℕ
behind octet text = after_first (λ c. c == octet) text
