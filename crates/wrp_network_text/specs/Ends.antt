-- An end of a link as its text `NODE:PORT` names it: one of the file's nodes, and a port of it (this project's profile).
use Rattle.std.specs.Prelude.{ℕ, ◌-◌, ◌==◌, ◌&&◌, Bool, List, [], ◌∷◌, Option, Some, None, length, nat_le, nat_lt, if◌then◌else◌, option_and_then}
use Rattle.std.specs.List.{position, position_or_len, before_first, after_first}
use Rattle.toml.specs.Data.{Data, Members, as_str, as_table, get_member}
use Rattle.wrp_caldb.specs.Repeats.{are_same_texts, name_in}

-- the value is a table with this text at `name`
abbrev pub is_named : List ℕ → Data → Bool
is_named name d = are_same_texts (option_and_then name_in (as_table d)) (Some name)

-- the first of these tables with this text at `name`
abbrev pub named : List ℕ → List Data → Option ℕ
named name ds = position (is_named name) ds

-- the number is from one to another
abbrev pub is_between : ℕ → ℕ → ℕ → Bool
is_between least greatest n = nat_le least n && nat_le n greatest

-- a port of two octets, 10 to 18
abbrev pub ten_and : ℕ → ℕ → Option ℕ
ten_and c d = if (c == 49) && is_between 48 56 d then Some (d - 38) else None

-- a port, 1 to 18, without sign or leading zero
abbrev pub port_of : List ℕ → Option ℕ
port_of [] = None
port_of (d ∷ []) = if is_between 49 57 d then Some (d - 48) else None
port_of (c ∷ d ∷ []) = ten_and c d
port_of (c ∷ d ∷ e ∷ rest) = None

-- a colon
abbrev pub is_colon : ℕ → Bool
is_colon c = c == 58

-- both, if both are there
abbrev pub both : Option ℕ → Option ℕ → Option (ℕ × ℕ)
both (Some node) (Some port) = Some (node, port)
both _ _ = None

-- the place of the node and the port, from what is before the first colon and after it
abbrev pub end_in : List Data → List ℕ → Option (ℕ × ℕ)
end_in nodes text =
    if nat_lt (position_or_len is_colon text) (length text)
    then both (named (before_first is_colon text) nodes) (port_of (after_first is_colon text))
    else None

-- the end that a value names
abbrev pub end_of_value : List Data → Data → Option (ℕ × ℕ)
end_of_value nodes d = option_and_then (end_in nodes) (as_str d)

-- the text at a key
abbrev pub text_at : List ℕ → Members → Option (List ℕ)
text_at key table = option_and_then as_str (get_member key table)
