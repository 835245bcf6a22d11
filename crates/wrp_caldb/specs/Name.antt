-- Names of nodes, links, modules and fibres, and identities of nodes (this project's profile).
use Rattle.std.specs.Prelude.{◌&&◌, ◌||◌, ◌==◌, not, ℕ, List, [], ◌∷◌, Bool, false, codes, length, nat_eq, nat_le}
use Rattle.std.specs.Cmp.Lexicographic.{pointwise}
use Rattle.std.specs.List.{list_all}

-- the two texts have the same octets
abbrev pub same_name : List ℕ → List ℕ → Bool
same_name a b = pointwise nat_eq a b

-- a letter `a` to `z`
abbrev pub is_letter : ℕ → Bool
is_letter c = nat_le 97 c && nat_le c 122

-- a letter `a` to `z`, a digit or `_`
abbrev pub is_name_octet : ℕ → Bool
is_name_octet c = is_letter c || ((nat_le 48 c && nat_le c 57) || (c == 95))

-- a letter, then letters, digits and `_`: at most 16 octets
abbrev pub is_name : List ℕ → Bool
is_name [] = false
is_name (c ∷ cs) = is_letter c && (list_all is_name_octet cs && nat_le (length cs) 15)

-- a name that a module may have: `unlisted` means a module of no entry
abbrev pub is_module_name : List ℕ → Bool
is_module_name name = is_name name && not (same_name name (codes "unlisted"))

-- a digit, or a letter `a` to `f`
abbrev pub is_hex_digit : ℕ → Bool
is_hex_digit c = (nat_le 48 c && nat_le c 57) || (nat_le 97 c && nat_le c 102)

-- 16 hex digits in lower case
abbrev pub is_identity : List ℕ → Bool
is_identity text = list_all is_hex_digit text && (length text == 16)
