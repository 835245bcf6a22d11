-- Lines of octets: each ends with LF, but the last may have none; one CR before the LF belongs to
-- the line's end (this project's profile).
use Rattle.std.specs.Prelude.{◌≡◌, ◌<◌, false, ℕ, if◌then◌else◌, ◌==◌, List, [], ◌∷◌, ◌++◌, reverse}
use Rattle.std.specs.List.{AllByRecursion}

-- the octet that ends a line
abbrev pub line_feed : ℕ
line_feed = 10

-- the octet that may come before it
abbrev pub carriage_return : ℕ
carriage_return = 13

-- an octet put in front of the first of some lines
abbrev pub onto : ℕ → List (List ℕ) → List (List ℕ)
onto octet [] = (octet ∷ []) ∷ []
onto octet (line ∷ lines) = (octet ∷ line) ∷ lines

-- the lines of the octets, each with its LF
abbrev pub lines_of : List ℕ → List (List ℕ)
lines_of [] = []
lines_of (octet ∷ octets) =
    if octet == line_feed
    then (octet ∷ []) ∷ lines_of octets
    else onto octet (lines_of octets)

-- octets that are read from the last one: without the CR if they begin with one
abbrev pub without_return : List ℕ → List ℕ
without_return [] = []
without_return (octet ∷ octets) = if octet == carriage_return then octets else octet ∷ octets

-- the same without an LF, and a CR after it, if they begin with an LF
abbrev pub without_end : List ℕ → List ℕ
without_end [] = []
without_end (octet ∷ octets) = if octet == line_feed then without_return octets else octet ∷ octets

-- what a line says: the line without the LF that it ends with, and without one CR before the LF
abbrev pub content_of : List ℕ → List ℕ
content_of line = reverse (without_end (reverse line))

-- no octet is an LF
abbrev pub HasNoFeed : List ℕ → Type 0
HasNoFeed [] = Unit {0}
HasNoFeed (octet ∷ octets) = ((octet == line_feed) ≡ false) × HasNoFeed octets

-- a line with its LF
pub record IsWhole (line : List ℕ) : Type 0 where
  pub front : List ℕ
  pub is : line ≡ front ++ line_feed ∷ []
  pub plain : HasNoFeed front

-- an octet below 128 that is neither a quotation mark nor a CR
abbrev pub IsTextOctet : ℕ → Type 0
IsTextOctet octet = ((octet == 34) ≡ false) × ((octet == carriage_return) ≡ false) × (octet < 128)

-- each of these octets may appear in a plain line or is an LF
abbrev pub IsPlainText : List ℕ → Type 0
IsPlainText octets = AllByRecursion IsTextOctet octets
