-- What a command line asks for: the row of the table that the first word names, read with the other words (this project's profile).
use Rattle.std.specs.Prelude.{◌≡◌, ◌⊎◌, ℕ, ◌==◌, ◌&&◌, not, Bool, false, if◌then◌else◌, Option, None, Some, option_and_then, option_map, List, [], ◌∷◌, ◌++◌, codes}
use Rattle.std.specs.Borrow.{Bor}
use Rattle.std.specs.Str.{bytes_eq}
use Rattle.wrp_commands.specs.declared.command.Command.{Command}
use Rattle.wrp_commands.specs.Request.{CommandLine, Request, request_of}
use Rattle.wrp_words.specs.Refusals.{usage_line}
use Rattle.wrp_words.specs.Rows.{Behind, Bare, May, Must, Row, rows}
use Rattle.wrp_words.specs.Words.{texts_of}

-- the text after this front, or none if it begins with another
abbrev pub text_after : List ℕ → List ℕ → Option (List ℕ)
text_after [] text = Some text
text_after (x ∷ front) [] = None
text_after (x ∷ front) (y ∷ text) = if x == y then text_after front text else None

-- whether a text begins with a minus sign
abbrev pub is_dashed : List ℕ → Bool
is_dashed [] = false
is_dashed (octet ∷ text) = octet == 45

-- the value that the words give an option: after `=`, or as the next word, which does not begin with a minus sign
abbrev pub value_given : List ℕ → List (List ℕ) → Option (List ℕ)
value_given option (word ∷ []) = text_after (option ++ codes "=") word
value_given option (given ∷ value ∷ []) = if bytes_eq given option && not (is_dashed value) then Some value else None
value_given option _ = None

-- what words after a command's name ask for
abbrev pub request_behind : Behind → List (List ℕ) → Option Request
request_behind (Bare asks) [] = Some asks
request_behind (Bare asks) _ = None
request_behind (May asks option value with) [] = Some asks
request_behind (May asks option value with) words = option_and_then with (value_given (codes "--" ++ option) words)
request_behind (Must option value with) words = option_and_then with (value_given (codes "--" ++ option) words)

-- the first row of this name
abbrev pub row_named : List ℕ → List Row → Option Row
row_named name [] = None
row_named name (row ∷ more) = if bytes_eq row.name name then Some row else row_named name more

-- what words ask for, or none if they are no command
unfoldable pub request_in : List (List ℕ) → Option Request
request_in [] = None
request_in (first ∷ words) = option_and_then (λ row. request_behind row.behind words) (row_named first rows)

-- what borrowed words say
abbrev pub asked_in : List (Bor (List ℕ)) → CommandLine
asked_in words = record { request = request_in (texts_of words); usage = usage_line }

-- the first word is the word of a command which reports true offsets, whatever the other words are
abbrev pub ReportsTrueOffsets : List (List ℕ) → Type 0
ReportsTrueOffsets words =
    (first : List ℕ) × (others : List (List ℕ)) × (words ≡ first ∷ others)
    × ((first ≡ codes "audit") ⊎ ((first ≡ codes "simulate") ⊎ (first ≡ codes "loop")))

-- the words ask for this command, or for none
abbrev pub AsksFor : List (Bor (List ℕ)) → Option Command → Type 0
AsksFor words found = request_in (texts_of words) ≡ option_map request_of found
