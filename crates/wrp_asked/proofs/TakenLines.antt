-- What holds of each line of a text holds of each line of its first octets, if it holds of what a line begins with.
use Rattle.std.proofs.Common.{ℕ, zero, suc, ◌==◌, Bool, true, false, if◌then◌else◌, List, [], ◌∷◌, ◌++◌, take}
use Rattle.std.specs.List.{AllByRecursion}
use Rattle.wrp_records.specs.Lines.{lines_of, onto}

-- it holds of what such a line begins with
abbrev pub HoldsInFront : (List ℕ → Type 0) → Type 0
HoldsInFront P = (line rest : List ℕ) → P (line ++ rest) → P line

-- one holds of the first line, and the other of the lines after it
abbrev FirstAndOthers : (List ℕ → Type 0) → (List ℕ → Type 0) → List (List ℕ) → Type 0
FirstAndOthers Q P [] = Unit {0}
FirstAndOthers Q P (line ∷ lines) = Q line × AllByRecursion P lines

as_first : (P : List ℕ → Type 0) (lines : List (List ℕ)) → AllByRecursion P lines → FirstAndOthers P P lines
as_first P [] all = tt
as_first P (line ∷ lines) all = all

as_all : (P : List ℕ → Type 0) (lines : List (List ℕ)) → FirstAndOthers P P lines → AllByRecursion P lines
as_all P [] both = tt
as_all P (line ∷ lines) both = both

-- an octet in front of the first line

octet_alone : (Q P : List ℕ → Type 0) → HoldsInFront Q → (octet : ℕ) (lines : List (List ℕ)) → FirstAndOthers Q P (onto octet lines) → Q (octet ∷ [])
octet_alone Q P in_front octet [] both = both.0
octet_alone Q P in_front octet (line ∷ lines) both = in_front (octet ∷ []) line both.0

behind_octet : (Q P : List ℕ → Type 0) (octet : ℕ) (lines : List (List ℕ)) → FirstAndOthers Q P (onto octet lines)
    → FirstAndOthers (λ (line : List ℕ). Q (octet ∷ line)) P lines
behind_octet Q P octet [] both = tt
behind_octet Q P octet (line ∷ lines) both = both

with_octet : (Q P : List ℕ → Type 0) (octet : ℕ) (lines : List (List ℕ)) → Q (octet ∷ []) → FirstAndOthers (λ (line : List ℕ). Q (octet ∷ line)) P lines
    → FirstAndOthers Q P (onto octet lines)
with_octet Q P octet [] alone both = (alone, tt)
with_octet Q P octet (line ∷ lines) alone both = both

-- the first octets

-- the lines of an octet and others, by whether it is an LF
abbrev lines_by : Bool → ℕ → List (List ℕ) → List (List ℕ)
lines_by feed octet lines = if feed then (octet ∷ []) ∷ lines else onto octet lines

one_octet :
    (Q P : List ℕ → Type 0) → HoldsInFront Q → (feed : Bool) (octet : ℕ) (lines taken : List (List ℕ)) → (AllByRecursion P lines → AllByRecursion P taken) →
    (FirstAndOthers (λ (line : List ℕ). Q (octet ∷ line)) P lines → FirstAndOthers (λ (line : List ℕ). Q (octet ∷ line)) P taken) →
    FirstAndOthers Q P (lines_by feed octet lines) → FirstAndOthers Q P (lines_by feed octet taken)
one_octet Q P in_front true octet lines taken all first both = (both.0, all both.1)
one_octet Q P in_front false octet lines taken all first both =
    with_octet Q P octet taken (octet_alone Q P in_front octet lines both) (first (behind_octet Q P octet lines both))

taken_first : (Q P : List ℕ → Type 0) → HoldsInFront Q → HoldsInFront P → (text : List ℕ) (n : ℕ) → FirstAndOthers Q P (lines_of text)
    → FirstAndOthers Q P (lines_of (take n text))
taken_first Q P of_first of_others text zero both = tt
taken_first Q P of_first of_others [] (suc n) both = tt
taken_first Q P of_first of_others (octet ∷ text) (suc n) both =
    one_octet Q P of_first (octet == 10) octet (lines_of text) (lines_of (take n text))
    (λ all. as_all P (lines_of (take n text)) (taken_first P P of_others of_others text n (as_first P (lines_of text) all)))
    (taken_first (λ (line : List ℕ). Q (octet ∷ line)) P (λ line rest h. of_first (octet ∷ line) rest h) of_others text n) both

pub taken_lines : (P : List ℕ → Type 0) → HoldsInFront P → (text : List ℕ) (n : ℕ) → AllByRecursion P (lines_of text)
    → AllByRecursion P (lines_of (take n text))
taken_lines P in_front text n all = as_all P (lines_of (take n text)) (taken_first P P in_front in_front text n (as_first P (lines_of text) all))
