-- The input of a command: the network text up to the first line that says `---`, or to the end, and
-- then the records, a line each (this project's profile).
use Rattle.std.specs.Prelude.{◌≡◌, ◌⊎◌, ℕ, ◌<◌, ◌≤◌, Bool, true, false, if◌then◌else◌, List, [], ◌∷◌, ◌++◌, length, codes}
use Rattle.std.specs.Io.{StartsWith}
use Rattle.std.specs.List.{concat, AllByRecursion}
use Rattle.std.specs.Str.{bytes_eq}
use Rattle.wrp_asked.specs.declared.network_text.HowItEnded.{HowItEnded}
use Rattle.wrp_asked.specs.declared.network_text.HowItEnded.TheVariants.{Whole, TooLong, Failed, Memory}
use Rattle.wrp_records.specs.Lines.{lines_of, content_of, HasNoFeed, IsWhole}
use Rattle.wrp_records.specs.Reader.{ReaderAt, IsLast}

-- whether a line is the one that ends the network text
abbrev pub is_separator : List ℕ → Bool
is_separator line = bytes_eq (content_of line) (codes "---")

-- the octets of the lines before the first such line
abbrev pub before_separator : List (List ℕ) → List ℕ
before_separator [] = []
before_separator (line ∷ lines) = if is_separator line then [] else line ++ before_separator lines

-- the lines after it
abbrev pub behind_separator : List (List ℕ) → List (List ℕ)
behind_separator [] = []
behind_separator (line ∷ lines) = if is_separator line then lines else behind_separator lines

-- the network text of an input
abbrev pub network_text : List ℕ → List ℕ
network_text input = before_separator (lines_of input)

-- how many octets a network text may have
abbrev pub network_limit : ℕ
network_limit = 262_144

-- however the input goes on after these octets, its network text is this, and its record lines come
-- after them
abbrev pub Divides : List ℕ → List ℕ → Type 0
Divides front text =
    (more : List ℕ) → (network_text (front ++ more) ≡ text)
    × (behind_separator (lines_of (front ++ more)) ≡ lines_of more)

-- the line that ends the network text came, or the end of the input
abbrev pub IsDivided : List ℕ → List ℕ → ReaderAt → Type 0
IsDivided taken text r =
    ((front : List ℕ) × (taken ≡ front ++ r.rest) × Divides front text)
    ⊎ (IsLast r × (network_text taken ≡ text) × (behind_separator (lines_of taken) ≡ []))

-- however the input goes on, its network text is too long
abbrev pub IsTooLong : List ℕ → ReaderAt → Type 0
IsTooLong taken r =
    (more : List ℕ) → (r.ended ≡ true → more ≡ [])
    → network_limit < length (network_text (taken ++ more))

-- a line that may still become the one that ends the network text
abbrev pub BeginsSeparator : List ℕ → Type 0
BeginsSeparator line = StartsWith (codes "---\r") line

-- no whole line ends the network text, and its size is not passed
pub record IsUndivided (taken : List ℕ) : Type 0 where
  pub lines : List (List ℕ)
  pub cut : List ℕ
  pub all : taken ≡ concat lines ++ cut
  pub whole : AllByRecursion IsWhole lines
  pub plain : HasNoFeed cut
  pub none : AllByRecursion (λ line. is_separator line ≡ false) lines
  pub lines_fit : length (concat lines) ≤ network_limit
  pub cut_fits : (length taken ≤ network_limit) ⊎ BeginsSeparator cut

-- what is known of the network text, by the way its reading ended
abbrev pub NetworkOutcome : HowItEnded → List ℕ → List ℕ → ReaderAt → Type 0
NetworkOutcome Whole taken text r = IsDivided taken text r × (length text ≤ network_limit)
NetworkOutcome TooLong taken text r = IsTooLong taken r
NetworkOutcome Failed taken text r = IsUndivided taken
NetworkOutcome Memory taken text r = Unit {0}
