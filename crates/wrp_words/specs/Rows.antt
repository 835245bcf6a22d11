-- The table of commands: a row each, in the order of the usage line (this project's profile).
use Rattle.std.specs.Prelude.{◌≡◌, ◌⊎◌, ◌↔◌, ℕ, true, false, Option, Some, option_map, List, [], ◌∷◌, ◌++◌, map, codes}
use Rattle.clap.specs.Words.{App, with_subcommand}
use Rattle.wrp_commands.specs.declared.alone.Alone.{Alone}
use Rattle.wrp_commands.specs.Request.{Request, Audit, Emit, Replay, Simulate, Loop, OnNetwork, StandAlone}
use Rattle.wrp_words.specs.declared.command_line.Form.{Form}
use Rattle.wrp_words.specs.Alone.{alone_commands, alone_word}
use Rattle.wrp_words.specs.CommandLine.{HasForm, IsCommandWith}
use Rattle.wrp_words.specs.Fields.{seed_of}
use Rattle.wrp_words.specs.Parsing.{without_command, with_option, wrnet}
use Rattle.wrp_words.specs.Refusals.{usage_line}

-- What comes after a command's name, and what is then asked for: nothing, or one option with a value, which may be left out or
-- has to be given. A value that is none of its kind asks for nothing.
pub data Behind : Type 0 where
  Bare : (asks : Request) → Behind
  May : (asks : Request) (option value : List ℕ) (with : List ℕ → Option Request) → Behind
  Must : (option value : List ℕ) (with : List ℕ → Option Request) → Behind

-- a command: its name, and what comes after it
pub record Row : Type 0 where
  pub name : List ℕ
  pub behind : Behind

-- the name of a node
abbrev pub emission : List ℕ → Option Request
emission name = Some (OnNetwork (Emit name))

abbrev pub replay : List ℕ → Option Request
replay name = Some (OnNetwork (Replay name))

-- a seed
abbrev pub simulation : List ℕ → Option Request
simulation text = option_map (λ seed. OnNetwork (Simulate seed)) (seed_of text)

abbrev pub looping : List ℕ → Option Request
looping text = option_map (λ seed. OnNetwork (Loop seed)) (seed_of text)

-- a command that stands alone: its word is its line
abbrev pub bare_row : Alone → Row
bare_row alone = record { name = alone_word alone; behind = Bare (StandAlone alone) }

-- the commands: those with an option, and those that stand alone
abbrev pub rows : List Row
rows =
    record { name = codes "audit"; behind = May (OnNetwork Audit) (codes "emit") (codes "NODE") emission }
    ∷ record { name = codes "replay"; behind = Must (codes "node") (codes "NODE") replay }
    ∷ record { name = codes "simulate"; behind = Must (codes "seed") (codes "N") simulation }
    ∷ record { name = codes "loop"; behind = Must (codes "seed") (codes "N") looping }
    ∷ map bare_row alone_commands

-- what comes after a name in the usage line
abbrev pub behind_text : Behind → List ℕ
behind_text (Bare asks) = []
behind_text (May asks option value with) = codes " [--" ++ option ++ codes " " ++ value ++ codes "]"
behind_text (Must option value with) = codes " --" ++ option ++ codes " " ++ value

-- the commands in the usage line, with a bar between each two
abbrev pub rows_text : List Row → List ℕ
rows_text [] = []
rows_text (row ∷ []) = row.name ++ behind_text row.behind
rows_text (row ∷ next ∷ more) =
    row.name ++ behind_text row.behind ++ codes " | " ++ rows_text (next ∷ more)

-- the words are this name with what may or has to come after it
abbrev pub IsLine : List ℕ → Behind → List (List ℕ) → Type 0
IsLine name (Bare asks) words = words ≡ name ∷ []
IsLine name (May asks option value with) words =
    (words ≡ name ∷ []) ⊎ ((given : List ℕ) × IsCommandWith name (codes "--" ++ option) words given)
IsLine name (Must option value with) words =
    (given : List ℕ) × IsCommandWith name (codes "--" ++ option) words given

-- the words are a line of one of these commands
abbrev pub IsLineOf : List Row → List (List ℕ) → Type 0
IsLineOf [] words = ⊥
IsLineOf (row ∷ more) words = IsLine row.name row.behind words ⊎ IsLineOf more words

-- a parser that knows one more command, if that command has an option
abbrev pub with_row : App → List ℕ → Behind → App
with_row app name (Bare asks) = app
with_row app name (May asks option value with) = with_subcommand app (with_option name option false).top
with_row app name (Must option value with) = with_subcommand app (with_option name option true).top

-- a parser that also knows these commands
abbrev pub with_rows : App → List Row → App
with_rows app [] = app
with_rows app (row ∷ more) = with_rows (with_row app row.name row.behind) more

-- the usage line, the forms of a command line and what `clap` knows are given by the table
pub record LinesAreOfRows : Type 0 where
  pub usage : usage_line ≡ codes "usage: wrnet " ++ rows_text rows ++ codes "\n"
  pub forms : (words : List (List ℕ)) → ((form : Form) × HasForm words form) ↔ IsLineOf rows words
  pub parser : wrnet ≡ with_rows without_command rows
