-- What `clap` knows of the command line: the commands, an option each (this project's profile).
use Rattle.std.specs.Prelude.{◌≡◌, ℕ, Bool, true, false, Option, Some, option_and_then, List, codes}
use Rattle.clap.specs.Words.{App, Row, Rule, first_of, new_app, new_rule, subcommand_of, takes, with_rule, with_subcommand}
use Rattle.clap.specs.Simple.{on_top}

-- an option that takes a value
abbrev pub option_rule : List ℕ → Bool → Rule
option_rule name is_required = record (new_rule name) { long = Some name; required = is_required }

-- a command with one option
abbrev pub with_option : List ℕ → List ℕ → Bool → App
with_option command option is_required = with_rule (new_app command) (option_rule option is_required)

-- no command yet: the words are those after the program's name, one names a command, and none asks for
-- help
abbrev pub without_command : App
without_command = on_top (λ s. record s { subcommand_required = true })
    (on_top (λ s. record s { disable_help_subcommand = true })
    (on_top (λ s. record s { disable_help_flag = true })
    (on_top (λ s. record s { no_binary_name = true }) (new_app (codes "wrnet")))))

-- the command line
abbrev pub wrnet : App
wrnet =
    with_subcommand
    (with_subcommand
    (with_subcommand
    (with_subcommand without_command (with_option (codes "audit") (codes "emit") false).top)
    (with_option (codes "replay") (codes "node") true).top)
    (with_option (codes "simulate") (codes "seed") true).top)
    (with_option (codes "loop") (codes "seed") true).top

-- the value of an option of a command that was found
abbrev pub value_of_option : List ℕ → Option (List ℕ × List Row) → Option (List ℕ)
value_of_option option command = option_and_then (λ named. first_of option named.1) command

-- clap takes the words, and this is the value of an option
pub record IsRead (words : List (List ℕ)) (option value : List ℕ) : Type 0 where
  pub taken : takes wrnet words ≡ true
  pub found : value_of_option option (subcommand_of wrnet words) ≡ Some value
