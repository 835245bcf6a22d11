-- The words of the commands that stand alone (this project's profile).
use Rattle.std.specs.Prelude.{◌≡◌, ℕ, List, [], ◌∷◌, codes}
use Rattle.wrp_commands.specs.declared.alone.Alone.{Alone}
use Rattle.wrp_commands.specs.declared.alone.Alone.TheVariants.{Migrate, Inspect, L1Sync, Calibrate, Plain}

-- the word of each
abbrev pub alone_word : Alone → List ℕ
alone_word Migrate = codes "migrate"
alone_word Inspect = codes "inspect"
alone_word L1Sync = codes "l1sync"
alone_word Calibrate = codes "calibrate"
alone_word Plain = codes "plain"

-- all of them, in the order of the usage line
abbrev pub alone_commands : List Alone
alone_commands = Migrate ∷ Inspect ∷ L1Sync ∷ Calibrate ∷ Plain ∷ []

-- the words are the word of a command
abbrev pub IsAlone : List (List ℕ) → Alone → Type 0
IsAlone words alone = words ≡ alone_word alone ∷ []
