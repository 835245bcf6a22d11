-- The input of `migrate` as it is taken and answered (this project's profile).
use Rattle.std.specs.Prelude.{◌≡◌, ◌⊎◌, ◌<◌, ℕ, Option, List, length}
use Rattle.std.specs.Io.KnownBytes.{IsAtEnd}
use Rattle.wrp_caldb.specs.Database.{Database}
use Rattle.wrp_calibration_text.specs.Text.{IsTextDue}
use Rattle.wrp_migrate.specs.Migration.{IsAnswer, IsWithin}
use Rattle.wrp_migrate.specs.declared.input.HowItEnded.{HowItEnded}
use Rattle.wrp_migrate.specs.declared.input.HowItEnded.TheVariants.{Whole, TooLong, Failed, Memory}
use Rattle.wrp_records.specs.Engine.{Finishes}
use Rattle.wrp_records.specs.declared.status.Status.{Status}
use Rattle.wrp_records.specs.declared.status.Status.TheVariants.{Done, OutOfMemory}

-- what was taken if the taking ends so: at the end of the input all of it, after a failed read no more than a text may
-- have
abbrev pub TextTaken : HowItEnded → Option (List ℕ) → List ℕ → List ℕ → Type 0
TextTaken Whole left given text = IsAtEnd left × (text ≡ given) × IsWithin given
TextTaken TooLong left given text = 262_144 < length given
TextTaken Failed left given text = IsWithin given
TextTaken Memory left given text = Unit {0}

-- there was no memory, and nothing is written
abbrev pub IsShort : Status → Option (List ℕ) → Option (List ℕ) → Type 0
IsShort given before now = (given ≡ OutOfMemory) × (now ≡ before)

-- the text of a database is written, or as much of it as the sink took
abbrev pub GivesText : Database → Status → Option (List ℕ) → Option (List ℕ) → Type 0
GivesText db given before now = IsShort given before now
    ⊎ ((text : List ℕ) × IsTextDue db text × Finishes Done given before now text)

-- what is expected for an input is written, or as much of it as the sink took
abbrev pub GivesAnswer : List ℕ → Status → Option (List ℕ) → Option (List ℕ) → Type 0
GivesAnswer input given before now = IsShort given before now
    ⊎ ((due : Status) × (text : List ℕ) × IsAnswer input due text × Finishes due given before now text)
