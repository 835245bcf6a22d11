-- The aims of the commands that stand alone, of what they wrote, for each status (this project's profile).
use Rattle.std.specs.Prelude.{◌≡◌, ℕ, List, ◌∷◌, ◌++◌, map, Ok, Result}
use Rattle.wrp_base.specs.declared.fault.ConfFault.{ConfFault}
use Rattle.wrp_calib.specs.LinesTold.{SayTruly, TellsSo}
use Rattle.wrp_calib.specs.Truth.{Delays}
use Rattle.wrp_caldb.specs.Database.{Database}
use Rattle.wrp_calibration_text.specs.Reading.{IsReadingOf}
use Rattle.wrp_l1sync.specs.LineAnswers.{ShowsBy, ShowsFront, ShowsWhole}
use Rattle.wrp_migrate.specs.Laws.{IsKept}
use Rattle.wrp_plain.specs.declared.event.PlainEvent.{PlainEvent}
use Rattle.wrp_plain.specs.declared.settings.PlainStart.{PlainStart}
use Rattle.wrp_plain.specs.LineCourse.{IsPlainRun}
use Rattle.wrp_plain.specs.LineTruth.{AllAreWithin, AreTrue}
use Rattle.wrp_plain.specs.Said.{WritesSo}
use Rattle.wrp_plain.specs.Steered.{AreSteered}
use Rattle.wrp_records.specs.Lines.{content_of, lines_of}
use Rattle.wrp_records.specs.declared.status.Status.{Status}
use Rattle.wrp_records.specs.declared.status.Status.TheVariants.{Done, BadTrace, Broken, ReadFault, TooLarge, OutOfMemory}

-- the octets are a calibration text of the database that the input is a text of: read again, they give a database in
-- which each name, and each pair of wavelengths, finds the same, and which is the same
pub record KeepsDatabase (input octets : List ℕ) : Type 0 where
  pub db : Database
  pub read : IsReadingOf input (Ok db)
  pub written : IsReadingOf octets (Ok db)
  pub kept : (answer : Result Database ConfFault) → IsReadingOf octets answer → IsKept db answer

-- so it is if a migration read its input to the end
abbrev pub MigratesSo : List ℕ → Status → List ℕ → Type 0
MigratesSo input Done octets = KeepsDatabase input octets
MigratesSo input status octets = Unit {0}

-- if records of every kind came and some true delays keep the stated errors, each printed interval holds its true
-- value, or a strand may be too short; no record is refused, and no conflict is reported
abbrev pub CalibratesSo : List ℕ → Status → List ℕ → Type 0
CalibratesSo input status octets = (true : Delays) → SayTruly input true → TellsSo status octets true

-- after each record each printed state is the one that looking back finds; an end whose last printed state is up was
-- handed a message since it was enabled, which its peer sent at most the timeout's ticks and a life ago; it requires
-- the same, and each required bit holds at the end and in the message; and both ends require the same now if the peer's
-- own message was not set since
abbrev pub SynchronisesSo : List ℕ → Status → List ℕ → Type 0
SynchronisesSo input Done octets = ShowsBy Done input octets
SynchronisesSo input BadTrace octets = ShowsBy BadTrace input octets
SynchronisesSo input Broken octets = ShowsBy Broken input octets
SynchronisesSo input TooLarge octets = ShowsBy TooLarge input octets
SynchronisesSo input ReadFault octets =
    (taken : List ℕ) × (left : List ℕ) × (input ≡ taken ++ left) × ShowsWhole taken octets
SynchronisesSo input OutOfMemory octets = ShowsFront input octets
SynchronisesSo input status octets = Unit {0}

-- the first records of an input: what each event gives is true, and so is each line that is written of it: a report is
-- within its bound of the true offset, the bound is the least that a kept measurement gives, and no exchange is too short to
-- be measured; the command of an exchange moves the true offset against the estimate; and each report holds until the next tick
abbrev pub TellsTruly : List ℕ → Type 0
TellsTruly input =
    (first : List ℕ) (lines rest : List (List ℕ)) → map content_of (lines_of input) ≡ first ∷ (lines ++ rest)
    → (start : PlainStart) (events : List PlainEvent) → IsPlainRun first lines start events
    → AreTrue start.set start.off events × AreSteered start.set start.off events

-- so it is whatever a plain servo is given; each report, as it is printed, is within its printed bound of the printed
-- true offset; and among the lines of reports and steps each report, moved with the printed steps, stays within its
-- bound up to the next tick; if a write failed the last line may be cut, and nothing is said of what was written
abbrev pub BoundsSo : List ℕ → Status → List ℕ → Type 0
BoundsSo input Done octets = AllAreWithin octets × WritesSo input Done octets × TellsTruly input
BoundsSo input BadTrace octets = AllAreWithin octets × WritesSo input BadTrace octets × TellsTruly input
BoundsSo input Broken octets = AllAreWithin octets × WritesSo input Broken octets × TellsTruly input
BoundsSo input TooLarge octets = AllAreWithin octets × WritesSo input TooLarge octets × TellsTruly input
BoundsSo input ReadFault octets = AllAreWithin octets × WritesSo input ReadFault octets × TellsTruly input
BoundsSo input OutOfMemory octets = AllAreWithin octets × WritesSo input OutOfMemory octets × TellsTruly input
BoundsSo input status octets = TellsTruly input
