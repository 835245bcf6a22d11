-- Commands that stand alone: no network text comes before their records (this project's profile). Each has one row of a table.
use Rattle.std.specs.Prelude.{◌≡◌, List, [], ◌∷◌, ℕ, Contains, Some}
use Rattle.wrp_calib.specs.LinesMeaning.{calibration}
use Rattle.wrp_l1sync.specs.LineRecords.{meaning as synchronisation}
use Rattle.wrp_migrate.specs.Migration.{migration}
use Rattle.wrp_pcap.specs.InspectAim.{InspectsSo}
use Rattle.wrp_pcap.specs.Inspected.{capture}
use Rattle.wrp_plain.specs.LineCourse.{plain_meaning}
use Rattle.wrp_records.specs.ByLines.{of_lines}
use Rattle.wrp_records.specs.Meaning.{Meaning}
use Rattle.wrp_records.specs.declared.status.Status.{Status}
use Rattle.wrp_records.specs.declared.status.Status.TheVariants.{Done, BadNetwork, BadTrace, Broken, TooLarge, BadCapture, BadCalib}
use Rattle.wrp_commands.specs.declared.alone.Alone.{Alone}
use Rattle.wrp_commands.specs.declared.alone.Alone.TheVariants.{Migrate, Inspect, L1Sync, Calibrate, Plain}
use Rattle.wrp_commands.specs.Request.{CommandLine, StandAlone}
use Rattle.wrp_asked.specs.AloneAims.{BoundsSo, CalibratesSo, MigratesSo, SynchronisesSo}

-- What a command is: what the octets of its input mean; the statuses with which it may answer, except for faults of the
-- outside and lack of memory; and its aim, for an input, the status and what was written.
pub record AloneRow : Type 1 where
  pub meaning : Meaning
  pub statuses : List Status
  pub aim : List ℕ → Status → List ℕ → Type 0

-- the table
abbrev pub alone_row : Alone → AloneRow
alone_row Migrate = record {
  meaning = migration;
  statuses = Done ∷ BadNetwork ∷ TooLarge ∷ [];
  aim = MigratesSo;
}
alone_row Inspect = record {
  meaning = capture;
  statuses = Done ∷ BadCapture ∷ TooLarge ∷ [];
  aim = InspectsSo;
}
alone_row L1Sync = record {
  meaning = of_lines synchronisation;
  statuses = Done ∷ BadTrace ∷ Broken ∷ TooLarge ∷ [];
  aim = SynchronisesSo;
}
alone_row Calibrate = record {
  meaning = of_lines calibration;
  statuses = Done ∷ BadTrace ∷ BadCalib ∷ TooLarge ∷ [];
  aim = CalibratesSo;
}
alone_row Plain = record {
  meaning = of_lines plain_meaning;
  statuses = Done ∷ BadTrace ∷ Broken ∷ TooLarge ∷ [];
  aim = BoundsSo;
}

-- a command line asks for a command
abbrev pub IsAlone : CommandLine → Alone → Type 0
IsAlone asked alone = asked.request ≡ Some (StandAlone alone)

-- what the octets of its input mean
abbrev pub alone_meaning : Alone → Meaning
alone_meaning alone = (alone_row alone).meaning

-- it may answer this status
abbrev pub MayAnswer : Alone → Status → Type 0
MayAnswer alone status = Contains (alone_row alone).statuses status

-- its aim holds of an input, a status and what was written
abbrev pub HasAim : Alone → List ℕ → Status → List ℕ → Type 0
HasAim alone input status octets = (alone_row alone).aim input status octets
