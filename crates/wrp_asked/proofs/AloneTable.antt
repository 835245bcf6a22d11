-- What is shown of the commands that stand alone, a file each.
pub mod Calibrate
pub mod Inspect
pub mod L1Sync
pub mod Migrate
pub mod Plain
use Rattle.wrp_commands.specs.declared.alone.Alone.{Alone}
use Rattle.wrp_commands.specs.declared.alone.Alone.TheVariants as commands
use Rattle.wrp_asked.proofs.AloneCommand.{IsAloneCommand}
use Rattle.wrp_asked.proofs.AloneTable.Calibrate.{facts as calibrate}
use Rattle.wrp_asked.proofs.AloneTable.Inspect.{facts as inspect}
use Rattle.wrp_asked.proofs.AloneTable.L1Sync.{facts as l1sync}
use Rattle.wrp_asked.proofs.AloneTable.Migrate.{facts as migrate}
use Rattle.wrp_asked.proofs.AloneTable.Plain.{facts as plain}

pub facts_of : (alone : Alone) → IsAloneCommand alone
facts_of commands.Migrate = migrate
facts_of commands.Inspect = inspect
facts_of commands.L1Sync = l1sync
facts_of commands.Calibrate = calibrate
facts_of commands.Plain = plain
