-- The command `migrate`.
use Rattle.std.proofs.Common.{refl, ℕ, List, [], arith}
use Rattle.wrp_migrate.proofs.EachAnswer.{each_has_migration}
use Rattle.wrp_migrate.proofs.Keeping.{keeps}
use Rattle.wrp_migrate.proofs.Unique.{one_migration}
use Rattle.wrp_migrate.specs.Migration.{migration}
use Rattle.wrp_records.specs.declared.status.Status.{Status}
use Rattle.wrp_records.specs.declared.status.Status.TheVariants.{Done, BadNetwork, TooLarge}
use Rattle.wrp_commands.specs.declared.alone.Alone.TheVariants.{Migrate}
use Rattle.wrp_asked.specs.Alone.{MayAnswer}
use Rattle.wrp_asked.specs.AloneAims.{MigratesSo}
use Rattle.wrp_asked.proofs.AloneCommand.{IsAloneCommand, Leaves}

may : (input : List ℕ) (status : Status) (octets : List ℕ) → migration.answers input [] status octets → MayAnswer Migrate status
may input Done octets at = (0, omega arith, refl)
may input BadNetwork octets at = (1, omega arith, refl)
may input TooLarge octets at = (2, omega arith, refl)
may input _ octets at = absurd at.1

-- a migration keeps the database
aim : (input : List ℕ) (status : Status) (octets : List ℕ) → Leaves migration input status octets → MigratesSo input status octets
aim input Done octets at =
    let has = at.answer refl in
    let db = has.1.1.db in
    let both = keeps input octets [] db has has.1.1.read in
    record { db = db; read = has.1.1.read; written = both.0; kept = both.1 }
aim input _ octets at = tt

pub facts : IsAloneCommand Migrate
facts = record {
  one = one_migration;
  uncalled = λ input calls status octets at. at.0;
  unlinked = λ input octets at. at;
  no_usage = λ input octets at. at.1;
  answered = each_has_migration;
  may = may;
  aim = aim;
}
