-- The description from which the law of a link is made (this project's profile).
use Rattle.std.specs.Prelude.{◌≡◌, ℕ, ℤ, pos, Option, None, Some}
use Rattle.wrp_network.specs.declared.network.LinkCfg.{LinkCfg}
use Rattle.wrp_caldb.specs.Database.{Database, table_at}
use Rattle.wrp_config.specs.Accepted.{law_error}
use Rattle.wrp_law.specs.declared.delay.LawKind.{LawKind}
use Rattle.wrp_law.specs.declared.delay.LawKind.TheVariants.{Linear}
use Rattle.wrp_law.specs.declared.link_law.LinkLaw.{LinkLaw}
use Rattle.wrp_law.specs.LinkLaw.{IsSound, down_of, error_of, kind_of, least_of, most_of}
use Rattle.wrp_replay.specs.DownLaw.{down_over, least_over, greatest_over}

-- the exact fraction of a link's law, and the error of the law
abbrev pub kind_over : Option LinkCfg → LawKind
kind_over None = Linear (pos 0)
kind_over (Some link) = Linear link.kappa

abbrev pub error_over : Database → Option LinkCfg → ℕ
error_over db None = 0
error_over db (Some link) = law_error (table_at db link.fibre.bytes)

-- it is sound, and its answers, its range, its fraction and its error are those of the link's law
pub record IsLawOver (db : Database) (link : Option LinkCfg) (law : LinkLaw) : Type 0 where
  pub sound : IsSound law
  pub down : (x : ℤ) → down_of law x ≡ down_over db link x
  pub least : least_of law ≡ least_over db link
  pub greatest : most_of law ≡ greatest_over db link
  pub kind : kind_of law ≡ kind_over link
  pub error : error_of law ≡ error_over db link
