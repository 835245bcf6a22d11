-- Texts that `migrate` writes with as many octets as there may be (this project's profile).
use Rattle.std.specs.Prelude.{◌≡◌, ℕ, List, [], codes, length}
use Rattle.wrp_migrate.specs.Migration.{migration}
use Rattle.wrp_migrate.specs.Sizes.{most_octets}
use Rattle.wrp_records.specs.declared.status.Status.TheVariants.{Done}

-- a text in which nothing is listed
abbrev pub empty_text : List ℕ
empty_text = codes "fibre = []\nmodule = []\nversion = 2\n"

-- a module of version 1
abbrev pub one_module : List ℕ
one_module = codes "module=[{name=\"a\",tx=0,rx=0,transition=0,err=0}]"

-- the same of version 2
abbrev pub one_module_text : List ℕ
one_module_text =
    codes "fibre = []\nversion = 2\n\n[[module]]\nname = \"a\"\n\n[[module.pair]]\nerr = 0\nrx = 0\nrx_nm = 0\ntransition = 0\ntx = 0\ntx_nm = 0\n"

pub record WorkedSizes : Type 0 where
  -- of no octets 35 are made
  pub empty : migration.answers [] [] Done empty_text
  pub empty_octets : length empty_text ≡ 35
  pub empty_most : most_octets 0 ≡ 35
  -- and of 48 octets 120
  pub one : migration.answers one_module [] Done one_module_text
  pub one_octets : length one_module ≡ 48
  pub one_text_octets : length one_module_text ≡ 120
  pub one_most : most_octets 48 ≡ 120
