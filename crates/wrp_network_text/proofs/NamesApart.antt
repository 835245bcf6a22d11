-- Tables with names, none of which repeats an earlier one.
use Rattle.std.proofs.Common.{◌≡◌, ◌≢◌, ℕ, List, false, Some, map, take, sym, ◌∙◌}
use Rattle.std.specs.Prelude.{slice_get}
use Rattle.std.specs.List.{list_any}
use Rattle.toml.specs.Data.{Members, table}
use Rattle.wrp_caldb.specs.Database.{name_at}
use Rattle.wrp_caldb.specs.Name.{is_name}
use Rattle.wrp_caldb.specs.Repeats.{are_same_texts, name_in, has_name_of}
use Rattle.wrp_calibration_text.proofs.KeptNames.{IsText, name_read}
use Rattle.wrp_config.specs.Accepted.{HasNoRepeat}
use Rattle.wrp_config.proofs.Lists.{apart_of, map_at, none_before}
use Rattle.wrp_network_text.proofs.Texts.{differ}

-- each table has a name that no earlier one has
pub record HasNewNames (ts : List Members) : Type 0 where
  pub name : (n : ℕ) (t : Members) → slice_get ts n ≡ Some t → IsText is_name (name_in t)
  pub new : (n : ℕ) (t : Members) → slice_get ts n ≡ Some t → list_any (has_name_of t) (take n (map table ts)) ≡ false

-- names that are not the same text are read as different
pub read_differ : (s t : Members) (a : IsText is_name (name_in s)) (b : IsText is_name (name_in t)) → are_same_texts (name_in s) (name_in t) ≡ false
    → name_at s ≢ name_at t
read_differ s t a b told same =
    differ (name_in s) (name_in t) a.text b.text a.is b.is told
    (sym (name_read (name_in s) a) ∙ same ∙ name_read (name_in t) b)

pub names_once : (ts : List Members) → HasNewNames ts → HasNoRepeat (map name_at ts)
names_once ts names = apart_of name_at ts (λ i j s t before es et.
    let told = none_before (has_name_of t) j (map table ts) (names.new j t et) i (table s) before (map_at table ts i s es) in
    read_differ s t (names.name i s es) (names.name j t et) told)
