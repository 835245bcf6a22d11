-- A text whose tables are taken has at most 64 nodes and 63 links.
use Rattle.std.proofs.Common.{◌≡◌, ◌≤◌, ◌&&◌, ℕ, List, true, false, Option, None, Some, length, arith}
use Rattle.std.proofs.lemmas.Bool.{and_parts, false≢true, not-false}
use Rattle.std.proofs.lemmas.Bool.Decides.{nat_tests}
use Rattle.std.specs.Prelude.{codes, option_and_then, nat_le}
use Rattle.std.specs.Option.{is_some}
use Rattle.std.specs.List.{list_all}
use Rattle.toml.specs.Data.{Data, Members, as_table, get_member}
use Rattle.wrp_caldb.specs.Key.{optional_key}
use Rattle.wrp_caldb.specs.Points.{values_of}
use Rattle.wrp_caldb.specs.Rows.{has_fault, is_array_of_tables, tables_of, tables_at}
use Rattle.wrp_caldb.specs.declared.place.At.TheVariants as tables
use Rattle.wrp_caldb.specs.declared.row.Code.TheVariants as co
use Rattle.wrp_caldb.specs.declared.row.Sort.TheVariants as so
use Rattle.wrp_network_text.specs.Keys.{node_key, link_key}
use Rattle.wrp_network_text.specs.Places.{IsTaken}
use Rattle.wrp_network_text.proofs.Taken.{parts_of, only_key}

few_values : (most : ℕ) (values : Option (List Data)) → is_array_of_tables 0 (Some most) values ≡ true → length (tables_of values) ≤ most
few_values most None e = absurd (false≢true e)
few_values most (Some ds) e =
    let parts = and_parts (list_all (λ d. is_some (as_table d)) ds) (nat_le 0 (length ds) && nat_le (length ds) most) e in
    let size = and_parts (nat_le 0 (length ds)) (nat_le (length ds) most) parts.1 in
    let few : length ds ≤ most = grind (arith, nat_tests, size.1) in
    rw parts.0 few

few_tables : (name : List ℕ) (most : ℕ) (found : Option Data) → has_fault co.Range (optional_key name (so.Tables 0 (Some most))) found ≡ false
    → length (tables_of (option_and_then values_of found)) ≤ most
few_tables name most None e = omega arith
few_tables name most (Some d) e = few_values most (values_of d) (not-false (is_array_of_tables 0 (Some most) (values_of d)) e)

pub few_nodes : (doc : Members) → IsTaken doc → length (tables_at (codes "node") doc) ≤ 64
few_nodes doc taken =
    few_tables (codes "node") 64 (get_member (codes "node") doc)
    (only_key co.Range tables.Top node_key doc (parts_of doc taken co.Range).node_key)

pub few_links : (doc : Members) → IsTaken doc → length (tables_at (codes "link") doc) ≤ 63
few_links doc taken =
    few_tables (codes "link") 63 (get_member (codes "link") doc)
    (only_key co.Range tables.Top link_key doc (parts_of doc taken co.Range).link_key)
