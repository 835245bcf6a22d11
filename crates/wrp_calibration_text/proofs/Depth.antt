-- How deep the text of a database nests.
use Rattle.std.proofs.Common.{◌≤◌, ℕ, List, [], ◌∷◌, Option, None, Some, map, arith}
use Rattle.toml.specs.Data.{Data, table, depth, items_depth, members_depth}
use Rattle.toml.specs.View.{items_of}
use Rattle.wrp_caldb.specs.Database.{Database, ModuleAt, FibreAt, TableAt}
use Rattle.wrp_calibration_text.specs.Text.{pair_members, module_members, point_data, table_members, fibre_members, document_of}

-- an array nests one deeper than its items
deep : {X : Type 0} (f : X → Data) (k : ℕ) → ((x : X) → depth (f x) ≤ k) → (xs : List X)
    → items_depth (items_of (map f xs)) ≤ k
deep f k h [] = omega arith
deep f k h (x ∷ xs) = let here = h x in let more = deep f k h xs in omega arith

deep_module : (m : ModuleAt) → depth (table (module_members m)) ≤ 3
deep_module m =
    let pairs = deep (λ e. table (pair_members e)) 1 (λ e. omega arith) m.entries in
    omega arith

deep_points : (t : Option TableAt) → members_depth (table_members t) ≤ 2
deep_points None = omega arith
deep_points (Some t) = let points = deep point_data 1 (λ p. omega arith) t.points in omega arith

deep_fibre : (f : FibreAt) → depth (table (fibre_members f)) ≤ 3
deep_fibre f = let points = deep_points f.table in omega arith

-- at most four tables and arrays are within one another
pub document_depth : (db : Database) → members_depth (document_of db) ≤ 80
document_depth db =
    let fibres = deep (λ f. table (fibre_members f)) 3 deep_fibre db.fibres in
    let modules = deep (λ m. table (module_members m)) 3 deep_module db.modules in
    omega arith
