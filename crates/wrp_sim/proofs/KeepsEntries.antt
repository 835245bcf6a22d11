-- The numbers of a listed module are at most the greatest of all.
use Rattle.std.proofs.Common.{◌≡◌, sym, subst, ℕ, ◌≤◌, ◌==◌, ◌&&◌, Bool, max, fold, List, [], ◌∷◌, ◌++◌, map, flat_map, IfSome, arith}
use Rattle.std.specs.List.{AllByRecursion, find}
use Rattle.wrp_base.specs.declared.link.Module.{Module}
use Rattle.wrp_base.proofs.Options.{either_holds}
use Rattle.wrp_caldb.specs.Database.{Database, ModuleAt, delays_at, entry_at, module_at}
use Rattle.wrp_caldb.specs.declared.database.Entry.{Entry}
use Rattle.wrp_caldb.specs.Name.{same_name}
use Rattle.wrp_config.specs.Accepted.{all_delays, greatest}
use Rattle.wrp_node.proofs.Lists.{all_of}
use Rattle.wrp_plant.proofs.ListedModules.{found_case, mapped_holds, then_holds}

-- the greatest of some numbers

fold_above : (a : ℕ) (ns : List ℕ) → a ≤ fold max a ns
fold_above a [] = omega arith
fold_above a (n ∷ ns) = let h : max a n ≤ fold max (max a n) ns = fold_above (max a n) ns in omega (arith, h)

all_below : (a : ℕ) (ns : List ℕ) → AllByRecursion (λ n. n ≤ fold max a ns) ns
all_below a [] = tt
all_below a (n ∷ ns) =
    let h : max a n ≤ fold max (max a n) ns = fold_above (max a n) ns in
    let k : n ≤ fold max (max a n) ns = omega (arith, h) in
    (k, all_below (max a n) ns)

-- what was found is one of those that were searched

found_holds : {A : Type 0} (P : A → Type 0) (test : A → Bool) (xs : List A) → AllByRecursion P xs → IfSome (find test xs) P
found_holds P test [] h = tt
found_holds P test (x ∷ xs) h = found_case P (test x) x (find test xs) h.0 (found_holds P test xs h.1)

-- for all entries, module by module

abbrev number_of : (Module → ℕ) → List Entry → List ℕ
number_of number entries = map number (map (λ (e : Entry). e.delays) entries)

parts_hold : (number : Module → ℕ) (P : ℕ → Type 0) (xs ys : List Entry) → AllByRecursion P (number_of number (xs ++ ys)) → AllByRecursion (λ (e : Entry). P (number e.delays)) xs × AllByRecursion P (number_of number ys)
parts_hold number P [] ys h = (tt, h)
parts_hold number P (x ∷ xs) ys h =
    let rest : AllByRecursion (λ (e : Entry). P (number e.delays)) xs × AllByRecursion P (number_of number ys) = parts_hold number P xs ys h.1 in
    ((h.0, rest.0), rest.1)

modules_hold : (number : Module → ℕ) (P : ℕ → Type 0) (ms : List ModuleAt) → AllByRecursion P (number_of number (flat_map (λ m. m.entries) ms)) →
    AllByRecursion (λ (m : ModuleAt). AllByRecursion (λ (e : Entry). P (number e.delays)) m.entries) ms
modules_hold number P [] h = tt
modules_hold number P (m ∷ ms) h =
    let both : AllByRecursion (λ (e : Entry). P (number e.delays)) m.entries × AllByRecursion P (number_of number (flat_map (λ n. n.entries) ms)) =
    parts_hold number P m.entries (flat_map (λ n. n.entries) ms) h in
    (both.0, modules_hold number P ms both.1)

entry_holds : (Q : Module → Type 0) (tx rx : ℕ) (entries : List Entry) → AllByRecursion (λ (e : Entry). Q e.delays) entries → IfSome (entry_at tx rx entries) Q
entry_holds Q tx rx entries h =
    mapped_holds (λ (e : Entry). e.delays) Q (find (λ e. (e.tx_nm == tx) && (e.rx_nm == rx)) entries)
    (found_holds (λ (e : Entry). Q e.delays) (λ e. (e.tx_nm == tx) && (e.rx_nm == rx)) entries h)

pub module_small : (db : Database) (number : Module → ℕ) (most : ℕ) → most ≡ greatest (map number (all_delays db)) → (name : List ℕ) (tx rx : ℕ) → IfSome (module_at db name tx rx) (λ m. number m ≤ most)
module_small db number most is name tx rx =
    let all : AllByRecursion (λ n. n ≤ most) (number_of number (flat_map (λ m. m.entries) db.modules)) =
    subst (λ x. AllByRecursion (λ n. n ≤ x) (number_of number (flat_map (λ m. m.entries) db.modules))) (sym is) (all_below 0 (number_of number (flat_map (λ m. m.entries) db.modules))) in
    then_holds (λ (m : ModuleAt). delays_at m.entries tx rx) (λ m. number m ≤ most) (find (λ m. same_name m.name name) db.modules)
    (found_holds (λ (m : ModuleAt). IfSome (delays_at m.entries tx rx) (λ x. number x ≤ most)) (λ m. same_name m.name name) db.modules
    (all_of (λ (m : ModuleAt). AllByRecursion (λ (e : Entry). number e.delays ≤ most) m.entries) (λ (m : ModuleAt). IfSome (delays_at m.entries tx rx) (λ x. number x ≤ most)) db.modules
    (λ m h. either_holds (λ x. number x ≤ most) (entry_at tx rx m.entries) (entry_at 0 0 m.entries) (entry_holds (λ x. number x ≤ most) tx rx m.entries h) (entry_holds (λ x. number x ≤ most) 0 0 m.entries h))
    (modules_hold number (λ n. n ≤ most) db.modules all)))
