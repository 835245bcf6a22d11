-- What an accepted network keeps: the ranges of its numbers, its tree, the inequalities, its names, and what it takes
-- from its modules and fibres (this project's profile).
use Rattle.std.specs.Prelude.{ℕ, ℤ, ◌≡◌, ◌≢◌, ◌↔◌, ◌+◌, ◌≤◌, max, map, fold, unsigned_abs, true, List, Option, None, Some, IsSome, IfSome, slice_get, ◌^◌}
use Rattle.std.specs.List.{flat_map}
use Rattle.wrp_network.specs.declared.configuration.NetCfg.{NetCfg}
use Rattle.wrp_network.specs.declared.network.NodeCfg.{NodeCfg}
use Rattle.wrp_network.specs.declared.network.LinkCfg.{LinkCfg}
use Rattle.wrp_base.specs.declared.link.Module.{Module}
use Rattle.wrp_network.specs.Network.{IsLink, IsNode, HasRanges, NamesNoPortTwice, IsTree}
use Rattle.wrp_bounds.specs.Inequalities.{KeepsInequalities}
use Rattle.wrp_caldb.specs.declared.database.Entry.{Entry}
use Rattle.wrp_caldb.specs.Name.{is_name, is_module_name}
use Rattle.wrp_caldb.specs.Database.{Database, ModuleAt, FibreAt, TableAt, delays_at, module_at, fibre_at, table_at}
use Rattle.wrp_law.specs.Table.{IsTable, IsWithin}

-- Names

-- no two places have the same element
abbrev pub HasNoRepeat : {X : Type 0} → List X → Type 0
HasNoRepeat {X} xs =
    (i j : ℕ) (x : X) → slice_get xs i ≡ Some x → slice_get xs j ≡ Some x → i ≡ j

-- the nodes and the links have names, all different, and the nodes have identities, all different
pub record HasNames (cfg : NetCfg) : Type 0 where
  pub node : (n : ℕ) (node : NodeCfg) → IsNode cfg n node → is_name node.name.bytes ≡ true
  pub link : (l : ℕ) (link : LinkCfg) → IsLink cfg l link → is_name link.name.bytes ≡ true
  pub nodes_apart : HasNoRepeat (map (λ node. node.name.bytes) cfg.nodes.items)
  pub links_apart : HasNoRepeat (map (λ link. link.name.bytes) cfg.links.items)
  pub apart :
      (n l : ℕ) (node : NodeCfg) (link : LinkCfg) → IsNode cfg n node → IsLink cfg l link →
      node.name.bytes ≢ link.name.bytes
  pub identities : HasNoRepeat (map (λ node. node.identity) cfg.nodes.items)

-- Modules and fibres

-- the delays of a module, in tau, and its transition tag are in their ranges
pub record HasDelayRanges (delays : Module) : Type 0 where
  pub tx : delays.tx ≤ 1_000_000_000_000
  pub rx : delays.rx ≤ 1_000_000_000_000
  pub transition : delays.transition ≤ 16_383
  pub err : delays.err ≤ 1_000_000_000

-- a listed module has a name of its own kind, and numbers in their ranges
pub record IsSoundModule (m : ModuleAt) : Type 0 where
  pub name : is_module_name m.name ≡ true
  pub entries : (k : ℕ) (entry : Entry) → slice_get m.entries k ≡ Some entry → HasDelayRanges entry.delays

-- points that rise, near the law of this asymmetry
pub record IsSoundTable (kappa : ℤ) (table : TableAt) : Type 0 where
  pub err : table.err ≤ 1_000_000_000
  pub points : IsTable table.points
  pub near : IsWithin kappa table.err table.points

-- a listed fibre has a name, and numbers in their ranges
pub record IsSoundFibre (f : FibreAt) : Type 0 where
  pub name : is_name f.name ≡ true
  pub kappa : unsigned_abs f.fibre.kappa ≤ 2 ^ 38
  pub least_err : 1 ≤ f.fibre.err
  pub err : f.fibre.err ≤ 1_000_000_000
  pub table : IfSome f.table (IsSoundTable f.fibre.kappa)

-- the modules are sound and have different names, and so have the fibres
pub record IsSoundDatabase (db : Database) : Type 0 where
  pub modules : (k : ℕ) (m : ModuleAt) → slice_get db.modules k ≡ Some m → IsSoundModule m
  pub fibres : (k : ℕ) (f : FibreAt) → slice_get db.fibres k ≡ Some f → IsSoundFibre f
  pub modules_apart : HasNoRepeat (map (λ m. m.name) db.modules)
  pub fibres_apart : HasNoRepeat (map (λ f. f.name) db.fibres)

-- What a link takes from them

-- the greatest of these numbers, 0 if there is none
abbrev pub greatest : List ℕ → ℕ
greatest ns = fold max 0 ns

-- the error of a module's numbers, if it is listed
abbrev pub error_of : Option Module → ℕ
error_of None = 0
error_of (Some delays) = delays.err

-- the greater error of a module at the two ends of a link of these wavelengths down and up
abbrev pub error_at_ends : ℕ → ℕ → ModuleAt → ℕ
error_at_ends down up m =
    max (error_of (delays_at m.entries down up)) (error_of (delays_at m.entries up down))

-- the error of a law: the error of the fraction rounded down, or one more than the error of the table
abbrev pub law_error : Option TableAt → ℕ
law_error None = 1
law_error (Some table) = table.err + 1

-- both wavelengths mean any wavelength or neither does, the modules are listed for the pairs of their ends, of which
-- the upper one sends on the way down, the fibre is listed, and the link's numbers are theirs
pub record FitsDatabase (db : Database) (link : LinkCfg) : Type 0 where
  pub wavelengths : (link.down_nm ≡ 0) ↔ (link.up_nm ≡ 0)
  pub upper_module : IsSome (module_at db link.upper_module.bytes link.down_nm link.up_nm)
  pub lower_module : IsSome (module_at db link.lower_module.bytes link.up_nm link.down_nm)
  pub fibre : fibre_at db link.fibre.bytes ≡ Some (record { kappa = link.kappa; err = link.e_asym })
  pub e_db : link.e_db ≡ greatest (map (error_at_ends link.down_nm link.up_nm) db.modules)
  pub law_err : link.law_err ≡ law_error (table_at db link.fibre.bytes)

-- the entries of all modules
abbrev pub all_delays : Database → List Module
all_delays db = map (λ entry. entry.delays) (flat_map (λ m. m.entries) db.modules)

-- all that the reader of a network file tests of the network, and the ranges and names of its modules and fibres
pub record IsAccepted (cfg : NetCfg) (db : Database) : Type 0 where
  pub ranges : HasRanges cfg
  pub ports : NamesNoPortTwice cfg
  pub tree : IsTree cfg
  pub inequalities : KeepsInequalities cfg
  pub names : HasNames cfg
  pub database : IsSoundDatabase db
  pub links : (l : ℕ) (link : LinkCfg) → IsLink cfg l link → FitsDatabase db link
  pub e_db : cfg.e_db ≡ greatest (map (λ delays. delays.err) (all_delays db))
  pub tx_max : cfg.tx_max ≡ greatest (map (λ delays. delays.tx) (all_delays db))
  pub rx_max : cfg.rx_max ≡ greatest (map (λ delays. delays.rx) (all_delays db))
