-- Where a line of inputs belongs: a node of a network (this project's profile).
use Rattle.std.specs.Prelude.{◌==◌, ◌&&◌, ℕ, Bool, false, if◌then◌else◌, Option, Some, None, is_none, is_some, option_map, List, codes}
use Rattle.std.specs.List.{find}
use Rattle.wrp_network.specs.declared.configuration.NetCfg.{NetCfg}
use Rattle.wrp_base.specs.declared.link.Module.{Module}
use Rattle.wrp_network.specs.Network.{link_above}
use Rattle.wrp_caldb.specs.Database.{Database}
use Rattle.wrp_caldb.specs.Name.{same_name}
use Rattle.wrp_config.specs.Names.{pair_at, listed_at}
use Rattle.wrp_config.specs.declared.network.Network.{Network}
use Rattle.wrp_course.specs.Setting.{Setting}

-- a node of a network, by its place from 0 in file order
pub record LineSetting : Type 0 where
  pub cfg : NetCfg
  pub db : Database
  pub node : ℕ

-- this node of this network
abbrev pub line_setting_of : Network → ℕ → LineSetting
line_setting_of net node = record { cfg = net.cfg; db = net.db; node = node }

-- a node of the network of a world's setting
abbrev pub line_setting_in : Setting → ℕ → LineSetting
line_setting_in s n = record { cfg = s.cfg; db = s.db; node = n }

-- whether the node gives the time: no link has it as its lower end
abbrev pub is_grandmaster : LineSetting → Bool
is_grandmaster site = is_none (link_above site.cfg site.node)

-- whether a link names this port of the node
abbrev pub has_port : LineSetting → ℕ → Bool
has_port site port = is_some (pair_at site.cfg site.node port)

-- the numbers of a listed module at a port of the node
abbrev pub module_of : LineSetting → ℕ → List ℕ → Option Module
module_of site port name = listed_at site.cfg site.db site.node port name

-- the module that a text names at a port: `unlisted` means a module that the database does not
-- list, and a name that is neither finds nothing
abbrev pub named_at : LineSetting → ℕ → List ℕ → Option (Option Module)
named_at site port name =
    if same_name name (codes "unlisted") then Some None
    else option_map (λ entry. Some entry) (module_of site port name)

-- whether two modules have equal values
abbrev pub same_module : Module → Module → Bool
same_module a b =
    (a.tx == b.tx) && ((a.rx == b.rx) && ((a.transition == b.transition) && (a.err == b.err)))

-- whether this is a module of these values
abbrev pub has_values : Module → Option Module → Bool
has_values values None = false
has_values values (Some entry) = same_module entry values

-- the first listed name, in file order, whose module at a port has these values
abbrev pub name_of : LineSetting → ℕ → Module → Option (List ℕ)
name_of site port values =
    option_map (λ m. m.name)
    (find (λ m. has_values values (module_of site port m.name)) site.db.modules)
