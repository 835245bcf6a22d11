-- Which inputs may come to a node: those that a line can say (this project's profile).
use Rattle.std.specs.Prelude.{ℕ, ◌≡◌, ◌≤◌, ◌<◌, ◌^◌, Bool, true, false, Option, None, Some, List, length}
use Rattle.wrp_base.specs.declared.link.Module.{Module}
use Rattle.wrp_base.specs.Octets.{AreOctets}
use Rattle.wrp_node.specs.declared.interface.Input.{Input}
use Rattle.wrp_node.specs.declared.interface.Input.TheVariants.{Tick, Sample, Frame, Sent, Carrier, Reset}
use Rattle.wrp_course.specs.EventAt.{IsRaw, IsTime}
use Rattle.wrp_trace.specs.LineSetting.{LineSetting, is_grandmaster, has_port, module_of}

-- a module that the database does not list, or the values of one that is listed for the port
abbrev pub IsListed : LineSetting → ℕ → Option Module → Type 0
IsListed site port None = Unit {0}
IsListed site port (Some values) = (name : List ℕ) × (module_of site port name ≡ Some values)

-- the module of a port whose carrier comes; none if the carrier goes
abbrev pub HasModule : LineSetting → ℕ → Bool → Option Module → Type 0
HasModule site port true entry = IsListed site port entry
HasModule site port false entry = entry ≡ None

-- the input may come to the node: its numbers are in the ranges of a line, its port is one of the
-- node's, its module is listed for that port or is None, and a sample is not for the grandmaster
abbrev pub IsInputAt : LineSetting → Input → Type 0
IsInputAt site Tick = Unit {0}
IsInputAt site (Sample n base bits) = (is_grandmaster site ≡ false) × (base ≤ 16_383)
IsInputAt site (Frame port octets raw sample) = (has_port site port ≡ true) × IsRaw raw
IsInputAt site (Sent port seq delay stamp) = (has_port site port ≡ true) × IsTime stamp.value
IsInputAt site (Carrier port up entry) = (has_port site port ≡ true) × HasModule site port up entry
IsInputAt site Reset = Unit {0}

-- the input's numbers fit the types that hold them
abbrev pub FitsTypes : Input → Type 0
FitsTypes Tick = Unit {0}
FitsTypes (Sample n base bits) = (n < 2 ^ 32) × (bits < 2 ^ 64)
FitsTypes (Frame port octets raw sample) =
    (port < 2 ^ 16) × (AreOctets octets.items × (length octets.items ≤ 256)) × (sample < 2 ^ 32)
FitsTypes (Sent port seq delay stamp) = (port < 2 ^ 16) × (seq < 2 ^ 16) × (stamp.sample < 2 ^ 32)
FitsTypes (Carrier port up entry) = port < 2 ^ 16
FitsTypes Reset = Unit {0}
