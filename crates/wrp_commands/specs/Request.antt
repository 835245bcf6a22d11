-- What a command line asks for, without its words (this project's profile).
use Rattle.std.specs.Prelude.{ℕ, Option, List}
use Rattle.wrp_commands.specs.declared.alone.Alone.{Alone}
use Rattle.wrp_commands.specs.declared.command.Asked.TheVariants as asked
use Rattle.wrp_commands.specs.declared.command.Command.{Command}
use Rattle.wrp_commands.specs.declared.command.Command.TheVariants as command

-- a command on a network: the replay of a node, the audit of all, the inputs of a node in it, a simulation or a run over a link
-- from a seed
pub data Networked : Type 0 where
  Replay : (name : List ℕ) → Networked
  Audit : Networked
  Emit : (name : List ℕ) → Networked
  Simulate : (seed : ℕ) → Networked
  Loop : (seed : ℕ) → Networked

-- a command: one on a network, or one that stands alone
pub data Request : Type 0 where
  OnNetwork : (command : Networked) → Request
  StandAlone : (alone : Alone) → Request

-- what a command line says: the request that its words are, or none if they are no command; and the line that is
-- written if a command line is refused
pub record CommandLine : Type 0 where
  pub request : Option Request
  pub usage : List ℕ

-- the request that a command is
abbrev pub request_of : Command → Request
request_of (command.OnNetwork asked.Audit) = OnNetwork Audit
request_of (command.OnNetwork (asked.Emit name)) = OnNetwork (Emit name.now)
request_of (command.OnNetwork (asked.Replay name)) = OnNetwork (Replay name.now)
request_of (command.OnNetwork (asked.Simulate seed)) = OnNetwork (Simulate seed)
request_of (command.Loop seed) = OnNetwork (Loop seed)
request_of (command.Alone alone) = StandAlone alone
