-- What the words ask of the top call: a command, and work on a whole network; and what comes before its records
-- (this project's profile).
use Rattle.std.specs.Prelude.{◌≡◌, ◌<◌, ◌≤◌, true, ℕ, Option, None, Some, IfSome, Ok, List, length}
use Rattle.std.specs.Io.KnownBytes.{Consumes, IsAtEnd}
use Rattle.wrp_network.specs.Network.{node_count}
use Rattle.wrp_config.specs.declared.network.Network.{Network}
use Rattle.wrp_config.specs.Names.{node_named}
use Rattle.wrp_network_text.specs.Reading.{IsReadingOf}
use Rattle.wrp_course.specs.Setting.{Setting}
use Rattle.wrp_records.specs.LineMeaning.{LineMeaning}
use Rattle.wrp_records.specs.Reader.{ReaderAt}
use Rattle.wrp_audit.specs.Audits.{meaning_for}
use Rattle.wrp_simulate.specs.Simulates.{simulation_of}
use Rattle.wrp_commands.specs.declared.command.Asked.{Asked}
use Rattle.wrp_commands.specs.declared.command.Command.{Command}
use Rattle.wrp_commands.specs.declared.command.Command.TheVariants as command
use Rattle.wrp_commands.specs.Request.{CommandLine, request_of}
use Rattle.wrp_run.specs.declared.network.Work as work
use Rattle.wrp_run.specs.declared.network.Work.TheVariants as works
use Rattle.wrp_asked.specs.Alone.{IsAlone}
use Rattle.wrp_asked.specs.Answer.{IsCommand}
use Rattle.wrp_asked.specs.Input.{IsDivided, network_limit}
use Rattle.wrp_asked.specs.Tasks.{IsAuditing, IsEmission, IsLooping, IsSimulation}

-- this is asked of a network
abbrev pub IsAsked : CommandLine → Asked → Type 0
IsAsked asked what = asked.request ≡ Some (request_of (command.OnNetwork what))

-- this command is asked for, or none
abbrev pub AsksSo : CommandLine → Option Command → Type 0
AsksSo asked (Some (command.OnNetwork what)) = IsAsked asked what
AsksSo asked (Some (command.Alone alone)) = IsAlone asked alone
AsksSo asked (Some (command.Loop seed)) = IsLooping asked seed
AsksSo asked None = IsCommand asked → ⊥

-- this work on a whole network is asked for; a node whose inputs are asked for is the first with its
-- name
abbrev pub AsksWork : CommandLine → Network → work.Work → Type 0
AsksWork asked net (works.Audit None) = IsAuditing asked
AsksWork asked net (works.Audit (Some n)) =
    (name : List ℕ) × IsEmission asked name × (node_named net.cfg name ≡ Some n)
AsksWork asked net (works.Simulate seed) = IsSimulation asked seed

-- the work belongs to this network: a node whose inputs are asked for is one of its nodes
abbrev pub FitsWork : Network → work.Work → Type 0
FitsWork net (works.Audit emit) = IfSome emit (λ n. n < node_count net.cfg)
FitsWork net (works.Simulate seed) = Unit {0}

-- what record lines mean in a work: the inputs of a node, if they are asked for, otherwise the lines of all nodes;
-- or a simulation
abbrev pub work_meaning : work.Work → Setting → LineMeaning
work_meaning (works.Audit emit) s = meaning_for emit s
work_meaning (works.Simulate seed) s = simulation_of s seed

-- The part before the records came: from what the source had first, the octets up to the line that ends the network
-- text, or to the end, were taken, and the text describes this network; the reader holds what follows.
pub record IsFront (first middle : Option (List ℕ)) (text : List ℕ) (r : ReaderAt) (net : Network) : Type 0 where
  pub network : List ℕ
  pub taken : Consumes first middle network
  pub divided : IsDivided network text r
  pub within : length text ≤ network_limit
  pub at_end : r.ended ≡ true → IsAtEnd middle
  pub reads : IsReadingOf text (Ok net)
