-- How a run ends shows what its words ask for.
use Rattle.std.proofs.Common.{inl, inr, List, ℕ}
use Rattle.wrp_records.specs.declared.status.Status.{Status}
use Rattle.wrp_records.specs.declared.status.Status.TheVariants.{Done, Usage, BadNetwork, BadTrace, Broken, ReadFault, WriteFault, LinkFault, TooLarge, OutOfMemory, BadCapture, BadCalib}
use Rattle.wrp_commands.specs.Request.{CommandLine, OnNetwork, StandAlone}
use Rattle.wrp_asked.specs.Answer.{CutAnswer, IsCommand}
use Rattle.wrp_asked.specs.Ends.{Ends, Run}
use Rattle.wrp_run.specs.Ending.{MayEnd}

cut_command : (asked : CommandLine) (taken octets : List ℕ) → CutAnswer asked taken octets → IsCommand asked
cut_command asked taken octets (inl network) = (OnNetwork network.0.0, network.0.1)
cut_command asked taken octets (inr alone) = (StandAlone alone.0, alone.1)

pub may_end : (run : Run) (status : Status) → Ends run status → MayEnd run.asked status
may_end run Done ends = ends.0.0
may_end run BadNetwork ends = ends.0
may_end run BadTrace ends = ends.0.0
may_end run Broken ends = ends.2
may_end run ReadFault ends = cut_command run.asked ends.1 ends.2 ends.5
may_end run WriteFault ends = tt
may_end run LinkFault ends = ends.1
may_end run TooLarge ends = ends.0
may_end run OutOfMemory ends = tt
may_end run BadCapture ends = ends.2
may_end run BadCalib ends = ends.1
may_end run Usage ends = elim ends.1 [ inl none ↦ inl none | inr node ↦ inr node.0 ]
