-- What is shown of the tasks on a network, a file each.
pub mod Audit
pub mod Emit
pub mod Loop
pub mod Replay
pub mod Simulate
use Rattle.wrp_asked.specs.Tasks.{Task}
use Rattle.wrp_asked.specs.Tasks as tasks
use Rattle.wrp_asked.proofs.NetworkCommand.{IsNetworkTask}
use Rattle.wrp_asked.proofs.NetworkTable.Audit.{facts as audit}
use Rattle.wrp_asked.proofs.NetworkTable.Emit.{facts as emit}
use Rattle.wrp_asked.proofs.NetworkTable.Loop.{facts as looped}
use Rattle.wrp_asked.proofs.NetworkTable.Replay.{facts as replay}
use Rattle.wrp_asked.proofs.NetworkTable.Simulate.{facts as simulate}

pub task_facts : (task : Task) → IsNetworkTask task
task_facts (tasks.Replay name site) = replay name site
task_facts (tasks.Audit s) = audit s
task_facts (tasks.Emit name s n) = emit name s n
task_facts (tasks.Simulate s seed) = simulate s seed
task_facts (tasks.Loop s seed) = looped s seed
