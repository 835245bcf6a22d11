-- What is shown of each task on a network, for all that is said of it above.
use Rattle.std.proofs.Common.{◌≡◌, ℕ, None, Some, Ok, List}
use Rattle.wrp_audit.specs.AuditLaws.{OneAudit}
use Rattle.wrp_config.specs.Names.{node_named}
use Rattle.wrp_network_text.specs.Reading.{IsReadingOf}
use Rattle.wrp_config.specs.declared.network.Network.{Network}
use Rattle.wrp_io.specs.declared.link.LinkCall.{LinkCall}
use Rattle.wrp_node.specs.OneRun.{OneNode, OneRun}
use Rattle.wrp_records.specs.LineMeaning.{LineMeaning}
use Rattle.wrp_records.specs.RecordsAnswer.{BreaksOff, RecordsAnswer}
use Rattle.wrp_records.specs.declared.status.Status.{Status}
use Rattle.wrp_records.specs.declared.status.Status.TheVariants.{BadCalib}
use Rattle.wrp_records.proofs.Unique.{IsExact}
use Rattle.wrp_replay.specs.Replays.{IsAccepted}
use Rattle.wrp_servo.specs.Told.{ToldLast}
use Rattle.wrp_loop.specs.Loops.{loop_of}
use Rattle.wrp_network_world.proofs.BareWorld.{bare_setting}
use Rattle.wrp_asked.specs.Tasks.{Task, Replay, Audit, Emit, Simulate, Loop, meaning_at, node_of, task_row}

-- the laws by which a run, an audit and a servo are one
pub record OneLaws : Type 0 where
  pub run : OneRun
  pub node : OneNode
  pub audit : OneAudit
  pub last : ToldLast

-- the same task in the network whose names have nothing in their unused room
abbrev pub bare_task : Task → Task
bare_task (Replay name site) = Replay name site
bare_task (Audit s) = Audit (bare_setting s)
bare_task (Emit name s n) = Emit name (bare_setting s) n
bare_task (Simulate s seed) = Simulate (bare_setting s) seed
bare_task (Loop s seed) = Loop (bare_setting s) seed

-- what the record lines of a task mean where a link answered these calls, which only a run over a link makes
abbrev pub meaning_with : Task → List LinkCall → LineMeaning
meaning_with (Loop s seed) calls = loop_of s seed calls
meaning_with task calls = meaning_at task

-- It is asked of an accepted network, which has the node that is asked for. A text and a command have one such task,
-- except for the unused room of names, which decides nothing; and for record lines one status and one text are
-- expected. No end is a wrong calibration.
pub record IsNetworkTask (task : Task) : Type 0 where
  pub accepted : (text : List ℕ) → (task_row task).IsIn text → IsAccepted text
  pub named :
      (text : List ℕ) (net : Network) (name : List ℕ) → IsReadingOf text (Ok net) → (task_row task).IsIn text →
      node_of (task_row task).command ≡ Some name → node_named net.cfg name ≡ None → ⊥
  pub same :
      (text : List ℕ) (other : Task) → (task_row other).command ≡ (task_row task).command → (task_row task).IsIn text →
      (task_row other).IsIn text → bare_task other ≡ bare_task task
  pub linked :
      (calls : List LinkCall) (lines : List (List ℕ)) (status : Status) (octets : List ℕ) →
      RecordsAnswer (meaning_at task) lines status octets → RecordsAnswer (meaning_with task calls) lines status octets
  pub bare :
      (calls : List LinkCall) (lines : List (List ℕ)) (status : Status) (octets : List ℕ) →
      RecordsAnswer (meaning_with task calls) lines status octets → RecordsAnswer (meaning_with (bare_task task) calls) lines status octets
  pub exact : OneLaws → (calls : List LinkCall) → IsExact (meaning_with (bare_task task) calls)
  pub ends : (lines : List (List ℕ)) (octets : List ℕ) → BreaksOff (meaning_at task) BadCalib lines octets → ⊥
