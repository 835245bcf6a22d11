-- The audit of a network.
use Rattle.std.proofs.Common.{◌≡◌, ap, ℕ, Some, None, List}
use Rattle.wrp_course.specs.Setting.{Setting}
use Rattle.wrp_network_world.proofs.BareWorld.{bare_setting}
use Rattle.wrp_audit.proofs.ExactAudit.{exact_audit}
use Rattle.wrp_network_world.specs.NetworkSetting.{IsSettingOf}
use Rattle.wrp_commands.specs.Request as requests
use Rattle.wrp_audit.proofs.BareRuns.{bare_answer}
use Rattle.wrp_asked.specs.Tasks.{Task, Audit, task_row}
use Rattle.wrp_asked.proofs.NetworkCommand.{IsNetworkTask, bare_task}
use Rattle.wrp_asked.proofs.OneSetting.{accepted_setting, one_setting}

unnamed : (name : List ℕ) → None ≡ Some name → ⊥
unnamed name e = cc

same : (s : Setting) (text : List ℕ) (other : Task) → (task_row other).command ≡ requests.Audit → IsSettingOf text s → (task_row other).IsIn text
    → bare_task other ≡ Audit (bare_setting s)
same s text (Audit t) command p q = ap Audit (one_setting text t s q p)
same s text other command p q = absurd (cc)

pub facts : (s : Setting) → IsNetworkTask (Audit s)
facts s = record {
  accepted = λ text setting. accepted_setting text s setting;
  named = λ text net name reads setting needs none. unnamed name needs;
  same = same s;
  linked = λ calls lines status octets due. due;
  bare = λ calls lines status octets due. bare_answer s lines status octets due;
  exact = λ laws calls. exact_audit laws.audit (bare_setting s);
  ends = λ lines octets at. at.broken;
}
