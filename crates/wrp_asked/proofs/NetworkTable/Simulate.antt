-- The simulation of a network from a seed.
use Rattle.std.proofs.Common.{◌≡◌, ap₂, ℕ, Some, None, List}
use Rattle.wrp_course.specs.Setting.{Setting}
use Rattle.wrp_network_world.proofs.BareWorld.{bare_setting}
use Rattle.wrp_network_world.specs.NetworkSetting.{IsSettingOf}
use Rattle.wrp_commands.specs.Request as requests
use Rattle.wrp_simulate.proofs.BareSim.{bare_simulation}
use Rattle.wrp_simulate.proofs.OneSim.{exact_simulation}
use Rattle.wrp_asked.specs.Tasks.{Task, Simulate, task_row}
use Rattle.wrp_asked.proofs.NetworkCommand.{IsNetworkTask, bare_task}
use Rattle.wrp_asked.proofs.OneSetting.{accepted_setting, one_setting}

unnamed : (name : List ℕ) → None ≡ Some name → ⊥
unnamed name e = cc

one_seed : (a b : ℕ) → requests.Simulate a ≡ requests.Simulate b → a ≡ b
one_seed a b e = cc

same : (s : Setting) (seed : ℕ) (text : List ℕ) (other : Task) → (task_row other).command ≡ requests.Simulate seed → IsSettingOf text s
    → (task_row other).IsIn text
    → bare_task other ≡ Simulate (bare_setting s) seed
same s seed text (Simulate t own) command p q = ap₂ (λ (k : Setting) (n : ℕ). Simulate k n) (one_setting text t s q p) (one_seed own seed command)
same s seed text other command p q = absurd (cc)

pub facts : (s : Setting) (seed : ℕ) → IsNetworkTask (Simulate s seed)
facts s seed = record {
  accepted = λ text setting. accepted_setting text s setting;
  named = λ text net name reads setting needs none. unnamed name needs;
  same = same s seed;
  linked = λ calls lines status octets due. due;
  bare = λ calls lines status octets due. bare_simulation s seed lines status octets due;
  exact = λ laws calls. exact_simulation laws.last (bare_setting s) seed;
  ends = λ lines octets at. at.broken;
}
