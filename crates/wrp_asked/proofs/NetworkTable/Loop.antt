-- The run of a network over a link from a seed.
use Rattle.std.proofs.Common.{◌≡◌, ap₂, ℕ, Some, None, List}
use Rattle.wrp_course.specs.Setting.{Setting}
use Rattle.wrp_network_world.proofs.BareWorld.{bare_setting}
use Rattle.wrp_network_world.specs.NetworkSetting.{IsSettingOf}
use Rattle.wrp_commands.specs.Request as requests
use Rattle.wrp_asked.proofs.BareLoop.{bare_loop}
use Rattle.wrp_asked.specs.Tasks.{Task, Loop, task_row}
use Rattle.wrp_asked.proofs.NetworkCommand.{IsNetworkTask, bare_task}
use Rattle.wrp_asked.proofs.OneLoop.{exact_loop, scene_records}
use Rattle.wrp_asked.proofs.OneSetting.{accepted_setting, one_setting}

unnamed : (name : List ℕ) → None ≡ Some name → ⊥
unnamed name e = cc

one_seed : (a b : ℕ) → requests.Loop a ≡ requests.Loop b → a ≡ b
one_seed a b e = cc

same : (s : Setting) (seed : ℕ) (text : List ℕ) (other : Task) → (task_row other).command ≡ requests.Loop seed → IsSettingOf text s → (task_row other).IsIn text
    → bare_task other ≡ Loop (bare_setting s) seed
same s seed text (Loop t own) command p q = ap₂ (λ (k : Setting) (n : ℕ). Loop k n) (one_setting text t s q p) (one_seed own seed command)
same s seed text other command p q = absurd (cc)

pub facts : (s : Setting) (seed : ℕ) → IsNetworkTask (Loop s seed)
facts s seed = record {
  accepted = λ text setting. accepted_setting text s setting;
  named = λ text net name reads setting needs none. unnamed name needs;
  same = same s seed;
  linked = λ calls lines status octets due. scene_records s seed calls lines status octets due;
  bare = λ calls lines status octets due. bare_loop s seed calls lines status octets due;
  exact = λ laws calls. exact_loop laws.last (bare_setting s) seed calls;
  ends = λ lines octets at. at.broken;
}
