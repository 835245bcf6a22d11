-- The inputs of the node of a name in an audit.
use Rattle.std.proofs.Common.{◌≡◌, ◌∙◌, ap, ap₂, sym, subst, ℕ, Some, None, Ok, List}
use Rattle.std.proofs.lemmas.Option.{same_Some}
use Rattle.wrp_config.specs.Names.{node_named}
use Rattle.wrp_network_text.specs.Reading.{IsReadingOf}
use Rattle.wrp_config.specs.declared.network.Network.{Network}
use Rattle.wrp_course.specs.Setting.{Setting}
use Rattle.wrp_network_world.proofs.BareWorld.{bare_setting}
use Rattle.wrp_audit.proofs.ExactAudit.{exact_emission}
use Rattle.wrp_commands.specs.Request as requests
use Rattle.wrp_audit.proofs.BareRuns.{bare_emission}
use Rattle.wrp_asked.specs.Tasks.{Task, Emit, task_row}
use Rattle.wrp_asked.proofs.NetworkCommand.{IsNetworkTask, bare_task}
use Rattle.wrp_asked.proofs.OneSetting.{accepted_setting, node_there, one_node, one_setting}

one_name : (a b : List ℕ) → requests.Emit a ≡ requests.Emit b → a ≡ b
one_name a b e = cc

same : (name : List ℕ) (s : Setting) (n : ℕ) (text : List ℕ) (other : Task) → (task_row other).command ≡ requests.Emit name
    → (task_row (Emit name s n)).IsIn text → (task_row other).IsIn text
    → bare_task other ≡ Emit name (bare_setting s) n
same name s n text (Emit own t m) command p q =
    let names : own ≡ name = one_name own name command in
    let there : node_named t.cfg name ≡ Some m = subst (λ (own : List ℕ). node_named t.cfg own ≡ Some m) names q.1 in
    ap (λ (o : List ℕ). Emit o (bare_setting t) m) names
    ∙ ap₂ (λ (k : Setting) (i : ℕ). Emit name k i) (one_setting text t s q.0 p.0) (one_node text name t s m n q.0 p.0 there p.1)
same name s n text other command p q = absurd (cc)

named : (name : List ℕ) (s : Setting) (n : ℕ) (text : List ℕ) (net : Network) (own : List ℕ) → IsReadingOf text (Ok net) → (task_row (Emit name s n)).IsIn text
    → Some name ≡ Some own
    → node_named net.cfg own ≡ None → ⊥
named name s n text net own reads p needs none =
    node_there text name net s n reads p.0 p.1 (subst (λ (o : List ℕ). node_named net.cfg o ≡ None) (sym (same_Some name own needs)) none)

pub facts : (name : List ℕ) (s : Setting) (n : ℕ) → IsNetworkTask (Emit name s n)
facts name s n = record {
  accepted = λ text p. accepted_setting text s p.0;
  named = named name s n;
  same = same name s n;
  linked = λ calls lines status octets due. due;
  bare = λ calls lines status octets due. bare_emission s n lines status octets due;
  exact = λ laws calls. exact_emission laws.audit (bare_setting s) n;
  ends = λ lines octets at. at.broken;
}
