-- The replay of the node of a name.
use Rattle.std.proofs.Common.{◌≡◌, ◌∙◌, ap, ap₂, sym, subst, ℕ, Some, None, Ok, List}
use Rattle.std.proofs.lemmas.Option.{same_Some}
use Rattle.wrp_network.specs.declared.configuration.NetCfg.{NetCfg}
use Rattle.wrp_caldb.specs.Database.{Database}
use Rattle.wrp_network_text.proofs.OneReading.{one_reading}
use Rattle.wrp_config.specs.Names.{node_named}
use Rattle.wrp_network_text.specs.Reading.{IsReadingOf}
use Rattle.wrp_config.specs.declared.network.Network.{Network}
use Rattle.wrp_trace.specs.LineSetting.{LineSetting}
use Rattle.wrp_commands.specs.Request as requests
use Rattle.wrp_replay.proofs.BareSetting.{named_bare}
use Rattle.wrp_replay.proofs.OneReplay.{exact_replay}
use Rattle.wrp_replay.specs.Replays.{IsNetworkOf}
use Rattle.wrp_asked.specs.Tasks.{Task, Replay, task_row}
use Rattle.wrp_asked.proofs.NetworkCommand.{IsNetworkTask, bare_task}

one_name : (a b : List ℕ) → requests.Replay a ≡ requests.Replay b → a ≡ b
one_name a b e = cc

-- a setting of these parts
abbrev site_with : NetCfg → Database → ℕ → LineSetting
site_with cfg db node = record { cfg = cfg; db = db; node = node }

one_site : (name text : List ℕ) (a b : LineSetting) → IsNetworkOf text a → IsNetworkOf text b → node_named a.cfg name ≡ Some a.node
    → node_named b.cfg name ≡ Some b.node → a ≡ b
one_site name text a b p q here there =
    let nets = one_reading text (Ok p.net) (Ok q.net) p.reads q.reads in
    let cfg : a.cfg ≡ b.cfg = p.cfg ∙ nets.0 ∙ sym q.cfg in
    let db : a.db ≡ b.db = p.db ∙ nets.1 ∙ sym q.db in
    let node : a.node ≡ b.node = same_Some a.node b.node (sym here ∙ ap (λ (c : NetCfg). node_named c name) cfg ∙ there) in
    ap (λ (c : NetCfg). site_with c a.db a.node) cfg ∙ ap (λ (d : Database). site_with b.cfg d a.node) db ∙ ap (λ (n : ℕ). site_with b.cfg b.db n) node

same : (name : List ℕ) (site : LineSetting) (text : List ℕ) (other : Task) → (task_row other).command ≡ requests.Replay name
    → (task_row (Replay name site)).IsIn text → (task_row other).IsIn text
    → bare_task other ≡ Replay name site
same name site text (Replay own other) command p q =
    let names : own ≡ name = one_name own name command in
    let there : node_named other.cfg name ≡ Some other.node = subst (λ (o : List ℕ). node_named other.cfg o ≡ Some other.node) names q.1 in
    ap₂ (λ (o : List ℕ) (s : LineSetting). Replay o s) names (one_site name text other site q.0 p.0 there p.1)
same name site text other command p q = absurd (cc)

named : (name : List ℕ) (site : LineSetting) (text : List ℕ) (net : Network) (own : List ℕ) → IsReadingOf text (Ok net)
    → (task_row (Replay name site)).IsIn text → Some name ≡ Some own
    → node_named net.cfg own ≡ None → ⊥
named name site text net own reads p needs none =
    let nets = one_reading text (Ok net) (Ok p.0.net) reads p.0.reads in
    let absent : node_named net.cfg name ≡ None = subst (λ (o : List ℕ). node_named net.cfg o ≡ None) (sym (same_Some name own needs)) none in
    let both : None ≡ Some site.node =
    sym absent ∙ sym (named_bare net.cfg name) ∙ ap (λ (c : NetCfg). node_named c name) (nets.0 ∙ sym p.0.cfg) ∙ p.1 in
    cc

pub facts : (name : List ℕ) (site : LineSetting) → IsNetworkTask (Replay name site)
facts name site = record {
  accepted = λ text p. (p.0.net, p.0.reads);
  named = named name site;
  same = same name site;
  linked = λ calls lines status octets due. due;
  bare = λ calls lines status octets due. due;
  exact = λ laws calls. exact_replay laws.run laws.node site;
  ends = λ lines octets at. at.broken;
}
