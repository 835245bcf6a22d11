-- The counters that close the records over a world, one node after another.
use Rattle.std.proofs.Common.{◌≡◌, ◌∙◌, refl, ap, ap₂, sym, append_assoc, append-nil, ℕ, ℤ, suc, ◌+◌, ◌-◌, ◌==◌, ◌<◌, ◌≤◌, if◌then◌else◌, List, [], ◌++◌, flat_map, map, Some, arith}
use Rattle.std.specs.Prelude.{slice_get}
use Rattle.std.specs.List.{list_any}
use Rattle.wrp_network.specs.Network.{name_at, node_count}
use Rattle.wrp_caldb.specs.Database.{Database}
use Rattle.wrp_network.specs.declared.configuration.NetCfg.{NetCfg}
use Rattle.wrp_config.specs.Same.{bare_cfg}
use Rattle.wrp_node.specs.NodeAt.{NodeSetting, NodeAt, Taken, numbers_of}
use Rattle.wrp_node.specs.NodeRun.{node_after}
use Rattle.wrp_node.specs.Set.{set_of}
use Rattle.wrp_node.specs.StandsFor.{NodeOf, StandsFor as NodeStandsFor}
use Rattle.wrp_trace.specs.LineSetting.{LineSetting, has_port, line_setting_in, line_setting_of}
use Rattle.wrp_config.specs.declared.network.Network.{Network}
use Rattle.wrp_course.specs.Setting.{Setting, node_setting_of, from_on}
use Rattle.wrp_world.specs.StandsFor.{StandsFor, WorldOf}
use Rattle.wrp_course.specs.WorldAt.{WorldAt}
use Rattle.wrp_network_world.specs.Counts.{all_counts}
use Rattle.wrp_replay.specs.NodeText.{node_counts, port_counts, port_numbers}
use Rattle.wrp_replay.specs.StandsFor.{OwnsPorts}
use Rattle.wrp_replay.proofs.BareSetting.{bare_setting, flat_map_same, name_bare, port_bare, set_bare}
use Rattle.wrp_replay.proofs.OwnPorts.{is_own}

-- The counters of one node

pub counts_bare : (site : LineSetting) (n : NodeAt) → node_counts (bare_setting site) n ≡ node_counts site n
counts_bare site n =
    flat_map_same (λ port. if has_port (bare_setting site) port then port_counts (name_at (bare_cfg site.cfg) site.node) port (n.counters port) else [])
    (λ port. if has_port site port then port_counts (name_at site.cfg site.node) port (n.counters port) else [])
    (λ port. rw (port_bare site port, name_bare site.cfg site.node) refl) port_numbers

same_site : (s : Setting) (net : Network) (n : ℕ) → net.cfg ≡ s.cfg → net.db ≡ s.db → line_setting_of net n ≡ line_setting_in s n
same_site s net n cfg db = ap₂ (λ (c : NetCfg) (d : Database). record { cfg = c; db = d; node = n }) cfg db

pub counted_node : {F : Type 0} (post : F → ℤ → ℤ → Type 0) (s : Setting) (w : WorldAt) (world : WorldOf F) (net : Network) (n : ℕ) (node : NodeOf F)
    (text old : List ℕ)
    → StandsFor post s w world → net ≡ world.plant.net
    → slice_get world.nodes n ≡ Some node
    → ((fixed : NodeSetting) (inputs : List Taken) → NodeStandsFor post fixed node inputs → text ≡ old ++ node_counts (bare_setting (line_setting_of net n)) (node_after fixed inputs))
    → text ≡ old ++ node_counts (line_setting_in s n) (w.node n)
counted_node post s w world net n node text old stands own is counts =
    counts (node_setting_of s n) (w.inputs n) (stands.nodes n node is).stands
    ∙ ap (λ (l : List ℕ). old ++ l)
    (counts_bare (line_setting_of net n) (node_after (node_setting_of s n) (w.inputs n))
    ∙ ap₂ node_counts (ap (λ (k : Network). line_setting_of k n) own ∙ same_site s world.plant.net n stands.plant.cfg stands.plant.db) (sym (stands.nodes n node is).at))

pub owns_ports_of : {F : Type 0} (post : F → ℤ → ℤ → Type 0) (s : Setting) (w : WorldAt) (world : WorldOf F) (net : Network) (n : ℕ) (node : NodeOf F)
    → StandsFor post s w world → net ≡ world.plant.net
    → slice_get world.nodes n ≡ Some node → OwnsPorts (bare_setting (line_setting_of net n)) node.parts.ports
owns_ports_of post s w world net n node stands own is p has =
    let numbers : map (λ place. place.number) node.parts.ports ≡ numbers_of (set_of (bare_cfg net.cfg) n) =
    (stands.nodes n node is).stands.is_at.parts.numbers
    ∙ ap numbers_of
    (stands.set n ∙ ap (λ (cfg : NetCfg). set_of cfg n) (sym stands.plant.cfg ∙ ap (λ (k : Network). k.cfg) (sym own)) ∙ sym (set_bare net.cfg n)) in
    ap (λ (ns : List ℕ). list_any (λ q. q == p) ns) numbers ∙ is_own (bare_setting (line_setting_of net n)) p has

-- The counters of the nodes from one on are still missing

abbrev counts_at : Setting → WorldAt → ℕ → List ℕ
counts_at s w n = node_counts (line_setting_in s n) (w.node n)

unfoldable pub LacksNodes : Setting → WorldAt → ℕ → ℕ → List ℕ → List ℕ → Type 0
LacksNodes s w count node text old = text ++ flat_map (counts_at s w) (from_on (count - node) node) ≡ old ++ flat_map (counts_at s w) (from_on count 0)

pub all_nodes : (s : Setting) (w : WorldAt) (count : ℕ) (old : List ℕ) → LacksNodes s w count 0 old old
unfolding LacksNodes
all_nodes s w count old =
    let all : count - 0 ≡ count = omega arith in
    ap (λ (k : ℕ). old ++ flat_map (counts_at s w) (from_on k 0)) all

pub node_less : (s : Setting) (w : WorldAt) (count node : ℕ) (text now old : List ℕ) → node < count → LacksNodes s w count node text old
    → now ≡ text ++ node_counts (line_setting_in s node) (w.node node)
    → LacksNodes s w count (node + 1) now old
unfolding LacksNodes
node_less s w count node text now old is h more =
    let one : count - node ≡ suc (count - (node + 1)) = omega (arith, is) in
    ap (λ (t : List ℕ). t ++ flat_map (counts_at s w) (from_on (count - (node + 1)) (node + 1))) more
    ∙ append_assoc text (counts_at s w node) (flat_map (counts_at s w) (from_on (count - (node + 1)) (node + 1)))
    ∙ ap (λ (k : ℕ). text ++ flat_map (counts_at s w) (from_on k node)) (sym one) ∙ h

pub no_node_less : (s : Setting) (w : WorldAt) (count node : ℕ) (text old : List ℕ) → count ≤ node → count ≡ node_count s.cfg
    → LacksNodes s w count node text old → text ≡ old ++ all_counts s w
unfolding LacksNodes
no_node_less s w count node text old is counted h =
    let none : count - node ≡ 0 = omega (arith, is) in
    sym (append-nil text) ∙ ap (λ (k : ℕ). text ++ flat_map (counts_at s w) (from_on k node)) (sym none) ∙ h
    ∙ ap (λ (k : ℕ). old ++ flat_map (counts_at s w) (from_on k 0)) counted
