-- What a line of a scenario says does not depend on the unused room of names.
use Rattle.std.proofs.Common.{◌≡◌, ◌∙◌, refl, ap, ℕ, pos, Bool, if◌then◌else◌, Option, None, Some, Result, Ok, List, [], ◌∷◌, map}
use Rattle.std.specs.Prelude.{is_none}
use Rattle.wrp_network.specs.declared.configuration.NetCfg.{NetCfg}
use Rattle.wrp_base.specs.declared.fault.TraceFault.{TraceFault}
use Rattle.wrp_base.specs.Lines.{parts_of}
use Rattle.wrp_network.specs.Network.{link_above}
use Rattle.wrp_config.proofs.Bare.{above_bare}
use Rattle.wrp_config.specs.Same.{bare_link, bare_node, bare_cfg}
use Rattle.wrp_names.specs.Fields.{node_at}
use Rattle.wrp_fields.specs.Reading.{field_of, name_or_fault, ◌>>=◌}
use Rattle.wrp_scene.specs.declared.scene.fault.FaultKind.{FaultKind}
use Rattle.wrp_scene.specs.declared.scene.fault.FaultKind.TheVariants as faults
use Rattle.wrp_scene.specs.declared.scene.kinds.SceneKind.{SceneKind}
use Rattle.wrp_scene.specs.declared.scene.kinds.SceneKind.TheVariants as kinds
use Rattle.wrp_scene.specs.Scenario.{SceneAt, new_scene}
use Rattle.wrp_scene.specs.ScenarioKinds.{kind_of}
use Rattle.wrp_scene.specs.ScenarioLines.{below, counted_of, fault_at, fault_kind, line_of_kind, link_fault, lower_at, node_fault, scene_of, scene_read}
use Rattle.wrp_replay.proofs.BareSetting.{bind_same, none_over}
use Rattle.wrp_network_world.proofs.BareEvents.{link_read, node_read}

-- A new scenario

same_for_all : {A B C : Type 0} (f : A → B) (c : C) (xs : List A) → map (λ (b : B). c) (map f xs) ≡ map (λ (a : A). c) xs
same_for_all f c [] = refl
same_for_all f c (x ∷ xs) = ap (λ cs. c ∷ cs) (same_for_all f c xs)

pub new_scene_bare : (cfg : NetCfg) → new_scene (bare_cfg cfg) ≡ new_scene cfg
new_scene_bare cfg = λ i. record (new_scene cfg) {
  sums = same_for_all bare_link 0 cfg.links.items i;
  offsets = same_for_all bare_node (pos 0) cfg.nodes.items i;
  frees = same_for_all bare_node (pos 0) cfg.nodes.items i;
}

-- Names

below_bare : (cfg : NetCfg) (place node : ℕ) → below (bare_cfg cfg) place node ≡ below cfg place node
below_bare cfg place node =
    ap (λ (none : Bool). name_or_fault place (if none then None else Some node)) (ap is_none (above_bare cfg node) ∙ none_over (link_above cfg node))

lower_read : (cfg : NetCfg) (place : ℕ) (fields : List (List ℕ)) → lower_at (bare_cfg cfg) place fields ≡ lower_at cfg place fields
lower_read cfg place fields =
    ap (λ (r : Result ℕ TraceFault). r >>= below (bare_cfg cfg) place) (node_read cfg place fields)
    ∙ bind_same (node_at cfg place fields) (below (bare_cfg cfg) place) (below cfg place) (below_bare cfg place)

-- Faults

node_fault_bare : (cfg : NetCfg) (fields : List (List ℕ)) (kind : ℕ → FaultKind) → node_fault (bare_cfg cfg) fields kind ≡ node_fault cfg fields kind
node_fault_bare cfg fields kind = ap (λ (r : Result ℕ TraceFault). r >>= (λ node. Ok (kind node))) (node_read cfg 4 fields)

link_fault_bare : (cfg : NetCfg) (fields : List (List ℕ)) (kind : ℕ → FaultKind) → link_fault (bare_cfg cfg) fields kind ≡ link_fault cfg fields kind
link_fault_bare cfg fields kind = ap (λ (r : Result ℕ TraceFault). r >>= (λ link. Ok (kind link))) (link_read cfg 4 fields)

kind_bare : (cfg : NetCfg) (fields : List (List ℕ)) (word : List ℕ) → fault_kind (bare_cfg cfg) fields word ≡ fault_kind cfg fields word
kind_bare cfg fields word =
    rw (
      node_fault_bare cfg fields faults.Down,
      node_fault_bare cfg fields faults.Up,
      link_fault_bare cfg fields faults.Cut,
      link_fault_bare cfg fields faults.Join,
    ) refl

fault_read : (cfg : NetCfg) (fields : List (List ℕ)) → fault_at (bare_cfg cfg) fields ≡ fault_at cfg fields
fault_read cfg fields = rw (kind_bare cfg fields (field_of 3 fields)) refl

-- Lines

line_bare : (cfg : NetCfg) (scene : SceneAt) (kind : SceneKind) (fields : List (List ℕ))
    → line_of_kind (bare_cfg cfg) scene kind fields ≡ line_of_kind cfg scene kind fields
line_bare cfg scene kinds.Length fields = refl
line_bare cfg scene kinds.Fibre fields = rw (link_read cfg 2 fields) refl
line_bare cfg scene kinds.Offset fields = rw (lower_read cfg 2 fields) refl
line_bare cfg scene kinds.Free fields = rw (node_read cfg 2 fields) refl
line_bare cfg scene kinds.Loss fields = refl
line_bare cfg scene kinds.Repeat fields = refl
line_bare cfg scene kinds.Fault fields = rw (fault_read cfg fields) refl

counted_bare : (cfg : NetCfg) (scene : SceneAt) (fields : List (List ℕ)) (kind : Option SceneKind)
    → counted_of (bare_cfg cfg) scene fields kind ≡ counted_of cfg scene fields kind
counted_bare cfg scene fields None = refl
counted_bare cfg scene fields (Some kind) = rw (line_bare cfg scene kind fields) refl

of_bare : (cfg : NetCfg) (scene : SceneAt) (fields : List (List ℕ)) → scene_of (bare_cfg cfg) scene fields ≡ scene_of cfg scene fields
of_bare cfg scene fields = counted_bare cfg scene fields (kind_of (field_of 1 fields))

pub scene_bare : (cfg : NetCfg) (scene : SceneAt) (line : List ℕ) → scene_read (bare_cfg cfg) scene line ≡ scene_read cfg scene line
scene_bare cfg scene line = rw (of_bare cfg scene (parts_of line)) refl
