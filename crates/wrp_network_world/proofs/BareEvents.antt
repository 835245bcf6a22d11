-- What a line of events says, and what an input's line is, do not depend on the unused room of
-- names.
use Rattle.std.proofs.Common.{◌≡◌, ◌∙◌, refl, ap, ap₂, ℕ, ℤ, ◌+◌, true, false, Option, None, Some, Result, Ok, List, [], ◌∷◌, map, drop}
use Rattle.wrp_network.specs.declared.configuration.NetCfg.{NetCfg}
use Rattle.wrp_base.specs.declared.fault.TraceFault.{TraceFault}
use Rattle.wrp_network.specs.declared.network.LinkCfg.{LinkCfg}
use Rattle.wrp_network.specs.declared.network.NodeCfg.{NodeCfg}
use Rattle.wrp_base.specs.Lines.{parts_of}
use Rattle.wrp_caldb.specs.Name.{same_name}
use Rattle.wrp_config.proofs.Lists.{position-map}
use Rattle.wrp_config.specs.Same.{bare_link, bare_node, bare_cfg}
use Rattle.wrp_config.specs.Names.{link_named}
use Rattle.wrp_node.specs.declared.interface.Input.{Input}
use Rattle.wrp_node.specs.declared.interface.Input.TheVariants as inputs
use Rattle.wrp_trace.specs.Changes.{SaidAt, change_said, changes_said, named_said, nothing_said}
use Rattle.wrp_trace.specs.declared.events.kinds.EventKind.{EventKind}
use Rattle.wrp_trace.specs.declared.events.kinds.EventKind.TheVariants as kinds
use Rattle.wrp_trace.specs.EventFields.{before, behind, span_at}
use Rattle.wrp_trace.specs.EventKinds.{kind_of}
use Rattle.wrp_trace.specs.Events.{counted_of, event_of, event_read, fields_of_kind, pass_with}
use Rattle.wrp_trace.specs.Printing.{line_of}
use Rattle.wrp_names.specs.Fields.{link_at, node_at}
use Rattle.wrp_fields.specs.Reading.{field_of, name_or_fault, ◌>>=◌}
use Rattle.wrp_trace.specs.LineSetting.{LineSetting}
use Rattle.wrp_replay.proofs.BareSetting.{bare_setting, bind_same, named_bare, pair_bare}

-- Names

link_named_bare : (cfg : NetCfg) (name : List ℕ) → link_named (bare_cfg cfg) name ≡ link_named cfg name
link_named_bare cfg name = position-map (λ (link : LinkCfg). same_name link.name.bytes name) bare_link cfg.links.items

pub node_read : (cfg : NetCfg) (place : ℕ) (fields : List (List ℕ)) → node_at (bare_cfg cfg) place fields ≡ node_at cfg place fields
node_read cfg place fields = ap (name_or_fault place) (named_bare cfg (field_of place fields))

pub link_read : (cfg : NetCfg) (place : ℕ) (fields : List (List ℕ)) → link_at (bare_cfg cfg) place fields ≡ link_at cfg place fields
link_read cfg place fields = ap (name_or_fault place) (link_named_bare cfg (field_of place fields))

-- What a `pass` says

-- nothing is said
abbrev nothing : {A X : Type 0} → A → Option X
nothing a = None

nothing_of : {A X : Type 0} (f : A → A) (items : List A) → map (nothing {A = A} {X = X}) (map f items) ≡ map (nothing {A = A} {X = X}) items
nothing_of {A} {X} f [] = refl
nothing_of {A} {X} f (a ∷ items) = ap (λ (rest : List (Option X)). None ∷ rest) (nothing_of {A = A} {X = X} f items)

nothing_bare : (cfg : NetCfg) → nothing_said (bare_cfg cfg) ≡ nothing_said cfg
nothing_bare cfg =
    ap₂ (λ (drifts : List (Option ℤ)) (moves : List (Option (ℤ × ℤ))). record { drifts = drifts; moves = moves })
    (nothing_of {A = NodeCfg} {X = ℤ} bare_node cfg.nodes.items) (nothing_of {A = LinkCfg} {X = ℤ × ℤ} bare_link cfg.links.items)

change_bare : (cfg : NetCfg) (place : ℕ) (said : SaidAt) (text : List ℕ) → change_said (bare_cfg cfg) place said text ≡ change_said cfg place said text
change_bare cfg place said text =
    ap₂ (λ (n l : Option ℕ). named_said place said n l (behind 61 text)) (named_bare cfg (before 61 text)) (link_named_bare cfg (before 61 text))

changes_bare : (cfg : NetCfg) (place : ℕ) (said : SaidAt) (texts : List (List ℕ))
    → changes_said (bare_cfg cfg) place said texts ≡ changes_said cfg place said texts
changes_bare cfg place said [] = refl
changes_bare cfg place said (text ∷ texts) =
    ap (λ (r : Result SaidAt TraceFault). r >>= (λ more. changes_said (bare_cfg cfg) (place + 1) more texts)) (change_bare cfg place said text)
    ∙ bind_same (change_said cfg place said text) (λ more. changes_said (bare_cfg cfg) (place + 1) more texts) (λ more. changes_said cfg (place + 1) more texts)
    (λ more. changes_bare cfg (place + 1) more texts)

all_changes_bare : (cfg : NetCfg) (texts : List (List ℕ))
    → changes_said (bare_cfg cfg) 3 (nothing_said (bare_cfg cfg)) texts ≡ changes_said cfg 3 (nothing_said cfg) texts
all_changes_bare cfg texts = ap (λ (said : SaidAt). changes_said (bare_cfg cfg) 3 said texts) (nothing_bare cfg) ∙ changes_bare cfg 3 (nothing_said cfg) texts

-- A line

kind_events_bare : (cfg : NetCfg) (kind : EventKind) (fields : List (List ℕ)) → fields_of_kind (bare_cfg cfg) kind fields ≡ fields_of_kind cfg kind fields
kind_events_bare cfg kinds.Pass fields =
    bind_same (span_at 2 fields) (λ dt. changes_said (bare_cfg cfg) 3 (nothing_said (bare_cfg cfg)) (drop 2 fields) >>= (λ said. Ok (pass_with dt said)))
    (λ dt. changes_said cfg 3 (nothing_said cfg) (drop 2 fields) >>= (λ said. Ok (pass_with dt said)))
    (λ dt. ap (λ (r : Result SaidAt TraceFault). r >>= (λ said. Ok (pass_with dt said))) (all_changes_bare cfg (drop 2 fields)))
kind_events_bare cfg kinds.Tick fields = rw (node_read cfg 2 fields) refl
kind_events_bare cfg kinds.Sample fields = rw (node_read cfg 2 fields) refl
kind_events_bare cfg kinds.Depart fields = rw (node_read cfg 2 fields) refl
kind_events_bare cfg kinds.Arrive fields = refl
kind_events_bare cfg kinds.Deliver fields = refl
kind_events_bare cfg kinds.Noise fields = rw (node_read cfg 2 fields) refl
kind_events_bare cfg kinds.Down fields = rw (node_read cfg 2 fields) refl
kind_events_bare cfg kinds.Up fields = rw (node_read cfg 2 fields) refl
kind_events_bare cfg kinds.Cut fields = rw (link_read cfg 2 fields) refl
kind_events_bare cfg kinds.Join fields = rw (link_read cfg 2 fields) refl

counted_bare : (cfg : NetCfg) (fields : List (List ℕ)) (kind : Option EventKind) → counted_of (bare_cfg cfg) fields kind ≡ counted_of cfg fields kind
counted_bare cfg fields None = refl
counted_bare cfg fields (Some kind) = rw (kind_events_bare cfg kind fields) refl

of_bare : (cfg : NetCfg) (fields : List (List ℕ)) → event_of (bare_cfg cfg) fields ≡ event_of cfg fields
of_bare cfg fields = counted_bare cfg fields (kind_of (field_of 1 fields))

pub event_bare : (cfg : NetCfg) (line : List ℕ) → event_read (bare_cfg cfg) line ≡ event_read cfg line
event_bare cfg line = rw (of_bare cfg (parts_of line)) refl

-- The line of an input

pub line_bare : (site : LineSetting) (x : Input) → line_of (bare_setting site) x ≡ line_of site x
line_bare site inputs.Tick = refl
line_bare site (inputs.Sample n base bits) = refl
line_bare site (inputs.Frame port octets raw sample) = refl
line_bare site (inputs.Sent port seq delay stamp) = refl
line_bare site (inputs.Carrier port true None) = refl
line_bare site (inputs.Carrier port true (Some values)) = rw (pair_bare site.cfg site.node port) refl
line_bare site (inputs.Carrier port false entry) = refl
line_bare site inputs.Reset = refl
