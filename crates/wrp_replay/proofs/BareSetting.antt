-- A node of a network does not depend on what is in the unused room of names.
use Rattle.std.proofs.Common.{◌≡◌, ◌∙◌, ◌+◌, ◌++◌, ℕ, ℤ, zero, suc, Bool, true, false, if◌then◌else◌, Option, None, Some, Result, Ok, Err, List, [], ◌∷◌, map, refl, ap, ap₂}
use Rattle.std.specs.Prelude.{option_map, sum_by, slice_get}
use Rattle.std.specs.List.{find, flat_map, fold}
use Rattle.std.specs.Option.{is_some, is_none, option_map_or}
use Rattle.std.proofs.lemmas.Option.{slice_get-map}
use Rattle.std.proofs.lemmas.List.Folds.{flat_map-map}
use Rattle.wrp_network.specs.declared.configuration.NetCfg.{NetCfg}
use Rattle.wrp_base.specs.declared.fault.TraceFault.{TraceFault}
use Rattle.wrp_network.specs.declared.network.LinkCfg.{LinkCfg}
use Rattle.wrp_network.specs.declared.network.NodeCfg.{NodeCfg}
use Rattle.wrp_base.specs.Lines.{parts_of}
use Rattle.wrp_network.specs.Network.{link_above, name_at}
use Rattle.wrp_bounds.specs.Bounds.{held_by, held_motion, links_up, path_of, step_over}
use Rattle.wrp_caldb.specs.Database.{Database}
use Rattle.wrp_caldb.specs.Name.{same_name}
use Rattle.wrp_config.proofs.Bare.{above_bare, over_bare}
use Rattle.wrp_config.proofs.Lists.{position-map}
use Rattle.wrp_config.specs.Same.{bare_node, bare_link, bare_cfg}
use Rattle.wrp_config.specs.Names as names
use Rattle.wrp_config.specs.Names.{node_named, link_at, pair_at, pair_of}
use Rattle.wrp_node.specs.Set.{identity_of, ports_at, ports_of, set_of, steps_up, top_up}
use Rattle.wrp_trace.specs.declared.kinds.InputKind.{InputKind}
use Rattle.wrp_trace.specs.declared.kinds.InputKind.TheVariants as kinds
use Rattle.wrp_trace.specs.Fields.{module_at as module_in, own_port, port_at, u16_at}
use Rattle.wrp_trace.specs.Inputs.{counted_of, fields_of_kind, input_of, read_of, up_of}
use Rattle.wrp_trace.specs.Kinds.{kind_of}
use Rattle.wrp_fields.specs.Reading.{field_of, name_or_fault, ◌>>=◌}
use Rattle.wrp_trace.specs.LineSetting.{LineSetting, has_port, is_grandmaster, named_at}
use Rattle.wrp_replay.specs.DownLaw.{down_over, node_setting_at, greatest_over, law_at, least_over}

-- a node of the same network, whose names are without their unused room
abbrev pub bare_setting : LineSetting → LineSetting
bare_setting site = record site { cfg = bare_cfg site.cfg }

-- Names

pub named_bare : (cfg : NetCfg) (name : List ℕ) → node_named (bare_cfg cfg) name ≡ node_named cfg name
named_bare cfg name = position-map (λ (node : NodeCfg). same_name node.name.bytes name) bare_node cfg.nodes.items

name_of_bare : (o : Option NodeCfg) → option_map_or (λ (node : NodeCfg). node.name.bytes) (option_map bare_node o) [] ≡ option_map_or (λ (node : NodeCfg). node.name.bytes) o []
name_of_bare None = refl
name_of_bare (Some node) = refl

pub name_bare : (cfg : NetCfg) (n : ℕ) → name_at (bare_cfg cfg) n ≡ name_at cfg n
name_bare cfg n =
    ap (λ (o : Option NodeCfg). option_map_or (λ (node : NodeCfg). node.name.bytes) o []) (slice_get-map bare_node cfg.nodes.items n)
    ∙ name_of_bare (slice_get cfg.nodes.items n)

-- Ports

find_bare : (p : LinkCfg → Bool) → ((link : LinkCfg) → p (bare_link link) ≡ p link) → (links : List LinkCfg)
    → find p (map bare_link links) ≡ option_map bare_link (find p links)
find_bare p same [] = refl
find_bare p same (link ∷ links) =
    elim (p link) as (λ b. p link ≡ b → find p (map bare_link (link ∷ links)) ≡ option_map bare_link (find p (link ∷ links))) [
      | true ↦ λ is. rw (same link, is) refl
      | false ↦ λ is. rw (same link, is) (find_bare p same links)
    ] refl

pair_over : (node port : ℕ) (o : Option LinkCfg) → option_map (pair_of node port) (option_map bare_link o) ≡ option_map (pair_of node port) o
pair_over node port None = refl
pair_over node port (Some link) = refl

pub pair_bare : (cfg : NetCfg) (node port : ℕ) → pair_at (bare_cfg cfg) node port ≡ pair_at cfg node port
pair_bare cfg node port =
    ap (option_map (pair_of node port)) (find_bare (names.has_port node port) (λ link. refl) cfg.links.items)
    ∙ pair_over node port (link_at cfg node port)

pub port_bare : (site : LineSetting) (port : ℕ) → has_port (bare_setting site) port ≡ has_port site port
port_bare site port = ap is_some (pair_bare site.cfg site.node port)

pub none_over : (o : Option LinkCfg) → is_none (option_map bare_link o) ≡ is_none o
none_over None = refl
none_over (Some link) = refl

grandmaster_bare : (site : LineSetting) → is_grandmaster (bare_setting site) ≡ is_grandmaster site
grandmaster_bare site = ap is_none (above_bare site.cfg site.node) ∙ none_over (link_above site.cfg site.node)

-- What a line says

kind_bare : (site : LineSetting) (word : List ℕ) → kind_of (bare_setting site) word ≡ kind_of site word
kind_bare site word = rw (grandmaster_bare site) refl

pub bind_same : {A B : Type 0} (read : Result A TraceFault) (f g : A → Result B TraceFault) → ((a : A) → f a ≡ g a) → (read >>= f) ≡ (read >>= g)
bind_same (Ok a) f g same = same a
bind_same (Err fault) f g same = refl

own_port_bare : (site : LineSetting) (place port : ℕ) → own_port (bare_setting site) place port ≡ own_port site place port
own_port_bare site place port = ap (λ (b : Bool). name_or_fault place (if b then Some port else None)) (port_bare site port)

port_read_bare : (site : LineSetting) (place : ℕ) (fields : List (List ℕ)) → port_at (bare_setting site) place fields ≡ port_at site place fields
port_read_bare site place fields =
    bind_same (u16_at place fields) (own_port (bare_setting site) place) (own_port site place) (λ port. own_port_bare site place port)

named_module_bare : (site : LineSetting) (port : ℕ) (name : List ℕ) → named_at (bare_setting site) port name ≡ named_at site port name
named_module_bare site port name = rw (pair_bare site.cfg site.node port) refl

module_read_bare : (site : LineSetting) (port place : ℕ) (fields : List (List ℕ)) → module_in (bare_setting site) port place fields ≡ module_in site port place fields
module_read_bare site port place fields = ap (name_or_fault place) (named_module_bare site port (field_of place fields))

up_bare : (site : LineSetting) (fields : List (List ℕ)) → up_of (bare_setting site) fields ≡ up_of site fields
up_bare site fields =
    rw (port_read_bare site 2 fields) (bind_same (port_at site 2 fields) _ _ (λ port. rw (module_read_bare site port 3 fields) refl))

kind_fields_bare : (site : LineSetting) (kind : InputKind) (fields : List (List ℕ)) → fields_of_kind (bare_setting site) kind fields ≡ fields_of_kind site kind fields
kind_fields_bare site kinds.Tick fields = refl
kind_fields_bare site kinds.Sample fields = refl
kind_fields_bare site kinds.Frame fields = rw (port_read_bare site 2 fields) refl
kind_fields_bare site kinds.Sent fields = rw (port_read_bare site 2 fields) refl
kind_fields_bare site kinds.Up fields = up_bare site fields
kind_fields_bare site kinds.Down fields = rw (port_read_bare site 2 fields) refl
kind_fields_bare site kinds.Reset fields = refl

counted_bare : (site : LineSetting) (fields : List (List ℕ)) (kind : Option InputKind) → counted_of (bare_setting site) fields kind ≡ counted_of site fields kind
counted_bare site fields None = refl
counted_bare site fields (Some kind) = rw (kind_fields_bare site kind fields) refl

input_bare : (site : LineSetting) (fields : List (List ℕ)) → input_of (bare_setting site) fields ≡ input_of site fields
input_bare site fields = rw (kind_bare site (field_of 1 fields)) (counted_bare site fields (kind_of site (field_of 1 fields)))

pub read_bare : (site : LineSetting) (line : List ℕ) → read_of (bare_setting site) line ≡ read_of site line
read_bare site line = rw (input_bare site (parts_of line)) refl

-- What a node is set to

identity_over : (o : Option NodeCfg) → option_map_or (λ (node : NodeCfg). node.identity) (option_map bare_node o) 0 ≡ option_map_or (λ (node : NodeCfg). node.identity) o 0
identity_over None = refl
identity_over (Some node) = refl

identity_bare : (cfg : NetCfg) (n : ℕ) → identity_of (bare_cfg cfg) n ≡ identity_of cfg n
identity_bare cfg n =
    ap (λ (o : Option NodeCfg). option_map_or (λ (node : NodeCfg). node.identity) o 0) (slice_get-map bare_node cfg.nodes.items n)
    ∙ identity_over (slice_get cfg.nodes.items n)

abbrev step_up : (ℕ → ℕ) → Option LinkCfg → ℕ
step_up walk o = elim o [ None ↦ 0 | Some link ↦ suc (walk link.upper) ]

steps_over : (walk own : ℕ → ℕ) → ((n : ℕ) → walk n ≡ own n) → (o : Option LinkCfg) → step_up walk (option_map bare_link o) ≡ step_up own o
steps_over walk own same None = refl
steps_over walk own same (Some link) = ap suc (same link.upper)

steps_bare : (most : ℕ) (cfg : NetCfg) (n : ℕ) → steps_up most (bare_cfg cfg) n ≡ steps_up most cfg n
unfolding steps_up
steps_bare zero cfg n = refl
steps_bare (suc most) cfg n =
    ap (step_up (steps_up most (bare_cfg cfg))) (above_bare cfg n)
    ∙ steps_over (steps_up most (bare_cfg cfg)) (steps_up most cfg) (λ m. steps_bare most cfg m) (link_above cfg n)

abbrev top_from : (ℕ → ℕ) → ℕ → Option LinkCfg → ℕ
top_from walk n o = elim o [ None ↦ n | Some link ↦ walk link.upper ]

tops_over : (walk own : ℕ → ℕ) → ((n : ℕ) → walk n ≡ own n) → (n : ℕ) (o : Option LinkCfg) → top_from walk n (option_map bare_link o) ≡ top_from own n o
tops_over walk own same n None = refl
tops_over walk own same n (Some link) = same link.upper

tops_bare : (most : ℕ) (cfg : NetCfg) (n : ℕ) → top_up most (bare_cfg cfg) n ≡ top_up most cfg n
unfolding top_up
tops_bare zero cfg n = refl
tops_bare (suc most) cfg n =
    ap (top_from (top_up most (bare_cfg cfg)) n) (above_bare cfg n)
    ∙ tops_over (top_up most (bare_cfg cfg)) (top_up most cfg) (λ m. tops_bare most cfg m) n (link_above cfg n)

ports_over : (cfg : NetCfg) (n : ℕ) (link : LinkCfg) → ports_at (bare_cfg cfg) n (bare_link link) ≡ ports_at cfg n link
ports_over cfg n link = rw (identity_bare cfg link.upper, identity_bare cfg link.lower) refl

pub flat_map_same : {A B : Type 0} (f g : A → List B) → ((a : A) → f a ≡ g a) → (xs : List A) → flat_map f xs ≡ flat_map g xs
flat_map_same f g same [] = refl
flat_map_same f g same (x ∷ xs) = ap₂ (λ a b. a ++ b) (same x) (flat_map_same f g same xs)

ports_bare : (cfg : NetCfg) (n : ℕ) → ports_of (bare_cfg cfg) n ≡ ports_of cfg n
ports_bare cfg n =
    flat_map-map (ports_at (bare_cfg cfg) n) bare_link cfg.links.items
    ∙ flat_map_same (λ link. ports_at (bare_cfg cfg) n (bare_link link)) (ports_at cfg n) (λ link. ports_over cfg n link) cfg.links.items

pub set_bare : (cfg : NetCfg) (n : ℕ) → set_of (bare_cfg cfg) n ≡ set_of cfg n
set_bare cfg n = rw (ports_bare cfg n, steps_bare 8 cfg n, tops_bare 8 cfg n, identity_bare cfg n, identity_bare cfg (top_up 8 cfg n)) refl

-- The law of the link above

down_bare : (db : Database) (o : Option LinkCfg) (x : ℤ) → down_over db (option_map bare_link o) x ≡ down_over db o x
down_bare db None x = refl
down_bare db (Some link) x = refl

least_bare : (db : Database) (o : Option LinkCfg) → least_over db (option_map bare_link o) ≡ least_over db o
least_bare db None = refl
least_bare db (Some link) = refl

greatest_bare : (db : Database) (o : Option LinkCfg) → greatest_over db (option_map bare_link o) ≡ greatest_over db o
greatest_bare db None = refl
greatest_bare db (Some link) = refl

pub law_bare : (site : LineSetting) (x : ℤ) → law_at (bare_setting site) x ≡ law_at site x
law_bare site x =
    ap (λ (o : Option LinkCfg). down_over site.db o x) (above_bare site.cfg site.node) ∙ down_bare site.db (link_above site.cfg site.node) x

pub fixed_bare : (site : LineSetting) → node_setting_at (bare_setting site) ≡ node_setting_at site
fixed_bare site =
    rw (set_bare site.cfg site.node, above_bare site.cfg site.node, least_bare site.db (link_above site.cfg site.node), greatest_bare site.db (link_above site.cfg site.node)) refl

-- The bound

held_over : (cfg : NetCfg) (above : Option LinkCfg) (own : Option NodeCfg) → held_by (bare_cfg cfg) (option_map bare_link above) (option_map bare_node own) ≡ held_by cfg above own
held_over cfg None own = refl
held_over cfg (Some link) None = refl
held_over cfg (Some link) (Some node) = refl

held_bare : (cfg : NetCfg) (n : ℕ) → held_motion (bare_cfg cfg) n ≡ held_motion cfg n
unfolding held_motion
held_bare cfg n =
    ap₂ (held_by (bare_cfg cfg)) (above_bare cfg n) (slice_get-map bare_node cfg.nodes.items n)
    ∙ held_over cfg (link_above cfg n) (slice_get cfg.nodes.items n)

step_bare : (cfg : NetCfg) (link : LinkCfg) → step_over (bare_cfg cfg) (bare_link link) ≡ step_over cfg link
step_bare cfg link = rw (over_bare cfg link, held_bare cfg link.upper) refl

abbrev link_up : (ℕ → List LinkCfg) → Option LinkCfg → List LinkCfg
link_up walk o = elim o [ None ↦ [] | Some link ↦ link ∷ walk link.upper ]

links_over : (walk own : ℕ → List LinkCfg) → ((n : ℕ) → walk n ≡ map bare_link (own n)) → (o : Option LinkCfg) → link_up walk (option_map bare_link o) ≡ map bare_link (link_up own o)
links_over walk own same None = refl
links_over walk own same (Some link) = ap (λ links. bare_link link ∷ links) (same link.upper)

links_bare : (most : ℕ) (cfg : NetCfg) (n : ℕ) → links_up most (bare_cfg cfg) n ≡ map bare_link (links_up most cfg n)
unfolding links_up
links_bare zero cfg n = refl
links_bare (suc most) cfg n =
    ap (link_up (links_up most (bare_cfg cfg))) (above_bare cfg n)
    ∙ links_over (links_up most (bare_cfg cfg)) (links_up most cfg) (λ m. links_bare most cfg m) (link_above cfg n)

sum_onto : (cfg : NetCfg) (links : List LinkCfg) (n : ℕ) → fold (λ sum link. sum + step_over (bare_cfg cfg) link) n (map bare_link links) ≡ fold (λ sum link. sum + step_over cfg link) n links
sum_onto cfg [] n = refl
sum_onto cfg (link ∷ links) n = ap (λ (s : ℕ). fold (λ sum link. sum + step_over (bare_cfg cfg) link) (n + s) (map bare_link links)) (step_bare cfg link) ∙ sum_onto cfg links (n + step_over cfg link)

sum_bare : (cfg : NetCfg) (links : List LinkCfg) → sum_by (step_over (bare_cfg cfg)) (map bare_link links) ≡ sum_by (step_over cfg) links
sum_bare cfg links = sum_onto cfg links 0

pub path_bare : (cfg : NetCfg) (n : ℕ) → path_of (bare_cfg cfg) n ≡ path_of cfg n
unfolding path_of
path_bare cfg n = ap (sum_by (step_over (bare_cfg cfg))) (links_bare 8 cfg n) ∙ sum_bare cfg (links_up 8 cfg n)
