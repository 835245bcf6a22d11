-- The links above a node and the inequalities of a network do not see the unused room of its names.
use Rattle.std.proofs.Common.{◌≡◌, ◌+◌, ◌==◌, ℕ, List, [], ◌∷◌, Bool, true, false, Option, None, Some, cond, map, option_map, refl, ap, ap₂, ◌∙◌}
use Rattle.std.proofs.lemmas.List.{length-map}
use Rattle.std.proofs.lemmas.Option.{slice_get-map}
use Rattle.std.specs.Prelude.{slice_get, option_and_then}
use Rattle.std.specs.List.{find}
use Rattle.std.specs.Option.{is_some}
use Rattle.wrp_network.specs.declared.configuration.NetCfg.{NetCfg}
use Rattle.wrp_network.specs.declared.network.NodeCfg.{NodeCfg}
use Rattle.wrp_network.specs.declared.network.LinkCfg.{LinkCfg}
use Rattle.wrp_network.specs.Network.{link_above, node_count}
use Rattle.wrp_bounds.specs.Bounds.{numbers_between, numbers_over, numbers_of}
use Rattle.wrp_bounds.specs.Inequalities.{quiet_time, holdover_time, phase_room, phase_room_of, phase_rooms_from, tick_times, holdoff_time, flight_time, lock_counts, id_reuse, port_delays, inequalities}
use Rattle.wrp_config.specs.Same.{bare_node, bare_link, bare_cfg}

-- Links

find_if : (b : Bool) (link : LinkCfg) (rest other : Option LinkCfg) → rest ≡ option_map bare_link other
    → cond b (Some (bare_link link)) rest ≡ option_map bare_link (cond b (Some link) other)
find_if true link rest other e = refl
find_if false link rest other e = e

find_above : (n : ℕ) (links : List LinkCfg)
    → find (λ link. link.lower == n) (map bare_link links) ≡ option_map bare_link (find (λ link. link.lower == n) links)
find_above n [] = refl
find_above n (link ∷ links) =
    find_if (link.lower == n) link (find (λ link. link.lower == n) (map bare_link links)) (find (λ link. link.lower == n) links) (find_above n links)

pub above_bare : (cfg : NetCfg) (n : ℕ) → link_above (bare_cfg cfg) n ≡ option_map bare_link (link_above cfg n)
above_bare cfg n = find_above n cfg.links.items

-- Nodes, and whether a link is above them

pub count_bare : (cfg : NetCfg) → node_count (bare_cfg cfg) ≡ node_count cfg
count_bare cfg = length-map cfg.nodes.items bare_node

pub some_bare : {X Y : Type 0} (f : X → Y) (o : Option X) → is_some (option_map f o) ≡ is_some o
some_bare f None = refl
some_bare f (Some x) = refl

pub above_some : (cfg : NetCfg) (n : ℕ) → is_some (link_above (bare_cfg cfg) n) ≡ is_some (link_above cfg n)
above_some cfg n = ap is_some (above_bare cfg n) ∙ some_bare bare_link (link_above cfg n)

-- The inequalities

between_bare : (cfg : NetCfg) (link : LinkCfg) (own parent : Option NodeCfg)
    → numbers_between (bare_cfg cfg) (bare_link link) (option_map bare_node own) (option_map bare_node parent)
    ≡ numbers_between cfg link own parent
between_bare cfg link None parent = refl
between_bare cfg link (Some own) None = refl
between_bare cfg link (Some own) (Some parent) = rw (above_some cfg link.lower, above_some cfg link.upper) refl

pub over_bare : (cfg : NetCfg) (link : LinkCfg) → numbers_over (bare_cfg cfg) (bare_link link) ≡ numbers_over cfg link
unfolding numbers_over
over_bare cfg link =
    ap₂ (numbers_between (bare_cfg cfg) (bare_link link))
    (slice_get-map bare_node cfg.nodes.items link.lower) (slice_get-map bare_node cfg.nodes.items link.upper)
    ∙ between_bare cfg link (slice_get cfg.nodes.items link.lower) (slice_get cfg.nodes.items link.upper)

hop_bare : (cfg : NetCfg) (above : Option LinkCfg)
    → option_and_then (numbers_over (bare_cfg cfg)) (option_map bare_link above) ≡ option_and_then (numbers_over cfg) above
hop_bare cfg None = refl
hop_bare cfg (Some link) = over_bare cfg link

numbers_bare : (cfg : NetCfg) (n : ℕ) → numbers_of (bare_cfg cfg) n ≡ numbers_of cfg n
numbers_bare cfg n = ap (option_and_then (numbers_over (bare_cfg cfg))) (above_bare cfg n) ∙ hop_bare cfg (link_above cfg n)

room_bare : (cfg : NetCfg) (n : ℕ) → phase_room_of (bare_cfg cfg) n ≡ phase_room_of cfg n
unfolding phase_room phase_room_of
room_bare cfg n = ap (option_map (phase_room cfg)) (numbers_bare cfg n)

rooms_bare : (cfg : NetCfg) (n : ℕ) (nodes : List NodeCfg) → phase_rooms_from (bare_cfg cfg) n (map bare_node nodes) ≡ phase_rooms_from cfg n nodes
rooms_bare cfg n [] = refl
rooms_bare cfg n (node ∷ nodes) = rw (room_bare cfg n, rooms_bare cfg (n + 1) nodes) refl

pub inequalities_bare : (cfg : NetCfg) → inequalities (bare_cfg cfg) ≡ inequalities cfg
unfolding quiet_time holdover_time tick_times holdoff_time flight_time lock_counts id_reuse port_delays inequalities
inequalities_bare cfg = rw (rooms_bare cfg 0 cfg.nodes.items) refl
