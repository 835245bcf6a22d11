-- A port that a link names is one of the node's.
use Rattle.std.proofs.Common.{◌≡◌, ◌∙◌, refl, ap, sym, ℕ, ◌+◌, ◌==◌, ◌||◌, Bool, true, false, if◌then◌else◌, List, [], ◌∷◌, Option, Some, is_some}
use Rattle.std.specs.List.{list_any, find}
use Rattle.wrp_base.specs.declared.link.Role.TheVariants.{Master, Slave}
use Rattle.wrp_network.specs.declared.network.LinkCfg.{LinkCfg}
use Rattle.wrp_config.specs.Names.{has_port as names_port, is_lower_end, is_upper_end, link_at, pair_of}
use Rattle.wrp_config.proofs.Bare.{some_bare}
use Rattle.wrp_node.specs.NodeAt.{NodeAt}
use Rattle.wrp_node.specs.declared.parts.Parts.{Parts}
use Rattle.wrp_node.specs.Parts.{PartsAt, is_among}
use Rattle.wrp_course.specs.declared.place.Place.{Place}
use Rattle.wrp_course.specs.Setting.{has_port as is_of_node, place_among}
use Rattle.wrp_course.proofs.PortNumbers.{has-place}
use Rattle.wrp_trace.specs.LineSetting.{LineSetting, has_port}
use Rattle.wrp_replay.specs.DownLaw.{node_setting_at}

-- a link names the port at one of its ends, or a later link does
either : (a b : Bool) (link : LinkCfg) (upper lower : Place) (later : Option LinkCfg) (place : Option Place) → is_some later ≡ is_some place →
    is_some (if a || b then Some link else later) ≡ is_some (if a then Some upper else (if b then Some lower else place))
either true b link upper lower later place e = refl
either false true link upper lower later place e = refl
either false false link upper lower later place e = e

-- there is a link that names the port if and only if the port is at an end of a link
named_placed : (n p k : ℕ) (links : List LinkCfg) → is_some (find (names_port n p) links) ≡ is_some (place_among n p k links)
named_placed n p k [] = refl
named_placed n p k (link ∷ links) =
    either (is_upper_end n p link) (is_lower_end n p link) link (record { link = k; role = Master }) (record { link = k; role = Slave })
    (find (names_port n p) links) (place_among n p (k + 1) links) (named_placed n p (k + 1) links)

-- a port that a link names is one that the node is set to
pub is_own : (site : LineSetting) (p : ℕ) → has_port site p ≡ true → is_of_node site.cfg site.node p ≡ true
is_own site p has =
    has-place site.cfg site.node p
    ∙ sym (named_placed site.node p 0 site.cfg.links.items)
    ∙ sym (some_bare (pair_of site.node p) (link_at site.cfg site.node p)) ∙ has

-- and one of the ports of a node that stands for some inputs
pub is_among_own : (site : LineSetting) (n : NodeAt) (parts : Parts) (p : ℕ) → PartsAt (node_setting_at site) n parts → has_port site p ≡ true → is_among p parts.ports ≡ true
is_among_own site n parts p at has = ap (λ (ns : List ℕ). list_any (λ q. q == p) ns) at.numbers ∙ is_own site p has
