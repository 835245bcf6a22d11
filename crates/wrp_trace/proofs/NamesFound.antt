-- The name of a node or link of an accepted network finds it again.
use Rattle.std.proofs.Common.{◌≡◌, ◌∙◌, ℕ, List, [], ◌∷◌, Bool, false, None, Some, length, get_or, refl, ap, arith}
use Rattle.std.specs.Prelude.{slice_get}
use Rattle.std.specs.List.{position, position_or_len}
use Rattle.std.proofs.lemmas.Bool.{false_from_ne_true, le-ltb}
use Rattle.std.proofs.lemmas.List.Sums.{position_or_len_is}
use Rattle.std.proofs.lemmas.Option.{slice_get-get_or}
use Rattle.std.proofs.lemmas.Slice.Eq.{bytes_eq-Decides}
use Rattle.wrp_network.specs.declared.configuration.NetCfg.{NetCfg}
use Rattle.wrp_network.specs.declared.network.LinkCfg.{LinkCfg}
use Rattle.wrp_network.specs.declared.network.NodeCfg.{NodeCfg}
use Rattle.wrp_network.specs.Network.{IsLink, IsNode}
use Rattle.wrp_base.proofs.Lists.{first_is}
use Rattle.wrp_caldb.specs.Name.{same_name}
use Rattle.wrp_config.specs.Accepted.{HasNames}
use Rattle.wrp_config.specs.Names.{node_named, link_named}
use Rattle.wrp_config.proofs.Lists.{map_at}

-- if none passes the test, none is found
none_is : {X : Type 0} (p : X → Bool) (xs : List X) → ((i : ℕ) (y : X) → slice_get xs i ≡ Some y → p y ≡ false) → position p xs ≡ None
none_is p [] all = refl
none_is p (d ∷ ds) all =
    let at : position_or_len p (d ∷ ds) ≡ length (d ∷ ds) =
    position_or_len_is p (d ∷ ds) (length (d ∷ ds)) d (omega arith)
    (λ k before. all k (get_or (d ∷ ds) k d) (slice_get-get_or (d ∷ ds) k d before)) (λ l. absurd (omega (arith, l))) in
    rw (at, le-ltb (length (d ∷ ds)) (length (d ∷ ds)) (omega arith)) refl

pub node_found : (cfg : NetCfg) → HasNames cfg → (n : ℕ) (node : NodeCfg) → IsNode cfg n node → node_named cfg node.name.bytes ≡ Some n
node_found cfg names n node e =
    first_is (λ other. same_name other.name.bytes node.name.bytes) cfg.nodes.items n node e ((bytes_eq-Decides node.name.bytes node.name.bytes).1 refl)
    (λ i other at is.
    names.nodes_apart i n node.name.bytes
    (map_at (λ m. m.name.bytes) cfg.nodes.items i other at ∙ ap (λ name. Some name) ((bytes_eq-Decides other.name.bytes node.name.bytes).0 is))
    (map_at (λ m. m.name.bytes) cfg.nodes.items n node e))

pub link_found : (cfg : NetCfg) → HasNames cfg → (l : ℕ) (link : LinkCfg) → IsLink cfg l link → link_named cfg link.name.bytes ≡ Some l
link_found cfg names l link e =
    first_is (λ other. same_name other.name.bytes link.name.bytes) cfg.links.items l link e ((bytes_eq-Decides link.name.bytes link.name.bytes).1 refl)
    (λ i other at is.
    names.links_apart i l link.name.bytes
    (map_at (λ m. m.name.bytes) cfg.links.items i other at ∙ ap (λ name. Some name) ((bytes_eq-Decides other.name.bytes link.name.bytes).0 is))
    (map_at (λ m. m.name.bytes) cfg.links.items l link e))

-- and a link's name is no node's
pub link_no_node : (cfg : NetCfg) → HasNames cfg → (l : ℕ) (link : LinkCfg) → IsLink cfg l link → node_named cfg link.name.bytes ≡ None
link_no_node cfg names l link e =
    none_is (λ node. same_name node.name.bytes link.name.bytes) cfg.nodes.items
    (λ n node at. false_from_ne_true (same_name node.name.bytes link.name.bytes)
    (λ is. absurd (names.apart n l node link at e ((bytes_eq-Decides node.name.bytes link.name.bytes).0 is))))
