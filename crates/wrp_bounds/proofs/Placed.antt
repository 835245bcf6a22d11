-- A link that is found above a node is one of the network's, so its ends are nodes.
use Rattle.std.proofs.lemmas.Option.{slice_get_read}
use Rattle.std.proofs.Common.{◌≡◌, ℕ, ◌<◌, length, get_or, refl, sym, List, Option, Some, None, slice_get, Bor, IfSome, option_map}
use Rattle.std.specs.Prelude.{◌==◌}
use Rattle.wrp_network.specs.declared.configuration.NetCfg.{NetCfg}
use Rattle.wrp_network.specs.declared.network.LinkCfg.{LinkCfg}
use Rattle.wrp_network.specs.Network.{HasRanges, IsTree, IsLink, link_above}
use Rattle.wrp_network.specs.declared.network.NodeCfg.{NodeCfg}
use Rattle.wrp_base.proofs.Lists.{found_at}
use Rattle.wrp_bounds.specs.Bounds.{IsPlaced, numbers_over, numbers_between}

-- the link above a node is placed
pub placed_above : (net : NetCfg) (n : ℕ) (link : LinkCfg) → HasRanges net → IsTree net → link_above net n ≡ Some link → IsPlaced net link
placed_above net n link ranges tree found =
    let at : (l : ℕ) × IsLink net l link = found_at (λ link. link.lower == n) net.links.items link found in
    record {
      ranges = ranges.links at.0 link at.1;
      upper = (tree.ends at.0 link at.1).0;
      lower = (tree.ends at.0 link at.1).1;
    }

-- the same of a reference to it
pub placed_where_found : (net : NetCfg) (n : ℕ) (found : Option (Bor LinkCfg)) → HasRanges net → IsTree net → option_map (λ link. link.now) found ≡ link_above net n → IfSome found (λ link. IsPlaced net link.now)
placed_where_found net n None ranges tree is = tt
placed_where_found net n (Some link) ranges tree is = placed_above net n link.now ranges tree (sym is)

-- the numbers of a hop between two nodes
pub numbers_over-at : (net : NetCfg) (link : LinkCfg) (own parent : NodeCfg) →
    slice_get net.nodes.items link.lower ≡ Some own → slice_get net.nodes.items link.upper ≡ Some parent →
    numbers_over net link ≡ numbers_between net link (Some own) (Some parent)
unfolding numbers_over
numbers_over-at net link own parent below above = rw (below, above) refl

-- what is read at a node's place is that node
pub node_read : (read items : List NodeCfg) (i n : ℕ) (node : NodeCfg) → read ≡ items → i ≡ n → n < length items → node ≡ get_or read i node → slice_get items n ≡ Some node
node_read read items i n node same place within is = slice_get_read items (length items) n node refl within (cc)
