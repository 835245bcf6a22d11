-- The faults of a tree do not see the unused room of the names of its network.
use Rattle.std.proofs.Common.{◌≡◌, ◌+◌, ◌==◌, ℕ, zero, suc, List, Option, None, Some, cond, map, option_map, refl, ap, ◌∙◌}
use Rattle.std.proofs.lemmas.List.Folds.{fold-map}
use Rattle.std.specs.Prelude.{count_by}
use Rattle.wrp_network.specs.declared.configuration.NetCfg.{NetCfg}
use Rattle.wrp_network.specs.declared.network.LinkCfg.{LinkCfg}
use Rattle.wrp_network.specs.Network.{link_above}
use Rattle.wrp_config.specs.Same.{bare_link, bare_cfg}
use Rattle.wrp_config.proofs.Bare.{above_bare, above_some}
use Rattle.wrp_network_text.specs.Tree.{is_root, some_below, ended, one_above, depth_within, is_over_8, has_fault}
use Rattle.wrp_network_text.specs.declared.tree.TreeFault.{TreeFault}
use Rattle.wrp_network_text.specs.declared.tree.TreeFault.TheVariants.{NotATree, TwoSlaves, TooDeep}

count_below : (n : ℕ) (links : List LinkCfg)
    → count_by (λ link. link.lower == n) (map bare_link links) ≡ count_by (λ link. link.lower == n) links
count_below n links = fold-map (λ count (link : LinkCfg). count + cond (link.lower == n) 1 0) bare_link 0 links

root_bare : (cfg : NetCfg) (n : ℕ) → is_root (bare_cfg cfg) n ≡ is_root cfg n
root_bare cfg n = rw (above_some cfg n) refl

roots_bare : (cfg : NetCfg) (n : ℕ) → some_below (is_root (bare_cfg cfg)) n ≡ some_below (is_root cfg) n
roots_bare cfg zero = refl
roots_bare cfg (suc n) = rw (roots_bare cfg n, root_bare cfg n) refl

ended_bare : (above : Option LinkCfg) → ended (option_map bare_link above) ≡ ended above
ended_bare None = refl
ended_bare (Some link) = refl

one_above_bare : (walk own : ℕ → Option ℕ) → ((n : ℕ) → walk n ≡ own n) → (above : Option LinkCfg)
    → one_above walk (option_map bare_link above) ≡ one_above own above
one_above_bare walk own same None = refl
one_above_bare walk own same (Some link) = ap (option_map (λ depth. depth + 1)) (same link.upper)

depth_bare : (most : ℕ) (cfg : NetCfg) (n : ℕ) → depth_within most (bare_cfg cfg) n ≡ depth_within most cfg n
unfolding depth_within
depth_bare zero cfg n = ap ended (above_bare cfg n) ∙ ended_bare (link_above cfg n)
depth_bare (suc most) cfg n =
    ap (one_above (depth_within most (bare_cfg cfg))) (above_bare cfg n)
    ∙ one_above_bare (depth_within most (bare_cfg cfg)) (depth_within most cfg) (λ m. depth_bare most cfg m) (link_above cfg n)

pub fault_bare : (cfg : NetCfg) (fault : TreeFault) (n : ℕ) → has_fault (bare_cfg cfg) fault n ≡ has_fault cfg fault n
fault_bare cfg NotATree n = rw (root_bare cfg n, roots_bare cfg n, depth_bare 64 cfg n) refl
fault_bare cfg TwoSlaves n = rw (count_below n cfg.links.items) refl
fault_bare cfg TooDeep n = ap is_over_8 (depth_bare 64 cfg n)
