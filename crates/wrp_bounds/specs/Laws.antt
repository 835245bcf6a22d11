-- Laws of the bounds, over all networks (this project's profile).
use Rattle.std.specs.Prelude.{ℕ, ◌≡◌, ◌+◌, ◌*◌, ◌<◌, ◌≤◌, Some}
use Rattle.wrp_network.specs.declared.configuration.NetCfg.{NetCfg}
use Rattle.wrp_network.specs.declared.network.LinkCfg.{LinkCfg}
use Rattle.wrp_network.specs.Network.{IsTree, IsGrandmaster, link_above, node_count}
use Rattle.wrp_bounds.specs.Bounds.{hop_of, path_of, holdover_of}
use Rattle.wrp_bounds.specs.Motion.{rounded_up}

-- the path of a node below another is its own hop and the holdover of that other
abbrev pub PathOfChild : Type 0
PathOfChild =
    (net : NetCfg) (n : ℕ) (link : LinkCfg) →
    IsTree net → n < node_count net → link_above net n ≡ Some link →
    path_of net n ≡ hop_of net n + holdover_of net link.upper

-- the grandmaster gives the time: its bounds are 0
abbrev pub GrandmasterIsExact : Type 0
GrandmasterIsExact =
    (net : NetCfg) (n : ℕ) → IsGrandmaster net n → (path_of net n ≡ 0) × (holdover_of net n ≡ 0)

-- a quotient rounded up is the least whole number that is at least the exact one
abbrev pub RoundsUp : Type 0
RoundsUp =
    (n d : ℕ) → 0 < d → (n ≤ d * rounded_up n d) × (d * rounded_up n d < n + d)
