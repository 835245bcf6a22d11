-- Laws of accepted networks, for the layers that depend on them (this project's profile).
use Rattle.std.specs.Prelude.{ℕ, zero, suc, ◌≡◌, ◌<◌, ◌≤◌, Some, IsSome}
use Rattle.wrp_network.specs.declared.configuration.NetCfg.{NetCfg}
use Rattle.wrp_network.specs.declared.network.LinkCfg.{LinkCfg}
use Rattle.wrp_network.specs.Network.{IsLink, IsGrandmaster, HasDepth, link_above, node_count}
use Rattle.wrp_caldb.specs.Database.{Database}
use Rattle.wrp_config.specs.Accepted.{IsAccepted}
use Rattle.wrp_config.specs.Names.{link_at, pair_at, listed_at}

-- this many links upwards from a node is another
abbrev pub IsAbove : NetCfg → ℕ → ℕ → ℕ → Type 0
IsAbove cfg zero n top = n ≡ top
IsAbove cfg (suc steps) n top = (link : LinkCfg) × (link_above cfg n ≡ Some link) × IsAbove cfg steps link.upper top

-- there is one grandmaster, and the walk from each node up its parents ends at it after at most 8 links
abbrev pub OneGrandmaster : Type 0
OneGrandmaster =
    (cfg : NetCfg) (db : Database) → IsAccepted cfg db →
    (top : ℕ) × IsGrandmaster cfg top × ((n : ℕ) → IsGrandmaster cfg n → n ≡ top)
    × ((n : ℕ) → n < node_count cfg → (depth : ℕ) × (depth ≤ 8) × HasDepth cfg depth n × IsAbove cfg depth n top)

-- a node below another is one link deeper, and has no other depth
abbrev pub ChildIsDeeper : Type 0
ChildIsDeeper =
    (cfg : NetCfg) (n depth other : ℕ) (link : LinkCfg) → link_above cfg n ≡ Some link →
    HasDepth cfg depth link.upper → HasDepth cfg other n → other ≡ suc depth

-- each port is of one link: the port at a link's end is found at that link, with the wavelengths of its end
abbrev pub PortIsOfOneLink : Type 0
PortIsOfOneLink =
    (cfg : NetCfg) (db : Database) (l : ℕ) (link : LinkCfg) → IsAccepted cfg db → IsLink cfg l link →
    (link_at cfg link.upper link.upper_port ≡ Some link)
    × (link_at cfg link.lower link.lower_port ≡ Some link)
    × (pair_at cfg link.upper link.upper_port ≡ Some (link.down_nm, link.up_nm))
    × (pair_at cfg link.lower link.lower_port ≡ Some (link.up_nm, link.down_nm))

-- the modules of a link are listed at its ports
abbrev pub ModulesAreListed : Type 0
ModulesAreListed =
    (cfg : NetCfg) (db : Database) (l : ℕ) (link : LinkCfg) → IsAccepted cfg db → IsLink cfg l link →
    IsSome (listed_at cfg db link.upper link.upper_port link.upper_module.bytes)
    × IsSome (listed_at cfg db link.lower link.lower_port link.lower_module.bytes)
