-- The ports at the ends of links, and places of lists.
use Rattle.std.proofs.Common.{◌≡◌, ℕ, suc, ◌+◌, ◌==◌, false, arith}
use Rattle.wrp_network.specs.declared.configuration.NetCfg.{NetCfg}
use Rattle.wrp_base.specs.declared.link.Role.{Role}
use Rattle.wrp_base.specs.declared.link.Role.TheVariants.{Master, Slave}
use Rattle.wrp_network.specs.declared.network.LinkCfg.{LinkCfg}
use Rattle.wrp_data.specs.declared.datasets.PortDs.{PortDs}
use Rattle.wrp_node.specs.Set.{master_at, slave_at}

-- a port at an end of a link
abbrev pub ds_at : NetCfg → Role → LinkCfg → PortDs
ds_at net Master link = master_at net link
ds_at net Slave link = slave_at net link

pub next_link : (k j : ℕ) → (k + 1) + j ≡ k + suc j
next_link k j = omega arith

pub other_number : (n i : ℕ) → (n == i) ≡ false → n ≡ i → ⊥
other_number n i e f = grind (arith, e, f)
