use Rattle.std.proofs.Common.{sym, ap}
use Rattle.std.specs.Option.{option_map_or}
use Rattle.wrp_network.specs.declared.network.NodeCfg.{NodeCfg}
use Rattle.wrp_premises.proofs.tries.octets.identity.Goals as goal

pub returns : goal.returns
returns c = sym (ap (λ o. option_map_or (λ (node : NodeCfg). node.identity) o 0) c.node_cfg.ensures.value)
