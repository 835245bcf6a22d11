use Rattle.std.proofs.Common.{◌∙◌, sym, ap, slice_get, arith}
use Rattle.std.specs.Option.{option_map_or}
use Rattle.wrp_network.specs.declared.configuration.NetCfg.{NetCfg}
use Rattle.wrp_network.specs.declared.network.NodeCfg.{NodeCfg}
use Rattle.wrp_plant.proofs.SignedReads.{read}
use Rattle.wrp_premises.proofs.TriedNodes.{beat_told, beat_dark}
use Rattle.wrp_premises.proofs.tries.beat_broken.Goals as goal

pub returns-then-carrier : goal.returns-then-carrier
returns-then-carrier c s w h =
    beat_told s w c.args.n c.args.base c.args.bits c.args.k c.link_cfg-link.result.now c.cfg-cfg.result.now.clock c.node_cfg-node.result.now.beat _ c.beat_kept.result
    c.beat_kept.ensures (sym (c.has_carrier-carrier.ensures s w h) ∙ c.if-carrier.true)
    (ap (λ (cfg : NetCfg). slice_get cfg.links.items c.args.k) (sym h.cfg) ∙ c.link_cfg-link.ensures.value)
    (ap (λ (cfg : NetCfg). cfg.clock) (c.cfg-cfg.ensures.value ∙ h.cfg))
    (sym (ap (λ o. option_map_or (λ (node : NodeCfg). node.beat) o 0)
    (ap (λ (cfg : NetCfg). slice_get cfg.nodes.items c.args.n) (sym h.cfg) ∙ c.node_cfg-node.ensures.value)))
    (read c.phase-phase.result (omega (arith, c.phase-phase.ensures.size)) ∙ c.phase-phase.ensures.value s w h)

pub returns-else-carrier : goal.returns-else-carrier
returns-else-carrier c s w h =
    beat_dark s w c.args.n c.args.base c.args.bits c.args.k c.needs.result c.needs.ensures (sym (c.has_carrier-carrier.ensures s w h) ∙ c.if-carrier.false)
