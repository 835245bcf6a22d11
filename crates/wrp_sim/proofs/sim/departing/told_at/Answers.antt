use Rattle.std.proofs.Common.{◌∙◌, ap, sym, arith}
use Rattle.wrp_network.specs.declared.configuration.NetCfg.{NetCfg}
use Rattle.wrp_config.specs.declared.network.Network.{Network}
use Rattle.wrp_plant.proofs.SignedReads.{read}
use Rattle.wrp_sim.proofs.Leaving.{readable, told_there, untold_there}
use Rattle.wrp_sim.proofs.Seen.{link_is}
use Rattle.wrp_sim.proofs.sim.departing.told_at.Goals as goal

pub returns-then-is_within-clause-value : goal.returns-then-is_within-clause-value
returns-then-is_within-clause-value g c s w h =
    told_there s w c.args.place.link c.args.place.role c.link_cfg.result.now _ _ c.port_at-node.result (link_is _ s w c.args.world.now c.args.place.link c.link_cfg.result.now h c.link_cfg.ensures.value)
    (ap (λ (net : Network). net.cfg.clock) c.net.ensures ∙ ap (λ (x : NetCfg). x.clock) h.plant.cfg) c.port_at-node.ensures
    (read c.reading-at.result (omega (arith, c.reading-at.ensures.size)) ∙ c.reading-at.ensures.value s w h) (sym c.is_within.ensures ∙ c.if-is_within.true)

pub returns-then-is_within-clause-range : goal.returns-then-is_within-clause-range
returns-then-is_within-clause-range g c = readable _ _ (sym c.is_within.ensures ∙ c.if-is_within.true)

pub returns-else-is_within-clause-value : goal.returns-else-is_within-clause-value
returns-else-is_within-clause-value g c s w h =
    untold_there s w c.args.place.link c.args.place.role c.link_cfg.result.now _ _ c.port_at-node.result (link_is _ s w c.args.world.now c.args.place.link c.link_cfg.result.now h c.link_cfg.ensures.value)
    (ap (λ (net : Network). net.cfg.clock) c.net.ensures ∙ ap (λ (x : NetCfg). x.clock) h.plant.cfg) c.port_at-node.ensures
    (read c.reading-at.result (omega (arith, c.reading-at.ensures.size)) ∙ c.reading-at.ensures.value s w h) (sym c.is_within.ensures ∙ c.if-is_within.false)
