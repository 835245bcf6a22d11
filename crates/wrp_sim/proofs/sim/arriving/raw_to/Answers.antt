use Rattle.std.proofs.Common.{◌∙◌, ap, sym, arith}
use Rattle.wrp_network.specs.declared.configuration.NetCfg.{NetCfg}
use Rattle.wrp_config.specs.declared.network.Network.{Network}
use Rattle.wrp_stamp.specs.Merge.{transition_of}
use Rattle.wrp_plant.proofs.SignedReads.{read}
use Rattle.wrp_sim.proofs.Cells.{raw_there, raw_untold, within_least}
use Rattle.wrp_sim.proofs.sim.arriving.raw_to.Goals as goal

pub raw_at-requires-clause-least : goal.raw_at-requires-clause-least
raw_at-requires-clause-least g c = within_least _ _ (sym c.is_within.ensures ∙ c.if-is_within.true)

pub returns-then-is_within : goal.returns-then-is_within
returns-then-is_within g c s w h =
    let cfg = ap (λ (net : Network). net.cfg) c.net.ensures ∙ h.plant.cfg in
    let at = read c.reading-at.result (omega (arith, c.reading-at.ensures.size)) ∙ c.reading-at.ensures.value s w h in
    raw_there s w c.args.to.link c.args.to.role c.node_at-node.result _ _ _ _ (c.node_at-node.ensures.value s w h) at (ap (λ (x : NetCfg). x.clock) cfg)
    (c.transition_of-transition.ensures.value ∙ ap transition_of (c.first_entry.ensures.value s w h)) (sym c.is_within.ensures ∙ c.if-is_within.true) c.raw_at.ensures

pub returns-else-is_within : goal.returns-else-is_within
returns-else-is_within g c s w h =
    let cfg = ap (λ (net : Network). net.cfg) c.net.ensures ∙ h.plant.cfg in
    let at = read c.reading-at.result (omega (arith, c.reading-at.ensures.size)) ∙ c.reading-at.ensures.value s w h in
    raw_untold s w c.args.to.link c.args.to.role c.node_at-node.result _ _ (c.node_at-node.ensures.value s w h) at (ap (λ (x : NetCfg). x.clock) cfg)
    (sym c.is_within.ensures ∙ c.if-is_within.false)
