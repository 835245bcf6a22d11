use Rattle.std.proofs.Common.{◌∙◌, sym, ap, slice_get, arith}
use Rattle.std.specs.Option.{option_map_or}
use Rattle.wrp_network.specs.declared.configuration.NetCfg.{NetCfg}
use Rattle.wrp_network.specs.declared.network.NodeCfg.{NodeCfg}
use Rattle.wrp_stamp.specs.Merge.{transition_of}
use Rattle.wrp_course.specs.Setting.{entry_at}
use Rattle.wrp_plant.proofs.SignedReads.{read}
use Rattle.wrp_premises.proofs.TriedFrames.{raw_told}
use Rattle.wrp_plant.proofs.Sizing.{raw_fits}
use Rattle.wrp_premises.proofs.tries.frames.raw_broken.Goals as goal

pub raw_kept-requires-clause-raw : goal.raw_kept-requires-clause-raw
raw_kept-requires-clause-raw c = raw_fits c.args.raw.now c.requires.raw

pub returns : goal.returns
returns c s w h =
    raw_told s w c.args.to c.args.raw.now c.node_at-n.result c.cfg-cfg.result.now.clock c.node_cfg-node.result.now.e_tag c.transition_of-transition.result _ c.raw_kept.result
    c.raw_kept.ensures
    (ap (λ (cfg : NetCfg). cfg.clock) (c.cfg-cfg.ensures.value ∙ h.cfg))
    (sym (ap (λ o. option_map_or (λ (node : NodeCfg). node.e_tag) o 0)
    (ap (λ (cfg : NetCfg). slice_get cfg.nodes.items c.node_at-n.result) (sym h.cfg) ∙ c.node_cfg-node.ensures.value)))
    (c.transition_of-transition.ensures.value ∙ ap transition_of (c.listed_at.ensures.value s w h
    ∙ ap (entry_at s c.args.to.link c.args.to.role) (c.as_str.ensures.value ∙ (c.end-end.ensures s w h).name)))
    (read c.reading-reading.result (omega (arith, c.reading-reading.ensures.size)) ∙ c.reading-reading.ensures.value s w h)
    (c.node_at-n.ensures.value s w h)
