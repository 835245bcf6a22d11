use Rattle.std.proofs.Common.{◌∙◌, sym, ap, ap₂, ◌∷◌, [], pos, ◌-ℤ◌, slice_get, arith}
use Rattle.std.specs.Option.{option_map_or}
use Rattle.wrp_network.specs.declared.configuration.NetCfg.{NetCfg}
use Rattle.wrp_network.specs.declared.network.NodeCfg.{NodeCfg}
use Rattle.wrp_course.specs.Checks.{told_of, at_most, size_of}
use Rattle.wrp_plant.proofs.SignedReads.{read}
use Rattle.wrp_premises.proofs.tries.frames.stamp_broken.Goals as goal

pub returns : goal.returns
returns c s w h =
    c.stamp_kept.ensures
    ∙ ap₂ (λ x e. told_of (at_most 7 (size_of x) (pos e) ∷ []))
    (ap₂ (λ a b. a -ℤ b) (read c.args.stamp (omega (arith, c.requires.stamp)))
    (read c.reading-reading.result (omega (arith, c.reading-reading.ensures.size)) ∙ c.reading-reading.ensures.value s w h))
    (sym (ap (λ o. option_map_or (λ (node : NodeCfg). node.e_tx) o 0)
    (ap (λ (cfg : NetCfg). slice_get cfg.nodes.items c.args.n) (sym h.cfg) ∙ c.node_cfg-node.ensures.value)))
