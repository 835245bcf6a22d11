use Rattle.std.proofs.Common.{◌∙◌, sym, ap, slice_get}
use Rattle.wrp_network.specs.declared.configuration.NetCfg.{NetCfg}
use Rattle.wrp_base.specs.Link.{other_of}
use Rattle.wrp_course.specs.declared.place.Place.{Place}
use Rattle.wrp_premises.specs.Tried.{identity_at}
use Rattle.wrp_premises.proofs.TriedOctets.{noise_told}
use Rattle.wrp_premises.proofs.tries.octets.said_broken.Goals as goal

pub returns : goal.returns
returns c s w h set at =
    noise_told s w c.args.n c.args.port c.args.says.now c.args.place c.link_cfg-link.result.now c.identity_at-peer.result c.is_by-by_peer.result c.forged.result c.carrier_broken.result
    set at (ap (λ (cfg : NetCfg). slice_get cfg.links.items c.args.place.link) (sym h.cfg) ∙ c.link_cfg-link.ensures.value)
    (c.identity_at-peer.ensures ∙ ap (λ (to : Place). identity_at c.args.plant.now.net.cfg to.role c.link_cfg-link.result.now) c.across-to.ensures
    ∙ ap (λ (cfg : NetCfg). identity_at cfg (other_of c.args.place.role) c.link_cfg-link.result.now) h.cfg)
    c.is_by-by_peer.ensures c.forged.ensures (c.carrier_broken.ensures s w h)
