-- The way of a frame that flies.
use Rattle.std.proofs.Common.{◌∙◌, ap, sym, slice_get, option_map}
use Rattle.wrp_network.specs.declared.network.LinkCfg.{LinkCfg}
use Rattle.wrp_config.specs.declared.network.Network.{Network}
use Rattle.wrp_course.specs.declared.place.Place.{Place}
use Rattle.wrp_course.specs.Setting.{end_of}
use Rattle.wrp_loop.specs.Datagrams.{end_number}
use Rattle.wrp_loop.proofs.Ways.{no_place, route_is, sender_below}
use Rattle.wrp_loop.proofs.routes.route_of.Goals as goal

pub returns-in_default-place_of : goal.returns-in_default-place_of
returns-in_default-place_of g c = λ s w f stands net flies.
    no_place s net w c.args.frame c.in-Some.node c.in-Some.port f c.net.result.now.cfg (ap (λ (n : Network). n.cfg) c.net.ensures ∙ stands.plant.cfg) flies (c.in-Some.ensures s w stands)
    c.in_default-place_of.ensures.value

pub identity_of-requires : goal.identity_of-requires
identity_of-requires g c =
    sender_below c.requires.setting c.net.result.now.cfg c.args.world.now.plant.net.cfg c.in-Some.node c.in-Some.port c.in-Some-place_of.place (ap (λ (n : Network). n.cfg) c.net.ensures) c.requires.stands.plant.cfg
    c.requires.plant.accepted.tree (sym c.in-Some-place_of.ensures.value)

pub returns : goal.returns
returns g c = λ s w f stands net flies.
    route_is s net w c.args.frame c.in-Some.node c.in-Some.port f c.net.result.now.cfg c.in-Some-place_of.place c.end_number.result c.end_number-2.result c.node_at.result c.port_at.result c.identity_of.result
    (ap (λ (n : Network). n.cfg) c.net.ensures ∙ stands.plant.cfg) flies (c.in-Some.ensures s w stands) (sym c.in-Some-place_of.ensures.value) c.end_number.ensures
    (c.end_number-2.ensures ∙ ap (λ (k : Place). end_number k.link k.role) c.across.ensures)
    (ap (λ (k : Place). option_map (λ (l : LinkCfg). (end_of k.role l).node) (slice_get c.net.result.now.cfg.links.items k.link)) (sym c.across-2.ensures) ∙ c.node_at.ensures)
    (ap (λ (k : Place). option_map (λ (l : LinkCfg). (end_of k.role l).port) (slice_get c.net.result.now.cfg.links.items k.link)) (sym c.across-3.ensures) ∙ c.port_at.ensures) c.identity_of.ensures
