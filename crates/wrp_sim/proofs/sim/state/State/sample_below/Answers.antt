use Rattle.std.proofs.Common.{◌≡◌, ◌∙◌, ap, ap₂, sym, ℕ, Some, Option, option_map, option_and_then}
use Rattle.std.specs.Option.{option_map_or}
use Rattle.std.proofs.lemmas.Option.{same_Some}
use Rattle.wrp_network.specs.declared.network.LinkCfg.{LinkCfg}
use Rattle.wrp_network.specs.declared.network.NodeCfg.{NodeCfg}
use Rattle.wrp_base.proofs.Lists.{has_item}
use Rattle.wrp_course.specs.declared.event.Event.TheVariants.{Sample}
use Rattle.wrp_course.specs.Setting.{link_of}
use Rattle.wrp_sim.specs.Draws.{next_state}
use Rattle.wrp_sim.specs.Numbers.{base_before, bits_behind, drawn_zeros}
use Rattle.wrp_sim.specs.Rules.{after_draw, comes, sample_of, step_below}
use Rattle.wrp_sim.proofs.Seen.{link_is, node_is}
use Rattle.wrp_sim.proofs.Turns.{gives_same}
use Rattle.wrp_sim.proofs.sim.state.State.sample_below.Goals as goal

pub draw_zeros-zeros-requires : goal.draw_zeros-zeros-requires
draw_zeros-zeros-requires g c = c.node_cfg-node.ensures.ranges.beat

pub returns-clause-follows : goal.returns-clause-follows
returns-clause-follows g c s w at h i =
    let it = has_item c.args.world.now.plant.net.cfg.links.items c.args.k c.requires.link in
    let link : link_of s c.args.k ≡ Some it.0 = link_is _ s w c.args.world.now c.args.k it.0 h it.1 in
    let node = node_is _ s w c.args.world.now c.args.n c.node_cfg-node.result.now h c.node_cfg-node.ensures.value in
    let step : c.step_below-step.result ≡ step_below c.args.self.now.scene s w c.args.k it.0 =
    same_Some c.step_below-step.result (step_below c.args.self.now.scene s w c.args.k it.0)
    (c.step_below-step.ensures.value s w h ∙ ap (option_map (λ (l : LinkCfg). step_below c.args.self.now.scene s w c.args.k l)) link) in
    gives_same at (comes (sample_of c.args.self.now.scene s w c.args.n c.args.k it.0 at.state) (after_draw at))
    (option_and_then (λ l. comes (sample_of c.args.self.now.scene s w c.args.n c.args.k l at.state) (after_draw at)) (link_of s c.args.k)) _ c.comes.new.self
    (sym (ap (option_and_then (λ (l : LinkCfg). comes (sample_of c.args.self.now.scene s w c.args.n c.args.k l at.state) (after_draw at))) link)) (
      ap₂ (Sample c.args.n) (c.base_before-base.ensures ∙ ap base_before step)
          (c.bits_behind-bits.ensures
          ∙ ap bits_behind (c.draw_zeros-zeros.ensures.value
          ∙ ap₂ (λ (b state : ℕ). drawn_zeros b state) (sym (ap (λ (o : Option NodeCfg). option_map_or (λ (x : NodeCfg). x.beat) o 0) node)) i.state)),
      c.comes.ensures.follows (after_draw at)
          (record { state = c.draw_zeros-zeros.ensures.state ∙ ap next_state i.state; begun = i.begun; faults = i.faults; ticks = i.ticks; ticked = i.ticked; arrived = i.arrived }),
    )
