use Rattle.std.proofs.Common.{◌∙◌, ap, ap₂, sym, ℕ, ℤ, FitsSigned, Option, arith}
use Rattle.std.proofs.Common.{rules}
use Rattle.std.proofs.lemmas.Int.{to_z-of_z}
use Rattle.std.specs.Int.{w128}
use Rattle.std.specs.Option.{option_map_or}
use Rattle.wrp_network.specs.declared.network.NodeCfg.{NodeCfg}
use Rattle.wrp_course.specs.declared.event.Event.TheVariants.{Depart}
use Rattle.wrp_sim.specs.Draws.{next_state}
use Rattle.wrp_sim.specs.Numbers.{drawn_stamp, thousands}
use Rattle.wrp_sim.specs.Rules.{after_draw}
use Rattle.wrp_sim.proofs.Seen.{node_is}
use Rattle.wrp_plant.proofs.SignedReads.{read}
use Rattle.wrp_sim.proofs.sim.state.State.depart_from.Goals as goal

pub draw_stamp-stamp-requires-clause-e_tx : goal.draw_stamp-stamp-requires-clause-e_tx
draw_stamp-stamp-requires-clause-e_tx g c = c.node_cfg.ensures.ranges.e_tx.0

pub draw_stamp-stamp-requires-clause-room : goal.draw_stamp-stamp-requires-clause-room
draw_stamp-stamp-requires-clause-room g c = c.node_cfg.ensures.ranges.e_tx.1

pub returns-clause-follows : goal.returns-clause-follows
returns-clause-follows g c s w at h i =
    let node = node_is _ s w c.args.world.now c.args.from.node c.node_cfg.result.now h c.node_cfg.ensures.value in
    let fits : FitsSigned w128 c.draw_stamp-stamp.result = search rules in (
      ap (Depart c.args.from.node c.args.from.port)
          (to_z-of_z w128 c.draw_stamp-stamp.result fits ∙ c.draw_stamp-stamp.ensures.value
          ∙ ap (λ (x : ℤ). drawn_stamp (thousands c.node_cfg.result.now.e_tx) x c.args.self.now.draws) (read c.args.from.at (omega (arith, c.requires.range.greatest)))
          ∙ ap₂ (λ (k state : ℕ). drawn_stamp (thousands k) c.args.from.at state) (sym (ap (λ (o : Option NodeCfg). option_map_or (λ (x : NodeCfg). x.e_tx) o 0) node)) i.state),
      c.comes.ensures.follows (after_draw at)
          (record { state = c.draw_stamp-stamp.ensures.state ∙ ap next_state i.state; begun = i.begun; faults = i.faults; ticks = i.ticks; ticked = i.ticked; arrived = i.arrived }),
    )

pub returns-clause-stays : goal.returns-clause-stays
returns-clause-stays g c =
    let stays = c.comes.ensures.stays c.args.world.now.plant.net.cfg
    (record {
      scene = c.requires.fits.scene;
      faults = c.requires.fits.faults;
      ticks = c.requires.fits.ticks;
      ticked = c.requires.fits.ticked;
      begun = c.requires.fits.begun;
      arrived = c.requires.fits.arrived;
    }) in
    record { scene = stays.scene; fits = stays.fits }
