use Rattle.std.proofs.Common.{◌∙◌}
use Rattle.wrp_sim.specs.Rules.{with_tick}
use Rattle.wrp_sim.proofs.sim.state.State.wake.Goals as goal

pub returns-clause-follows : goal.returns-clause-follows
returns-clause-follows g c s w at stays h i =
    (c.up_event.ensures, c.comes.ensures.follows (with_tick s w.time c.args.n at) (c.set_tick.ensures.ticks s w at h i))

pub returns-clause-stays : goal.returns-clause-stays
returns-clause-stays g c =
    let kept = c.comes.ensures.stays c.args.world.now.plant.net.cfg c.set_tick.ensures.stays.fits in
    record { scene = kept.scene ∙ c.set_tick.ensures.stays.scene; fits = kept.fits }
