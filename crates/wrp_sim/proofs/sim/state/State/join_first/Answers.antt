use Rattle.std.proofs.Common.{ap, ◌+◌, arith}
use Rattle.wrp_sim.specs.Rules.{one_begun}
use Rattle.wrp_sim.proofs.sim.state.State.join_first.Goals as goal

pub returns-clause-follows : goal.returns-clause-follows
returns-clause-follows g c s w at h i = (
  c.join_event.ensures s w h,
  c.comes.ensures.follows (one_begun at)
      (record { state = i.state; begun = ap (λ n. n + 1) i.begun; faults = i.faults; ticks = i.ticks; ticked = i.ticked; arrived = i.arrived }),
)

pub returns-clause-stays : goal.returns-clause-stays
returns-clause-stays g c =
    let stays = c.comes.ensures.stays c.args.world.now.plant.net.cfg
    (record {
      scene = c.requires.fits.scene;
      faults = c.requires.fits.faults;
      ticks = c.requires.fits.ticks;
      ticked = c.requires.fits.ticked;
      begun = omega (arith, c.requires.next, c.requires.link);
      arrived = c.requires.fits.arrived;
    }) in
    record { scene = stays.scene; fits = stays.fits }
