use Rattle.std.proofs.Common.{ap, ◌+◌, arith}
use Rattle.wrp_sim.specs.Rules.{one_begun}
use Rattle.wrp_sim.proofs.sim.state.State.wake_first.Goals as goal

pub wake-requires-clause-fits : goal.wake-requires-clause-fits
wake-requires-clause-fits g c = record {
  scene = c.requires.fits.scene;
  faults = c.requires.fits.faults;
  ticks = c.requires.fits.ticks;
  ticked = c.requires.fits.ticked;
  begun = omega (arith, c.requires.next, c.requires.node, c.requires.valid.node_count);
  arrived = c.requires.fits.arrived;
}

pub returns-clause-follows : goal.returns-clause-follows
returns-clause-follows g c s w at h i =
    c.wake.ensures.follows s w (one_begun at) at h
    (record { state = i.state; begun = ap (λ n. n + 1) i.begun; faults = i.faults; ticks = i.ticks; ticked = i.ticked; arrived = i.arrived })
