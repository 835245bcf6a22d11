use Rattle.wrp_sim.proofs.sim.state.State.rejoin.Goals as goal

pub returns-clause-follows : goal.returns-clause-follows
returns-clause-follows g c s w at stays h i = (c.join_event.ensures s w h, c.comes.ensures.follows at i)
