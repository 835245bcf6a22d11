use Rattle.std.proofs.Common.{◌∙◌, ap, subst, arith}
use Rattle.wrp_network.specs.declared.configuration.NetCfg.{NetCfg}
use Rattle.wrp_network.specs.Network.{node_count}
use Rattle.wrp_plant.proofs.SignedReads.{read}
use Rattle.wrp_sim.specs.NextTick.{NoneAt, NoneBefore}
use Rattle.wrp_sim.proofs.NextMoments.{none_ticks}
use Rattle.wrp_sim.proofs.sim.state.State.first_tick.Goals as goal

pub returns-then-none_at-clause-value : goal.returns-then-none_at-clause-value
returns-then-none_at-clause-value g c s w at h i =
    none_ticks s w at c.args.self.now.tick_at (c.requires.fits.ticks ∙ ap (λ (cfg : NetCfg). node_count cfg) h.plant.cfg) i.ticks
    (subst (λ t. NoneAt t c.args.self.now.tick_at) (read c.time-now.result (omega (arith, c.time-now.ensures.size)) ∙ c.time-now.ensures.value s w h)
    (c.none_at.ensures c.if-none_at.true))

pub look_for_tick-requires-clause-earlier : goal.look_for_tick-requires-clause-earlier
look_for_tick-requires-clause-earlier g c s w h =
    subst (λ t. NoneBefore t c.args.self.now.tick_at c.place_at-start.result)
    (read c.time-now.result (omega (arith, c.time-now.ensures.size)) ∙ c.time-now.ensures.value s w h) c.place_at-start.ensures
