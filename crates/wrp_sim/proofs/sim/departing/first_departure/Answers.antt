use Rattle.std.proofs.Common.{◌∙◌}
use Rattle.wrp_sim.proofs.Ends.{network_of}
use Rattle.wrp_sim.proofs.FirstPorts.{first_port, none_put_out}
use Rattle.wrp_sim.proofs.sim.departing.first_departure.Goals as goal

pub returns-then-puts_out_now-clause-value : goal.returns-then-puts_out_now-clause-value
returns-then-puts_out_now-clause-value g c s w h =
    c.first_at_ends.ensures.value s w h ∙ first_port s (network_of _ _ s w c.args.world.now c.requires h) w

pub returns-else-puts_out_now-clause-value : goal.returns-else-puts_out_now-clause-value
returns-else-puts_out_now-clause-value g c s w h = none_put_out s w (c.puts_out_now.ensures.none c.if-puts_out_now.false s w h)
