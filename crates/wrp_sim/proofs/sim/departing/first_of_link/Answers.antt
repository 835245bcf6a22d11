use Rattle.std.proofs.Common.{◌∙◌, sym}
use Rattle.wrp_sim.proofs.IdleLinks.{idle_over}
use Rattle.wrp_sim.proofs.sim.departing.first_of_link.Goals as goal

pub returns-else-puts_out_over-clause-value : goal.returns-else-puts_out_over-clause-value
returns-else-puts_out_over-clause-value g c s w h = idle_over s w c.args.first c.args.link (sym (c.puts_out_over.ensures s w h) ∙ c.if-puts_out_over.false)
