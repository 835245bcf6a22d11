use Rattle.wrp_plant.proofs.Sizing.{off_size, time_size}
use Rattle.wrp_plant.proofs.plant.Plant.clock.Goals as goal

pub clock_at-requires : goal.clock_at-requires
clock_at-requires c = rw c.requires.fits.clock_count c.requires.node

pub returns-clause-value : goal.returns-clause-value
returns-clause-value c s w h = h.clocks c.args.n _ c.clock_at.ensures

pub returns-clause-off : goal.returns-clause-off
returns-clause-off c = off_size c.args.self.now.events c.clock_at.result.now.off c.requires.fits.events (c.requires.fits.clocks c.args.n _ c.clock_at.ensures).off

pub returns-clause-ticked : goal.returns-clause-ticked
returns-clause-ticked c = time_size c.args.self.now.events c.clock_at.result.now.ticked c.requires.fits.events (c.requires.fits.clocks c.args.n _ c.clock_at.ensures).ticked

pub returns-clause-samples : goal.returns-clause-samples
returns-clause-samples c = (c.requires.fits.clocks c.args.n _ c.clock_at.ensures).samples
