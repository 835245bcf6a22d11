use Rattle.wrp_plant.proofs.Sizing.{delay_size}
use Rattle.wrp_plant.proofs.plant.Plant.span.Goals as goal

pub span_at-requires : goal.span_at-requires
span_at-requires c = rw c.requires.fits.span_count c.requires.link

pub returns-clause-fits : goal.returns-clause-fits
returns-clause-fits c = c.requires.fits.spans c.args.k _ c.span_at.ensures

pub returns-clause-ms : goal.returns-clause-ms
returns-clause-ms c = delay_size c.args.self.now.events c.span_at.result.now.fibre.ms c.requires.fits.events (c.requires.fits.spans c.args.k _ c.span_at.ensures).ms

pub returns-clause-sm : goal.returns-clause-sm
returns-clause-sm c = delay_size c.args.self.now.events c.span_at.result.now.fibre.sm c.requires.fits.events (c.requires.fits.spans c.args.k _ c.span_at.ensures).sm
