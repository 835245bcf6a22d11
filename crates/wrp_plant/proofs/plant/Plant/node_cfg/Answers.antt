use Rattle.wrp_plant.proofs.plant.Plant.node_cfg.Goals as goal

pub returns-clause-ranges : goal.returns-clause-ranges
returns-clause-ranges c = c.requires.fits.accepted.ranges.nodes c.args.n _ c.node_cfg_at.ensures
