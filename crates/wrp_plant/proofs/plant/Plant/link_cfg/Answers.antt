use Rattle.wrp_plant.proofs.plant.Plant.link_cfg.Goals as goal

pub returns-clause-ranges : goal.returns-clause-ranges
returns-clause-ranges c = c.requires.fits.accepted.ranges.links c.args.k _ c.link_cfg_at.ensures

pub returns-clause-upper : goal.returns-clause-upper
returns-clause-upper c = (c.requires.fits.accepted.tree.ends c.args.k _ c.link_cfg_at.ensures).0

pub returns-clause-lower : goal.returns-clause-lower
returns-clause-lower c = (c.requires.fits.accepted.tree.ends c.args.k _ c.link_cfg_at.ensures).1
