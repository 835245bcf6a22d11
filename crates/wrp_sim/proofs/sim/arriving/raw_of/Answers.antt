use Rattle.std.proofs.Common.{◌∙◌, sym, None, Some}
use Rattle.wrp_sim.proofs.Ends.{comes_there}
use Rattle.wrp_sim.proofs.sim.arriving.raw_of.Goals as goal

pub returns-in-Some : goal.returns-in-Some
returns-in-Some g c s w h =
    c.raw_to.ensures s w h
    ∙ comes_there s w c.args.frame (Some c.in-Some.to) (c.requires.on s w h) (sym c.in-Some.is ∙ c.comes_to.ensures.value s w h)

pub returns-in-None : goal.returns-in-None
returns-in-None g c s w h = comes_there s w c.args.frame None (c.requires.on s w h) (sym c.in-None.is ∙ c.comes_to.ensures.value s w h)
