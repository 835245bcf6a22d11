use Rattle.std.proofs.Common.{◌∙◌, ap, sym, option_map}
use Rattle.wrp_plant.proofs.KeptFrames.{no_way, way_told}
use Rattle.wrp_plant.proofs.plant.Plant.comes_to.Goals as goal

pub returns-in-Some-clause-value : goal.returns-in-Some-clause-value
returns-in-Some-clause-value c s w h =
    way_told s w c.args.number c.args.self.now.frames c.in-Some.frame.now c.way_of.result h.frames
    (sym c.frame.ensures.value ∙ ap (option_map (λ f. f.now)) c.in-Some.is) c.way_of.ensures

pub returns-in-None-clause-value : goal.returns-in-None-clause-value
returns-in-None-clause-value c s w h =
    no_way s w c.args.number c.args.self.now.frames h.frames (sym c.frame.ensures.value ∙ ap (option_map (λ f. f.now)) c.in-None.is)
