use Rattle.std.proofs.Common.{◌∙◌, sym, ap, option_map}
use Rattle.wrp_premises.proofs.HandedFrames.{young_found, young_missing}
use Rattle.wrp_premises.proofs.handing.young_broken.Goals as goal

pub returns-in-Some : goal.returns-in-Some
returns-in-Some c s w h f e told =
    c.landed_broken.ensures s w h f
    (young_found s w c.args.number c.args.plant.now.frames c.in-Some.frame.now f h.frames (sym c.frame.ensures.value ∙ ap (option_map (λ d. d.now)) c.in-Some.is) e) told

pub returns-in-None : goal.returns-in-None
returns-in-None c s w h f e told =
    absurd (young_missing s w c.args.number c.args.plant.now.frames f h.frames (sym c.frame.ensures.value ∙ ap (option_map (λ d. d.now)) c.in-None.is) e told)
