use Rattle.std.proofs.Common.{◌∙◌, ap, sym, option_map}
use Rattle.wrp_changes.proofs.FrameGifts.{frame_gives, no_frame_gives}
use Rattle.wrp_changes.proofs.giving.frames.gift_of_frame.Goals as goal

pub returns-in-Some : goal.returns-in-Some
returns-in-Some c =
    frame_gives c.args.plant.now c.args.number c.in-Some.frame.now c.arrived.result (sym c.frame.ensures.value ∙ ap (option_map (λ f. f.now)) c.in-Some.is)
    c.arrived.ensures.gifts c.arrived.ensures.fits

pub returns-in-None : goal.returns-in-None
returns-in-None c = no_frame_gives c.args.plant.now c.args.number (sym c.frame.ensures.value ∙ ap (option_map (λ f. f.now)) c.in-None.is)
