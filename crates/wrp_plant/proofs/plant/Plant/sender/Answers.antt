use Rattle.std.proofs.Common.{subst, option_map}
use Rattle.wrp_course.specs.Views.{kept_frame}
use Rattle.wrp_plant.specs.Plant.{DepartedIs, MaybeIs}
use Rattle.wrp_plant.proofs.KeptFrames.{sender_told}
use Rattle.wrp_plant.proofs.plant.Plant.sender.Goals as goal

pub returns-in-Some : goal.returns-in-Some
returns-in-Some c s w h =
    sender_told s w c.args.number c.in-Some.frame.now c.port_at.result
    (subst (λ o. MaybeIs DepartedIs (kept_frame s w c.args.number) (option_map (λ f. f.now) o)) c.in-Some.is (c.kept_frame.ensures s w h)) (c.port_at.ensures s w h)
