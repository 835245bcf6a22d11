use Rattle.std.proofs.Common.{subst, sym}
use Rattle.wrp_course.specs.Views.{kept_frame}
use Rattle.wrp_plant.specs.Plant.{DepartedIs, MaybeIs}
use Rattle.wrp_plant.proofs.KeptFrames.{frame_told}
use Rattle.wrp_plant.proofs.plant.Plant.kept_frame.Goals as goal

pub returns : goal.returns
returns c s w h =
    subst (MaybeIs DepartedIs (kept_frame s w c.args.number)) (sym c.find.ensures) (frame_told s w c.args.number c.args.self.now.frames h.frames)
