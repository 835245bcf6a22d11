use Rattle.std.proofs.Common.{sym, subst}
use Rattle.wrp_plant.specs.Plant.{EndIs}
use Rattle.wrp_plant.proofs.Standing.{end_told}
use Rattle.wrp_plant.proofs.plant.Plant.end.Goals as goal

pub returns : goal.returns
returns c s w h =
    subst (EndIs (w.end_at c.args.place.link c.args.place.role)) (sym c.end.ensures)
    (end_told w c.args.place.link c.span.result.now c.args.place.role (h.spans c.args.place.link c.span.result.now c.span.ensures.value))
