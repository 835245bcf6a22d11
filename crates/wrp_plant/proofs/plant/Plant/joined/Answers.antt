use Rattle.std.proofs.Common.{ap}
use Rattle.wrp_course.specs.declared.fibres.FibreState.{FibreState}
use Rattle.wrp_plant.proofs.plant.Plant.joined.Goals as goal

pub returns : goal.returns
returns c s w h = ap (λ (f : FibreState). f.joined) (h.spans c.args.link c.span.result.now c.span.ensures.value).fibre
