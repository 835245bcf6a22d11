use Rattle.std.proofs.Common.{◌∙◌, ap₂, arith}
use Rattle.std.specs.Int.Signed.{le_z}
use Rattle.wrp_plant.proofs.SignedReads.{read}
use Rattle.wrp_sim.proofs.sim.state.State.is_over.Goals as goal

pub returns : goal.returns
returns g c s w h =
    c.is_by.ensures
    ∙ ap₂ le_z (read c.end_time-end.result (omega (arith, c.end_time-end.ensures.size)) ∙ c.end_time-end.ensures.value s w h) (read c.time-now.result (omega (arith, c.time-now.ensures.size)) ∙ c.time-now.ensures.value s w h)
