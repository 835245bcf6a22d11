use Rattle.std.proofs.Common.{◌∙◌, ap₂, false, Option, ℤ, arith}
use Rattle.std.specs.Option.{option_map_or}
use Rattle.std.specs.Ordering.{int_eq}
use Rattle.wrp_plant.proofs.SignedReads.{read}
use Rattle.wrp_sim.proofs.sim.departing.is_put_out_now.Goals as goal

pub returns : goal.returns
returns g c s w h =
    c.is_one_at.ensures
    ∙ ap₂ (λ (a : Option ℤ) (t : ℤ). option_map_or (λ x. int_eq x t) a false) (c.oldest_at-at.ensures s w h) (read c.time-now.result (omega (arith, c.time-now.ensures.size)) ∙ c.time-now.ensures.value s w h)
