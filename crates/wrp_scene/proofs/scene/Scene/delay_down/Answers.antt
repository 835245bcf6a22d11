-- The delay of a fibre follows from its asymmetry and its delay of both ways.
use Rattle.std.proofs.Common.{◌∙◌, ap₂, ◌≤◌, ◌^◌, unsigned_abs, arith}
use Rattle.std.proofs.lemmas.Int.{ints}
use Rattle.wrp_bounds.proofs.Counts.{read_of_size}
use Rattle.wrp_scene.proofs.SignedReads.{read}
use Rattle.wrp_scene.specs.Scenario.{delta_ms}
use Rattle.wrp_scene.proofs.scene.Scene.delay_down.Goals as goal

pub returns-clause-value : goal.returns-clause-value
returns-clause-value c =
    let size : unsigned_abs c.down_of.result ≤ 2 ^ 126 = omega (arith, ints, c.down_of.ensures.range.0, c.down_of.ensures.range.1, c.small_sum.ensures.size) in
    let kappa = read_of_size (2 ^ 38) c.kappa_of.result c.kappa_of.ensures.range (omega arith) in
    read c.down_of.result size ∙ c.down_of.ensures.value ∙ ap₂ delta_ms (kappa ∙ c.kappa_of.ensures.value) c.small_sum.ensures.value
