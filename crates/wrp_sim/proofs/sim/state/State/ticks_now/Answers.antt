use Rattle.std.proofs.Common.{◌≡◌, ◌∙◌, refl, ap, ap₂, sym, Bool, true, false, ◌&&◌, rules, FitsSigned, arith}
use Rattle.std.proofs.lemmas.Int.{to_z-of_z}
use Rattle.std.specs.Int.{w128}
use Rattle.std.specs.Ordering.{int_eq}
use Rattle.wrp_plant.proofs.SignedReads.{read}
use Rattle.wrp_sim.proofs.sim.state.State.ticks_now.Goals as goal

and_true : (b : Bool) → b ≡ (b && true)
and_true true = refl
and_true false = refl

and_false : (b : Bool) → false ≡ (b && false)
and_false true = refl
and_false false = refl

pub returns-then-is_at : goal.returns-then-is_at
returns-then-is_at g c s w at h i =
    let fits : FitsSigned w128 c.tick_of-at.result = search rules in
    c.is_up.ensures s w h
    ∙ and_true (w.clock c.args.n).up
    ∙ ap (λ b. (w.clock c.args.n).up && b)
    (sym c.if-is_at.true ∙ c.is_at.ensures
    ∙ ap₂ int_eq (to_z-of_z w128 c.tick_of-at.result fits ∙ i.ticks c.args.n c.tick_of-at.result c.tick_of-at.ensures)
    (read c.time-now.result (omega (arith, c.time-now.ensures.size)) ∙ c.time-now.ensures.value s w h))

pub returns-else-is_at : goal.returns-else-is_at
returns-else-is_at g c s w at h i =
    let fits : FitsSigned w128 c.tick_of-at.result = search rules in
    and_false (w.clock c.args.n).up
    ∙ ap (λ b. (w.clock c.args.n).up && b)
    (sym c.if-is_at.false ∙ c.is_at.ensures
    ∙ ap₂ int_eq (to_z-of_z w128 c.tick_of-at.result fits ∙ i.ticks c.args.n c.tick_of-at.result c.tick_of-at.ensures)
    (read c.time-now.result (omega (arith, c.time-now.ensures.size)) ∙ c.time-now.ensures.value s w h))
