-- The raw stamp, merged with the transition of the port's module.
use Rattle.std.proofs.Common.{◌∙◌, ap, ℕ, ℤ, pos, rules, FitsSigned}
use Rattle.std.proofs.lemmas.Int.{to_z-of_z}
use Rattle.std.specs.Int.{w128}
use Rattle.wrp_node.proofs.place.PortPlace.stamp.Goals as goal
use Rattle.wrp_stamp.specs.Merge.{merged}

pub returns-clause-value : goal.returns-clause-value
returns-clause-value c =
    let fits : FitsSigned w128 c.merge.result = search rules in
    c.stamp_of.ensures
    ∙ ap (λ (v : ℤ). record { value = v; sample = c.args.sample })
    (to_z-of_z w128 c.merge.result fits ∙ c.merge.ensures
    ∙ ap (λ (t : ℕ). pos (merged c.args.clock c.args.raw.now t)) c.transition.ensures.value)
