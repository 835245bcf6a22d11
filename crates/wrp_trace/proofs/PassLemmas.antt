-- What is said of all nodes and links makes a `pass`.
use Rattle.std.proofs.Common.{◌∙◌, ℤ, pos, List, [], ◌∷◌, Option, None, Some, map, arith}
use Rattle.std.specs.Prelude.{unwrap_or}
use Rattle.std.specs.List.{AllByRecursion}
use Rattle.std.proofs.lemmas.List.{length-map}
use Rattle.wrp_network.specs.declared.configuration.NetCfg.{NetCfg}
use Rattle.wrp_base.specs.Ranges.{IsFromTo}
use Rattle.wrp_trace.specs.Changes.{SaidAt, all_drifts, all_moves}
use Rattle.wrp_trace.specs.EventAt.{Fits, IsSaid}
use Rattle.wrp_course.specs.EventAt.{IsChange, IsMove, IsPass}

zero_change : IsChange (pos 0)
zero_change = omega arith

drift : (said : List (Option ℤ)) → AllByRecursion (Fits IsChange) said → AllByRecursion IsChange (map (λ d. unwrap_or d (pos 0)) said)
drift [] all = tt
drift (None ∷ said) all = (zero_change, drift said all.1)
drift (Some z ∷ said) all = (all.0, drift said all.1)

move : (said : List (Option (ℤ × ℤ))) → AllByRecursion (Fits IsMove) said → AllByRecursion IsMove (map (λ m. unwrap_or m (pos 0, pos 0)) said)
move [] all = tt
move (None ∷ said) all = ((zero_change, zero_change), move said all.1)
move (Some z ∷ said) all = (all.0, move said all.1)

pub passes : (cfg : NetCfg) (dt : ℤ) (said : SaidAt) → IsFromTo 1 9_223_372_036_854_775_807 dt → IsSaid cfg said
    → IsPass cfg dt (all_drifts said) (all_moves said)
passes cfg dt said span is = record {
  span = span;
  nodes = length-map said.drifts (λ d. unwrap_or d (pos 0)) ∙ is.nodes;
  links = length-map said.moves (λ m. unwrap_or m (pos 0, pos 0)) ∙ is.links;
  drift = drift said.drifts is.drift;
  move = move said.moves is.move;
}
