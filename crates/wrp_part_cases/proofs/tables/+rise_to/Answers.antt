use Rattle.std.proofs.Common.{◌≡◌, ℤ, ◌-◌, ◌≤◌, ◌≤ℤ◌, List, [], ◌∷◌, length, drop, take, refl, arith, subst, length-drop, rules, SFits, w64}
use Rattle.std.proofs.lemmas.Int.{to_z-of_z}
use Rattle.std.proofs.lemmas.List.{take_all}
use Rattle.wrp_law.specs.Table.{last_x}
use Rattle.wrp_part_cases.proofs.tables.+rise_to.Goals as goal

-- the last point stays where the first of two or more is left out
last_x-later : (points : List (ℤ × ℤ)) → 2 ≤ length points → last_x (drop 1 points) ≡ last_x points
last_x-later [] h = refl
last_x-later (point ∷ []) h = grind arith
last_x-later (point ∷ next ∷ points) h = refl

pub returns-then-start-end-2-clause-last : goal.returns-then-start-end-2-clause-last
returns-then-start-end-2-clause-last t c =
    let points = c.args.points.now in
    let later : 2 ≤ length points = grind (arith, length-drop, c.in-len1-up-rest.len_at_least) in
    let short : length (drop 1 points) ≤ length points - 1 = grind (arith, length-drop) in
    let whole : take (length points - 1) (drop 1 points) ≡ drop 1 points = take_all (length points - 1) (drop 1 points) short in
    let fits : SFits w64 c.args.x = search rules in
    let same = to_z-of_z w64 c.args.x fits in
    λ h.
    subst (λ y. c.args.x ≤ℤ y) (last_x-later points later)
    (subst (λ rest. c.args.x ≤ℤ last_x rest) whole
    (subst (λ x. x ≤ℤ last_x (take (length points - 1) (drop 1 points))) same (c.rise_to.ensures.last h)))
