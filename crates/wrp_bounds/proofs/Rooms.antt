-- The third inequality, node by node.
use Rattle.std.proofs.Common.{◌≡◌, ℕ, ◌+◌, ◌<◌, refl, ap, sym, ◌∙◌, inl, inr, List, [], ◌∷◌, Bool, true, false, Option, Some, None, length, drop, get_or, drop-cons, add-one, arith}
use Rattle.std.proofs.lemmas.Option.{slice_get_cases}
use Rattle.std.specs.Prelude.{find}
use Rattle.std.specs.Option.{option_or, option_to_list}
use Rattle.std.specs.List.{cons_option}
use Rattle.wrp_network.specs.declared.configuration.NetCfg.{NetCfg}
use Rattle.wrp_network.specs.declared.network.NodeCfg.{NodeCfg}
use Rattle.wrp_bounds.specs.declared.inequality.Inequality.{Inequality}
use Rattle.wrp_bounds.specs.Inequalities.{is_broken, phase_room_of, phase_rooms_from}

-- a search begins with the first element, if there is one
find-cons_option : {X : Type 0} (p : X → Bool) (o : Option X) (xs : List X) → find p (cons_option o xs) ≡ option_or (find p (option_to_list o)) (find p xs)
find-cons_option p None xs = refl
find-cons_option p (Some x) xs =
    elim (p x) as (λ b. p x ≡ b → find p (x ∷ xs) ≡ option_or (find p (x ∷ [])) (find p xs)) [
      | true ↦ λ is. rw is refl
      | false ↦ λ is. rw is refl
    ] refl

-- what is left of a list begins with the element at that place
drop_within : {X : Type 0} (xs : List X) (n : ℕ) → n < length xs → (x : X) × (drop n xs ≡ x ∷ drop (n + 1) xs)
drop_within xs n within =
    elim (slice_get_cases xs n).1 [
      | inl here ↦ (get_or xs n here.0, rw add-one (drop-cons xs n here.0 within))
      | inr past ↦ absurd (omega (arith, past.0))
    ]

-- a node that has the next number has its place first, and then come the others
rooms_from-drop : (net : NetCfg) (n : ℕ) (nodes : List NodeCfg) → n < length nodes →
    phase_rooms_from net n (drop n nodes) ≡ cons_option (phase_room_of net n) (phase_rooms_from net (n + 1) (drop (n + 1) nodes))
rooms_from-drop net n nodes within = ap (phase_rooms_from net n) (drop_within nodes n within).1

-- the first that is broken is at the next node, or after it
rooms_on : (net : NetCfg) (n : ℕ) (nodes : List NodeCfg) (whole : Option Inequality) → n < length nodes →
    find is_broken (phase_rooms_from net n (drop n nodes)) ≡ whole →
    option_or (find is_broken (option_to_list (phase_room_of net n))) (find is_broken (phase_rooms_from net (n + 1) (drop (n + 1) nodes))) ≡ whole
rooms_on net n nodes whole within so_far =
    sym (find-cons_option is_broken (phase_room_of net n) (phase_rooms_from net (n + 1) (drop (n + 1) nodes)))
    ∙ sym (ap (find is_broken) (rooms_from-drop net n nodes within)) ∙ so_far

-- if the next node breaks it, that is the first
pub room_found : (net : NetCfg) (n : ℕ) (nodes : List NodeCfg) (whole : Option Inequality) (room : Inequality) → n < length nodes →
    find is_broken (phase_rooms_from net n (drop n nodes)) ≡ whole →
    Some room ≡ find is_broken (option_to_list (phase_room_of net n)) → Some room ≡ whole
room_found net n nodes whole room within so_far is =
    ap (λ (o : Option Inequality). option_or o (find is_broken (phase_rooms_from net (n + 1) (drop (n + 1) nodes)))) is
    ∙ rooms_on net n nodes whole within so_far

-- and if it does not, the first is after it
pub room_passed : (net : NetCfg) (n : ℕ) (nodes : List NodeCfg) (whole : Option Inequality) → n < length nodes →
    find is_broken (phase_rooms_from net n (drop n nodes)) ≡ whole →
    None ≡ find is_broken (option_to_list (phase_room_of net n)) →
    find is_broken (phase_rooms_from net (n + 1) (drop (n + 1) nodes)) ≡ whole
room_passed net n nodes whole within so_far is =
    ap (λ (o : Option Inequality). option_or o (find is_broken (phase_rooms_from net (n + 1) (drop (n + 1) nodes)))) is
    ∙ rooms_on net n nodes whole within so_far
