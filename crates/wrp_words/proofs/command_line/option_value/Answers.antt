-- By the number of words.
use Rattle.std.proofs.Common.{◌≡◌, ◌<◌, ◌≤◌, ℕ, List, [], ◌∷◌, length, map, refl, sym, subst, arith}
use Rattle.std.specs.List.{slice_index_or}
use Rattle.wrp_words.specs.CommandLine.{GivesOption}
use Rattle.wrp_words.proofs.command_line.option_value.Goals as goal

-- two words
two_texts : {X : Type 0} (f : X → List ℕ) (ws : List X) (d e : X) → 2 ≤ length ws → length ws < 3 → map f ws ≡ f (slice_index_or ws 0 d) ∷ f (slice_index_or ws 1 e) ∷ []
two_texts f [] d e some few = absurd (omega arith)
two_texts f (x ∷ []) d e some few = absurd (omega arith)
two_texts f (x ∷ y ∷ []) d e some few = refl
two_texts f (x ∷ y ∷ z ∷ ws) d e some few = absurd (omega arith)

pub returns-in-len2 : goal.returns-in-len2
returns-in-len2 c =
    subst (λ texts. GivesOption c.args.option.now texts c.of_two.result)
    (sym (two_texts (λ w. w.now) c.args.words.now _ _ c.in-len2.len_at_least c.in-len2.len_below)) c.of_two.ensures
