-- Frames that are forgotten, one after the other.
use Rattle.std.proofs.Common.{◌≡◌, ◌∙◌, refl, ap, sym, ℤ, ◌<◌, true, false, List, [], ◌∷◌, ◌++◌, length, drop, append_assoc, get_or, Option, None, Some, arith}
use Rattle.std.specs.Option.{is_none}
use Rattle.wrp_base.proofs.Lists.{all_append}
use Rattle.wrp_course.specs.Setting.{Setting}
use Rattle.wrp_course.specs.Views.{octets_at}
use Rattle.wrp_course.specs.WorldAt.{WorldAt}
use Rattle.wrp_world.specs.StandsFor.{StandsFor, WorldOf}
use Rattle.wrp_loop.specs.declared.index.Came.{Came}
use Rattle.wrp_loop.specs.Index.{Forgets}

none_there : {X : Type 0} (o : Option X) → is_none o ≡ true → o ≡ None
none_there None e = refl
none_there (Some x) e = absurd (let f : false ≡ true = e in cc)

pub none_forgotten : {F : Type 0} (post : F → ℤ → ℤ → Type 0) (world : WorldOf F) (came : List Came) → Forgets post world came came
none_forgotten post world came = record { first = []; are = refl; none_kept = λ s w stands. tt }

-- the first of those that are left is forgotten too
pub first_forgotten : {F : Type 0} (post : F → ℤ → ℤ → Type 0) (world : WorldOf F) (all left rest : List Came) (c d : Came) → Forgets post world all left → 0 < length left → c ≡ get_or left 0 d → rest ≡ drop 1 left →
    ((s : Setting) (w : WorldAt) → StandsFor post s w world → is_none (octets_at s w c.number) ≡ true) → Forgets post world all rest
first_forgotten post world all [] rest c d h there is are old = absurd (omega (arith, there))
first_forgotten post world all (b ∷ left) rest c d h there is are old = record {
  first = h.first ++ b ∷ [];
  are = h.are ∙ (sym (append_assoc h.first (b ∷ []) left) ∙ ap (λ (more : List Came). (h.first ++ b ∷ []) ++ more) (sym are));
  none_kept = λ s w stands.
      all_append (λ k. octets_at s w k.number ≡ None) h.first (b ∷ []) (h.none_kept s w stands)
      (ap (λ (k : Came). octets_at s w k.number) (sym is) ∙ none_there (octets_at s w c.number) (old s w stands), tt);
}
