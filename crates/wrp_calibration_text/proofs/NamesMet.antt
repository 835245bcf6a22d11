-- The names that a pass has met, one value after the other.
use Rattle.std.proofs.Common.{◌≡◌, ◌||◌, ◌∷◌, [], ℕ, List, Bool, true, false, cond, Option, Some, None, option_and_then, Result, Ok, Err, IfOk, OnOk, refl, ap, ◌∙◌}
use Rattle.std.proofs.lemmas.Map.Text.{is_eq-slice_cmp}
use Rattle.std.specs.Borrow.{Bor}
use Rattle.std.specs.BTreeSet.{BTreeSet}
use Rattle.std.specs.Cmp.Lexicographic.{slice_cmp}
use Rattle.std.specs.List.{list_any}
use Rattle.std.specs.Option.{option_map_or}
use Rattle.std.specs.Ordering.{is_eq, nat_cmp}
use Rattle.std.specs.Str.{bytes_eq}
use Rattle.toml.specs.Data.{Data, Members, as_table}
use Rattle.wrp_calibration_text.specs.Met.{name_of_value, repeats_name, AreNamesOf, AreMet, IsTold}
use Rattle.wrp_caldb.specs.Repeats.{are_same_texts, name_in, has_name_of}
use Rattle.wrp_caldb.specs.declared.row.Code.{Code}

either : (a b : Bool) → cond a true b ≡ (b || a)
either true true = refl
either true false = refl
either false true = refl
either false false = refl

-- a name that was added is met, in addition to those that were
pub one_more : (name text : List ℕ) (before after : Bool) → after ≡ cond (is_eq (slice_cmp nat_cmp name text)) true before
    → after ≡ (before || bytes_eq name text)
one_more name text before after is =
    is ∙ ap (λ (b : Bool). cond b true before) (is_eq-slice_cmp name text) ∙ either (bytes_eq name text) before

no_text : (a : Option (List ℕ)) → are_same_texts a None ≡ false
no_text None = refl
no_text (Some a) = refl

-- a table without a name repeats none
nameless : (table : Members) (values : List Data) → name_in table ≡ None → list_any (has_name_of table) values ≡ false
nameless table [] none = refl
nameless table (d ∷ ds) none =
    ap (λ (name : Option (List ℕ)). are_same_texts (option_and_then name_in (as_table d)) name || list_any (has_name_of table) ds) none
    ∙ ap (λ (b : Bool). b || list_any (has_name_of table) ds) (no_text (option_and_then name_in (as_table d))) ∙ nameless table ds none

among : (table : Option Members) (earlier : List Data) → option_and_then name_in table ≡ None → option_map_or (λ t. list_any (has_name_of t) earlier) table false ≡ false
among None earlier none = refl
among (Some table) earlier none = nameless table earlier none

-- nor does a value without one
pub repeats_none : (d : Data) (earlier : List Data) → name_of_value d ≡ None → repeats_name earlier d ≡ false
repeats_none d earlier none = among (as_table d) earlier none

-- what is reported of a value is reported of its table
pub if_told : {E : Type 0} (code : Code) (earlier : List Data) (d : Data) (table : Members) (answer : Result Bool E) → as_table d ≡ Some table
    → IfOk answer (λ repeats. repeats ≡ repeats_name earlier d) → IfOk answer (λ repeats. IsTold code earlier table repeats)
if_told code earlier d table (Ok repeats) is told =
    λ code_is. told ∙ ap (λ (t : Option Members). option_map_or (λ t. list_any (has_name_of t) earlier) t false) is
if_told code earlier d table (Err error) is told = tt

pub if_met : {E : Type 0} (code : Code) (names : BTreeSet (Bor (List ℕ))) (values : List Data) (answer : Result Bool E) → OnOk answer (AreNamesOf names values)
    → OnOk answer (AreMet code names values)
if_met code names values (Ok repeats) are = λ code_is. are
if_met code names values (Err error) are = tt
