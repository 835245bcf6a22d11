-- The fields of a record by their places, as csv counts them and as a line counts them.
use Rattle.std.proofs.Common.{◌≡◌, ℕ, zero, suc, ◌-◌, List, [], ◌∷◌, Option, refl, ap, ◌∙◌}
use Rattle.std.specs.Prelude.{slice_get, unwrap_or}
use Rattle.csv.specs.Records.{field_at}
use Rattle.wrp_fields.specs.Reading.{field_of}

field_at-slice_get : (fields : List (List ℕ)) (i : ℕ) → field_at fields i ≡ slice_get fields i
unfolding field_at
field_at-slice_get [] i = refl
field_at-slice_get (field ∷ fields) zero = refl
field_at-slice_get (field ∷ fields) (suc i) = field_at-slice_get fields i

-- the field that csv has, or an empty one
pub field_is : (fields : List (List ℕ)) (place : ℕ) (found : Option (List ℕ)) → found ≡ field_at fields (place - 1)
    → unwrap_or found [] ≡ field_of place fields
field_is fields place found e = ap (λ o. unwrap_or o []) (e ∙ field_at-slice_get fields (place - 1))
