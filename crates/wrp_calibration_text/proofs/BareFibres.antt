-- A fibre without a table has no points, so the law that points have to keep to makes no difference to its places.
use Rattle.std.proofs.Common.{◌≡◌, ◌||◌, not, [], ◌∷◌, ℕ, List, Bool, Option, None, Some, codes, if◌then◌else◌, refl, ap, subst, ◌∙◌}
use Rattle.std.specs.Option.{is_some, option_map, option_or}
use Rattle.toml.specs.Data.{Data, Members, no_members, member, get_member}
use Rattle.wrp_caldb.specs.Calibration.{kappa_key, fibre_err_key, table_err_key, table_key, law_of, linear_keys, fibre_keys}
use Rattle.wrp_caldb.specs.Key.{Key, name_key}
use Rattle.wrp_caldb.specs.Refusal.{key_place, place_in_table, table_place}
use Rattle.wrp_caldb.specs.Rows.{first_key, has_fault, has_unknown, is_listed}
use Rattle.wrp_caldb.specs.declared.place.At.{At}
use Rattle.wrp_caldb.specs.declared.row.Code.{Code}
use Rattle.wrp_caldb.specs.declared.row.Code.TheVariants as co
use Rattle.wrp_caldb.specs.declared.row.Linear.{Linear}

-- the keys of a fibre without a table, with this law for points
abbrev bare_keys : Option Linear → List Key
bare_keys law = name_key ∷ kappa_key ∷ fibre_err_key ∷ table_key law ∷ []

-- the law changes no key's name
same_unknown : (law : Option Linear) (fibre : Members) → has_unknown (bare_keys None) fibre ≡ has_unknown (bare_keys law) fibre
same_unknown law no_members = refl
same_unknown law (member name d rest) = ap (λ (b : Bool). not (is_listed (bare_keys None) name) || b) (same_unknown law rest)

-- the first of the keys with a fault of this code, if this is found at `table`
abbrev first_fault : Code → Option Linear → Members → Option Data → Option (List ℕ)
first_fault code law fibre found =
    option_map (λ (key : Key). key.name)
    (if has_fault code name_key (get_member name_key.name fibre) then Some name_key
    else (if has_fault code kappa_key (get_member kappa_key.name fibre) then Some kappa_key
    else (if has_fault code fibre_err_key (get_member fibre_err_key.name fibre) then Some fibre_err_key
    else (if has_fault code (table_key law) found then Some (table_key law) else None))))

no_fault : (code : Code) (law : Option Linear) (fibre : Members) → first_fault code None fibre None ≡ first_fault code law fibre None
no_fault co.UnknownKey law fibre = refl
no_fault co.Missing law fibre = refl
no_fault co.Range law fibre = refl
no_fault co.Twice law fibre = refl

same_key : (code : Code) (law : Option Linear) (fibre : Members) → None ≡ get_member (codes "table") fibre
    → first_key code (bare_keys None) fibre ≡ first_key code (bare_keys law) fibre
same_key code law fibre none = subst (λ (found : Option Data). first_fault code None fibre found ≡ first_fault code law fibre found) none (no_fault code law fibre)

same_place : (code : Code) (at : At) (law : Option Linear) (fibre : Members) → None ≡ get_member (codes "table") fibre
    → place_in_table code at (bare_keys None) fibre ≡ place_in_table code at (bare_keys law) fibre
same_place co.UnknownKey at law fibre none = ap (λ (b : Bool). option_or (if b then Some (table_place at) else None) None) (same_unknown law fibre)
same_place co.Missing at law fibre none = ap (key_place at) (same_key co.Missing law fibre none)
same_place co.Range at law fibre none = ap (key_place at) (same_key co.Range law fibre none)
same_place co.Twice at law fibre none = ap (key_place at) (same_key co.Twice law fibre none)

-- the places of a fibre without a table, found without its law
pub without_law : (code : Code) (at : At) (fibre : Members) → None ≡ get_member (codes "table") fibre
    → place_in_table code at (bare_keys None) fibre ≡ place_in_table code at (fibre_keys fibre) fibre
without_law code at fibre none =
    same_place code at (law_of fibre) fibre none
    ∙ ap (λ (found : Option Data). place_in_table code at (linear_keys fibre (if is_some found then table_err_key ∷ [] else [])) fibre) none
