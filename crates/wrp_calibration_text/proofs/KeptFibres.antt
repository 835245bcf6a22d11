-- The fibres of a text that has no place of any code, written again, have none.
use Rattle.std.proofs.Common.{◌≡◌, ◌≤◌, ◌+◌, not, ℕ, ℤ, pos, negsuc, List, [], ◌∷◌, Bool, true, false, Option, None, Some, map, option_map, take, unsigned_abs, min, refl, sym, ap, subst, ap₂, ◌∙◌, arith}
use Rattle.std.proofs.lemmas.Bool.{false≢true, not-false}
use Rattle.std.specs.Prelude.{unwrap_or, option_and_then, codes, if◌then◌else◌}
use Rattle.std.specs.Option.{is_some}
use Rattle.std.specs.List.{find}
use Rattle.toml.specs.Data.{Data, Members, table, array, integer, as_integer, get_member}
use Rattle.toml.specs.View.{items_of}
use Rattle.wrp_base.proofs.Lists.{first_passed, passes_first}
use Rattle.wrp_caldb.specs.Calibration.{kappa_key, fibre_err_key, table_err_key, table_key, linear_law, law_of, linear_keys, fibre_keys, place_in_fibre, place_in_fibres}
use Rattle.wrp_caldb.specs.Database.{TableAt, natural_at, number_at, name_at, each_table, table_of, fibre_of}
use Rattle.wrp_caldb.specs.Key.{Key, name_key}
use Rattle.wrp_caldb.specs.Name.{is_name}
use Rattle.wrp_caldb.specs.Points.{stored_points, values_of, few_points, is_table}
use Rattle.wrp_caldb.specs.Refusal.{place_in_table}
use Rattle.wrp_caldb.specs.Repeats.{name_in, place_of_name}
use Rattle.wrp_caldb.specs.Rows.{has_fault, in_range, number_in, tables_of}
use Rattle.wrp_calibration_text.specs.Text.{number, point_data, fibre_members}
use Rattle.wrp_caldb.specs.declared.place.At.{At}
use Rattle.wrp_caldb.specs.declared.place.At.TheVariants as tables
use Rattle.wrp_caldb.specs.declared.row.Code.{Code}
use Rattle.wrp_caldb.specs.declared.row.Code.TheVariants as co
use Rattle.wrp_caldb.specs.declared.row.Linear.{Linear}
use Rattle.wrp_calibration_text.proofs.Kept.{none_parts, at_fault, no_key, no_place, among, members_in, tables_of-members}
use Rattle.wrp_calibration_text.proofs.KeptModules.{relisted}
use Rattle.wrp_calibration_text.proofs.KeptNames.{IsText, plain_text, name_read, names_kept}
use Rattle.wrp_calibration_text.proofs.KeptNumbers.{number_kept, default_fits}
use Rattle.wrp_calibration_text.proofs.ReadBack.{in_range_small, listed_fibre, table_with, fibre_with, stored_again}
use Rattle.wrp_calibration_text.proofs.Values.{list_of-items_of}

abbrev lowest : ℤ
lowest = negsuc 274_877_906_943

abbrev highest : ℤ
highest = pos 274_877_906_944

-- the asymmetry of a fibre
record IsKappa (found : Option Data) : Type 0 where
  kappa : ℤ
  is : number_in kappa_key found ≡ Some kappa
  fits : in_range lowest highest (Some kappa) ≡ true

kappa_in : (o : Option ℤ) → in_range lowest highest o ≡ true → (k : ℤ) × (o ≡ Some k)
kappa_in None e = absurd (false≢true e)
kappa_in (Some z) e = (z, refl)

kappa_of : (found : Option Data) → has_fault co.Missing kappa_key found ≡ false → has_fault co.Range kappa_key found ≡ false → IsKappa found
kappa_of None missing range = cc missing
kappa_of (Some d) missing range =
    let fits = not-false (in_range lowest highest (as_integer d)) range in
    let k = kappa_in (as_integer d) fits in
    record {
      kappa = k.0;
      is = ap (λ (b : Bool). if b then as_integer d else None) fits ∙ k.1;
      fits = subst (λ o. in_range lowest highest o ≡ true) k.1 fits;
    }

kappa_fits : (found : Option Data) → IsKappa found → has_fault co.Range kappa_key (Some (integer (unwrap_or (number_in kappa_key found) (pos 0)))) ≡ false
kappa_fits found k = rw k.is (ap not k.fits)

kappa_again : (found : Option Data) → IsKappa found → number_in kappa_key (Some (integer (unwrap_or (number_in kappa_key found) (pos 0)))) ≡ number_in kappa_key found
kappa_again found k = rw k.is (rw k.fits refl)

-- the error of a fibre's points
record IsErr (found : Option Data) : Type 0 where
  err : ℕ
  is : number_in table_err_key found ≡ Some (pos err)
  fits : in_range (pos 0) (pos 1_000_000_000) (Some (pos err)) ≡ true

err_in : (o : Option ℤ) → in_range (pos 0) (pos 1_000_000_000) o ≡ true → (m : ℕ) × (o ≡ Some (pos m))
err_in None e = absurd (false≢true e)
err_in (Some (pos m)) e = (m, refl)
err_in (Some (negsuc m)) e = absurd (false≢true e)

err_of : (found : Option Data) → has_fault co.Range table_err_key found ≡ false → IsErr found
err_of None range = record { err = 0; is = refl; fits = refl }
err_of (Some d) range =
    let fits = not-false (in_range (pos 0) (pos 1_000_000_000) (as_integer d)) range in
    let m = err_in (as_integer d) fits in
    record {
      err = m.0;
      is = ap (λ (b : Bool). if b then as_integer d else None) fits ∙ m.1;
      fits = subst (λ o. in_range (pos 0) (pos 1_000_000_000) o ≡ true) m.1 fits;
    }

at_most : (m : ℕ) → in_range (pos 0) (pos 1_000_000_000) (Some (pos m)) ≡ true → m ≤ 9_223_372_036_854_775_807
at_most m e = (in_range_small 0 1_000_000_000 (omega arith)).small m e

err_again : (found : Option Data) → IsErr found
    → number_in table_err_key (Some (number (unsigned_abs (unwrap_or (number_in table_err_key found) (pos 0))))) ≡ number_in table_err_key found
err_again found e =
    let held : min e.err 9_223_372_036_854_775_807 ≡ e.err = let small = at_most e.err e.fits in omega arith in
    rw e.is (rw held (rw e.fits refl))

-- the fibre with these points, written again
abbrev fibre_text : Members → Option TableAt → Members
fibre_text t tab = fibre_members (listed_fibre (name_at t) (fibre_with (number_at kappa_key t) (natural_at fibre_err_key t)) tab)

-- what is in a fibre without a place, before its points
record HasLine (t : Members) : Type 0 where
  name : IsText is_name (name_in t)
  kappa : IsKappa (get_member (codes "kappa") t)
  err : has_fault co.Range fibre_err_key (Some (number (natural_at fibre_err_key t))) ≡ false

line_rows : (t : Members) (tab : Option TableAt) (more : List Key) → HasLine t
    → find (at_fault co.Range (fibre_text t tab)) (table_key (law_of (fibre_text t tab)) ∷ more) ≡ None
    → find (at_fault co.Range (fibre_text t tab)) (linear_keys (fibre_text t tab) more) ≡ None
line_rows t tab more line rest =
    let test = at_fault co.Range (fibre_text t tab) in
    let behind = table_key (law_of (fibre_text t tab)) ∷ more in
    let named = ap is_name (name_read (name_in t) line.name) ∙ line.name.passes in
    passes_first test name_key (kappa_key ∷ fibre_err_key ∷ behind) (ap not named)
    (passes_first test kappa_key (fibre_err_key ∷ behind) (kappa_fits (get_member (codes "kappa") t) line.kappa)
    (passes_first test fibre_err_key behind line.err rest))

-- a fibre without points
bare_rows : (t : Members) → HasLine t → find (at_fault co.Range (fibre_text t None)) (fibre_keys (fibre_text t None)) ≡ None
bare_rows t line = line_rows t None [] line (passes_first (at_fault co.Range (fibre_text t None)) (table_key (law_of (fibre_text t None))) [] refl refl)

-- the points, if the value of `table` fits
record IsStored (law : Option Linear) (d : Data) : Type 0 where
  points : List (ℤ × ℤ)
  is : stored_points d ≡ Some points
  fits : is_table law (Some points) ≡ true

stored_in : (law : Option Linear) (o : Option (List (ℤ × ℤ))) → is_table law o ≡ true → (ps : List (ℤ × ℤ)) × (o ≡ Some ps) × (is_table law (Some ps) ≡ true)
stored_in law None e = absurd (false≢true e)
stored_in law (Some ps) e = (ps, refl, e)

stored_of : (law : Option Linear) (d : Data) → has_fault co.Range (table_key law) (Some d) ≡ false → IsStored law d
stored_of law d range =
    let found = stored_in law (stored_points d) (not-false (is_table law (stored_points d)) range) in
    record { points = found.0; is = found.1; fits = found.2 }

abbrev with_points : Members → List (ℤ × ℤ) → Members
with_points t ps = fibre_text t (Some (table_with (natural_at table_err_key t) ps))

law_again : (t : Members) (ps : List (ℤ × ℤ)) → IsKappa (get_member (codes "kappa") t) → IsErr (get_member (codes "table_err") t)
    → law_of (with_points t ps) ≡ law_of t
law_again t ps k e =
    ap₂ linear_law (kappa_again (get_member (codes "kappa") t) k) (err_again (get_member (codes "table_err") t) e)

points_again : (d : Data) (ps : List (ℤ × ℤ)) → stored_points d ≡ Some ps → stored_points (array (items_of (map point_data ps))) ≡ Some ps
points_again d ps is = ap few_points (list_of-items_of (map point_data ps)) ∙ stored_again (Some d) ps is

-- a fibre with points
table_rows : (t : Members) (d : Data) → HasLine t → IsErr (get_member (codes "table_err") t) → (s : IsStored (law_of t) d)
    → find (at_fault co.Range (with_points t s.points)) (fibre_keys (with_points t s.points)) ≡ None
table_rows t d line e s =
    let test = at_fault co.Range (with_points t s.points) in
    let law = law_again t s.points line.kappa e in
    let fits = ap₂ is_table law (points_again d s.points s.is) ∙ s.fits in
    line_rows t (Some (table_with (natural_at table_err_key t) s.points)) (table_err_key ∷ []) line
    (passes_first test (table_key (law_of (with_points t s.points))) (table_err_key ∷ []) (ap not fits)
    (passes_first test table_err_key [] (default_fits (codes "table_err") 1_000_000_000 (omega arith) (get_member (codes "table_err") t)) refl))

some_rows : (t : Members) (found : Option Data) → HasLine t → get_member (codes "table") t ≡ found
    → find (at_fault co.Range t) (table_key (law_of t) ∷ (if is_some found then table_err_key ∷ [] else [])) ≡ None
    → find (at_fault co.Range (fibre_members (fibre_of t))) (fibre_keys (fibre_members (fibre_of t))) ≡ None
some_rows t None line e range =
    let none : table_of t ≡ None = rw e refl in
    subst (λ tab. find (at_fault co.Range (fibre_text t tab)) (fibre_keys (fibre_text t tab)) ≡ None) (sym none) (bare_rows t line)
some_rows t (Some d) line e range =
    let first = first_passed (at_fault co.Range t) (table_key (law_of t)) (table_err_key ∷ []) range in
    let second = first_passed (at_fault co.Range t) table_err_key [] first.1 in
    let here : has_fault co.Range (table_key (law_of t)) (Some d) ≡ false =
    subst (λ found. has_fault co.Range (table_key (law_of t)) found ≡ false) e first.0 in
    let s = stored_of (law_of t) d here in
    let some : table_of t ≡ Some (table_with (natural_at table_err_key t) s.points) =
    ap (λ o. option_map (table_with (natural_at table_err_key t)) (option_and_then stored_points o)) e
    ∙ ap (option_map (table_with (natural_at table_err_key t))) s.is in
    subst (λ tab. find (at_fault co.Range (fibre_text t tab)) (fibre_keys (fibre_text t tab)) ≡ None) (sym some)
    (table_rows t d line (err_of (get_member (codes "table_err") t) second.0) s)

-- the rows after those of the line
abbrev behind_line : Members → List Key
behind_line t = table_key (law_of t) ∷ (if is_some (get_member (codes "table") t) then table_err_key ∷ [] else [])

-- the line of a fibre without a place, and what follows it
line_of : (t : Members) → find (at_fault co.Missing t) (fibre_keys t) ≡ None → find (at_fault co.Range t) (fibre_keys t) ≡ None
    → HasLine t × (find (at_fault co.Range t) (behind_line t) ≡ None)
line_of t missing range =
    let m1 = first_passed (at_fault co.Missing t) name_key (kappa_key ∷ fibre_err_key ∷ behind_line t) missing in
    let r1 = first_passed (at_fault co.Range t) name_key (kappa_key ∷ fibre_err_key ∷ behind_line t) range in
    let m2 = first_passed (at_fault co.Missing t) kappa_key (fibre_err_key ∷ behind_line t) m1.1 in
    let r2 = first_passed (at_fault co.Range t) kappa_key (fibre_err_key ∷ behind_line t) r1.1 in
    let m3 = first_passed (at_fault co.Missing t) fibre_err_key (behind_line t) m2.1 in
    let r3 = first_passed (at_fault co.Range t) fibre_err_key (behind_line t) r2.1 in (
      record {
        name = plain_text (codes "name") (get_member (codes "name") t) m1.0 r1.0;
        kappa = kappa_of (get_member (codes "kappa") t) m2.0 r2.0;
        err = number_kept (codes "err") 1 1_000_000_000 (omega arith) (get_member (codes "err") t) m3.0 r3.0;
      },
      r3.1,
    )

-- no key of a fibre that is written again is unknown or missing
known_again : (at : At) (t : Members) (tab : Option TableAt) → place_in_table co.UnknownKey at (fibre_keys (fibre_text t tab)) (fibre_text t tab) ≡ None
known_again at t None = refl
known_again at t (Some points) = refl

there_again : (at : At) (t : Members) (tab : Option TableAt) → place_in_table co.Missing at (fibre_keys (fibre_text t tab)) (fibre_text t tab) ≡ None
there_again at t None = refl
there_again at t (Some points) = refl

once_again : (at : At) (t : Members) (tab : Option TableAt) → place_in_table co.Twice at (fibre_keys (fibre_text t tab)) (fibre_text t tab) ≡ None
once_again at t None = refl
once_again at t (Some points) = refl

abbrev fibre_again_of : Members → Members
fibre_again_of t = fibre_members (fibre_of t)

rows_again : (code : Code) (at : At) (t : Members) → find (at_fault co.Range (fibre_again_of t)) (fibre_keys (fibre_again_of t)) ≡ None
    → place_in_table code at (fibre_keys (fibre_again_of t)) (fibre_again_of t) ≡ None
rows_again co.UnknownKey at t range = known_again at t (table_of t)
rows_again co.Missing at t range = there_again at t (table_of t)
rows_again co.Range at t range = no_place co.Range at (fibre_keys (fibre_again_of t)) (fibre_again_of t) refl range
rows_again co.Twice at t range = once_again at t (table_of t)

-- a fibre without a place, written again, has none
fibre_kept : (ts : List Members) (n : ℕ) (t : Members)
    → ((code : Code) → place_in_fibre code (map table ts) n t ≡ None)
    → (code : Code) → place_in_fibre code (map table (map fibre_again_of ts)) n (fibre_again_of t) ≡ None
fibre_kept ts n t none code =
    let at = tables.Fibre (n + 1) in
    let parts = λ (b : Code). none_parts (place_in_table b at (fibre_keys t) t) (place_of_name b at (take n (map table ts)) t) (none b) in
    let keys = λ (b : Code). no_key b at (fibre_keys t) t (parts b).0 in
    let line = line_of t (keys co.Missing) (keys co.Range) in
    let range = some_rows t (get_member (codes "table") t) line.0 refl line.1 in
    let names = names_kept code at fibre_again_of n ts t (λ s. refl) line.0.name (parts code).1 in
    rw (rows_again code at t range) names

-- fibres without a place, written again, have none
pub fibres_kept : (values : Option (List Data))
    → ((code : Code) → place_in_fibres code (tables_of values) ≡ None)
    → (code : Code) → place_in_fibres code
    (tables_of (values_of (array (items_of (map (λ f. table (fibre_members f)) (each_table fibre_of (tables_of values))))))) ≡ None
fibres_kept values none code =
    let ts = members_in (tables_of values) in
    let listed = λ (b : Code). subst (λ ds. place_in_fibres b ds ≡ None) (tables_of-members values) (none b) in
    ap (place_in_fibres code) (relisted fibre_of fibre_members values)
    ∙ among (λ b. place_in_fibre b (map table ts)) (λ b. place_in_fibre b (map table (map fibre_again_of ts)))
    fibre_again_of (fibre_kept ts) 0 ts listed code
