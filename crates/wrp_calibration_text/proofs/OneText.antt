-- A database of an accepted text has exactly one text.
use Rattle.std.proofs.Common.{◌≡◌, ◌<◌, ◌+◌, ◌&&◌, ◌^◌, take, lit<, ℕ, ℤ, pos, negsuc, neg_ℤ, List, [], ◌∷◌, Bool, true, false, Option, None, Some, map, min, option_map, refl, sym, ap, subst, ◌∙◌, arith}
use Rattle.std.proofs.lemmas.Bool.{and_parts, not-false}
use Rattle.std.proofs.lemmas.Int.{ints, fits_signed_from_abs}
use Rattle.std.specs.Int.{w64}
use Rattle.std.specs.Int.Signed.{le_z}
use Rattle.std.specs.List.{list_all}
use Rattle.std.specs.Option.{is_some, option_or}
use Rattle.std.specs.Prelude.{codes, option_and_then, unwrap_or, if◌then◌else◌}
use Rattle.toml.specs.Data.{Data, table, Members, as_integer, get_member, is_before}
use Rattle.toml.specs.View.{items_of}
use Rattle.wrp_base.proofs.Lists.{first_passed}
use Rattle.wrp_caldb.specs.Calibration.{module_key, fibre_key, kappa_key, fibre_err_key, table_err_key, table_key, law_of, fibre_keys, version_of, place_in_fibre, place_in_fibres, place_in_modules, place_in_lists, place_in_top, IsAccepted}
use Rattle.wrp_caldb.specs.Database.{Database, ModuleAt, FibreAt, TableAt, each_table, fibre_of, natural_at, database_of}
use Rattle.wrp_caldb.specs.Key.{Key, name_key}
use Rattle.wrp_caldb.specs.Points.{values_of, stored_points, is_sound, has_bounds, is_near, is_table, rises}
use Rattle.wrp_caldb.specs.Refusal.{place_of_keys, place_in_table, on_table, first_among}
use Rattle.wrp_caldb.specs.Repeats.{place_of_name}
use Rattle.wrp_caldb.specs.Rows.{has_fault, in_range, number_in, tables_of, tables_at}
use Rattle.wrp_calibration_text.specs.Text.{pair_members, module_members, point_data, table_members, fibre_members, document_of, OneText, EachHasText}
use Rattle.wrp_caldb.specs.declared.database.Entry.{Entry}
use Rattle.wrp_caldb.specs.declared.keys.Others.{Others}
use Rattle.wrp_caldb.specs.declared.place.At.TheVariants as tables
use Rattle.wrp_caldb.specs.declared.row.Code.TheVariants as co
use Rattle.wrp_caldb.specs.declared.row.Linear.{Linear}
use Rattle.wrp_calibration_text.proofs.Kept.{none_parts, at_fault, no_key, members_in, tables_of-members, each_table-map}
use Rattle.wrp_calibration_text.proofs.PlainTexts.{ItemsArePlain, MembersArePlain, Fits, one_document, document_text}

-- ---- the document of a database is plain if the numbers of its fibres are

abbrev PointsAre : (ℤ → Type 0) → List (ℤ × ℤ) → Type 0
PointsAre Q [] = Unit {0}
PointsAre Q (p ∷ ps) = Q p.0 × Q p.1 × PointsAre Q ps

abbrev TableIs : (ℤ → Type 0) → Option TableAt → Type 0
TableIs Q None = Unit {0}
TableIs Q (Some t) = PointsAre Q t.points

abbrev FibresAre : (ℤ → Type 0) → List FibreAt → Type 0
FibresAre Q [] = Unit {0}
FibresAre Q (f ∷ fs) = Q f.fibre.kappa × TableIs Q f.table × FibresAre Q fs

-- a number from 0 on, as it is written
abbrev AreWritten : (ℤ → Type 0) → Type 0
AreWritten Q = (n : ℕ) → Q (pos (min n 9_223_372_036_854_775_807))

plain_points : (Q : ℤ → Type 0) (ps : List (ℤ × ℤ)) → PointsAre Q ps → ItemsArePlain Q (items_of (map point_data ps))
plain_points Q [] h = tt
plain_points Q (p ∷ ps) h = ((h.0, (h.1, tt)), plain_points Q ps h.2)

name_before : (t : Option TableAt) → is_before (codes "name") (table_members t) ≡ true
name_before None = refl
name_before (Some t) = refl

plain_table : (Q : ℤ → Type 0) → AreWritten Q → (t : Option TableAt) → TableIs Q t → MembersArePlain Q (table_members t)
plain_table Q w None h = tt
plain_table Q w (Some t) h = (plain_points Q t.points h, (w t.err, tt, refl), refl)

plain_fibres : (Q : ℤ → Type 0) → AreWritten Q → (fs : List FibreAt) → FibresAre Q fs
    → ItemsArePlain Q (items_of (map (λ f. table (fibre_members f)) fs))
plain_fibres Q w [] h = tt
plain_fibres Q w (f ∷ fs) h =
    ((w f.fibre.err, (h.0, (tt, plain_table Q w f.table h.1, name_before f.table), refl), refl), plain_fibres Q w fs h.2)

plain_pair : (Q : ℤ → Type 0) → AreWritten Q → (e : Entry) → MembersArePlain Q (pair_members e)
plain_pair Q w e =
    let d = e.delays in
    (w d.err, (w d.rx, (w e.rx_nm, (w d.transition, (w d.tx, (w e.tx_nm, tt, refl), refl), refl), refl), refl), refl)

plain_pairs : (Q : ℤ → Type 0) → AreWritten Q → (es : List Entry) → ItemsArePlain Q (items_of (map (λ e. table (pair_members e)) es))
plain_pairs Q w [] = tt
plain_pairs Q w (e ∷ es) = (plain_pair Q w e, plain_pairs Q w es)

plain_modules : (Q : ℤ → Type 0) → AreWritten Q → (ms : List ModuleAt) → ItemsArePlain Q (items_of (map (λ m. table (module_members m)) ms))
plain_modules Q w [] = tt
plain_modules Q w (m ∷ ms) = ((tt, (plain_pairs Q w m.entries, tt, refl), refl), plain_modules Q w ms)

plain_document : (Q : ℤ → Type 0) → AreWritten Q → (db : Database) → FibresAre Q db.fibres → MembersArePlain Q (document_of db)
plain_document Q w db h =
    (plain_fibres Q w db.fibres h, (plain_modules Q w db.modules, (w 2, tt, refl), refl), refl)

-- ---- two texts are one

abbrev Any : ℤ → Type 0
Any z = Unit {0}

any_points : (ps : List (ℤ × ℤ)) → PointsAre Any ps
any_points [] = tt
any_points (p ∷ ps) = (tt, tt, any_points ps)

any_table : (t : Option TableAt) → TableIs Any t
any_table None = tt
any_table (Some t) = any_points t.points

any_fibres : (fs : List FibreAt) → FibresAre Any fs
any_fibres [] = tt
any_fibres (f ∷ fs) = (tt, any_table f.table, any_fibres fs)

-- two texts of one database are one
pub one_text : OneText
one_text db octets other =
    one_document Any false (document_of db) (plain_document Any (λ n. tt) db (any_fibres db.fibres)) octets other

-- ---- there is one: the numbers of an accepted text fit

fitting_written : AreWritten Fits
fitting_written n = fits_signed_from_abs w64 (pos (min n 9_223_372_036_854_775_807)) (omega arith)

-- a number whose bounds are of 62 bits
bounded : (least greatest : ℕ) (z : ℤ) → least < 2 ^ 62 → greatest < 2 ^ 62
    → (le_z (neg_ℤ (pos least)) z && le_z z (pos greatest)) ≡ true → Fits z
bounded least greatest z h k e = grind (arith, ints)

fitting_points : (law : Option Linear) (ps : List (ℤ × ℤ)) → list_all (is_sound law) ps ≡ true → PointsAre Fits ps
fitting_points law [] e = tt
fitting_points law (p ∷ ps) e =
    let parts = and_parts (is_sound law p) (list_all (is_sound law) ps) e in
    let bounds = (and_parts (has_bounds p) (is_near law p) parts.0).0 in
    let each = and_parts (le_z (neg_ℤ (pos (2 ^ 30))) p.0 && le_z p.0 (pos (2 ^ 53)))
    (le_z (neg_ℤ (pos (2 ^ 53))) p.1 && le_z p.1 (pos (2 ^ 53))) bounds in
    (bounded (2 ^ 30) (2 ^ 53) p.0 (lit< tt) (lit< tt) each.0, bounded (2 ^ 53) (2 ^ 53) p.1 (lit< tt) (lit< tt) each.1, fitting_points law ps parts.1)

stored_fit : (law : Option Linear) (err : ℕ) (o : Option (List (ℤ × ℤ))) → is_table law o ≡ true
    → TableIs Fits (option_map (λ ps. record { points = ps; err = err }) o)
stored_fit law err None e = tt
stored_fit law err (Some ps) e = fitting_points law ps (and_parts (list_all (is_sound law) ps) (rises ps) e).0

-- the points at `table`
fitting_table : (law : Option Linear) (err : ℕ) (found : Option Data) → has_fault co.Range (table_key law) found ≡ false
    → TableIs Fits (option_map (λ ps. record { points = ps; err = err }) (option_and_then stored_points found))
fitting_table law err None range = tt
fitting_table law err (Some d) range = stored_fit law err (stored_points d) (not-false (is_table law (stored_points d)) range)

-- the asymmetry of a fibre
kappa_if : (o : Option ℤ) (b : Bool) → in_range (negsuc 274_877_906_943) (pos 274_877_906_944) o ≡ b
    → Fits (unwrap_or (if b then o else None) (pos 0))
kappa_if o false e = fits_signed_from_abs w64 (pos 0) (lit< tt)
kappa_if None true e = fits_signed_from_abs w64 (pos 0) (lit< tt)
kappa_if (Some z) true e = bounded 274_877_906_944 274_877_906_944 z (lit< tt) (lit< tt) e

fitting_kappa : (found : Option Data) → Fits (unwrap_or (number_in kappa_key found) (pos 0))
fitting_kappa None = fits_signed_from_abs w64 (pos 0) (lit< tt)
fitting_kappa (Some d) = kappa_if (as_integer d) (in_range (negsuc 274_877_906_943) (pos 274_877_906_944) (as_integer d)) refl

-- the rows after those of a fibre's line
abbrev behind_line : Members → List Key
behind_line t = if is_some (get_member (codes "table") t) then table_err_key ∷ [] else []

-- what is at `table` in a fibre without a place
table_fits : (ds : List Data) (n : ℕ) (t : Members) → place_in_fibre co.Range ds n t ≡ None
    → has_fault co.Range (table_key (law_of t)) (get_member (codes "table") t) ≡ false
table_fits ds n t none =
    let at = tables.Fibre (n + 1) in
    let test = at_fault co.Range t in
    let more = table_key (law_of t) ∷ behind_line t in
    let keys = no_key co.Range at (fibre_keys t) t (none_parts (place_in_table co.Range at (fibre_keys t) t) (place_of_name co.Range at (take n ds) t) none).0 in
    let after_name = (first_passed test name_key (kappa_key ∷ fibre_err_key ∷ more) keys).1 in
    let after_kappa = (first_passed test kappa_key (fibre_err_key ∷ more) after_name).1 in
    let after_err = (first_passed test fibre_err_key more after_kappa).1 in
    (first_passed test (table_key (law_of t)) (behind_line t) after_err).0

fitting_fibres : (ds : List Data) (k : ℕ) (ts : List Members)
    → first_among (λ n d. on_table (place_in_fibre co.Range ds n) d) k (map table ts) ≡ None → FibresAre Fits (map fibre_of ts)
fitting_fibres ds k [] none = tt
fitting_fibres ds k (t ∷ ts) none =
    let parts = none_parts (place_in_fibre co.Range ds k t) (first_among (λ n d. on_table (place_in_fibre co.Range ds n) d) (k + 1) (map table ts)) none in
    let found = get_member (codes "table") t in (
      fitting_kappa (get_member (codes "kappa") t),
      fitting_table (law_of t) (natural_at table_err_key t) found (table_fits ds k t parts.0),
      fitting_fibres ds (k + 1) ts parts.1,
    )

-- the numbers of the fibres of an accepted text fit
fitting : (others : Others) (doc : Members) → IsAccepted others doc → FibresAre Fits (database_of doc).fibres
fitting others doc accepted =
    let v = version_of doc in
    let modules = tables_at (codes "module") doc in
    let values = option_and_then values_of (get_member (codes "fibre") doc) in
    let ts = members_in (tables_of values) in
    let fibres = place_in_fibres co.Range (tables_of values) in
    let behind_modules = option_or (place_of_keys co.Range tables.Top (fibre_key ∷ []) doc) fibres in
    let lists = (none_parts (place_in_top others co.Range doc) (place_in_lists co.Range doc) (accepted co.Range)).1 in
    let behind = (none_parts (place_of_keys co.Range tables.Top (module_key ∷ []) doc) (option_or (place_in_modules v co.Range modules) behind_modules) lists).1 in
    let rest = (none_parts (place_in_modules v co.Range modules) behind_modules behind).1 in
    let none = (none_parts (place_of_keys co.Range tables.Top (fibre_key ∷ []) doc) fibres rest).1 in
    let listed = subst (λ ds. place_in_fibres co.Range ds ≡ None) (tables_of-members values) none in
    let same : each_table fibre_of (tables_of values) ≡ map fibre_of ts =
    ap (each_table fibre_of) (tables_of-members values) ∙ each_table-map fibre_of ts in
    subst (FibresAre Fits) (sym same) (fitting_fibres (map table ts) 0 ts listed)

-- a database of an accepted text has a text
pub each_has_text : EachHasText
each_has_text db listed =
    let fits = subst (λ d. FibresAre Fits d.fibres) (sym listed.3) (fitting listed.0 listed.1 listed.2) in
    document_text false (document_of db) (plain_document Fits fitting_written db fits)
