-- The pairs of a module that has no place of any code, written again, have none.
use Rattle.std.proofs.Common.{◌≡◌, ◌+◌, ◌&&◌, not, ℕ, ℤ, pos, List, [], ◌∷◌, Bool, true, false, Option, None, Some, map, take, min, refl, sym, ap, ap₂, ◌∙◌, arith}
use Rattle.std.proofs.lemmas.Bool.{and_parts}
use Rattle.std.specs.Prelude.{codes}
use Rattle.std.specs.List.{find, list_all, list_any}
use Rattle.toml.specs.Data.{Data, Members, table, get_member}
use Rattle.wrp_base.proofs.Lists.{first_passed, passes_first}
use Rattle.wrp_caldb.specs.Calibration.{tx_key, rx_key, transition_key, module_err_key, tx_nm_key, rx_nm_key, first_wavelength, pair_keys, place_in_pair}
use Rattle.wrp_caldb.specs.Database.{natural_at, delays_of, entry_of}
use Rattle.wrp_caldb.specs.Key.{Key}
use Rattle.wrp_caldb.specs.Refusal.{place_in_table}
use Rattle.wrp_caldb.specs.Repeats.{are_same_numbers, integer_in, has_wavelengths_of, place_of_pair}
use Rattle.wrp_caldb.specs.Rows.{is_wavelength, fits_first}
use Rattle.wrp_calibration_text.specs.Text.{pair_members}
use Rattle.wrp_caldb.specs.declared.place.At.{At}
use Rattle.wrp_caldb.specs.declared.place.At.TheVariants as tables
use Rattle.wrp_caldb.specs.declared.row.Code.{Code}
use Rattle.wrp_caldb.specs.declared.row.Code.TheVariants as co
use Rattle.wrp_calibration_text.proofs.Kept.{none_parts, if_none, at_fault, no_key, no_place, any_kept}
use Rattle.wrp_calibration_text.proofs.KeptNumbers.{number_fits, IsWave, wave_in, first_wave, second_wave, first_read, second_read, wave_written}

-- the wavelengths of a pair that fits its rows
pub record HasWaves (p : Members) : Type 0 where
  pub first : IsWave (get_member (codes "tx_nm") p)
  pub second : IsWave (get_member (codes "rx_nm") p)
  pub fits : fits_first (first_wavelength p) (integer_in (codes "rx_nm") p) ≡ true

-- the rows after the wavelengths
abbrev pub delay_keys : List Key
delay_keys = tx_key ∷ rx_key ∷ transition_key ∷ module_err_key ∷ []

abbrev after_first : Members → List Key
after_first p = rx_nm_key (first_wavelength p) ∷ delay_keys

-- no key of a pair has a fault
abbrev Fits : Members → Code → Type 0
Fits p code = find (at_fault code p) (pair_keys p) ≡ None

pub waves_of : (p : Members) → Fits p co.Missing → Fits p co.Range → HasWaves p
waves_of p missing range =
    let m1 = first_passed (at_fault co.Missing p) tx_nm_key (after_first p) missing in
    let r1 = first_passed (at_fault co.Range p) tx_nm_key (after_first p) range in
    let m2 = first_passed (at_fault co.Missing p) (rx_nm_key (first_wavelength p)) delay_keys m1.1 in
    let r2 = first_passed (at_fault co.Range p) (rx_nm_key (first_wavelength p)) delay_keys r1.1 in
    let second = second_wave (first_wavelength p) (get_member (codes "rx_nm") p) m2.0 r2.0 in
    record {
      first = first_wave (get_member (codes "tx_nm") p) m1.0 r1.0;
      second = second.0;
      fits = second.1;
    }

-- the two wavelengths as they are written
first_again : (p : Members) (w : IsWave (get_member (codes "tx_nm") p)) → first_wavelength (pair_members (entry_of p)) ≡ first_wavelength p
first_again p w =
    ap (λ n. Some (pos (min n 9_223_372_036_854_775_807))) (first_read (get_member (codes "tx_nm") p) w)
    ∙ ap (λ n. Some (pos n)) (wave_written (get_member (codes "tx_nm") p) w) ∙ sym w.is

second_again : (p : Members) (w : IsWave (get_member (codes "rx_nm") p)) → integer_in (codes "rx_nm") (pair_members (entry_of p)) ≡ integer_in (codes "rx_nm") p
second_again p w =
    ap (λ n. Some (pos (min n 9_223_372_036_854_775_807))) (second_read (get_member (codes "rx_nm") p) w)
    ∙ ap (λ n. Some (pos n)) (wave_written (get_member (codes "rx_nm") p) w) ∙ sym w.is

-- the delays that were read fit again, whatever the wavelengths
pub delays_fit : (t : Members) (tx rx : ℕ)
    → find (at_fault co.Range (pair_members (record { tx_nm = tx; rx_nm = rx; delays = delays_of t }))) delay_keys ≡ None
delays_fit t tx rx =
    let test = at_fault co.Range (pair_members (record { tx_nm = tx; rx_nm = rx; delays = delays_of t })) in
    passes_first test tx_key (rx_key ∷ transition_key ∷ module_err_key ∷ [])
    (number_fits (codes "tx") 1_000_000_000_000 (omega arith) (get_member (codes "tx") t))
    (passes_first test rx_key (transition_key ∷ module_err_key ∷ [])
    (number_fits (codes "rx") 1_000_000_000_000 (omega arith) (get_member (codes "rx") t))
    (passes_first test transition_key (module_err_key ∷ [])
    (number_fits (codes "transition") 16383 (omega arith) (get_member (codes "transition") t))
    (passes_first test module_err_key []
    (number_fits (codes "err") 1_000_000_000 (omega arith) (get_member (codes "err") t)) refl)))

fits_two : (a b : Option ℤ) → is_wavelength b ≡ true → fits_first a b ≡ true → not (is_wavelength b && fits_first a b) ≡ false
fits_two a b is fits = rw (is, fits) refl

range_again : (p : Members) → HasWaves p → Fits (pair_members (entry_of p)) co.Range
range_again p w =
    let again = pair_members (entry_of p) in
    let first : is_wavelength (first_wavelength p) ≡ true = rw w.first.is w.first.passes in
    let second : is_wavelength (integer_in (codes "rx_nm") p) ≡ true = rw w.second.is w.second.passes in
    passes_first (at_fault co.Range again) tx_nm_key (after_first again)
    (ap (λ x. not (is_wavelength x)) (first_again p w.first) ∙ ap not first)
    (passes_first (at_fault co.Range again) (rx_nm_key (first_wavelength again)) delay_keys
    (ap₂ (λ a b. not (is_wavelength b && fits_first a b)) (first_again p w.first) (second_again p w.second)
    ∙ fits_two (first_wavelength p) (integer_in (codes "rx_nm") p) second w.fits)
    (delays_fit p (natural_at tx_nm_key p) (natural_at (rx_nm_key None) p)))

-- the rows of a pair that is written again
rows_again : (code : Code) (at : At) (p : Members) → HasWaves p
    → place_in_table code at (pair_keys (pair_members (entry_of p))) (pair_members (entry_of p)) ≡ None
rows_again co.UnknownKey at p w = refl
rows_again co.Missing at p w = refl
rows_again co.Range at p w = no_place co.Range at (pair_keys (pair_members (entry_of p))) (pair_members (entry_of p)) refl (range_again p w)
rows_again co.Twice at p w = refl

-- whether the two wavelengths of a pair are some
abbrev pub has_waves : Members → Bool
has_waves p = is_wavelength (first_wavelength p) && is_wavelength (integer_in (codes "rx_nm") p)

-- the pair written again
abbrev pub pair_again : Members → Members
pair_again p = pair_members (entry_of p)

wavelengths_again : (p s : Members) → HasWaves p → has_waves s ≡ true
    → has_wavelengths_of (pair_again p) (table (pair_again s)) ≡ has_wavelengths_of p (table s)
wavelengths_again p s w all =
    let ws = and_parts (is_wavelength (first_wavelength s)) (is_wavelength (integer_in (codes "rx_nm") s)) all in
    let s1 = first_again s (wave_in (get_member (codes "tx_nm") s) ws.0) in
    let s2 = second_again s (wave_in (get_member (codes "rx_nm") s) ws.1) in
    ap₂ (λ (a b : Bool). a && b)
    (ap₂ are_same_numbers s1 (first_again p w.first)) (ap₂ are_same_numbers s2 (second_again p w.second))

pairs_kept : (code : Code) (at : At) (n : ℕ) (ps : List Members) (p : Members) → HasWaves p → list_all has_waves ps ≡ true
    → place_of_pair code at (take n (map table ps)) p ≡ None
    → place_of_pair code at (take n (map table (map pair_again ps))) (pair_again p) ≡ None
pairs_kept co.UnknownKey at n ps p w all none = refl
pairs_kept co.Missing at n ps p w all none = refl
pairs_kept co.Range at n ps p w all none = refl
pairs_kept co.Twice at n ps p w all none =
    let fresh = if_none (list_any (has_wavelengths_of p) (take n (map table ps))) _ none in
    let still = any_kept (has_wavelengths_of p) (has_wavelengths_of (pair_again p)) pair_again has_waves
    (λ s well differ. wavelengths_again p s w well ∙ differ) n ps all fresh in
    rw still refl

-- the wavelengths of a pair without a place
pub waves_in : (owner : ℕ) (pairs : List Data) (n : ℕ) (p : Members) → ((code : Code) → place_in_pair code owner pairs n p ≡ None) → HasWaves p
waves_in owner pairs n p none =
    let at = tables.Pair owner (n + 1) in
    let rows = λ (code : Code). no_key code at (pair_keys p) p
    (none_parts (place_in_table code at (pair_keys p) p) (place_of_pair code at (take n pairs) p) (none code)).0 in
    waves_of p (rows co.Missing) (rows co.Range)

pub has_waves_in : (p : Members) → HasWaves p → has_waves p ≡ true
has_waves_in p w = rw (w.first.is, w.second.is, w.first.passes, w.second.passes) refl

-- a pair without a place, written again, has none
pub pair_kept : (owner : ℕ) (ps : List Members) → list_all has_waves ps ≡ true → (n : ℕ) (p : Members)
    → ((code : Code) → place_in_pair code owner (map table ps) n p ≡ None)
    → (code : Code) → place_in_pair code owner (map table (map pair_again ps)) n (pair_again p) ≡ None
pair_kept owner ps all n p none code =
    let at = tables.Pair owner (n + 1) in
    let w = waves_in owner (map table ps) n p none in
    let fresh = (none_parts (place_in_table code at (pair_keys p) p) (place_of_pair code at (take n (map table ps)) p) (none code)).1 in
    rw (rows_again code at p w) (pairs_kept code at n ps p w all fresh)
