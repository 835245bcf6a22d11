-- A number that a text may have is the number that is read, and fits again.
use Rattle.std.proofs.Common.{◌≡◌, ◌≤◌, ◌&&◌, not, ℕ, ℤ, pos, negsuc, List, Bool, true, false, Option, None, Some, unsigned_abs, min, refl, sym, ap, subst, ◌∙◌, arith}
use Rattle.std.proofs.lemmas.Bool.{and_parts, false≢true, not-false}
use Rattle.std.proofs.lemmas.Bool.Decides.{nat_tests}
use Rattle.std.specs.Prelude.{unwrap_or, option_and_then, nat_le}
use Rattle.toml.specs.Data.{Data, as_integer}
use Rattle.wrp_caldb.specs.Calibration.{tx_nm_key, rx_nm_key}
use Rattle.wrp_caldb.specs.Key.{number_key, default_key}
use Rattle.wrp_caldb.specs.Rows.{has_fault, in_range, is_wavelength, fits_first, number_in}
use Rattle.wrp_calibration_text.specs.Text.{number}
use Rattle.wrp_caldb.specs.declared.row.Code.TheVariants as co
use Rattle.wrp_calibration_text.proofs.ReadBack.{IsSmallTest, value, in_range_small, wavelength_small}

-- the number as it is written
abbrev pub written : ℕ → Option ℤ
written n = Some (pos (min n 9_223_372_036_854_775_807))

-- what is read fits again, if 0 does
pub fits_again : (test : Option ℤ → Bool) → IsSmallTest test → test (Some (pos 0)) ≡ true → (o : Option ℤ) (b : Bool) → test o ≡ b
    → test (written (unsigned_abs (value b o))) ≡ true
fits_again test is least o false e = least
fits_again test is least None true e = least
fits_again test is least (Some (pos m)) true e =
    let held : min m 9_223_372_036_854_775_807 ≡ m = let small = is.small m e in omega arith in
    rw held e
fits_again test is least (Some (negsuc m)) true e = absurd (false≢true (sym (is.negative m) ∙ e))

-- what fits, fits as it is written
pub fits_written : (test : Option ℤ → Bool) → IsSmallTest test → (o : Option ℤ) → test o ≡ true
    → test (written (unsigned_abs (unwrap_or o (pos 0)))) ≡ true
fits_written test is None e = absurd (false≢true (sym is.none ∙ e))
fits_written test is (Some (pos m)) e =
    let held : min m 9_223_372_036_854_775_807 ≡ m = let small = is.small m e in omega arith in
    rw held e
fits_written test is (Some (negsuc m)) e = absurd (false≢true (sym (is.negative m) ∙ e))

zero_fits : (b : ℕ) → nat_le 0 b ≡ true
zero_fits b = grind (arith, nat_tests)

-- a number from 0 on, written again
pub number_fits : (name : List ℕ) (b : ℕ) → b ≤ 9_223_372_036_854_775_807 → (found : Option Data)
    → let n = unsigned_abs (unwrap_or (number_in (number_key name (pos 0) (pos b)) found) (pos 0)) in
    has_fault co.Range (number_key name (pos 0) (pos b)) (Some (number n)) ≡ false
number_fits name b h None = ap not (zero_fits b)
number_fits name b h (Some d) =
    ap not (fits_again (in_range (pos 0) (pos b)) (in_range_small 0 b h) (zero_fits b) (as_integer d) (in_range (pos 0) (pos b) (as_integer d)) refl)

-- a number with a default, written again
pub default_fits : (name : List ℕ) (b : ℕ) → b ≤ 9_223_372_036_854_775_807 → (found : Option Data)
    → let n = unsigned_abs (unwrap_or (number_in (default_key name (pos 0) (pos b) (pos 0)) found) (pos 0)) in
    has_fault co.Range (default_key name (pos 0) (pos b) (pos 0)) (Some (number n)) ≡ false
default_fits name b h None = ap not (zero_fits b)
default_fits name b h (Some d) =
    ap not (fits_again (in_range (pos 0) (pos b)) (in_range_small 0 b h) (zero_fits b) (as_integer d) (in_range (pos 0) (pos b) (as_integer d)) refl)

-- a number that is there and fits, written again
pub number_kept : (name : List ℕ) (a b : ℕ) → b ≤ 9_223_372_036_854_775_807 → (found : Option Data)
    → has_fault co.Missing (number_key name (pos a) (pos b)) found ≡ false
    → has_fault co.Range (number_key name (pos a) (pos b)) found ≡ false
    → let n = unsigned_abs (unwrap_or (number_in (number_key name (pos a) (pos b)) found) (pos 0)) in
    has_fault co.Range (number_key name (pos a) (pos b)) (Some (number n)) ≡ false
number_kept name a b h None missing range = cc missing
number_kept name a b h (Some d) missing range =
    let fits = not-false (in_range (pos a) (pos b) (as_integer d)) range in
    rw fits (ap not (fits_written (in_range (pos a) (pos b)) (in_range_small a b h) (as_integer d) fits))

-- a wavelength that a pair has
pub record IsWave (found : Option Data) : Type 0 where
  pub nm : ℕ
  pub is : option_and_then as_integer found ≡ Some (pos nm)
  pub passes : is_wavelength (Some (pos nm)) ≡ true

wave_of : (o : Option ℤ) → is_wavelength o ≡ true → (nm : ℕ) × (o ≡ Some (pos nm))
wave_of None e = absurd (false≢true e)
wave_of (Some (pos m)) e = (m, refl)
wave_of (Some (negsuc m)) e = absurd (false≢true (sym (wavelength_small.negative m) ∙ e))

wave_passes : (o : Option ℤ) (nm : ℕ) → o ≡ Some (pos nm) → is_wavelength o ≡ true → is_wavelength (Some (pos nm)) ≡ true
wave_passes o nm e is = subst (λ x. is_wavelength x ≡ true) e is

pub wave_in : (found : Option Data) → is_wavelength (option_and_then as_integer found) ≡ true → IsWave found
wave_in found fits =
    let wave = wave_of (option_and_then as_integer found) fits in
    record { nm = wave.0; is = wave.1; passes = wave_passes (option_and_then as_integer found) wave.0 wave.1 fits }

pub first_wave : (found : Option Data) → has_fault co.Missing tx_nm_key found ≡ false → has_fault co.Range tx_nm_key found ≡ false → IsWave found
first_wave None missing range = cc missing
first_wave (Some d) missing range =
    let fits = not-false (is_wavelength (as_integer d)) range in
    let wave = wave_of (as_integer d) fits in
    record { nm = wave.0; is = wave.1; passes = wave_passes (as_integer d) wave.0 wave.1 fits }

pub second_wave : (first : Option ℤ) (found : Option Data) → has_fault co.Missing (rx_nm_key first) found ≡ false
    → has_fault co.Range (rx_nm_key first) found ≡ false
    → IsWave found × (fits_first first (option_and_then as_integer found) ≡ true)
second_wave first None missing range = cc missing
second_wave first (Some d) missing range =
    let fits = and_parts (is_wavelength (as_integer d)) (fits_first first (as_integer d)) (not-false _ range) in
    let wave = wave_of (as_integer d) fits.0 in
    (record { nm = wave.0; is = wave.1; passes = wave_passes (as_integer d) wave.0 wave.1 fits.0 }, fits.1)

first_read_as : (o : Option ℤ) (nm : ℕ) → o ≡ Some (pos nm) → is_wavelength (Some (pos nm)) ≡ true
    → unsigned_abs (value (is_wavelength o) o) ≡ nm
first_read_as o nm e is = rw e (rw is refl)

second_read_as : (o : Option ℤ) (nm : ℕ) → o ≡ Some (pos nm) → is_wavelength (Some (pos nm)) ≡ true
    → unsigned_abs (value (is_wavelength o && fits_first None o) o) ≡ nm
second_read_as o nm e is = rw e (rw is refl)

-- the wavelength that is read
pub first_read : (found : Option Data) (w : IsWave found) → unsigned_abs (unwrap_or (number_in tx_nm_key found) (pos 0)) ≡ w.nm
first_read None w = cc w.is
first_read (Some d) w = first_read_as (as_integer d) w.nm w.is w.passes

pub second_read : (found : Option Data) (w : IsWave found) → unsigned_abs (unwrap_or (number_in (rx_nm_key None) found) (pos 0)) ≡ w.nm
second_read None w = cc w.is
second_read (Some d) w = second_read_as (as_integer d) w.nm w.is w.passes

-- and it is written as it is
pub wave_written : (found : Option Data) (w : IsWave found) → min w.nm 9_223_372_036_854_775_807 ≡ w.nm
wave_written found w = let small = wavelength_small.small w.nm w.passes in omega arith
