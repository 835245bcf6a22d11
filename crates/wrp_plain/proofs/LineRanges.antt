-- What the first line says is in its ranges.
use Rattle.std.proofs.Common.{◌≡◌, ℕ, ℤ, pos, ◌≤◌, ◌^◌, ◌==◌, ◌&&◌, ◌≤ℤ◌, Bool, true, false, if◌then◌else◌, List, length, Option, None, Some, Result, Ok, Err, refl, ap, subst, arith}
use Rattle.std.specs.Prelude.{int_le, ok_or, option_map, option_and_then, unsigned_abs}
use Rattle.std.proofs.lemmas.Int.{ints}
use Rattle.std.proofs.lemmas.Option.{same_Some}
use Rattle.wrp_base.specs.declared.fault.TraceFault.{TraceFault}
use Rattle.wrp_base.specs.declared.fault.TraceFault.TheVariants.{Fields, Kind, Number}
use Rattle.wrp_base.specs.Lines.{parts_of}
use Rattle.wrp_fields.specs.Fields.{number_at}
use Rattle.wrp_fields.specs.Numbers.{kept_in, natural_in, number_in, number_of}
use Rattle.wrp_fields.specs.Reading.{◌>>=◌, field_of, is_plain}
use Rattle.wrp_plain.specs.declared.settings.PlainStart.{PlainStart}
use Rattle.wrp_plain.specs.LineReading.{first_of, signed_at, start_of, start_read, within_at}
use Rattle.wrp_plain.specs.Measurement.{HasRanges}

-- Readings

abbrev pub read_as : {A : Type 0} → A → Result A TraceFault
read_as x = Ok x

-- one reading has one value
pub ok_same : {A : Type 0} (x y : A) → read_as x ≡ read_as y → x ≡ y
ok_same x y e = cc

-- a reading in two parts gave a value in each
pub record Both {A B : Type 0} (read : Result A TraceFault) (next : A → Result B TraceFault) (value : B) : Type 0 where
  pub first : A
  pub is : read ≡ Ok first
  pub rest : next first ≡ Ok value

-- and so it did if the whole gave one
pub both : {A B : Type 0} (read : Result A TraceFault) (next : A → Result B TraceFault) (value : B) → (read >>= next) ≡ Ok value → Both read next value
both (Ok x) next value e = record { first = x; is = refl; rest = e }
both (Err fault) next value e = absurd (cc)

found : {A : Type 0} (fault : TraceFault) (o : Option A) (x : A) → ok_or o fault ≡ Ok x → o ≡ Some x
found fault None x e = absurd (cc)
found fault (Some y) x e = ap (λ z. Some z) (ok_same y x e)

-- what was read under a test passed it
pub passed : {A : Type 0} (b : Bool) (read : Result A TraceFault) (fault : TraceFault) (x : A) → (if b then read else Err fault) ≡ Ok x → read ≡ Ok x
passed true read fault x e = e
passed false read fault x e = absurd (let f : Err fault ≡ Ok x = e in cc)

-- Numbers

-- a number that was kept under two tests passed both
in_range : (low high : Bool) (z w : ℤ) → (if low && high then Some z else None) ≡ Some w → (low ≡ true) × (high ≡ true) × (z ≡ w)
in_range true true z w e = (refl, refl, same_Some z w e)
in_range true false z w e = absurd (let f : None ≡ Some w = e in cc)
in_range false high z w e = absurd (let f : None ≡ Some w = e in cc)

kept_range : (least greatest z w : ℤ) → kept_in least greatest z ≡ Some w → (least ≤ℤ w) × (w ≤ℤ greatest)
kept_range least greatest z w e =
    let parts : (int_le least z ≡ true) × (int_le z greatest ≡ true) × (z ≡ w) = in_range (int_le least z) (int_le z greatest) z w e in
    let low : int_le least z ≡ true = parts.0 in
    let high : int_le z greatest ≡ true = parts.1 in
    let from : least ≤ℤ z = grind (arith, ints) in
    let to : z ≤ℤ greatest = grind (arith, ints) in
    (subst (λ x. least ≤ℤ x) parts.2 from, subst (λ x. x ≤ℤ greatest) parts.2 to)

number_range : (least greatest : ℤ) (o : Option ℤ) (w : ℤ) → option_and_then (kept_in least greatest) o ≡ Some w → (least ≤ℤ w) × (w ≤ℤ greatest)
number_range least greatest None w e = absurd (cc)
number_range least greatest (Some z) w e = kept_range least greatest z w e

natural_with : (least greatest : ℕ) (o : Option ℤ) (n : ℕ) → ((w : ℤ) → o ≡ Some w → (pos least ≤ℤ w) × (w ≤ℤ pos greatest)) → option_map unsigned_abs o ≡ Some n → (least ≤ n) × (n ≤ greatest)
natural_with least greatest None n h e = absurd (cc)
natural_with least greatest (Some w) n h e =
    let range : (pos least ≤ℤ w) × (w ≤ℤ pos greatest) = h w refl in
    let size : unsigned_abs w ≡ n = same_Some (unsigned_abs w) n e in
    (omega (arith, ints, range.0, size), omega (arith, ints, range.0, range.1, size))

-- a number that is read is in its range
number_read : (least greatest place : ℕ) (fields : List (List ℕ)) (n : ℕ) → number_at least greatest place fields ≡ Ok n → (least ≤ n) × (n ≤ greatest)
number_read least greatest place fields n e =
    natural_with least greatest (number_in (pos least) (pos greatest) (field_of place fields)) n
    (λ w is. number_range (pos least) (pos greatest) (number_of (field_of place fields)) w is)
    (found (Number place) (natural_in least greatest (field_of place fields)) n e)

-- so is one that may be below 0
pub signed_read : (least greatest : ℤ) (place : ℕ) (fields : List (List ℕ)) (z : ℤ) → signed_at least greatest place fields ≡ Ok z → (least ≤ℤ z) × (z ≤ℤ greatest)
signed_read least greatest place fields z e =
    number_range least greatest (number_of (field_of place fields)) z (found (Number place) (number_in least greatest (field_of place fields)) z e)

-- The first line

start_fits : (fields : List (List ℕ)) (start : PlainStart) → start_of fields ≡ Ok start → HasRanges start.set
start_fits fields start e =
    let rate = both (number_at 0 (10 ^ 9) 2 fields) _ start e in
    let err = both (number_at 0 (10 ^ 9) 3 fields) _ start rate.rest in
    let least = both (signed_at (pos 0) (pos (10 ^ 15)) 4 fields) _ start err.rest in
    let span = both (signed_at (pos 0) (pos (10 ^ 15)) 5 fields) _ start least.rest in
    let dmax = both (signed_at (pos 1) (pos (10 ^ 18)) 6 fields) _ start span.rest in
    let ring = both (number_at 1 64 7 fields) _ start dmax.rest in
    let step = both (signed_at (pos 1) (pos (2 ^ 60)) 8 fields) _ start ring.rest in
    let off = both (within_at (2 ^ 62) 9 fields) _ start step.rest in
    subst (λ (s : PlainStart). HasRanges s.set) (ok_same _ start off.rest)
    (record {
      rate = (number_read 0 (10 ^ 9) 2 fields rate.first rate.is).1;
      err = (number_read 0 (10 ^ 9) 3 fields err.first err.is).1;
      least = signed_read (pos 0) (pos (10 ^ 15)) 4 fields least.first least.is;
      span = signed_read (pos 0) (pos (10 ^ 15)) 5 fields span.first span.is;
      dmax = signed_read (pos 1) (pos (10 ^ 18)) 6 fields dmax.first dmax.is;
      ring = number_read 1 64 7 fields ring.first ring.is;
      step = signed_read (pos 1) (pos (2 ^ 60)) 8 fields step.first step.is;
    })

first_fits : (fields : List (List ℕ)) (start : PlainStart) → first_of fields ≡ Ok start → HasRanges start.set
first_fits fields start e = start_fits fields start (passed (length fields == 9) (start_of fields) Fields start (passed _ _ Kind start e))

-- the settings that it says are in their ranges
pub start_ranges : (line : List ℕ) (start : PlainStart) → start_read line ≡ Ok start → HasRanges start.set
start_ranges line start e = first_fits (parts_of line) start (passed (is_plain line) (first_of (parts_of line)) Fields start e)
