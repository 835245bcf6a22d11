-- What a line after the first says is an event whose fields are in their ranges.
use Rattle.std.proofs.Common.{◌≡◌, ℕ, ℤ, pos, neg_ℤ, ◌≤◌, ◌^◌, ◌==◌, ◌≤ℤ◌, List, length, Option, None, Some, Ok, subst, arith}
use Rattle.std.specs.Prelude.{unsigned_abs}
use Rattle.std.proofs.lemmas.Int.{ints}
use Rattle.wrp_base.specs.declared.fault.TraceFault.TheVariants.{Fields}
use Rattle.wrp_base.specs.Lines.{parts_of}
use Rattle.wrp_fields.specs.Reading.{field_of, is_plain}
use Rattle.wrp_plain.specs.declared.event.PlainEvent.{PlainEvent}
use Rattle.wrp_plain.specs.declared.lines.kinds.LineKind.{LineKind}
use Rattle.wrp_plain.specs.declared.lines.kinds.LineKind.TheVariants as kinds
use Rattle.wrp_plain.specs.Event.{HasFields}
use Rattle.wrp_plain.specs.LineKinds.{field_count, kind_of}
use Rattle.wrp_plain.specs.LineReading.{counted_of, event_of, event_read, exch_of, fields_of_kind, pass_of, signed_at, within_at}
use Rattle.wrp_plain.proofs.LineRanges.{both, ok_same, passed, signed_read}

small : (a : ℤ) (n : ℕ) → neg_ℤ (pos n) ≤ℤ a → a ≤ℤ pos n → unsigned_abs a ≤ n
small a n low high = omega (arith, ints, low, high)

within_read : (size place : ℕ) (fields : List (List ℕ)) (z : ℤ) → within_at size place fields ≡ Ok z → unsigned_abs z ≤ size
within_read size place fields z e =
    let range = signed_read (neg_ℤ (pos size)) (pos size) place fields z e in
    small z size range.0 range.1

pass_fits : (fields : List (List ℕ)) (event : PlainEvent) → pass_of fields ≡ Ok event → HasFields event
pass_fits fields event e =
    let dt = both (signed_at (pos 1) (pos (10 ^ 18)) 2 fields) _ event e in
    let drift = both (within_at (2 ^ 60) 3 fields) _ event dt.rest in
    let time = signed_read (pos 1) (pos (10 ^ 18)) 2 fields dt.first dt.is in
    subst HasFields (ok_same _ event drift.rest) (time.0, time.1, within_read (2 ^ 60) 3 fields drift.first drift.is)

exch_fits : (fields : List (List ℕ)) (event : PlainEvent) → exch_of fields ≡ Ok event → HasFields event
exch_fits fields event e =
    let span = both (signed_at (pos 0) (pos (2 ^ 60)) 2 fields) _ event e in
    let dms = both (signed_at (pos 0) (pos (2 ^ 60)) 3 fields) _ event span.rest in
    let dsm = both (signed_at (pos 0) (pos (2 ^ 60)) 4 fields) _ event dms.rest in
    let o2 = both (within_at (2 ^ 94) 5 fields) _ event dsm.rest in
    let o3 = both (within_at (2 ^ 94) 6 fields) _ event o2.rest in
    let t1 = both (within_at (2 ^ 61) 7 fields) _ event o3.rest in
    let t2 = both (within_at (2 ^ 61) 8 fields) _ event t1.rest in
    let t3 = both (within_at (2 ^ 61) 9 fields) _ event t2.rest in
    let t4 = both (within_at (2 ^ 61) 10 fields) _ event t3.rest in
    subst HasFields (ok_same _ event t4.rest) (
      signed_read (pos 0) (pos (2 ^ 60)) 2 fields span.first span.is,
      signed_read (pos 0) (pos (2 ^ 60)) 3 fields dms.first dms.is,
      signed_read (pos 0) (pos (2 ^ 60)) 4 fields dsm.first dsm.is,
      within_read (2 ^ 94) 5 fields o2.first o2.is,
      within_read (2 ^ 94) 6 fields o3.first o3.is,
      record {
        t1 = within_read (2 ^ 61) 7 fields t1.first t1.is;
        t2 = within_read (2 ^ 61) 8 fields t2.first t2.is;
        t3 = within_read (2 ^ 61) 9 fields t3.first t3.is;
        t4 = within_read (2 ^ 61) 10 fields t4.first t4.is;
      },
    )

kind_fits : (kind : LineKind) (fields : List (List ℕ)) (event : PlainEvent) → fields_of_kind kind fields ≡ Ok event → HasFields event
kind_fits kinds.Pass fields event e = pass_fits fields event e
kind_fits kinds.Tick fields event e = subst HasFields (ok_same _ event e) tt
kind_fits kinds.Exch fields event e = exch_fits fields event e

counted_fits : (fields : List (List ℕ)) (kind : Option LineKind) (event : PlainEvent) → counted_of fields kind ≡ Ok event → HasFields event
counted_fits fields None event e = absurd (cc)
counted_fits fields (Some kind) event e = kind_fits kind fields event (passed (length fields == field_count kind) (fields_of_kind kind fields) Fields event e)

-- the fields of what it says are in their ranges
pub event_fits : (line : List ℕ) (event : PlainEvent) → event_read line ≡ Ok event → HasFields event
event_fits line event e =
    counted_fits (parts_of line) (kind_of (field_of 1 (parts_of line))) event (passed (is_plain line) (event_of (parts_of line)) Fields event e)
