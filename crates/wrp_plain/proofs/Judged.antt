-- What an event that breaks no premise keeps.
use Rattle.std.proofs.Common.{◌≡◌, ℕ, ℤ, pos, ◌+◌, ◌*◌, ◌/◌, ◌^◌, ◌≤◌, ◌≤ℤ◌, ◌-ℤ◌, unsigned_abs, Bool, true, false, int_lt, cond, List, [], ◌∷◌, Option, Some, None, Result, Ok, Err, refl, ap, ◌∙◌, sym, arith}
use Rattle.std.proofs.lemmas.Int.{ints}
use Rattle.std.proofs.Math.Nat.{mul-le-mul_left}
use Rattle.wrp_base.proofs.Integers.{pos_le}
use Rattle.wrp_base.proofs.Naturals.{nat_le_trans}
use Rattle.wrp_plain.specs.declared.settings.PlainSet.{PlainSet}
use Rattle.wrp_plain.specs.declared.event.PlainEvent.{PlainEvent}
use Rattle.wrp_plain.specs.declared.event.PlainEvent.TheVariants.{Pass, Exch}
use Rattle.wrp_plain.specs.declared.event.PlainBroken.{PlainBroken}
use Rattle.wrp_plain.specs.Measurement.{moves_within, exchange_move, round_of, least_round}
use Rattle.wrp_plain.specs.Event.{t1_of, t2_of, t3_of, t4_of}
use Rattle.wrp_plain.specs.Truth.{Keeps}
use Rattle.wrp_plain.specs.Premises.{over, below, first_broken, down_error, up_error, span_broken, move_broken, moves_broken, least_broken, stamps_broken, tick_late, rate_broken, broken_by, found_broken}
use Rattle.wrp_plain.proofs.Bound.{measured_within_bound_holds}

not_told : (test : Bool) (broken : PlainBroken) → cond test (Some broken) None ≡ None → test ≡ false
not_told true broken e = absurd (cc e)
not_told false broken e = refl

not_below : (a b : ℤ) → int_lt a b ≡ false → b ≤ℤ a
not_below a b h = grind (arith, ints)

-- a premise that is not broken holds
over-none : (n : ℕ) (shown bound : ℤ) → over n shown bound ≡ None → shown ≤ℤ bound
over-none n shown bound e =
    not_below bound shown (not_told (int_lt bound shown) (record { premise = n; shown = shown; bound = bound }) e)

below-none : (n : ℕ) (shown bound : ℤ) → below n shown bound ≡ None → bound ≤ℤ shown
below-none n shown bound e =
    not_below shown bound (not_told (int_lt shown bound) (record { premise = n; shown = shown; bound = bound }) e)

-- if none is broken, the first is not, nor is a later one
head_none : (o : Option PlainBroken) (later : List (Option PlainBroken)) → first_broken (o ∷ later) ≡ None → o ≡ None
head_none None later e = refl
head_none (Some broken) later e = e

tail_none : (o : Option PlainBroken) (later : List (Option PlainBroken)) → first_broken (o ∷ later) ≡ None → first_broken later ≡ None
tail_none None later e = e
tail_none (Some broken) later e = absurd (cc e)

abs_from_pos : (n : ℕ) (b : ℤ) → pos n ≤ℤ b → n ≤ unsigned_abs b
abs_from_pos n b h = omega (arith, ints)

-- time passes: no tick is late, and the offset moves slowly
pub record KeepsPass (set : PlainSet) (since : ℕ) (dt drift : ℤ) : Type 0 where
  pub in_time : unsigned_abs dt + since ≤ unsigned_abs set.dmax
  pub slow : unsigned_abs drift * 10 ^ 12 ≤ set.rate * unsigned_abs dt

pub keeps_pass : (set : PlainSet) (off : ℤ) (since : ℕ) (dt drift : ℤ) → broken_by set off since (Pass dt drift) ≡ None → KeepsPass set since dt drift
keeps_pass set off since dt drift e =
    let late : tick_late set since dt ≡ None = head_none (tick_late set since dt) (rate_broken set dt drift ∷ []) e in
    let rest = tail_none (tick_late set since dt) (rate_broken set dt drift ∷ []) e in
    let fast : rate_broken set dt drift ≡ None = head_none (rate_broken set dt drift) [] rest in
    record {
      in_time = abs_from_pos (unsigned_abs dt + since) set.dmax (over-none 1 (pos (unsigned_abs dt + since)) set.dmax late);
      slow = pos_le (unsigned_abs drift * 10 ^ 12) (set.rate * unsigned_abs dt) (over-none 2 (pos (unsigned_abs drift * 10 ^ 12)) (pos (set.rate * unsigned_abs dt)) fast);
    }

-- an exchange within the span moves the offset by no more than one of the whole span
divided : (a b : ℕ) → a ≤ b → (a + 999999999999) / 1000000000000 ≤ (b + 999999999999) / 1000000000000
divided a b h = omega arith

longer : (span limit : ℤ) → pos 0 ≤ℤ span → span ≤ℤ limit → unsigned_abs span ≤ unsigned_abs limit
longer span limit h k = omega (arith, ints)

move-span : (set : PlainSet) (span : ℤ) → pos 0 ≤ℤ span → span ≤ℤ set.span → moves_within set.rate (unsigned_abs span) ≤ exchange_move set
move-span set span h k =
    divided (set.rate * unsigned_abs span) (set.rate * unsigned_abs set.span) (mul-le-mul_left set.rate (longer span set.span h k))

moved : (set : PlainSet) (off span at : ℤ) → pos 0 ≤ℤ span → span ≤ℤ set.span → move_broken set off span at ≡ None →
    unsigned_abs (at -ℤ off) ≤ exchange_move set
moved set off span at h k e =
    nat_le_trans (unsigned_abs (at -ℤ off)) (moves_within set.rate (unsigned_abs span)) (exchange_move set)
    (pos_le (unsigned_abs (at -ℤ off)) (moves_within set.rate (unsigned_abs span))
    (over-none 5 (pos (unsigned_abs (at -ℤ off))) (pos (moves_within set.rate (unsigned_abs span))) e))
    (move-span set span h k)

-- the stamps of an exchange keep the settings
pub keeps_exchange : (set : PlainSet) (off : ℤ) (since : ℕ) (span dms dsm o2 o3 : ℤ) (t : List ℤ) →
    pos 0 ≤ℤ span → broken_by set off since (Exch span dms dsm o2 o3 t) ≡ None →
    Keeps set off (record { dms = dms; dsm = dsm; o2 = o2; o3 = o3 }) (t1_of t) (t2_of t) (t3_of t) (t4_of t)
keeps_exchange set off since span dms dsm o2 o3 t positive e =
    let down : ℤ = down_error t dms o2 in
    let up : ℤ = up_error t dsm o3 in
    let stamps : Option PlainBroken = stamps_broken set down up in
    let moves : Option PlainBroken = moves_broken set off span o2 o3 in
    let least : Option PlainBroken = least_broken set dms dsm in
    let e1 : span_broken set span ≡ None = head_none (span_broken set span) (least ∷ moves ∷ stamps ∷ []) e in
    let r1 = tail_none (span_broken set span) (least ∷ moves ∷ stamps ∷ []) e in
    let e2 = head_none least (moves ∷ stamps ∷ []) r1 in
    let r2 = tail_none least (moves ∷ stamps ∷ []) r1 in
    let e3 = head_none moves (stamps ∷ []) r2 in
    let r3 = tail_none moves (stamps ∷ []) r2 in
    let e4 = head_none stamps [] r3 in
    let short : span ≤ℤ set.span = over-none 3 span set.span e1 in
    record {
      least_down = below-none 4 dms set.least (head_none (below 4 dms set.least) (below 4 dsm set.least ∷ []) e2);
      least_up = below-none 4 dsm set.least (head_none (below 4 dsm set.least) [] (tail_none (below 4 dms set.least) (below 4 dsm set.least ∷ []) e2));
      moved_down = moved set off span o2 positive short (head_none (move_broken set off span o2) (move_broken set off span o3 ∷ []) e3);
      moved_up = moved set off span o3 positive short (head_none (move_broken set off span o3) [] (tail_none (move_broken set off span o2) (move_broken set off span o3 ∷ []) e3));
      stamps_down = pos_le (unsigned_abs down) (2 * set.err) (over-none 6 (pos (unsigned_abs down)) (pos (2 * set.err)) (head_none (over 6 (pos (unsigned_abs down)) (pos (2 * set.err))) (over 6 (pos (unsigned_abs up)) (pos (2 * set.err)) ∷ []) e4));
      stamps_up = pos_le (unsigned_abs up) (2 * set.err) (over-none 6 (pos (unsigned_abs up)) (pos (2 * set.err)) (head_none (over 6 (pos (unsigned_abs up)) (pos (2 * set.err))) [] (tail_none (over 6 (pos (unsigned_abs down)) (pos (2 * set.err))) (over 6 (pos (unsigned_abs up)) (pos (2 * set.err)) ∷ []) e4)));
    }

-- so its round trip is not short
pub is_long : (set : PlainSet) (off : ℤ) (since : ℕ) (span dms dsm o2 o3 : ℤ) (t : List ℤ) →
    pos 0 ≤ℤ span → broken_by set off since (Exch span dms dsm o2 o3 t) ≡ None →
    least_round set ≤ℤ round_of (t1_of t) (t2_of t) (t3_of t) (t4_of t)
is_long set off since span dms dsm o2 o3 t positive e =
    (measured_within_bound_holds set off (record { dms = dms; dsm = dsm; o2 = o2; o3 = o3 }) (t1_of t) (t2_of t) (t3_of t) (t4_of t)
    (keeps_exchange set off since span dms dsm o2 o3 t positive e)).0

-- an exchange that breaks a premise, after those that it keeps
passes : (o : Option PlainBroken) (later : List (Option PlainBroken)) → o ≡ None → first_broken (o ∷ later) ≡ first_broken later
passes o later e = ap (λ (p : Option PlainBroken). first_broken (p ∷ later)) e

stops : (o : Option PlainBroken) (later : List (Option PlainBroken)) (broken : PlainBroken) → o ≡ Some broken → first_broken (o ∷ later) ≡ o
stops o later broken e = ap (λ (p : Option PlainBroken). first_broken (p ∷ later)) e ∙ sym e

only : (o : Option PlainBroken) → first_broken (o ∷ []) ≡ o
only None = refl
only (Some broken) = refl

-- a judgement that found nothing, or this
pub kept : (found : Result (Unit {0}) PlainBroken) (value : Unit {0}) (o : Option PlainBroken) → found ≡ Ok value → found_broken found ≡ o → o ≡ None
kept found value o was e = sym e ∙ ap found_broken was

pub broke : (found : Result (Unit {0}) PlainBroken) (broken : PlainBroken) (o : Option PlainBroken) → found ≡ Err broken → found_broken found ≡ o → o ≡ Some broken
broke found broken o was e = sym e ∙ ap found_broken was

-- an exchange that breaks the first, the second, the third or the last kind
pub breaks_span : (set : PlainSet) (off : ℤ) (since : ℕ) (span dms dsm o2 o3 : ℤ) (t : List ℤ) (event : PlainEvent) (found : Option PlainBroken) (broken : PlainBroken) →
    event ≡ Exch span dms dsm o2 o3 t → span_broken set span ≡ Some broken → found ≡ span_broken set span → found ≡ broken_by set off since event
breaks_span set off since span dms dsm o2 o3 t event found broken is e1 same =
    let least : Option PlainBroken = least_broken set dms dsm in
    let moves : Option PlainBroken = moves_broken set off span o2 o3 in
    let stamps : Option PlainBroken = stamps_broken set (down_error t dms o2) (up_error t dsm o3) in
    same ∙ sym (stops (span_broken set span) (least ∷ moves ∷ stamps ∷ []) broken e1) ∙ ap (broken_by set off since) (sym is)

pub breaks_least : (set : PlainSet) (off : ℤ) (since : ℕ) (span dms dsm o2 o3 : ℤ) (t : List ℤ) (event : PlainEvent) (found : Option PlainBroken) (broken : PlainBroken) →
    event ≡ Exch span dms dsm o2 o3 t → span_broken set span ≡ None → least_broken set dms dsm ≡ Some broken → found ≡ least_broken set dms dsm →
    found ≡ broken_by set off since event
breaks_least set off since span dms dsm o2 o3 t event found broken is e1 e2 same =
    let moves : Option PlainBroken = moves_broken set off span o2 o3 in
    let stamps : Option PlainBroken = stamps_broken set (down_error t dms o2) (up_error t dsm o3) in
    same ∙ sym (stops (least_broken set dms dsm) (moves ∷ stamps ∷ []) broken e2)
    ∙ sym (passes (span_broken set span) (least_broken set dms dsm ∷ moves ∷ stamps ∷ []) e1)
    ∙ ap (broken_by set off since) (sym is)

pub breaks_moves : (set : PlainSet) (off : ℤ) (since : ℕ) (span dms dsm o2 o3 : ℤ) (t : List ℤ) (event : PlainEvent) (found : Option PlainBroken) (broken : PlainBroken) →
    event ≡ Exch span dms dsm o2 o3 t → span_broken set span ≡ None → least_broken set dms dsm ≡ None → moves_broken set off span o2 o3 ≡ Some broken →
    found ≡ moves_broken set off span o2 o3 → found ≡ broken_by set off since event
breaks_moves set off since span dms dsm o2 o3 t event found broken is e1 e2 e3 same =
    let least : Option PlainBroken = least_broken set dms dsm in
    let moves : Option PlainBroken = moves_broken set off span o2 o3 in
    let stamps : Option PlainBroken = stamps_broken set (down_error t dms o2) (up_error t dsm o3) in
    same ∙ sym (stops moves (stamps ∷ []) broken e3)
    ∙ sym (passes least (moves ∷ stamps ∷ []) e2)
    ∙ sym (passes (span_broken set span) (least ∷ moves ∷ stamps ∷ []) e1)
    ∙ ap (broken_by set off since) (sym is)

pub breaks_stamps : (set : PlainSet) (off : ℤ) (since : ℕ) (span dms dsm o2 o3 : ℤ) (t : List ℤ) (event : PlainEvent) (found : Option PlainBroken) →
    event ≡ Exch span dms dsm o2 o3 t → span_broken set span ≡ None → least_broken set dms dsm ≡ None → moves_broken set off span o2 o3 ≡ None →
    found ≡ stamps_broken set (down_error t dms o2) (up_error t dsm o3) → found ≡ broken_by set off since event
breaks_stamps set off since span dms dsm o2 o3 t event found is e1 e2 e3 same =
    let least : Option PlainBroken = least_broken set dms dsm in
    let moves : Option PlainBroken = moves_broken set off span o2 o3 in
    let stamps : Option PlainBroken = stamps_broken set (down_error t dms o2) (up_error t dsm o3) in
    same ∙ sym (only stamps)
    ∙ sym (passes moves (stamps ∷ []) e3)
    ∙ sym (passes least (moves ∷ stamps ∷ []) e2)
    ∙ sym (passes (span_broken set span) (least ∷ moves ∷ stamps ∷ []) e1)
    ∙ ap (broken_by set off since) (sym is)
