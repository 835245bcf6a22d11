-- What is found by a division or a search is what is said without them.
use Rattle.std.proofs.Common.{◌≡◌, ◌↔◌, ℕ, ℤ, pos, ◌+◌, ◌*◌, ◌/◌, ◌^◌, ◌<◌, ◌≤◌, ◌<ℤ◌, ◌≤ℤ◌, ◌+ℤ◌, ◌-ℤ◌, ◌*ℤ◌, unsigned_abs, Bool, true, false, not, int_lt, cond, List, [], ◌∷◌, ◌++◌, find, Option, Some, None, refl, sym, subst, ap, ◌∙◌, arith}
use Rattle.std.specs.List.{AllByRecursion, list_all}
use Rattle.std.proofs.lemmas.Int.{ints}
use Rattle.wrp_base.specs.Division.{floor_quotient, ceil_quotient}
use Rattle.wrp_base.proofs.Booleans.{and_first as left_of, and_second as right_of}
use Rattle.wrp_base.proofs.DivisionLaws.{floor_quotient-at_most, floor_quotient-next, ceil_quotient-at_least, ceil_quotient-next}
use Rattle.wrp_plain.specs.declared.settings.PlainSet.{PlainSet}
use Rattle.wrp_plain.specs.declared.settings.PlainReport.{PlainReport}
use Rattle.wrp_plain.specs.declared.event.PlainBroken.{PlainBroken}
use Rattle.wrp_plain.specs.declared.event.PlainEvent.{PlainEvent}
use Rattle.wrp_plain.specs.declared.event.PlainEvent.TheVariants.{Pass, Tick, Exch}
use Rattle.wrp_plain.specs.Measurement.{moves_within}
use Rattle.wrp_plain.specs.Report.{is_least, kept_reports}
use Rattle.wrp_plain.specs.Event.{time_since_tick}
use Rattle.wrp_plain.specs.Seen.{true_offset}
use Rattle.wrp_plain.specs.Premises.{over, below, first_broken, tick_late, rate_broken, span_broken, least_broken, move_broken, moves_broken, stamps_broken, down_error, up_error, broken_by}
use Rattle.wrp_plain.specs.Exact.{IsHalfDown, IsHalfUp, IsNewestOfLeast, KeepsExchange, Keeps, MeasurementsAreExact, EventsAreTakenExactly}
use Rattle.wrp_plain.proofs.Least.{least_chain}

-- ---- measurements

half_down : (whole : ℤ) → IsHalfDown (floor_quotient whole (pos 2)) whole
half_down whole =
    let low : (pos 2 *ℤ floor_quotient whole (pos 2)) ≤ℤ whole = floor_quotient-at_most whole (pos 2) (omega (arith, ints)) in
    let next : whole <ℤ (pos 2 *ℤ floor_quotient whole (pos 2) +ℤ pos 2) = floor_quotient-next whole (pos 2) (omega (arith, ints)) in
    (low, omega (arith, ints, next))

half_up : (whole : ℤ) → IsHalfUp (ceil_quotient whole (pos 2)) whole
half_up whole =
    let high : whole ≤ℤ (pos 2 *ℤ ceil_quotient whole (pos 2)) = ceil_quotient-at_least whole (pos 2) (omega (arith, ints)) in
    let next : (pos 2 *ℤ ceil_quotient whole (pos 2)) <ℤ (whole +ℤ pos 2) = ceil_quotient-next whole (pos 2) (omega (arith, ints)) in
    (high, omega (arith, ints, next))

at_least : (n : ℕ) → n ≤ 1000000000000 * ((n + 999999999999) / 1000000000000)
at_least n = omega arith

at_most : (n : ℕ) → 1000000000000 * ((n + 999999999999) / 1000000000000) < n + 1000000000000
at_most n = omega arith

-- what is found splits a list: nothing before it passes the test
pub record Splits {X : Type 0} (p : X → Bool) (xs : List X) (x : X) : Type 0 where
  pub before : List X
  pub behind : List X
  pub all : xs ≡ before ++ x ∷ behind
  pub fails : AllByRecursion (λ y. p y ≡ false) before
  pub passes : p x ≡ true

splits_at : {X : Type 0} (p : X → Bool) (y : X) (ys : List X) (x : X) → (find p ys ≡ Some x → Splits p ys x) →
    (test : Bool) → p y ≡ test → cond test (Some y) (find p ys) ≡ Some x → Splits p (y ∷ ys) x
splits_at p y ys x later true is e = let same : y ≡ x = cc in record { before = []; behind = ys; all = ap (λ z. z ∷ ys) same; fails = tt; passes = ap p (sym same) ∙ is }
splits_at p y ys x later false is e =
    let splits = later e in
    record { before = y ∷ splits.before; behind = splits.behind; all = ap (λ zs. y ∷ zs) splits.all; fails = (is, splits.fails); passes = splits.passes }

find_splits : {X : Type 0} (p : X → Bool) (xs : List X) (x : X) → find p xs ≡ Some x → Splits p xs x
find_splits p [] x e = absurd (cc e)
find_splits p (y ∷ ys) x e = splits_at p y ys x (find_splits p ys x) (p y) refl e

-- a report that is not the least has a greater bound than one that is
greater : (reports : List PlainReport) (least r : PlainReport) → is_least reports least ≡ true → is_least reports r ≡ false →
    (test : Bool) → int_lt least.bound r.bound ≡ test → least.bound <ℤ r.bound
greater reports least r is above true e = grind (arith, ints, e)
greater reports least r is above false e =
    let also : is_least reports r ≡ true = least_chain r.bound least.bound e reports is in
    absurd (cc)

each_greater : (reports : List PlainReport) (least : PlainReport) → is_least reports least ≡ true →
    (rs : List PlainReport) → AllByRecursion (λ r. is_least reports r ≡ false) rs → AllByRecursion (λ r. least.bound <ℤ r.bound) rs
each_greater reports least is [] all = tt
each_greater reports least is (r ∷ rs) all =
    (greater reports least r is all.0 (int_lt least.bound r.bound) refl, each_greater reports least is rs all.1)

not_below : (a b : ℤ) → not (int_lt b a) ≡ true → a ≤ℤ b
not_below a b e = grind (arith, ints)

each_not_below : (least : PlainReport) (rs : List PlainReport) → list_all (λ s. not (int_lt s.bound least.bound)) rs ≡ true →
    AllByRecursion (λ r. least.bound ≤ℤ r.bound) rs
each_not_below least [] all = tt
each_not_below least (r ∷ rs) all =
    (not_below least.bound r.bound (left_of _ _ all), each_not_below least rs (right_of _ _ all))

behind : (P : PlainReport → Type 0) (xs ys : List PlainReport) → AllByRecursion P (xs ++ ys) → AllByRecursion P ys
behind P [] ys all = all
behind P (x ∷ xs) ys all = behind P xs ys all.1

newest_of_least : (reports : List PlainReport) (report : PlainReport) → find (is_least reports) reports ≡ Some report → IsNewestOfLeast reports report
newest_of_least reports report e =
    let splits = find_splits (is_least reports) reports report e in
    let P : PlainReport → Type 0 = λ r. report.bound ≤ℤ r.bound in
    let each : AllByRecursion P reports = each_not_below report reports splits.passes in
    let Each : List PlainReport → Type 0 = λ rs. AllByRecursion P rs in
    record {
      newer = splits.before;
      older = splits.behind;
      all = splits.all;
      above = each_greater reports report splits.passes splits.before splits.fails;
      not_below = (behind P splits.before (report ∷ splits.behind) (subst Each splits.all each)).1;
    }

pub measurements_are_exact : MeasurementsAreExact
measurements_are_exact = record {
  est = λ t1 t2 t3 t4. half_down ((t2 -ℤ t1) -ℤ (t4 -ℤ t3));
  base = λ set round. (ceil_quotient round (pos 2), half_up round, refl);
  moves_at_least = λ rate time. at_least (rate * time);
  moves_at_most = λ rate time. at_most (rate * time);
  newest = λ set calls report e. newest_of_least (kept_reports set calls) report e;
  worked = refl;
}

-- ---- events

-- nothing is reported only if a test fails
from_none : {X : Type 0} (b : Bool) (x : X) → cond b (Some x) None ≡ None → b ≡ false
from_none true x e = absurd (cc e)
from_none false x e = refl

to_none : {X : Type 0} (b : Bool) (x : X) → b ≡ false → cond b (Some x) None ≡ None
to_none true x e = absurd (cc e)
to_none false x e = refl

kept_over : (premise : ℕ) (shown bound : ℤ) → over premise shown bound ≡ None → shown ≤ℤ bound
kept_over premise shown bound e = let fails : int_lt bound shown ≡ false = from_none _ _ e in grind (arith, ints, fails)

over_kept : (premise : ℕ) (shown bound : ℤ) → shown ≤ℤ bound → over premise shown bound ≡ None
over_kept premise shown bound h = let fails : int_lt bound shown ≡ false = grind (arith, ints, h) in to_none _ _ fails

kept_below : (premise : ℕ) (shown bound : ℤ) → below premise shown bound ≡ None → bound ≤ℤ shown
kept_below premise shown bound e = let fails : int_lt shown bound ≡ false = from_none _ _ e in grind (arith, ints, fails)

below_kept : (premise : ℕ) (shown bound : ℤ) → bound ≤ℤ shown → below premise shown bound ≡ None
below_kept premise shown bound h = let fails : int_lt shown bound ≡ false = grind (arith, ints, h) in to_none _ _ fails

first_none : (a : Option PlainBroken) (later : List (Option PlainBroken)) → first_broken (a ∷ later) ≡ None → (a ≡ None) × (first_broken later ≡ None)
first_none None later e = (refl, e)
first_none (Some broken) later e = absurd (cc e)

both_none : (a b : Option PlainBroken) → first_broken (a ∷ b ∷ []) ≡ None → (a ≡ None) × (b ≡ None)
both_none a b e = let first = first_none a (b ∷ []) e in (first.0, (first_none b [] first.1).0)

none_first : (a : Option PlainBroken) (later : List (Option PlainBroken)) → a ≡ None → first_broken later ≡ None → first_broken (a ∷ later) ≡ None
none_first None later e rest = rest
none_first (Some broken) later e rest = absurd (cc e)

none_both : (a b : Option PlainBroken) → a ≡ None → b ≡ None → first_broken (a ∷ b ∷ []) ≡ None
none_both a b at_a at_b = none_first a (b ∷ []) at_a (none_first b [] at_b refl)

-- four lists of premises, one after another
all_none : (a b c d : Option PlainBroken) → first_broken (a ∷ b ∷ c ∷ d ∷ []) ≡ None → (a ≡ None) × (b ≡ None) × (c ≡ None) × (d ≡ None)
all_none a b c d e =
    let first = first_none a (b ∷ c ∷ d ∷ []) e in
    let second = first_none b (c ∷ d ∷ []) first.1 in
    let third = both_none c d second.1 in (first.0, second.0, third.0, third.1)

none_all : (a b c d : Option PlainBroken) → a ≡ None → b ≡ None → c ≡ None → d ≡ None → first_broken (a ∷ b ∷ c ∷ d ∷ []) ≡ None
none_all a b c d at_a at_b at_c at_d = none_first a (b ∷ c ∷ d ∷ []) at_a (none_first b (c ∷ d ∷ []) at_b (none_both c d at_c at_d))

naturals : (a b : ℕ) → pos a ≤ℤ pos b → a ≤ b
naturals a b h = omega (arith, ints, h)

integers : (a b : ℕ) → a ≤ b → pos a ≤ℤ pos b
integers a b h = omega (arith, ints, h)

pass_keeps : (set : PlainSet) (since : ℕ) (dt drift : ℤ) →
    first_broken (tick_late set since dt ∷ rate_broken set dt drift ∷ []) ≡ None → (pos (unsigned_abs dt + since) ≤ℤ set.dmax) × (unsigned_abs drift * 10 ^ 12 ≤ set.rate * unsigned_abs dt)
pass_keeps set since dt drift e =
    let both = both_none (tick_late set since dt) (rate_broken set dt drift) e in (
      kept_over 1 (pos (unsigned_abs dt + since)) set.dmax both.0,
      naturals (unsigned_abs drift * 10 ^ 12) (set.rate * unsigned_abs dt) (kept_over 2 (pos (unsigned_abs drift * 10 ^ 12)) (pos (set.rate * unsigned_abs dt)) both.1),
    )

exchange_keeps : (set : PlainSet) (off took dms dsm o2 o3 : ℤ) (t : List ℤ) →
    first_broken (span_broken set took ∷ least_broken set dms dsm ∷ moves_broken set off took o2 o3 ∷ stamps_broken set (down_error t dms o2) (up_error t dsm o3) ∷ []) ≡ None →
    KeepsExchange set off took dms dsm o2 o3 t
exchange_keeps set off took dms dsm o2 o3 t e =
    let all = all_none (span_broken set took) (least_broken set dms dsm) (moves_broken set off took o2 o3) (stamps_broken set (down_error t dms o2) (up_error t dsm o3)) e in
    let least = both_none (below 4 dms set.least) (below 4 dsm set.least) all.1 in
    let moves = both_none (move_broken set off took o2) (move_broken set off took o3) all.2 in
    let stamps = both_none (over 6 (pos (unsigned_abs (down_error t dms o2))) (pos (2 * set.err))) (over 6 (pos (unsigned_abs (up_error t dsm o3))) (pos (2 * set.err))) all.3 in
    let move = λ (at : ℤ). unsigned_abs (at -ℤ off) in
    let limit = moves_within set.rate (unsigned_abs took) in
    record {
      span = kept_over 3 took set.span all.0;
      least_down = kept_below 4 dms set.least least.0;
      least_up = kept_below 4 dsm set.least least.1;
      moved_down = naturals (move o2) limit (kept_over 5 (pos (move o2)) (pos limit) moves.0);
      moved_up = naturals (move o3) limit (kept_over 5 (pos (move o3)) (pos limit) moves.1);
      stamps_down = naturals (unsigned_abs (down_error t dms o2)) (2 * set.err) (kept_over 6 (pos (unsigned_abs (down_error t dms o2))) (pos (2 * set.err)) stamps.0);
      stamps_up = naturals (unsigned_abs (up_error t dsm o3)) (2 * set.err) (kept_over 6 (pos (unsigned_abs (up_error t dsm o3))) (pos (2 * set.err)) stamps.1);
    }

kept_exchange : (set : PlainSet) (off took dms dsm o2 o3 : ℤ) (t : List ℤ) → KeepsExchange set off took dms dsm o2 o3 t →
    first_broken (span_broken set took ∷ least_broken set dms dsm ∷ moves_broken set off took o2 o3 ∷ stamps_broken set (down_error t dms o2) (up_error t dsm o3) ∷ []) ≡ None
kept_exchange set off took dms dsm o2 o3 t keeps =
    let limit = moves_within set.rate (unsigned_abs took) in
    none_all (span_broken set took) (least_broken set dms dsm) (moves_broken set off took o2 o3) (stamps_broken set (down_error t dms o2) (up_error t dsm o3))
    (over_kept 3 took set.span keeps.span)
    (none_both (below 4 dms set.least) (below 4 dsm set.least) (below_kept 4 dms set.least keeps.least_down) (below_kept 4 dsm set.least keeps.least_up))
    (none_both (move_broken set off took o2) (move_broken set off took o3)
    (over_kept 5 (pos (unsigned_abs (o2 -ℤ off))) (pos limit) (integers (unsigned_abs (o2 -ℤ off)) limit keeps.moved_down))
    (over_kept 5 (pos (unsigned_abs (o3 -ℤ off))) (pos limit) (integers (unsigned_abs (o3 -ℤ off)) limit keeps.moved_up)))
    (none_both (over 6 (pos (unsigned_abs (down_error t dms o2))) (pos (2 * set.err))) (over 6 (pos (unsigned_abs (up_error t dsm o3))) (pos (2 * set.err)))
    (over_kept 6 (pos (unsigned_abs (down_error t dms o2))) (pos (2 * set.err)) (integers (unsigned_abs (down_error t dms o2)) (2 * set.err) keeps.stamps_down))
    (over_kept 6 (pos (unsigned_abs (up_error t dsm o3))) (pos (2 * set.err)) (integers (unsigned_abs (up_error t dsm o3)) (2 * set.err) keeps.stamps_up)))

taken_exactly : (set : PlainSet) (off : ℤ) (since : ℕ) (event : PlainEvent) → (broken_by set off since event ≡ None) ↔ Keeps set off since event
taken_exactly set off since (Pass dt drift) = (
  λ e. pass_keeps set since dt drift e,
  λ keeps. none_both (tick_late set since dt) (rate_broken set dt drift)
      (over_kept 1 (pos (unsigned_abs dt + since)) set.dmax keeps.0)
      (over_kept 2 (pos (unsigned_abs drift * 10 ^ 12)) (pos (set.rate * unsigned_abs dt)) (integers (unsigned_abs drift * 10 ^ 12) (set.rate * unsigned_abs dt) keeps.1)),
)
taken_exactly set off since Tick = (λ e. tt, λ keeps. refl)
taken_exactly set off since (Exch took dms dsm o2 o3 t) =
    (λ e. exchange_keeps set off took dms dsm o2 o3 t e, λ keeps. kept_exchange set off took dms dsm o2 o3 t keeps)

pub events_are_taken_exactly : EventsAreTakenExactly
events_are_taken_exactly set off events event = taken_exactly set (true_offset set off events) (time_since_tick events) event
