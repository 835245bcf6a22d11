-- What the report of an accepted event is worth.
use Rattle.std.proofs.Common.{◌≡◌, ◌≢◌, ℕ, zero, suc, ℤ, pos, ◌+◌, ◌*◌, ◌/◌, ◌≤◌, ◌≤ℤ◌, ◌+ℤ◌, ◌-ℤ◌, unsigned_abs, Bool, true, false, not, int_lt, cond, List, [], ◌∷◌, take, find, All, Contains, Option, Some, None, IfSome, refl, subst, arith}
use Rattle.std.specs.List.{list_all}
use Rattle.std.proofs.lemmas.Int.{ints}
use Rattle.std.proofs.lemmas.List.Elements.{All-cons, All-weaker, All-map, All-take, All-contains}
use Rattle.wrp_base.proofs.Booleans.{and_first, and_second}
use Rattle.wrp_plain.specs.declared.settings.PlainSet.{PlainSet}
use Rattle.wrp_plain.specs.declared.settings.PlainReport.{PlainReport}
use Rattle.wrp_plain.specs.declared.event.PlainEvent.{PlainEvent}
use Rattle.wrp_plain.specs.declared.event.PlainEvent.TheVariants.{Pass, Tick, Exch}
use Rattle.wrp_plain.specs.Measurement.{HasRanges, moves_within, est_of, base_of, round_of}
use Rattle.wrp_plain.specs.Call.{Call, CallTick, Standing, standings}
use Rattle.wrp_plain.specs.Report.{report_at, is_least, least_report, report_of, kept_reports}
use Rattle.wrp_plain.specs.Event.{t1_of, t2_of, t3_of, t4_of, time_since_tick, HasFields}
use Rattle.wrp_plain.specs.Seen.{told_by, calls_of, true_offset, offset_before_command, seen_of}
use Rattle.wrp_plain.specs.Premises.{broken_after, Accepts}
use Rattle.wrp_plain.specs.World.{IsWithinBound, IsLeastOf, TellsTruth}
use Rattle.wrp_plain.proofs.Least.{least_report_some}
use Rattle.wrp_plain.proofs.Judged.{is_long}
use Rattle.wrp_plain.proofs.Near.{IsNear, AreNear, by_next, since_small, near_told}

rounded_up : (n more : ℕ) → more * 1000000000000 ≤ n → more ≤ (n + 999999999999) / 1000000000000
rounded_up n more h = omega arith

widened : (a : ℕ) (base : ℤ) (more bound : ℕ) → pos a ≤ℤ (base +ℤ pos more) → more ≤ bound → pos a ≤ℤ (base +ℤ pos bound)
widened a base more bound h k = omega (arith, ints)

-- what is near is within the bound of its report
pub within : (set : PlainSet) (off : ℤ) (since : ℕ) → since ≤ unsigned_abs set.dmax → (mark : Standing) → IsNear set off since mark →
    IsWithinBound off (report_at set mark)
within set off since h mark is =
    widened (unsigned_abs (mark.est -ℤ off)) mark.base is.more (moves_within set.rate ((mark.ticks + 1) * unsigned_abs set.dmax)) is.near
    (rounded_up (set.rate * ((mark.ticks + 1) * unsigned_abs set.dmax)) is.more
    (by_next set.rate mark.ticks (unsigned_abs set.dmax) since is.more h is.slow))

all_within : (set : PlainSet) (off : ℤ) (since : ℕ) (calls : List Call) → since ≤ unsigned_abs set.dmax →
    AreNear set off since (standings set calls) → All (IsWithinBound off) (kept_reports set calls)
all_within set off since calls h are =
    All-map (IsWithinBound off) (report_at set) (take set.ring (standings set calls))
    (All-take (λ m. IsWithinBound off (report_at set m)) set.ring (standings set calls)
    (All-weaker (IsNear set off since) (λ m. IsWithinBound off (report_at set m)) (within set off since h) (standings set calls) are))

-- what is found is in the list, and passes
contains_later : {X : Type 0} (y : X) (ys : List X) (x : X) → Contains ys x → Contains (y ∷ ys) x
contains_later y ys x (k, h, e) = (suc k, omega arith, e)

contains_first : {X : Type 0} (ys : List X) (x : X) → Contains (x ∷ ys) x
contains_first ys x = (zero, omega arith, refl)

found_at : {X : Type 0} (p : X → Bool) (y : X) (ys : List X) (x : X) → (find p ys ≡ Some x → Contains ys x) → (test : Bool) →
    cond test (Some y) (find p ys) ≡ Some x → Contains (y ∷ ys) x
found_at {X} p y ys x behind true e =
    let P : X → Type 0 = λ z. Contains (y ∷ ys) z in
    let same : y ≡ x = cc in
    subst P same (contains_first ys y)
found_at p y ys x behind false e = contains_later y ys x (behind e)

pub found : {X : Type 0} (p : X → Bool) (xs : List X) (x : X) → find p xs ≡ Some x → Contains xs x
found p [] x e = absurd (cc e)
found p (y ∷ ys) x e = found_at p y ys x (found p ys x) (p y) e

passed_at : {X : Type 0} (p : X → Bool) (y : X) (ys : List X) (x : X) → (find p ys ≡ Some x → p x ≡ true) → (test : Bool) → p y ≡ test →
    cond test (Some y) (find p ys) ≡ Some x → p x ≡ true
passed_at {X} p y ys x behind true is e =
    let P : X → Type 0 = λ z. p z ≡ true in
    let same : y ≡ x = cc in
    subst P same is
passed_at p y ys x behind false is e = behind e

passed : {X : Type 0} (p : X → Bool) (xs : List X) (x : X) → find p xs ≡ Some x → p x ≡ true
passed p [] x e = absurd (cc e)
passed p (y ∷ ys) x e = passed_at p y ys x (passed p ys x) (p y) refl e

not_less : (a b : ℤ) → not (int_lt a b) ≡ true → b ≤ℤ a
not_less a b h = grind (arith, ints)

nothing_less : (report : PlainReport) → All (λ (r : PlainReport). report.bound ≤ℤ r.bound) []
nothing_less report k d below = absurd (omega arith)

none_less : (reports : List PlainReport) (report : PlainReport) → is_least reports report ≡ true → All (λ r. report.bound ≤ℤ r.bound) reports
none_less [] report h = nothing_less report
none_less (r ∷ rs) report h =
    All-cons (λ (s : PlainReport). report.bound ≤ℤ s.bound) r rs
    (not_less r.bound report.bound (and_first (not (int_lt r.bound report.bound)) (list_all (λ (s : PlainReport). not (int_lt s.bound report.bound)) rs) h))
    (none_less rs report (and_second (not (int_lt r.bound report.bound)) (list_all (λ (s : PlainReport). not (int_lt s.bound report.bound)) rs) h))

-- the expected report keeps its bound, and has the least one
least_within : (off : ℤ) (reports : List PlainReport) → All (IsWithinBound off) reports → (o : Option PlainReport) → least_report reports ≡ o →
    IfSome o (IsWithinBound off)
least_within off reports all None e = tt
least_within off reports all (Some report) e =
    All-contains (IsWithinBound off) reports report all (found (is_least reports) reports report e)

least_of : (reports : List PlainReport) (o : Option PlainReport) → least_report reports ≡ o → IfSome o (IsLeastOf reports)
least_of reports None e = tt
least_of reports (Some report) e =
    (found (is_least reports) reports report e, none_less reports report (passed (is_least reports) reports report e))

pub some_kept : (n : ℕ) (m : Standing) (ms : List Standing) → 1 ≤ n → take n (m ∷ ms) ≢ []
some_kept zero m ms h e = absurd (omega arith)
some_kept (suc n) m ms h e = cc

-- what an accepted event gives is true
pub tells_truth : (set : PlainSet) (off : ℤ) (events : List PlainEvent) → HasRanges set → Accepts set off events →
    (event : PlainEvent) → HasFields event → broken_after set off events event ≡ None →
    TellsTruth set events event (seen_of set off events event)
tells_truth set off events ranges accepted (Pass dt drift) fields kept = record { within = tt; least = tt; never_short = tt }
tells_truth set off events ranges accepted Tick fields kept =
    let calls : List Call = CallTick ∷ calls_of set events in
    let small : Accepts set off (Tick ∷ events) = (fields, kept, accepted) in
    let all = all_within set (offset_before_command set off events Tick) 0 calls (since_small set off (Tick ∷ events) small) (near_told set off events accepted Tick fields kept) in
    record {
      within = least_within (offset_before_command set off events Tick) (kept_reports set calls) all (report_of set calls) refl;
      least = least_of (kept_reports set calls) (report_of set calls) refl;
      never_short = tt;
    }
tells_truth set off events ranges accepted (Exch span dms dsm o2 o3 t) fields kept =
    let event : PlainEvent = Exch span dms dsm o2 o3 t in
    let calls : List Call = told_by event (calls_of set events) in
    let all = all_within set (offset_before_command set off events event) (time_since_tick events) calls (since_small set off events accepted) (near_told set off events accepted event fields kept) in
    let new : Standing = record { est = est_of (t1_of t) (t2_of t) (t3_of t) (t4_of t) +ℤ pos 0; base = base_of set (round_of (t1_of t) (t2_of t) (t3_of t) (t4_of t)); ticks = 0 } in
    record {
      within = least_within (offset_before_command set off events event) (kept_reports set calls) all (report_of set calls) refl;
      least = least_of (kept_reports set calls) (report_of set calls) refl;
      never_short = (
        is_long set (true_offset set off events) (time_since_tick events) span dms dsm o2 o3 t fields.0.0 kept,
        least_report_some set (take set.ring (standings set calls)) (some_kept set.ring new (standings set (calls_of set events)) ranges.ring.0),
      );
    }
