-- In an accepted list of events each measurement stays near the true offset: it may have moved for all the time since.
use Rattle.std.proofs.Common.{◌≡◌, ℕ, ℤ, pos, ◌+◌, ◌*◌, ◌^◌, ◌≤◌, ◌≤ℤ◌, ◌+ℤ◌, ◌-ℤ◌, unsigned_abs, List, [], ◌∷◌, map, All, None, sym, subst, arith}
use Rattle.std.proofs.lemmas.Int.{ints}
use Rattle.std.proofs.lemmas.List.Elements.{All-cons, All-weaker, All-map, All-same}
use Rattle.std.proofs.Math.Nat.{mul-le-mul_left, mul-add}
use Rattle.wrp_base.proofs.Integers.{int_plus_zero}
use Rattle.wrp_base.proofs.Naturals.{nat_le_trans, plus_zero}
use Rattle.wrp_plain.specs.declared.settings.PlainSet.{PlainSet}
use Rattle.wrp_plain.specs.declared.event.PlainEvent.{PlainEvent}
use Rattle.wrp_plain.specs.declared.event.PlainEvent.TheVariants.{Pass, Tick, Exch}
use Rattle.wrp_plain.specs.Measurement.{est_of, base_of, round_of}
use Rattle.wrp_plain.specs.Call.{Call, CallTick, CallCommand, Standing, standings}
use Rattle.wrp_plain.specs.Report.{report_of}
use Rattle.wrp_plain.specs.Event.{t1_of, t2_of, t3_of, t4_of, time_since_tick, drifts, HasFields}
use Rattle.wrp_plain.specs.Seen.{told_by, calls_of, commands, command_against, true_offset, offset_before_command}
use Rattle.wrp_plain.specs.Premises.{broken_after, Accepts}
use Rattle.wrp_plain.proofs.Bound.{measured_within_bound_holds}
use Rattle.wrp_plain.proofs.Marks.{later, moved_by, marks_before-tick, marks_before-moved}
use Rattle.wrp_plain.proofs.Judged.{KeepsPass, keeps_pass, keeps_exchange}

-- a measurement is near the true offset: what it may be more than its base off is no more than the rate gives for the
-- time since
pub record IsNear (set : PlainSet) (off : ℤ) (since : ℕ) (mark : Standing) : Type 0 where
  pub more : ℕ
  pub near : pos (unsigned_abs (mark.est -ℤ off)) ≤ℤ (mark.base +ℤ pos more)
  pub slow : more * 10 ^ 12 ≤ set.rate * (mark.ticks * unsigned_abs set.dmax + since)

further : (est off drift base : ℤ) (more : ℕ) → pos (unsigned_abs (est -ℤ off)) ≤ℤ (base +ℤ pos more) →
    pos (unsigned_abs (est -ℤ (off +ℤ drift))) ≤ℤ (base +ℤ pos (more + unsigned_abs drift))
further est off drift base more h = omega (arith, ints)

longer : (rate k since dt more drift : ℕ) → more * 10 ^ 12 ≤ rate * (k + since) → drift * 10 ^ 12 ≤ rate * dt →
    (more + drift) * 10 ^ 12 ≤ rate * (k + (dt + since))
longer rate k since dt more drift h g =
    let same : rate * ((k + since) + dt) ≡ rate * (k + since) + rate * dt = mul-add rate (k + since) dt in
    let order : k + (dt + since) ≡ (k + since) + dt = omega arith in
    rw order (omega (arith, same))

pub near-pass : (set : PlainSet) (off : ℤ) (since : ℕ) (dt drift : ℤ) → KeepsPass set since dt drift → (mark : Standing) →
    IsNear set off since mark → IsNear set (off +ℤ drift) (unsigned_abs dt + since) mark
near-pass set off since dt drift keeps mark is = record {
  more = is.more + unsigned_abs drift;
  near = further mark.est off drift mark.base is.more is.near;
  slow = longer set.rate (mark.ticks * unsigned_abs set.dmax) since (unsigned_abs dt) is.more (unsigned_abs drift) is.slow keeps.slow;
}

one_more : (ticks dmax since : ℕ) → since ≤ dmax → ticks * dmax + since ≤ (ticks + 1) * dmax
one_more ticks dmax since h = grind arith

-- by the next tick the rate gives no more than for one more tick
pub by_next : (rate ticks dmax since more : ℕ) → since ≤ dmax → more * 10 ^ 12 ≤ rate * (ticks * dmax + since) →
    more * 10 ^ 12 ≤ rate * ((ticks + 1) * dmax)
by_next rate ticks dmax since more h slow =
    nat_le_trans (more * 10 ^ 12) (rate * (ticks * dmax + since)) (rate * ((ticks + 1) * dmax)) slow (mul-le-mul_left rate (one_more ticks dmax since h))

pub near-tick : (set : PlainSet) (off : ℤ) (since : ℕ) → since ≤ unsigned_abs set.dmax → (mark : Standing) →
    IsNear set off since mark → IsNear set off 0 (later mark)
near-tick set off since h mark is = record {
  more = is.more;
  near = is.near;
  slow = rw (plus_zero ((mark.ticks + 1) * unsigned_abs set.dmax)) (by_next set.rate mark.ticks (unsigned_abs set.dmax) since is.more h is.slow);
}

both_moved : (est off by : ℤ) → (est +ℤ by) -ℤ (off +ℤ by) ≡ est -ℤ off
both_moved est off by = omega (arith, ints)

pub near-command : (set : PlainSet) (off by : ℤ) (since : ℕ) (mark : Standing) →
    IsNear set off since mark → IsNear set (off +ℤ by) since (moved_by by mark)
near-command set off by since mark is =
    let P : ℤ → Type 0 = λ a. pos (unsigned_abs a) ≤ℤ (mark.base +ℤ pos is.more) in
    record { more = is.more; near = subst P (sym (both_moved mark.est off by)) is.near; slow = is.slow }

nothing : (n : ℕ) → 0 * 10 ^ 12 ≤ n
nothing n = omega arith

pub near-measured : (set : PlainSet) (off : ℤ) (since : ℕ) (t1 t2 t3 t4 : ℤ) →
    pos (unsigned_abs (est_of t1 t2 t3 t4 -ℤ off)) ≤ℤ base_of set (round_of t1 t2 t3 t4) →
    IsNear set off since (record { est = est_of t1 t2 t3 t4 +ℤ pos 0; base = base_of set (round_of t1 t2 t3 t4); ticks = 0 })
near-measured set off since t1 t2 t3 t4 h =
    let P : ℤ → Type 0 = λ a. pos (unsigned_abs (a -ℤ off)) ≤ℤ (base_of set (round_of t1 t2 t3 t4) +ℤ pos 0) in
    let Q : ℤ → Type 0 = λ b. pos (unsigned_abs (est_of t1 t2 t3 t4 -ℤ off)) ≤ℤ b in
    record {
      more = 0;
      near = subst P (sym (int_plus_zero (est_of t1 t2 t3 t4))) (subst Q (sym (int_plus_zero (base_of set (round_of t1 t2 t3 t4)))) h);
      slow = nothing (set.rate * (0 * unsigned_abs set.dmax + since));
    }

-- all of them are
abbrev pub AreNear : PlainSet → ℤ → ℕ → List Standing → Type 0
AreNear set off since ms = All (IsNear set off since) ms

same_offset : (set : PlainSet) (a b : ℤ) (since : ℕ) (ms : List Standing) → a ≡ b → AreNear set a since ms → AreNear set b since ms
same_offset set a b since ms e are =
    let P : ℤ → Type 0 = λ off. AreNear set off since ms in
    subst P e are

pub drifted : (off moved drift by : ℤ) → ((off +ℤ moved) +ℤ by) +ℤ drift ≡ (off +ℤ (moved +ℤ drift)) +ℤ by
drifted off moved drift by = omega (arith, ints)

pub steered : (off moved by command : ℤ) → ((off +ℤ moved) +ℤ by) +ℤ command ≡ (off +ℤ moved) +ℤ (by +ℤ command)
steered off moved by command = omega (arith, ints)

-- a command moves all of them with the clock
after_command : (set : PlainSet) (off by : ℤ) (since : ℕ) (calls : List Call) →
    AreNear set off since (standings set calls) → AreNear set (off +ℤ by) since (standings set (CallCommand by ∷ calls))
after_command set off by since calls are =
    All-same (IsNear set (off +ℤ by) since) (standings set (CallCommand by ∷ calls)) (map (moved_by by) (standings set calls))
    (marks_before-moved set (pos 0) by 0 calls)
    (All-map (IsNear set (off +ℤ by) since) (moved_by by) (standings set calls)
    (All-weaker (IsNear set off since) (λ m. IsNear set (off +ℤ by) since (moved_by by m)) (near-command set off by since) (standings set calls) are))

after_tick : (set : PlainSet) (off : ℤ) (since : ℕ) (calls : List Call) → since ≤ unsigned_abs set.dmax →
    AreNear set off since (standings set calls) → AreNear set off 0 (standings set (CallTick ∷ calls))
after_tick set off since calls h are =
    All-same (IsNear set off 0) (standings set (CallTick ∷ calls)) (map later (standings set calls)) (marks_before-tick set (pos 0) 0 calls)
    (All-map (IsNear set off 0) later (standings set calls)
    (All-weaker (IsNear set off since) (λ m. IsNear set off 0 (later m)) (near-tick set off since h) (standings set calls) are))

-- the time since the last tick is at most dmax
pub since_small : (set : PlainSet) (off : ℤ) (events : List PlainEvent) → Accepts set off events →
    time_since_tick events ≤ unsigned_abs set.dmax
since_small set off [] accepted = omega arith
since_small set off (Pass dt drift ∷ events) (fields, kept, before) =
    (keeps_pass set (true_offset set off events) (time_since_tick events) dt drift kept).in_time
since_small set off (Tick ∷ events) accepted = omega arith
since_small set off (Exch span dms dsm o2 o3 t ∷ events) (fields, kept, before) = since_small set off events before

-- what the servo was given with an event is near the true offset before the command
told_near : (set : PlainSet) (off : ℤ) (events : List PlainEvent) → Accepts set off events →
    AreNear set (true_offset set off events) (time_since_tick events) (standings set (calls_of set events)) →
    (event : PlainEvent) → HasFields event → broken_after set off events event ≡ None →
    AreNear set (offset_before_command set off events event) (time_since_tick (event ∷ events)) (standings set (told_by event (calls_of set events)))
told_near set off events accepted are (Pass dt drift) fields kept =
    let now : ℤ = true_offset set off events in
    let since : ℕ = time_since_tick events in
    let keeps : KeepsPass set since dt drift = keeps_pass set now since dt drift kept in
    same_offset set (now +ℤ drift) (offset_before_command set off events (Pass dt drift)) (unsigned_abs dt + since) (standings set (calls_of set events))
    (drifted off (drifts events) drift (commands (calls_of set events)))
    (All-weaker (IsNear set now since) (IsNear set (now +ℤ drift) (unsigned_abs dt + since)) (near-pass set now since dt drift keeps) (standings set (calls_of set events)) are)
told_near set off events accepted are Tick fields kept =
    after_tick set (true_offset set off events) (time_since_tick events) (calls_of set events) (since_small set off events accepted) are
told_near set off events accepted are (Exch span dms dsm o2 o3 t) fields kept =
    let now : ℤ = true_offset set off events in
    let since : ℕ = time_since_tick events in
    let new : Standing = record { est = est_of (t1_of t) (t2_of t) (t3_of t) (t4_of t) +ℤ pos 0; base = base_of set (round_of (t1_of t) (t2_of t) (t3_of t) (t4_of t)); ticks = 0 } in
    All-cons (IsNear set now since) new (standings set (calls_of set events))
    (near-measured set now since (t1_of t) (t2_of t) (t3_of t) (t4_of t)
    (measured_within_bound_holds set now (record { dms = dms; dsm = dsm; o2 = o2; o3 = o3 }) (t1_of t) (t2_of t) (t3_of t) (t4_of t)
    (keeps_exchange set now since span dms dsm o2 o3 t fields.0.0 kept)).1)
    are

no_marks : (set : PlainSet) (off : ℤ) (since : ℕ) → AreNear set off since []
no_marks set off since k d h = absurd (omega arith)

-- after an accepted list all measurements are near the true offset
pub near : (set : PlainSet) (off : ℤ) (events : List PlainEvent) → Accepts set off events →
    AreNear set (true_offset set off events) (time_since_tick events) (standings set (calls_of set events))
near set off [] accepted = no_marks set (true_offset set off []) 0
near set off (Pass dt drift ∷ events) (fields, kept, before) =
    told_near set off events before (near set off events before) (Pass dt drift) fields kept
near set off (Tick ∷ events) (fields, kept, before) =
    told_near set off events before (near set off events before) Tick fields kept
near set off (Exch span dms dsm o2 o3 t ∷ events) (fields, kept, before) =
    let event : PlainEvent = Exch span dms dsm o2 o3 t in
    let calls : List Call = told_by event (calls_of set events) in
    let by : ℤ = command_against set (report_of set calls) in
    let told = told_near set off events before (near set off events before) event fields kept in
    same_offset set (true_offset set off events +ℤ by) (true_offset set off (event ∷ events)) (time_since_tick events) (standings set (CallCommand by ∷ calls))
    (steered off (drifts events) (commands (calls_of set events)) by)
    (after_command set (true_offset set off events) by (time_since_tick events) calls told)

pub near_told : (set : PlainSet) (off : ℤ) (events : List PlainEvent) → Accepts set off events →
    (event : PlainEvent) → HasFields event → broken_after set off events event ≡ None →
    AreNear set (offset_before_command set off events event) (time_since_tick (event ∷ events)) (standings set (told_by event (calls_of set events)))
near_told set off events accepted event fields kept = told_near set off events accepted (near set off events accepted) event fields kept
