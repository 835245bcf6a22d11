-- A servo that was in TRACK is in TRACK or HOLDOVER until the ticks of HOLDOVER have passed.
use Rattle.std.proofs.Common.{◌≡◌, ◌⊎◌, inl, inr, ◌∙◌, refl, ap, sym, subst, ℕ, zero, suc, ◌+◌, ◌-◌, ◌*◌, ◌≤◌, ◌<◌, ℤ, pos, ◌+ℤ◌, ◌≤ℤ◌, true, false, List, [], ◌∷◌, ◌++◌, arith}
use Rattle.std.proofs.lemmas.Int.{ints}
use Rattle.std.proofs.Math.Nat.{mul-le-mul_right}
use Rattle.std.proofs.lemmas.Bool.{cases_Bool, cases_lt}
use Rattle.wrp_servo.specs.Call.{Call, CallSample, CallMeasured, CallTick, CallLease, CallLink, CallCarrier, CallReset, ServoSetting, run, is_reset}
use Rattle.wrp_servo.specs.Holdover.{ticks_among, NoneResets, InHoldover, HoldoverSince}
use Rattle.wrp_servo.specs.Laws.{TrackSince}
use Rattle.wrp_servo.specs.LookBack.{enters_track, leaves_track}
use Rattle.wrp_servo.specs.Sampling.{is_holdover}
use Rattle.wrp_servo.specs.Since.{Since}
use Rattle.wrp_servo.specs.Table.{is_track}
use Rattle.wrp_servo.proofs.HoldoverLaws.{more as some_more}

-- Lists of calls

-- one call more in both of two lists
both_more : (call : Call) (calls others : List Call) → ticks_among calls ≤ ticks_among others → ticks_among (call ∷ calls) ≤ ticks_among (call ∷ others)
both_more CallTick calls others h = omega arith
both_more (CallSample n base bits) calls others h = h
both_more (CallMeasured f y) calls others h = h
both_more (CallLease fresh) calls others h = h
both_more (CallLink on) calls others h = h
both_more (CallCarrier up) calls others h = h
both_more CallReset calls others h = h

-- The servo since it was in TRACK

-- it is in TRACK, or left it no more than this many ticks ago
abbrev Stands : ServoSetting → List Call → ℕ → Type 0
Stands x calls ticks = (is_track (run x calls).state ≡ true) ⊎ ((i : InHoldover x calls) × (ticks_among i.since ≤ ticks))

track_stays : TrackSince → (x : ServoSetting) (calls : List Call) (call : Call) → is_track (run x calls).state ≡ true → leaves_track x calls call ≡ false → is_track (run x (call ∷ calls)).state ≡ true
track_stays law x calls call track stays =
    let s : Since (enters_track x) (leaves_track x) calls = (law x calls).0 track in
    (law x (call ∷ calls)).1 (record {
      since = call ∷ s.since;
      start = s.start;
      before = s.before;
      splits = ap (λ (l : List Call). call ∷ l) s.splits;
      started = s.started;
      stays = (subst (λ (l : List Call). leaves_track x l call ≡ false) s.splits stays, s.stays);
    })

stands_on : TrackSince → (x : ServoSetting) (calls : List Call) (call : Call) (ticks more : ℕ) → is_reset call ≡ false → 0 < x.set.holdover → more < x.set.holdover →
    ((since : List Call) → ticks_among since ≤ ticks → ticks_among (call ∷ since) ≤ more) → Stands x calls ticks → Stands x (call ∷ calls) more
stands_on law x calls call ticks more no_reset some few grows (inl track) =
    elim (cases_Bool (leaves_track x calls call)) [
      | inl left ↦
          inr (
            record { since = []; leave = call; before = calls; splits = refl; stood = track; left = left; no_reset = no_reset; none_since = tt; few_ticks = some },
            omega arith,
          )
      | inr stays ↦ inl (track_stays law x calls call track stays)
    ]
stands_on law x calls call ticks more no_reset some few grows (inr (i, early)) =
    let fewer : ticks_among (call ∷ i.since) ≤ more = grows i.since early in
    inr (
      record {
        since = call ∷ i.since;
        leave = i.leave;
        before = i.before;
        splits = ap (λ (l : List Call). call ∷ l) i.splits;
        stood = i.stood;
        left = i.left;
        no_reset = i.no_reset;
        none_since = (no_reset, i.none_since);
        few_ticks = omega arith;
      },
      fewer,
    )

some_ticks : (holdover a : ℕ) → a < holdover → 0 < holdover
some_ticks holdover a h = omega arith

stands_since : TrackSince → (x : ServoSetting) (since before : List Call) → is_track (run x before).state ≡ true → NoneResets since → ticks_among since < x.set.holdover → Stands x (since ++ before) (ticks_among since)
stands_since law x [] before track none few = inl track
stands_since law x (call ∷ since) before track none few =
    let less : ticks_among since ≤ ticks_among (call ∷ since) = some_more call since in
    stands_on law x (since ++ before) call (ticks_among since) (ticks_among (call ∷ since)) none.0
    (some_ticks x.set.holdover (ticks_among (call ∷ since)) few) few
    (λ others h. both_more call others since h)
    (stands_since law x since before track none.1 (omega arith))

-- TRACK or HOLDOVER
abbrev pub IsFollowed : ServoSetting → List Call → Type 0
IsFollowed x calls = (is_track (run x calls).state ≡ true) ⊎ (is_holdover (run x calls).state ≡ true)

pub followed_since : TrackSince → HoldoverSince → (x : ServoSetting) (since before : List Call) → is_track (run x before).state ≡ true → NoneResets since → ticks_among since < x.set.holdover → IsFollowed x (since ++ before)
followed_since law held x since before track none few =
    elim (stands_since law x since before track none few) [
      | inl is ↦ inl is
      | inr i ↦ inr ((held x (since ++ before) (some_ticks x.set.holdover (ticks_among since) few)).1 i.0)
    ]

-- Its ticks in true time

-- since a true time at which the servo was in TRACK it was not reset, and its ticks came at least dmin apart; the last
-- tick was at the second time
pub record Followed (x : ServoSetting) (dmin : ℕ) (at ticked : ℤ) (calls : List Call) : Type 0 where
  pub since : List Call
  pub before : List Call
  pub splits : calls ≡ since ++ before
  pub stood : is_track (run x before).state ≡ true
  pub no_reset : NoneResets since
  pub elapsed : (d : ℕ) → ticks_among since ≡ suc d → (at +ℤ pos (d * dmin)) ≤ℤ ticked

pub follows_now : (x : ServoSetting) (dmin : ℕ) (at ticked : ℤ) (calls : List Call) → is_track (run x calls).state ≡ true → Followed x dmin at ticked calls
follows_now x dmin at ticked calls track = record {
  since = [];
  before = calls;
  splits = refl;
  stood = track;
  no_reset = tt;
  elapsed = λ d e. absurd (no_tick d e);
}
  where
    no_tick : (d : ℕ) → 0 ≡ suc d → ⊥
    no_tick d e = omega (arith, e)

-- a call that is neither a tick nor a reset
abbrev pub IsCalmCall : Call → Type 0
IsCalmCall CallTick = ⊥
IsCalmCall CallReset = ⊥
IsCalmCall _ = Unit {0}

pub calm_ticks : (call : Call) (calls : List Call) → IsCalmCall call → ticks_among (call ∷ calls) ≡ ticks_among calls
calm_ticks (CallSample n base bits) calls h = refl
calm_ticks (CallMeasured f y) calls h = refl
calm_ticks (CallLease fresh) calls h = refl
calm_ticks (CallLink on) calls h = refl
calm_ticks (CallCarrier up) calls h = refl
calm_ticks CallTick calls h = absurd h
calm_ticks CallReset calls h = absurd h

calm_stays : (call : Call) → IsCalmCall call → is_reset call ≡ false
calm_stays (CallSample n base bits) h = refl
calm_stays (CallMeasured f y) h = refl
calm_stays (CallLease fresh) h = refl
calm_stays (CallLink on) h = refl
calm_stays (CallCarrier up) h = refl
calm_stays CallTick h = refl
calm_stays CallReset h = absurd h

pub follows_calm : (x : ServoSetting) (dmin : ℕ) (at ticked : ℤ) (calls : List Call) (call : Call) → IsCalmCall call → Followed x dmin at ticked calls → Followed x dmin at ticked (call ∷ calls)
follows_calm x dmin at ticked calls call calm f = record {
  since = call ∷ f.since;
  before = f.before;
  splits = ap (λ (l : List Call). call ∷ l) f.splits;
  stood = f.stood;
  no_reset = (calm_stays call calm, f.no_reset);
  elapsed = λ d e. f.elapsed d (sym (calm_ticks call f.since calm) ∙ e);
}

-- the first tick since, and one tick more
next_elapsed : (dmin d ticks : ℕ) (at ticked now : ℤ) → at ≤ℤ now → (ticked +ℤ pos dmin) ≤ℤ now → ((e : ℕ) → ticks ≡ suc e → (at +ℤ pos (e * dmin)) ≤ℤ ticked) → ticks ≡ d → (at +ℤ pos (d * dmin)) ≤ℤ now
next_elapsed dmin zero ticks at ticked now past late h e = omega (arith, ints, past)
next_elapsed dmin (suc d) ticks at ticked now past late h e =
    let before : (at +ℤ pos (d * dmin)) ≤ℤ ticked = h d e in
    omega (arith, ints, before, late)

one_less : (a d : ℕ) → a + 1 ≡ suc d → a ≡ d
one_less a d e = omega (arith, e)

pub follows_tick : (x : ServoSetting) (dmin : ℕ) (at ticked now : ℤ) (calls : List Call) → at ≤ℤ now → (ticked +ℤ pos dmin) ≤ℤ now → Followed x dmin at ticked calls → Followed x dmin at now (CallTick ∷ calls)
follows_tick x dmin at ticked now calls past late f = record {
  since = CallTick ∷ f.since;
  before = f.before;
  splits = ap (λ (l : List Call). CallTick ∷ l) f.splits;
  stood = f.stood;
  no_reset = (refl, f.no_reset);
  elapsed = λ d e. next_elapsed dmin d (ticks_among f.since) at ticked now past late f.elapsed (one_less (ticks_among f.since) d e);
}

-- the ticks of HOLDOVER, as time
enough : (dmin holdover ticks : ℕ) (at ticked : ℤ) → holdover ≤ ticks → 0 < holdover → ((e : ℕ) → ticks ≡ suc e → (at +ℤ pos (e * dmin)) ≤ℤ ticked) → (at +ℤ pos ((holdover - 1) * dmin)) ≤ℤ ticked
enough dmin holdover zero at ticked h some all = absurd (omega arith)
enough dmin holdover (suc e) at ticked h some all =
    let late : (at +ℤ pos (e * dmin)) ≤ℤ ticked = all e refl in
    let more : (holdover - 1) * dmin ≤ e * dmin = mul-le-mul_right dmin (omega arith) in
    sum at ticked ((holdover - 1) * dmin) (e * dmin) more late
  where
    sum : (at ticked : ℤ) (p q : ℕ) → p ≤ q → (at +ℤ pos q) ≤ℤ ticked → (at +ℤ pos p) ≤ℤ ticked
    sum at ticked p q more late = omega (arith, ints)

pub follows_still : TrackSince → HoldoverSince → (x : ServoSetting) (dmin : ℕ) (at ticked : ℤ) (calls : List Call) → 0 < x.set.holdover → Followed x dmin at ticked calls →
    ((at +ℤ pos ((x.set.holdover - 1) * dmin)) ≤ℤ ticked → ⊥) → IsFollowed x calls
follows_still law held x dmin at ticked calls some f early =
    elim (cases_lt (ticks_among f.since) x.set.holdover) [
      | inl few ↦ subst (IsFollowed x) (sym f.splits) (followed_since law held x f.since f.before f.stood f.no_reset few)
      | inr many ↦ absurd (early (enough dmin x.set.holdover (ticks_among f.since) at ticked many some f.elapsed))
    ]
