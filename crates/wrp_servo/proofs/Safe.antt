-- The sizes stay, one call after another.
use Rattle.std.proofs.Common.{◌≡◌, refl, ◌∙◌, sym, ℕ, ℤ, pos, ◌^◌, ◌<◌, ◌≤◌, ◌≤ℤ◌, ◌<ℤ◌, ◌-◌, ◌+ℤ◌, ◌-ℤ◌, neg_ℤ, unsigned_abs, Bool, true, false, cond, ◌&&◌, nat_le, is_some, Option, None, Some, IfSome, subst, arith}
use Rattle.std.specs.Prelude.{int_le}
use Rattle.std.proofs.lemmas.Int.{ints, clamps}
use Rattle.std.proofs.lemmas.Bool.Decides.{nat_tests}
use Rattle.wrp_base.specs.declared.time.Clock.{Clock}
use Rattle.wrp_base.specs.declared.time.Clock.TheVariants.{Mhz125, Mhz62}
use Rattle.wrp_base.specs.declared.link.Deltas.{Deltas}
use Rattle.wrp_base.specs.declared.link.ServoState.{ServoState}
use Rattle.wrp_base.specs.declared.link.ServoState.TheVariants.{Uninit, SyncTai, SyncNsec, SyncPhase, WaitStable, Track, Holdover}
use Rattle.wrp_base.specs.declared.measurement.Four.{Four}
use Rattle.wrp_base.proofs.Booleans.{and_first, and_second}
use Rattle.wrp_phase.specs.Unwrapping.{added_by}
use Rattle.wrp_phase.specs.Beat.{phase_of}
use Rattle.wrp_phase.proofs.UnwrapLaws.{brought_round-is}
use Rattle.wrp_servo.specs.declared.machine.Measurement.{Measurement}
use Rattle.wrp_servo.specs.declared.machine.Core.{Core}
use Rattle.wrp_servo.specs.Following.{e_tau, moved_toward, restarted}
use Rattle.wrp_servo.specs.Table.{is_past_gap, is_old, is_track, one_tick, ended_in, ended, uninit_outside_holdover, ended_by_gap, ended_by_age, by_tick, holdover_ticked, carrier_gone, with_link, with_lease, with_carrier, linked, restarted_outside_holdover, new_core}
use Rattle.wrp_servo.specs.Sampling.{hears, good_tag, is_far, is_calm, is_within, residual, with_tag, with_last, followed, stays_near, judged, judged_in, chained, may_start, good, heard, lost, est_of}
use Rattle.wrp_servo.specs.Measuring.{deltas_in_chain, is_in, x_of, kept_of, may_track, answered, placed, placed_in, aimed, by_period, settled, stepped, is_half, is_below_second, half_period}
use Rattle.wrp_servo.specs.Call.{Call, CallSample, CallMeasured, CallTick, CallLease, CallLink, CallCarrier, CallReset, ServoSetting, after}
use Rattle.wrp_servo.specs.Sizes.{HasRoom, FitsFour, FitsSet, IsSafe}
use Rattle.wrp_servo.proofs.Sized.{within_says, half_keeps, goal_keeps}
use Rattle.wrp_servo.proofs.Rooms.{zero_or}

-- ---- a servo with the same numbers, or fewer

record Less (v w : Core) : Type 0 where
  set : w.set ≡ v.set
  answer : w.phase.unwrap.answer ≡ v.phase.unwrap.answer
  u : w.phase.u ≡ v.phase.u
  s : w.phase.s ≡ v.phase.s
  goal : w.phase.goal ≡ v.phase.goal
  kept : IfSome v.kept FitsFour → IfSome w.kept FitsFour

-- the same numbers and no four
none : (v w : Core) → w.set ≡ v.set → w.phase.unwrap.answer ≡ v.phase.unwrap.answer → w.phase.u ≡ v.phase.u → w.phase.s ≡ v.phase.s → w.phase.goal ≡ v.phase.goal → w.kept ≡ None → Less v w
none v w a c d e f k = record { set = a; answer = c; u = d; s = e; goal = f; kept = λ h. subst (λ (o : Option Measurement). IfSome o FitsFour) (sym k) tt }

same : (v w : Core) → w.set ≡ v.set → w.phase.unwrap.answer ≡ v.phase.unwrap.answer → w.phase.u ≡ v.phase.u → w.phase.s ≡ v.phase.s → w.phase.goal ≡ v.phase.goal → w.kept ≡ v.kept → Less v w
same v w a c d e f k = record { set = a; answer = c; u = d; s = e; goal = f; kept = λ h. subst (λ (o : Option Measurement). IfSome o FitsFour) (sym k) h }

either : (v : Core) (b : Bool) (w z : Core) → Less v w → Less v z → Less v (cond b w z)
either v true w z h k = h
either v false w z h k = k

then : (v w z : Core) → Less v w → Less w z → Less v z
then v w z h k = record { set = k.set ∙ h.set; answer = k.answer ∙ h.answer; u = k.u ∙ h.u; s = k.s ∙ h.s; goal = k.goal ∙ h.goal; kept = λ p. k.kept (h.kept p) }

safe : (v w : Core) → Less v w → IsSafe v → IsSafe w
safe v w l i = record {
  sized = record {
    answer = subst (λ (z : ℤ). unsigned_abs z < 2 ^ 60) (sym l.answer) i.sized.answer;
    u = subst (λ (z : ℤ). unsigned_abs z < 2 ^ 61) (sym l.u) i.sized.u;
    room = record {
      s = subst (λ (z : ℤ). unsigned_abs z ≤ 2 ^ 62) (sym l.s) i.sized.room.s;
      goal = subst (λ (z : ℤ). unsigned_abs z ≤ 2 ^ 62) (sym l.goal) i.sized.room.goal;
      least = subst (λ s. pos 0 ≤ℤ s.phase_step) (sym l.set) i.sized.room.least;
      most = subst (λ s. s.phase_step ≤ℤ pos (2 ^ 30)) (sym l.set) i.sized.room.most;
      kept = l.kept i.sized.room.kept;
    };
  };
  set = subst FitsSet (sym l.set) i.set;
}

ended-less : (v : Core) (s : ServoState) → Less (record v { state = s }) (ended (record v { state = s }))
ended-less v Track = either _ (is_some v.first) (ended_in (record v { state = Track }) Track) (record v { state = Track }) (none _ _ refl refl refl refl refl refl) (same _ _ refl refl refl refl refl refl)
ended-less v SyncNsec = either _ (is_some v.first) (ended_in (record v { state = SyncNsec }) SyncNsec) (record v { state = SyncNsec }) (none _ _ refl refl refl refl refl refl) (same _ _ refl refl refl refl refl refl)
ended-less v SyncPhase = either _ (is_some v.first) (ended_in (record v { state = SyncPhase }) SyncPhase) (record v { state = SyncPhase }) (none _ _ refl refl refl refl refl refl) (same _ _ refl refl refl refl refl refl)
ended-less v WaitStable = either _ (is_some v.first) (ended_in (record v { state = WaitStable }) WaitStable) (record v { state = WaitStable }) (none _ _ refl refl refl refl refl refl) (same _ _ refl refl refl refl refl refl)
ended-less v Uninit = either _ (is_some v.first) (ended_in (record v { state = Uninit }) Uninit) (record v { state = Uninit }) (none _ _ refl refl refl refl refl refl) (same _ _ refl refl refl refl refl refl)
ended-less v SyncTai = either _ (is_some v.first) (ended_in (record v { state = SyncTai }) SyncTai) (record v { state = SyncTai }) (none _ _ refl refl refl refl refl refl) (same _ _ refl refl refl refl refl refl)
ended-less v Holdover = either _ (is_some v.first) (ended_in (record v { state = Holdover }) Holdover) (record v { state = Holdover }) (none _ _ refl refl refl refl refl refl) (same _ _ refl refl refl refl refl refl)

end-less : (v : Core) → Less v (ended v)
end-less v = ended-less v v.state

pub end-safe : (v : Core) → IsSafe v → IsSafe (ended v)
end-safe v = safe v (ended v) (end-less v)

uninit_outside_holdover-safe : (v : Core) (s : ServoState) → IsSafe v → IsSafe (uninit_outside_holdover (record v { state = s }) s)
uninit_outside_holdover-safe v Holdover i = safe v (record v { state = Holdover }) (same _ _ refl refl refl refl refl refl) i
uninit_outside_holdover-safe v _ i = safe v (record v { state = Uninit }) (same _ _ refl refl refl refl refl refl) i

linked-less : (v : Core) (s : ServoState) → Less v (linked (record v { state = s }) s)
linked-less v Uninit = same _ _ refl refl refl refl refl refl
linked-less v _ = same _ _ refl refl refl refl refl refl

linked-safe : (v : Core) (s : ServoState) → IsSafe v → IsSafe (linked (record v { state = s }) s)
linked-safe v s = safe v (linked (record v { state = s }) s) (linked-less v s)

rests : (v : Core) (state : ServoState) → IsSafe v → IsSafe (record v { state = state; phase = restarted v.phase })
rests v state i = record {
  sized = record { answer = omega (arith, ints); u = i.sized.u; room = record { s = i.sized.room.s; goal = i.sized.room.goal; least = i.sized.room.least; most = i.sized.room.most; kept = i.sized.room.kept } };
  set = i.set;
}

restarted_outside_holdover-safe : (v : Core) (s : ServoState) → IsSafe v → IsSafe (restarted_outside_holdover (record v { state = s }) s)
restarted_outside_holdover-safe v Holdover i = safe v (record v { state = Holdover }) (same _ _ refl refl refl refl refl refl) i
restarted_outside_holdover-safe v Uninit i = rests v Uninit i
restarted_outside_holdover-safe v SyncTai i = rests v SyncTai i
restarted_outside_holdover-safe v SyncNsec i = rests v SyncNsec i
restarted_outside_holdover-safe v SyncPhase i = rests v SyncPhase i
restarted_outside_holdover-safe v WaitStable i = rests v WaitStable i
restarted_outside_holdover-safe v Track i = rests v Track i

-- ---- a good sample

bounded : (z : ℤ) (half : ℕ) → half ≤ 2 ^ 29 → neg_ℤ (pos half) ≤ℤ z → z <ℤ pos half → unsigned_abs z ≤ 2 ^ 29
bounded z half h least most = omega (arith, ints)

added-small : (clock : Clock) (before : Option ℕ) (tag : ℕ) → unsigned_abs (added_by clock before tag) ≤ 2 ^ 29
added-small clock None tag = omega (arith, ints)
added-small Mhz125 (Some b) tag =
    let (i, j, is, least, most) = brought_round-is Mhz125 (pos (phase_of Mhz125 tag) -ℤ pos (phase_of Mhz125 b)) in
    bounded (added_by Mhz125 (Some b) tag) 262_144_000 (omega arith) least most
added-small Mhz62 (Some b) tag =
    let (i, j, is, least, most) = brought_round-is Mhz62 (pos (phase_of Mhz62 tag) -ℤ pos (phase_of Mhz62 b)) in
    bounded (added_by Mhz62 (Some b) tag) 524_288_000 (omega arith) least most

sum-small : (a b : ℤ) → unsigned_abs a < 2 ^ 60 → unsigned_abs b ≤ 2 ^ 29 → unsigned_abs (a +ℤ b) < 2 ^ 61
sum-small a b h k = omega (arith, ints)

not_far : (u : ℤ) → is_far u ≡ false → unsigned_abs u < 2 ^ 60
not_far u h = grind (arith, nat_tests)

moved-small : (step s goal : ℤ) → pos 0 ≤ℤ step → unsigned_abs s ≤ 2 ^ 62 → unsigned_abs goal ≤ 2 ^ 62 → unsigned_abs (moved_toward step s goal) ≤ 2 ^ 62
moved-small step s goal h a b = omega (arith, ints, clamps)

-- what holds of a servo right after it took a tag: u alone may be too large
record Taken (w : Core) : Type 0 where
  u : unsigned_abs w.phase.u < 2 ^ 61
  answer : w.phase.unwrap.answer ≡ w.phase.u
  room : HasRoom w
  set : FitsSet w.set

takes : (v : Core) (tag : ℕ) → IsSafe v → Taken (with_tag v tag)
takes v tag i = record {
  u = sum-small v.phase.unwrap.answer (added_by v.phase.unwrap.clock v.phase.unwrap.last tag) i.sized.answer (added-small v.phase.unwrap.clock v.phase.unwrap.last tag);
  answer = refl;
  room = record { s = zero_or v.phase.fresh v.phase.s i.sized.room.s; goal = zero_or v.phase.fresh v.phase.goal i.sized.room.goal; least = i.sized.room.least; most = i.sized.room.most; kept = i.sized.room.kept };
  set = i.set;
}

judged-less : (v : Core) (s : ServoState) → Less v (judged_in (record v { state = s }) s)
judged-less v SyncPhase = either v (int_le v.phase.s v.phase.goal && int_le v.phase.goal v.phase.s) (record v { state = WaitStable; calm = 0 }) (record v { state = SyncPhase }) (same _ _ refl refl refl refl refl refl) (same _ _ refl refl refl refl refl refl)
judged-less v Track = either v (stays_near (record v { state = Track })) (record v { state = Track }) (ended (record v { state = Track })) (same _ _ refl refl refl refl refl refl) (then v (record v { state = Track }) (ended (record v { state = Track })) (same _ _ refl refl refl refl refl refl) (ended-less v Track))
judged-less v _ = same _ _ refl refl refl refl refl refl

chained-less : (v : Core) (n : ℕ) → Less v (chained v n)
chained-less v n =
    either v v.phase.lock.locked (cond (may_start v) (record v { first = Some n }) v) (ended v)
    (either v (may_start v) (record v { first = Some n }) v (same _ _ refl refl refl refl refl refl) (same _ _ refl refl refl refl refl refl))
    (end-less v)

lost-safe : (w : Core) → Taken w → IsSafe (lost w)
lost-safe w t =
    let l : Less w (ended w) = end-less w in
    record {
      sized = record {
        answer = omega (arith, ints);
        u = subst (λ (z : ℤ). unsigned_abs z < 2 ^ 61) (sym l.u) t.u;
        room = record {
          s = subst (λ (z : ℤ). unsigned_abs z ≤ 2 ^ 62) (sym l.s) t.room.s;
          goal = subst (λ (z : ℤ). unsigned_abs z ≤ 2 ^ 62) (sym l.goal) t.room.goal;
          least = subst (λ s. pos 0 ≤ℤ s.phase_step) (sym l.set) t.room.least;
          most = subst (λ s. s.phase_step ≤ℤ pos (2 ^ 30)) (sym l.set) t.room.most;
          kept = l.kept t.room.kept;
        };
      };
      set = subst FitsSet (sym l.set) t.set;
    }

followed-safe : (w : Core) → Taken w → is_far w.phase.u ≡ false → IsSafe (followed w)
followed-safe w t near = record {
  sized = record {
    answer = subst (λ (z : ℤ). unsigned_abs z < 2 ^ 60) (sym t.answer) (not_far w.phase.u near);
    u = t.u;
    room = record { s = moved-small w.set.phase_step w.phase.s w.phase.goal t.room.least t.room.s t.room.goal; goal = t.room.goal; least = t.room.least; most = t.room.most; kept = t.room.kept };
  };
  set = t.set;
}

choose : (b : Bool) (v w : Core) → (b ≡ true → IsSafe v) → (b ≡ false → IsSafe w) → IsSafe (cond b v w)
choose true v w h k = h refl
choose false v w h k = k refl

good-safe : (w : Core) (n : ℕ) → Taken w → IsSafe (good w n)
good-safe w n t =
    let f : Core = followed w in
    let c : Core = chained f n in
    choose (is_far w.phase.u) (lost w) (judged c) (λ _. lost-safe w t)
    (λ near. safe c (judged c) (judged-less c c.state) (safe f c (chained-less f n) (followed-safe w t near)))

heard-safe : (v : Core) (n : ℕ) (tag : Option ℕ) → IsSafe v → IsSafe (heard v n tag)
heard-safe v n None i = i
heard-safe v n (Some tag) i = good-safe (with_tag v tag) n (takes v tag i)

-- ---- a measurement

half-small : (clock : Clock) → half_period clock ≤ℤ pos (2 ^ 30)
half-small Mhz125 = omega (arith, ints)
half-small Mhz62 = omega (arith, ints)

small : (limit x : ℤ) → limit ≤ℤ pos (2 ^ 30) → is_within limit x ≡ true → unsigned_abs x ≤ 2 ^ 30
small limit x h w = let k : pos (unsigned_abs x) ≤ℤ limit = within_says limit x w in omega (arith, ints)

-- a goal of this size is safe
aims : (v : Core) (k : Measurement) (state : ServoState) → IsSafe v → unsigned_abs (v.phase.s -ℤ residual v.phase k) ≤ 2 ^ 62 → IsSafe (aimed v k state)
aims v k state i h = record {
  sized = record { answer = i.sized.answer; u = i.sized.u; room = record { s = i.sized.room.s; goal = h; least = i.sized.room.least; most = i.sized.room.most; kept = i.sized.room.kept } };
  set = i.set;
}

aims-half : (v : Core) (k : Measurement) (state : ServoState) → IsSafe v → is_half v (est_of v.phase.u k) ≡ true → IsSafe (aimed v k state)
aims-half v k state i h =
    aims v k state i (half_keeps v.phase.u v.phase.s ((k.four.t2 -ℤ k.four.t1) -ℤ k.delay) k.four.u2 i.sized.u (small (half_period v.set.clock) (est_of v.phase.u k) (half-small v.set.clock) h))

aims-track : (v : Core) (k : Measurement) (state : ServoState) → IsSafe v → is_calm v ≡ true → is_within v.set.track_tau (residual v.phase k) ≡ true → IsSafe (aimed v k state)
aims-track v k state i c h =
    aims v k state i (goal_keeps v.phase.u v.phase.s (residual v.phase k) i.sized.u (small v.set.loop_tau (e_tau v.phase) i.set.loop c) (small v.set.track_tau (residual v.phase k) i.set.track h))

stepped-safe : (v : Core) (s : ServoState) → IsSafe v → IsSafe (stepped v s)
stepped-safe v s = safe v (stepped v s) (none _ _ refl refl refl refl refl refl)

by_period-safe : (v : Core) (k : Measurement) → IsSafe v → IsSafe (by_period v k (est_of v.phase.u k))
by_period-safe v k i = choose (is_half v (est_of v.phase.u k)) (aimed v k SyncPhase) (stepped v SyncNsec) (aims-half v k SyncPhase i) (λ _. stepped-safe v SyncNsec i)

settled-safe : (v : Core) (k : Measurement) → IsSafe v → IsSafe (settled v k (est_of v.phase.u k))
settled-safe v k i =
    let est : ℤ = est_of v.phase.u k in
    choose (may_track v k) (aimed v k Track) (cond (is_half v est) (aimed v k SyncPhase) (record v { state = SyncNsec }))
    (λ p. aims-track v k Track i
    (and_first (is_calm v) (nat_le (v.ticks - k.four.tick) v.set.age) (and_second (is_within v.set.track_tau (residual v.phase k)) (is_calm v && nat_le (v.ticks - k.four.tick) v.set.age) p))
    (and_first (is_within v.set.track_tau (residual v.phase k)) (is_calm v && nat_le (v.ticks - k.four.tick) v.set.age) p))
    (λ _. choose (is_half v est) (aimed v k SyncPhase) (record v { state = SyncNsec }) (aims-half v k SyncPhase i) (λ _. safe v (record v { state = SyncNsec }) (same _ _ refl refl refl refl refl refl) i))

placed-safe : (v : Core) (k : Measurement) (s : ServoState) → (is_track s ≡ true → is_calm v ≡ true) → IsSafe v → IsSafe (placed_in v k (est_of v.phase.u k) s)
placed-safe v k SyncTai c i = choose (is_below_second (est_of v.phase.u k)) (by_period v k (est_of v.phase.u k)) (stepped v SyncTai) (λ _. by_period-safe v k i) (λ _. stepped-safe v SyncTai i)
placed-safe v k SyncNsec c i = by_period-safe v k i
placed-safe v k WaitStable c i = choose (nat_le v.set.stable v.calm) (settled v k (est_of v.phase.u k)) v (λ _. settled-safe v k i) (λ _. i)
placed-safe v k Track c i = choose (is_within v.set.track_tau (residual v.phase k)) (aimed v k Track) (ended v) (aims-track v k Track i (c refl)) (λ _. end-safe v i)
placed-safe v k Uninit c i = i
placed-safe v k SyncPhase c i = i
placed-safe v k Holdover c i = i

keeps : (v : Core) (k : Measurement) → FitsFour k → IsSafe v → IsSafe (record v { kept = Some k })
keeps v k f i = record {
  sized = record { answer = i.sized.answer; u = i.sized.u; room = record { s = i.sized.room.s; goal = i.sized.room.goal; least = i.sized.room.least; most = i.sized.room.most; kept = f } };
  set = i.set;
}

answered-safe : (x : ServoSetting) (v : Core) (f : Four) (y : ℤ) (on : Option Deltas) → ((d : Deltas) → on ≡ Some d → FitsFour (kept_of f d y)) → (is_track v.state ≡ true → is_calm v ≡ true) → IsSafe v → IsSafe (answered x.lo x.hi v f y on)
answered-safe x v f y None t c i = i
answered-safe x v f y (Some e) t c i =
    let k : Measurement = kept_of f e y in
    choose (is_in x.lo x.hi (x_of e f)) (placed v k) (ended v)
    (λ _. placed-safe (record v { kept = Some k }) k v.state c (keeps v k (t e refl) i))
    (λ _. end-safe v i)

-- ---- ticks, and any call

ended_by_gap-less : (v : Core) → Less v (ended_by_gap v)
ended_by_gap-less v = either v (is_past_gap v) (ended v) v (end-less v) (same _ _ refl refl refl refl refl refl)

ended_by_age-less : (v : Core) → Less v (ended_by_age v)
ended_by_age-less v = either v (is_track v.state && is_old v) (ended v) v (end-less v) (same _ _ refl refl refl refl refl refl)

later-safe : (v : Core) → IsSafe v → IsSafe (ended_by_age (ended_by_gap v))
later-safe v = safe v (ended_by_age (ended_by_gap v)) (then v (ended_by_gap v) (ended_by_age (ended_by_gap v)) (ended_by_gap-less v) (ended_by_age-less (ended_by_gap v)))

ticks-safe : (v : Core) → IsSafe v → IsSafe (one_tick v)
ticks-safe v = safe v (one_tick v) (same _ _ refl refl refl refl refl refl)

holdover_ticked-safe : (v : Core) → IsSafe v → IsSafe (holdover_ticked v)
holdover_ticked-safe v i = choose (nat_le v.set.holdover (v.ticks - v.left_tick)) (record v { state = cond (is_some v.signals.link) SyncTai Uninit; phase = restarted v.phase }) v (λ _. rests v (cond (is_some v.signals.link) SyncTai Uninit) i) (λ _. i)

tick-safe : (v : Core) (s : ServoState) → IsSafe (record v { state = s }) → IsSafe (by_tick (record v { state = s }))
tick-safe v Holdover i = holdover_ticked-safe (one_tick (record v { state = Holdover })) (ticks-safe (record v { state = Holdover }) i)
tick-safe v Track i = later-safe (one_tick (record v { state = Track })) (ticks-safe (record v { state = Track }) i)
tick-safe v Uninit i = later-safe (one_tick (record v { state = Uninit })) (ticks-safe (record v { state = Uninit }) i)
tick-safe v SyncTai i = later-safe (one_tick (record v { state = SyncTai })) (ticks-safe (record v { state = SyncTai }) i)
tick-safe v SyncNsec i = later-safe (one_tick (record v { state = SyncNsec })) (ticks-safe (record v { state = SyncNsec }) i)
tick-safe v SyncPhase i = later-safe (one_tick (record v { state = SyncPhase })) (ticks-safe (record v { state = SyncPhase }) i)
tick-safe v WaitStable i = later-safe (one_tick (record v { state = WaitStable })) (ticks-safe (record v { state = WaitStable }) i)

carries : (v : Core) (up : Bool) → IsSafe v → IsSafe (with_carrier v up)
carries v up = safe v (with_carrier v up) (same _ _ refl refl refl refl refl refl)

links : (v : Core) (on : Option Deltas) → IsSafe v → IsSafe (with_link v on)
links v on = safe v (with_link v on) (same _ _ refl refl refl refl refl refl)

leases : (v : Core) (fresh : Bool) → IsSafe v → IsSafe (with_lease v fresh)
leases v fresh = safe v (with_lease v fresh) (same _ _ refl refl refl refl refl refl)

darkens : (v : Core) → IsSafe v → IsSafe (carrier_gone v)
darkens v = safe v (carrier_gone v) (same _ _ refl refl refl refl refl refl)

zero-sized : (v : Core) → IsSafe v → IsSafe (new_core v.set)
zero-sized v i = record {
  sized = record { answer = omega (arith, ints); u = omega (arith, ints); room = record { s = omega (arith, ints); goal = omega (arith, ints); least = i.sized.room.least; most = i.sized.room.most; kept = tt } };
  set = i.set;
}

-- a four that is measured fits with its delay
abbrev pub FitsCall : Core → Call → Type 0
FitsCall v (CallMeasured f y) = (d : Deltas) → deltas_in_chain v ≡ Some d → FitsFour (kept_of f d y)
FitsCall v _ = Unit {0}

pub sizes_stay : (x : ServoSetting) (v : Core) (call : Call) → FitsCall v call → (is_track v.state ≡ true → is_calm v ≡ true) → IsSafe v → IsSafe (after x v call)
sizes_stay x v (CallSample n base bits) f c i = choose (hears v) (heard (with_last v n) n (good_tag v.last n base bits)) v (λ _. heard-safe (with_last v n) n (good_tag v.last n base bits) (safe v (with_last v n) (same _ _ refl refl refl refl refl refl) i)) (λ _. i)
sizes_stay x v (CallMeasured four y) f c i = answered-safe x v four y (deltas_in_chain v) f c i
sizes_stay x v CallTick f c i = tick-safe v v.state i
sizes_stay x v (CallLease true) f c i = leases v true i
sizes_stay x v (CallLease false) f c i = end-safe (with_lease v false) (leases v false i)
sizes_stay x v (CallLink (Some d)) f c i = linked-safe (with_link v (Some d)) v.state (links v (Some d) i)
sizes_stay x v (CallLink None) f c i = let w : Core = ended (with_link v None) in uninit_outside_holdover-safe w w.state (end-safe (with_link v None) (links v None i))
sizes_stay x v (CallCarrier true) f c i = restarted_outside_holdover-safe (with_carrier v true) v.state (carries v true i)
sizes_stay x v (CallCarrier false) f c i = let w : Core = ended (carrier_gone v) in uninit_outside_holdover-safe w w.state (end-safe (carrier_gone v) (darkens v i))
sizes_stay x v CallReset f c i = zero-sized v i
