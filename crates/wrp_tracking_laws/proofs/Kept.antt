-- The measurement that the servo holds was brought by a call: each other call keeps it or forgets it.
use Rattle.std.proofs.Common.{◌≡◌, ℕ, ℤ, refl, sym, ap, subst, ◌∙◌, List, [], ◌∷◌, Bool, true, false, cond, is_some, Option, Some, None, inl, inr}
use Rattle.std.specs.Prelude.{◌⊎◌, nat_le, int_le, ◌&&◌, ◌-◌}
use Rattle.wrp_base.specs.declared.link.Deltas.{Deltas}
use Rattle.wrp_base.specs.declared.link.ServoState.{ServoState}
use Rattle.wrp_base.specs.declared.link.ServoState.TheVariants.{Uninit, SyncTai, SyncNsec, SyncPhase, WaitStable, Track, Holdover}
use Rattle.wrp_base.specs.declared.measurement.Four.{Four}
use Rattle.wrp_servo.specs.declared.machine.Measurement.{Measurement}
use Rattle.wrp_servo.specs.declared.machine.Core.{Core}
use Rattle.wrp_servo.specs.Following.{restarted}
use Rattle.wrp_servo.specs.Table as table
use Rattle.wrp_servo.specs.Sampling as sampling
use Rattle.wrp_servo.specs.Measuring as measuring
use Rattle.wrp_servo.specs.Call.{Call, CallSample, CallMeasured, CallTick, CallLease, CallLink, CallCarrier, CallReset, ServoSetting, after, run}
use Rattle.wrp_tracking_laws.specs.ServoGives.{WasMeasured, KeptIsMeasured}
use Rattle.wrp_tracking_laws.proofs.Ages.{ended_in-none}

-- what is left of a measurement, or nothing
abbrev Leaves : Option Measurement → Core → Type 0
Leaves o w = (w.kept ≡ None) ⊎ (w.kept ≡ o)

either : (o : Option Measurement) (b : Bool) (v w : Core) → Leaves o v → Leaves o w → Leaves o (cond b v w)
either o true v w h k = h
either o false v w h k = k

ended-leaves : (o : Option Measurement) (v : Core) → Leaves o v → Leaves o (table.ended v)
ended-leaves o v h = either o (is_some v.first) (table.ended_in v v.state) v (inl (ended_in-none v v.state)) h

uninit-leaves : (o : Option Measurement) (v : Core) (s : ServoState) → Leaves o v → Leaves o (table.uninit_outside_holdover v s)
uninit-leaves o v Uninit h = h
uninit-leaves o v SyncTai h = h
uninit-leaves o v SyncNsec h = h
uninit-leaves o v SyncPhase h = h
uninit-leaves o v WaitStable h = h
uninit-leaves o v Track h = h
uninit-leaves o v Holdover h = h

restarted-leaves : (o : Option Measurement) (v : Core) (s : ServoState) → Leaves o v → Leaves o (table.restarted_outside_holdover v s)
restarted-leaves o v Uninit h = h
restarted-leaves o v SyncTai h = h
restarted-leaves o v SyncNsec h = h
restarted-leaves o v SyncPhase h = h
restarted-leaves o v WaitStable h = h
restarted-leaves o v Track h = h
restarted-leaves o v Holdover h = h

linked-leaves : (o : Option Measurement) (v : Core) (s : ServoState) → Leaves o v → Leaves o (table.linked v s)
linked-leaves o v Uninit h = h
linked-leaves o v SyncTai h = h
linked-leaves o v SyncNsec h = h
linked-leaves o v SyncPhase h = h
linked-leaves o v WaitStable h = h
linked-leaves o v Track h = h
linked-leaves o v Holdover h = h

-- a tick
later-leaves : (o : Option Measurement) (v : Core) → Leaves o v → Leaves o (table.ended_by_age (table.ended_by_gap v))
later-leaves o v h =
    let gap : Leaves o (table.ended_by_gap v) = either o (table.is_past_gap v) (table.ended v) v (ended-leaves o v h) h in
    let w : Core = table.ended_by_gap v in
    either o (table.is_track w.state && table.is_old w) (table.ended w) w (ended-leaves o w gap) gap

held-leaves : (o : Option Measurement) (v : Core) → Leaves o v → Leaves o (table.holdover_ticked v)
held-leaves o v h = elim (nat_le v.set.holdover (v.ticks - v.left_tick)) as (λ b. Leaves o (cond b (record v { state = cond (is_some v.signals.link) SyncTai Uninit; phase = restarted v.phase }) v)) [
  | true ↦ h
  | false ↦ h
]

ticked-leaves : (o : Option Measurement) (v : Core) (s : ServoState) → Leaves o v → Leaves o (table.ticked_in v s)
ticked-leaves o v Uninit h = later-leaves o v h
ticked-leaves o v SyncTai h = later-leaves o v h
ticked-leaves o v SyncNsec h = later-leaves o v h
ticked-leaves o v SyncPhase h = later-leaves o v h
ticked-leaves o v WaitStable h = later-leaves o v h
ticked-leaves o v Track h = later-leaves o v h
ticked-leaves o v Holdover h = held-leaves o v h

-- a good sample
judged-leaves : (o : Option Measurement) (v : Core) (s : ServoState) → Leaves o v → Leaves o (sampling.judged_in v s)
judged-leaves o v Uninit h = h
judged-leaves o v SyncTai h = h
judged-leaves o v SyncNsec h = h
judged-leaves o v SyncPhase h = either o (int_le v.phase.s v.phase.goal && int_le v.phase.goal v.phase.s) (record v { state = WaitStable; calm = 0 }) v h h
judged-leaves o v WaitStable h = h
judged-leaves o v Track h = either o (sampling.stays_near v) v (table.ended v) h (ended-leaves o v h)
judged-leaves o v Holdover h = h

chained-leaves : (o : Option Measurement) (v : Core) (n : ℕ) → Leaves o v → Leaves o (sampling.chained v n)
chained-leaves o v n h =
    either o v.phase.lock.locked (cond (sampling.may_start v) (record v { first = Some n }) v) (table.ended v)
    (either o (sampling.may_start v) (record v { first = Some n }) v h h) (ended-leaves o v h)

good-leaves : (o : Option Measurement) (v : Core) (n : ℕ) → Leaves o v → Leaves o (sampling.good v n)
good-leaves o v n h =
    let w : Core = sampling.chained (sampling.followed v) n in
    either o (sampling.is_far v.phase.u) (sampling.lost v) (sampling.judged w) (ended-leaves o v h) (judged-leaves o w w.state (chained-leaves o (sampling.followed v) n h))

heard-leaves : (o : Option Measurement) (v : Core) (n : ℕ) (tag : Option ℕ) → Leaves o v → Leaves o (sampling.heard v n tag)
heard-leaves o v n None h = h
heard-leaves o v n (Some tag) h = good-leaves o (sampling.with_tag v tag) n h

sample-leaves : (o : Option Measurement) (v : Core) (n base bits : ℕ) → Leaves o v → Leaves o (sampling.by_sample v n base bits)
sample-leaves o v n base bits h =
    let w : Core = sampling.with_last v n in
    either o (sampling.hears v) (sampling.heard w n (sampling.good_tag v.last n base bits)) v (heard-leaves o w n (sampling.good_tag v.last n base bits) h) h

-- a measurement in range
by_period-leaves : (o : Option Measurement) (v : Core) (k : Measurement) (est : ℤ) → Leaves o v → Leaves o (measuring.by_period v k est)
by_period-leaves o v k est h = either o (measuring.is_half v est) (measuring.aimed v k SyncPhase) (measuring.stepped v SyncNsec) h (inl refl)

settled-leaves : (o : Option Measurement) (v : Core) (k : Measurement) (est : ℤ) → Leaves o v → Leaves o (measuring.settled v k est)
settled-leaves o v k est h =
    either o (measuring.may_track v k) (measuring.aimed v k Track) (cond (measuring.is_half v est) (measuring.aimed v k SyncPhase) (record v { state = SyncNsec })) h
    (either o (measuring.is_half v est) (measuring.aimed v k SyncPhase) (record v { state = SyncNsec }) h h)

placed-leaves : (o : Option Measurement) (v : Core) (k : Measurement) (est : ℤ) (s : ServoState) → Leaves o v → Leaves o (measuring.placed_in v k est s)
placed-leaves o v k est Uninit h = h
placed-leaves o v k est SyncTai h = either o (measuring.is_below_second est) (measuring.by_period v k est) (measuring.stepped v SyncTai) (by_period-leaves o v k est h) (inl refl)
placed-leaves o v k est SyncNsec h = by_period-leaves o v k est h
placed-leaves o v k est SyncPhase h = h
placed-leaves o v k est WaitStable h = either o (nat_le v.set.stable v.calm) (measuring.settled v k est) v (settled-leaves o v k est h) h
placed-leaves o v k est Track h = either o (sampling.is_within v.set.track_tau (sampling.residual v.phase k)) (measuring.aimed v k Track) (table.ended v) h (ended-leaves o v h)
placed-leaves o v k est Holdover h = h

-- all calls but measurements
carrier-leaves : (v : Core) (up : Bool) → Leaves v.kept (table.by_carrier v up)
carrier-leaves v true = restarted-leaves v.kept (table.with_carrier v true) v.state (inr refl)
carrier-leaves v false =
    let w : Core = table.ended (table.carrier_gone v) in
    uninit-leaves v.kept w w.state (ended-leaves v.kept (table.carrier_gone v) (inr refl))

link-leaves : (v : Core) (on : Option Deltas) → Leaves v.kept (table.by_link v on)
link-leaves v (Some d) = linked-leaves v.kept (table.with_link v (Some d)) v.state (inr refl)
link-leaves v None =
    let w : Core = table.ended (table.with_link v None) in
    uninit-leaves v.kept w w.state (ended-leaves v.kept (table.with_link v None) (inr refl))

lease-leaves : (v : Core) (fresh : Bool) → Leaves v.kept (table.by_lease v fresh)
lease-leaves v true = inr refl
lease-leaves v false = ended-leaves v.kept (table.with_lease v false) (inr refl)

-- what is left was there before
was_there : (k : Measurement) (o : Option Measurement) (w : Core) → Leaves o w → w.kept ≡ Some k → o ≡ Some k
was_there k o w (inl none) is = absurd (cc)
was_there k o w (inr same) is = sym same ∙ is

later : (x : ServoSetting) (calls : List Call) (call : Call) (k : Measurement) → WasMeasured x calls k → WasMeasured x (call ∷ calls) k
later x calls call k was = record {
  since = call ∷ was.since;
  before = was.before;
  deltas = was.deltas;
  answer = was.answer;
  splits = ap (λ (cs : List Call). call ∷ cs) was.splits;
  in_chain = was.in_chain;
  in_range = was.in_range;
  delay = was.delay;
}

-- the call that brought it
brought : (x : ServoSetting) (calls : List Call) (f : Four) (y : ℤ) (d : Deltas) → measuring.deltas_in_chain (run x calls) ≡ Some d → measuring.is_in x.lo x.hi (measuring.x_of d f) ≡ true →
    WasMeasured x (CallMeasured f y ∷ calls) (measuring.kept_of f d y)
brought x calls f y d chain range = record {
  since = [];
  before = calls;
  deltas = d;
  answer = y;
  splits = refl;
  in_chain = chain;
  in_range = range;
  delay = refl;
}

by_range : (x : ServoSetting) (calls : List Call) (f : Four) (y : ℤ) (d : Deltas) (k : Measurement) → (b : Bool) → measuring.is_in x.lo x.hi (measuring.x_of d f) ≡ b → measuring.deltas_in_chain (run x calls) ≡ Some d →
    ((run x calls).kept ≡ Some k → WasMeasured x calls k) →
    (cond b (measuring.placed (run x calls) (measuring.kept_of f d y)) (table.ended (run x calls))).kept ≡ Some k → WasMeasured x (CallMeasured f y ∷ calls) k
by_range x calls f y d k true range chain before is =
    let v : Core = record (run x calls) { kept = Some (measuring.kept_of f d y) } in
    let here : Some (measuring.kept_of f d y) ≡ Some k =
    was_there k (Some (measuring.kept_of f d y)) (measuring.placed (run x calls) (measuring.kept_of f d y))
    (placed-leaves (Some (measuring.kept_of f d y)) v (measuring.kept_of f d y) (sampling.est_of (run x calls).phase.u (measuring.kept_of f d y)) (run x calls).state (inr refl)) is in
    let same : measuring.kept_of f d y ≡ k = cc in
    let P : Measurement → Type 0 = λ m. WasMeasured x (CallMeasured f y ∷ calls) m in
    subst P same (brought x calls f y d chain range)
by_range x calls f y d k false range chain before is =
    later x calls (CallMeasured f y) k (before (was_there k (run x calls).kept (table.ended (run x calls)) (ended-leaves (run x calls).kept (run x calls) (inr refl)) is))

measured : (x : ServoSetting) (calls : List Call) (f : Four) (y : ℤ) (k : Measurement) → (on : Option Deltas) → measuring.deltas_in_chain (run x calls) ≡ on →
    ((run x calls).kept ≡ Some k → WasMeasured x calls k) →
    (measuring.answered x.lo x.hi (run x calls) f y on).kept ≡ Some k → WasMeasured x (CallMeasured f y ∷ calls) k
measured x calls f y k None chain before is = later x calls (CallMeasured f y) k (before is)
measured x calls f y k (Some d) chain before is = by_range x calls f y d k (measuring.is_in x.lo x.hi (measuring.x_of d f)) refl chain before is

-- a call that is no measurement
unmeasured : (x : ServoSetting) (calls : List Call) (call : Call) (k : Measurement) → Leaves (run x calls).kept (after x (run x calls) call) → ((run x calls).kept ≡ Some k → WasMeasured x calls k) →
    (after x (run x calls) call).kept ≡ Some k → WasMeasured x (call ∷ calls) k
unmeasured x calls call k leaves before is = later x calls call k (before (was_there k (run x calls).kept (after x (run x calls) call) leaves is))

pub kept-is_measured : KeptIsMeasured
kept-is_measured x [] k is = absurd (cc)
kept-is_measured x (CallSample n base bits ∷ calls) k is = unmeasured x calls (CallSample n base bits) k (sample-leaves (run x calls).kept (run x calls) n base bits (inr refl)) (kept-is_measured x calls k) is
kept-is_measured x (CallMeasured f y ∷ calls) k is = measured x calls f y k (measuring.deltas_in_chain (run x calls)) refl (kept-is_measured x calls k) is
kept-is_measured x (CallTick ∷ calls) k is = unmeasured x calls CallTick k (ticked-leaves (run x calls).kept (table.one_tick (run x calls)) (run x calls).state (inr refl)) (kept-is_measured x calls k) is
kept-is_measured x (CallLease fresh ∷ calls) k is = unmeasured x calls (CallLease fresh) k (lease-leaves (run x calls) fresh) (kept-is_measured x calls k) is
kept-is_measured x (CallLink on ∷ calls) k is = unmeasured x calls (CallLink on) k (link-leaves (run x calls) on) (kept-is_measured x calls k) is
kept-is_measured x (CallCarrier up ∷ calls) k is = unmeasured x calls (CallCarrier up) k (carrier-leaves (run x calls) up) (kept-is_measured x calls k) is
kept-is_measured x (CallReset ∷ calls) k is = absurd (cc)
