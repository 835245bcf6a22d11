-- The measurement that a servo holds, call by call: with it there is a chain, and only a measurement brings it; and the
-- settings stay.
use Rattle.std.proofs.Common.{◌≡◌, ◌⊎◌, inl, inr, ◌∙◌, refl, ap, sym, subst, ℕ, ◌-◌, ℤ, ◌&&◌, cond, Bool, true, false, is_some, List, [], ◌∷◌, Option, None, Some}
use Rattle.std.specs.Prelude.{int_le, nat_le}
use Rattle.std.proofs.lemmas.Bool.{false≢true}
use Rattle.std.proofs.lemmas.Option.{none-some, same_Some}
use Rattle.wrp_base.specs.declared.link.Deltas.{Deltas}
use Rattle.wrp_base.specs.declared.link.ServoState.{ServoState}
use Rattle.wrp_base.specs.declared.link.ServoState.TheVariants.{Uninit, SyncTai, SyncNsec, SyncPhase, WaitStable, Track, Holdover}
use Rattle.wrp_base.specs.declared.measurement.ChainNews.TheVariants.{Same}
use Rattle.wrp_base.specs.declared.measurement.Four.{Four}
use Rattle.wrp_node.specs.Telling.{heard_of, with_news, with_sample}
use Rattle.wrp_port.specs.declared.interface.PortIn.{PortIn}
use Rattle.wrp_servo.specs.Call.{Call, CallSample, CallMeasured, CallTick, CallLease, CallLink, CallCarrier, CallReset, ServoSetting, after, run}
use Rattle.wrp_servo.specs.declared.interface.ServoSet.{ServoSet}
use Rattle.wrp_servo.specs.declared.machine.Core.{Core}
use Rattle.wrp_servo.specs.declared.machine.Measurement.{Measurement}
use Rattle.wrp_servo.specs.Following.{restarted}
use Rattle.wrp_servo.specs.Measuring as measuring
use Rattle.wrp_servo.specs.Sampling as sampling
use Rattle.wrp_servo.specs.Servo.{answer_to, news_of}
use Rattle.wrp_servo.specs.Table as table
use Rattle.wrp_tracking_laws.proofs.Ages.{ended_in-none}
use Rattle.wrp_bound_laws.proofs.Sources.HeldCalls.{IsNoMeasure}
use Rattle.wrp_bound_laws.proofs.Samples.LiveChains.{IsNoSample}
use Rattle.wrp_bound_laws.proofs.Motion.NodeSteps.{Stands}
use Rattle.wrp_bound_laws.proofs.Nodes.TrackedSets.{ended_in_set}

-- no measurement is held, or this one is, and with it there is a chain
abbrev Keeps : Option Measurement → Core → Type 0
Keeps o w = (w.kept ≡ None) ⊎ ((w.kept ≡ o) × Stands w)

-- and these settings
abbrev Leaves : ServoSet → Option Measurement → Core → Type 0
Leaves set o w = (w.set ≡ set) × Keeps o w

either : (set : ServoSet) (o : Option Measurement) (b : Bool) (v w : Core) → Leaves set o v → Leaves set o w → Leaves set o (cond b v w)
either set o true v w h k = h
either set o false v w h k = k

-- The end of a chain

ended_leaves : (set : ServoSet) (o : Option Measurement) (v : Core) → Leaves set o v → Leaves set o (table.ended v)
ended_leaves set o v h = either set o (is_some v.first) (table.ended_in v v.state) v (ended_in_set v v.state ∙ h.0, inl (ended_in-none v v.state)) h

uninit_leaves : (set : ServoSet) (o : Option Measurement) (v : Core) (s : ServoState) → Leaves set o v → Leaves set o (table.uninit_outside_holdover v s)
uninit_leaves set o v Uninit h = h
uninit_leaves set o v SyncTai h = h
uninit_leaves set o v SyncNsec h = h
uninit_leaves set o v SyncPhase h = h
uninit_leaves set o v WaitStable h = h
uninit_leaves set o v Track h = h
uninit_leaves set o v Holdover h = h

restarted_leaves : (set : ServoSet) (o : Option Measurement) (v : Core) (s : ServoState) → Leaves set o v → Leaves set o (table.restarted_outside_holdover v s)
restarted_leaves set o v Uninit h = h
restarted_leaves set o v SyncTai h = h
restarted_leaves set o v SyncNsec h = h
restarted_leaves set o v SyncPhase h = h
restarted_leaves set o v WaitStable h = h
restarted_leaves set o v Track h = h
restarted_leaves set o v Holdover h = h

linked_leaves : (set : ServoSet) (o : Option Measurement) (v : Core) (s : ServoState) → Leaves set o v → Leaves set o (table.linked v s)
linked_leaves set o v Uninit h = h
linked_leaves set o v SyncTai h = h
linked_leaves set o v SyncNsec h = h
linked_leaves set o v SyncPhase h = h
linked_leaves set o v WaitStable h = h
linked_leaves set o v Track h = h
linked_leaves set o v Holdover h = h

-- A tick

later_leaves : (set : ServoSet) (o : Option Measurement) (v : Core) → Leaves set o v → Leaves set o (table.ended_by_age (table.ended_by_gap v))
later_leaves set o v h =
    let w : Core = table.ended_by_gap v in
    let gap : Leaves set o w = either set o (table.is_past_gap v) (table.ended v) v (ended_leaves set o v h) h in
    either set o (table.is_track w.state && table.is_old w) (table.ended w) w (ended_leaves set o w gap) gap

held_leaves : (set : ServoSet) (o : Option Measurement) (v : Core) → Leaves set o v → Leaves set o (table.holdover_ticked v)
held_leaves set o v h =
    either set o (nat_le v.set.holdover (v.ticks - v.left_tick)) (record v { state = cond (is_some v.signals.link) SyncTai Uninit; phase = restarted v.phase }) v h h

ticked_leaves : (set : ServoSet) (o : Option Measurement) (v : Core) (s : ServoState) → Leaves set o v → Leaves set o (table.ticked_in v s)
ticked_leaves set o v Uninit h = later_leaves set o v h
ticked_leaves set o v SyncTai h = later_leaves set o v h
ticked_leaves set o v SyncNsec h = later_leaves set o v h
ticked_leaves set o v SyncPhase h = later_leaves set o v h
ticked_leaves set o v WaitStable h = later_leaves set o v h
ticked_leaves set o v Track h = later_leaves set o v h
ticked_leaves set o v Holdover h = held_leaves set o v h

-- A sample

started_leaves : (set : ServoSet) (o : Option Measurement) (v : Core) (n : ℕ) → Leaves set o v → Leaves set o (record v { first = Some n })
started_leaves set o v n (same, inl none) = (same, inl none)
started_leaves set o v n (same, inr it) = (same, inr (it.0, refl))

chained_leaves : (set : ServoSet) (o : Option Measurement) (v : Core) (n : ℕ) → Leaves set o v → Leaves set o (sampling.chained v n)
chained_leaves set o v n h =
    either set o v.phase.lock.locked (cond (sampling.may_start v) (record v { first = Some n }) v) (table.ended v)
    (either set o (sampling.may_start v) (record v { first = Some n }) v (started_leaves set o v n h) h) (ended_leaves set o v h)

judged_leaves : (set : ServoSet) (o : Option Measurement) (v : Core) (s : ServoState) → Leaves set o v → Leaves set o (sampling.judged_in v s)
judged_leaves set o v Uninit h = h
judged_leaves set o v SyncTai h = h
judged_leaves set o v SyncNsec h = h
judged_leaves set o v SyncPhase h = either set o (int_le v.phase.s v.phase.goal && int_le v.phase.goal v.phase.s) (record v { state = WaitStable; calm = 0 }) v h h
judged_leaves set o v WaitStable h = h
judged_leaves set o v Track h = either set o (sampling.stays_near v) v (table.ended v) h (ended_leaves set o v h)
judged_leaves set o v Holdover h = h

good_leaves : (set : ServoSet) (o : Option Measurement) (v : Core) (n : ℕ) → Leaves set o v → Leaves set o (sampling.good v n)
good_leaves set o v n h =
    let w : Core = sampling.chained (sampling.followed v) n in
    either set o (sampling.is_far v.phase.u) (sampling.lost v) (sampling.judged w) (ended_leaves set o v h) (judged_leaves set o w w.state (chained_leaves set o (sampling.followed v) n h))

heard_leaves : (set : ServoSet) (o : Option Measurement) (v : Core) (n : ℕ) (tag : Option ℕ) → Leaves set o v → Leaves set o (sampling.heard v n tag)
heard_leaves set o v n None h = h
heard_leaves set o v n (Some tag) h = good_leaves set o (sampling.with_tag v tag) n h

-- A measurement

by_period_leaves : (set : ServoSet) (o : Option Measurement) (v : Core) (k : Measurement) (est : ℤ) → Leaves set o v → Leaves set o (measuring.by_period v k est)
by_period_leaves set o v k est h = either set o (measuring.is_half v est) (measuring.aimed v k SyncPhase) (measuring.stepped v SyncNsec) h (h.0, inl refl)

settled_leaves : (set : ServoSet) (o : Option Measurement) (v : Core) (k : Measurement) (est : ℤ) → Leaves set o v → Leaves set o (measuring.settled v k est)
settled_leaves set o v k est h =
    either set o (measuring.may_track v k) (measuring.aimed v k Track) (cond (measuring.is_half v est) (measuring.aimed v k SyncPhase) (record v { state = SyncNsec })) h
    (either set o (measuring.is_half v est) (measuring.aimed v k SyncPhase) (record v { state = SyncNsec }) h h)

placed_leaves : (set : ServoSet) (o : Option Measurement) (v : Core) (k : Measurement) (est : ℤ) (s : ServoState) → Leaves set o v → Leaves set o (measuring.placed_in v k est s)
placed_leaves set o v k est Uninit h = h
placed_leaves set o v k est SyncTai h = either set o (measuring.is_below_second est) (measuring.by_period v k est) (measuring.stepped v SyncTai) (by_period_leaves set o v k est h) (h.0, inl refl)
placed_leaves set o v k est SyncNsec h = by_period_leaves set o v k est h
placed_leaves set o v k est SyncPhase h = h
placed_leaves set o v k est WaitStable h = either set o (nat_le v.set.stable v.calm) (measuring.settled v k est) v (settled_leaves set o v k est h) h
placed_leaves set o v k est Track h = either set o (sampling.is_within v.set.track_tau (sampling.residual v.phase k)) (measuring.aimed v k Track) (table.ended v) h (ended_leaves set o v h)
placed_leaves set o v k est Holdover h = h

-- a measurement is brought by a call, in a chain and in the law's range
record IsBrought (x : ServoSetting) (v : Core) (f : Four) (y : ℤ) (o : Option Measurement) : Type 0 where
  deltas : Deltas
  in_chain : measuring.deltas_in_chain v ≡ Some deltas
  in_range : measuring.is_in x.lo x.hi (measuring.x_of deltas f) ≡ true
  is : o ≡ Some (measuring.kept_of f deltas y)

chain_of : (v : Core) (first : Option ℕ) (d : Deltas) → v.first ≡ first → measuring.deltas_in_chain v ≡ Some d → Stands v
chain_of v (Some n) d e h = ap is_some e
chain_of v None d e h = absurd (none-some d (sym (ap (λ o. measuring.deltas_in_chain (record v { first = o })) e) ∙ h))

-- it keeps the one that is held, or brings its own
abbrev Measures : ServoSetting → ServoSet → Core → Four → ℤ → Core → Type 0
Measures x set v f y w = (o : Option Measurement) × Leaves set o w × ((v.kept ≡ o) ⊎ IsBrought x v f y o)

ranged_leaves : (x : ServoSetting) (set : ServoSet) (v : Core) (f : Four) (y : ℤ) (d : Deltas) (b : Bool) → measuring.is_in x.lo x.hi (measuring.x_of d f) ≡ b → measuring.deltas_in_chain v ≡ Some d → Leaves set v.kept v →
    Measures x set v f y (cond b (measuring.placed v (measuring.kept_of f d y)) (table.ended v))
ranged_leaves x set v f y d true range chain old =
    let new : Measurement = measuring.kept_of f d y in (
      Some new,
      placed_leaves set (Some new) (record v { kept = Some new }) new (sampling.est_of v.phase.u new) v.state (old.0, inr (refl, chain_of v v.first d refl chain)),
      inr (record { deltas = d; in_chain = chain; in_range = range; is = refl }),
    )
ranged_leaves x set v f y d false range chain old = (v.kept, ended_leaves set v.kept v old, inl refl)

measured_leaves : (x : ServoSetting) (set : ServoSet) (v : Core) (f : Four) (y : ℤ) (on : Option Deltas) → measuring.deltas_in_chain v ≡ on → Leaves set v.kept v → Measures x set v f y (measuring.answered x.lo x.hi v f y on)
measured_leaves x set v f y None chain old = (v.kept, old, inl refl)
measured_leaves x set v f y (Some d) chain old = ranged_leaves x set v f y d (measuring.is_in x.lo x.hi (measuring.x_of d f)) refl chain old

-- Any call

carrier_leaves : (set : ServoSet) (o : Option Measurement) (v : Core) (up : Bool) → Leaves set o v → Leaves set o (table.by_carrier v up)
carrier_leaves set o v true h = restarted_leaves set o (table.with_carrier v true) v.state h
carrier_leaves set o v false h =
    let w : Core = table.ended (table.carrier_gone v) in
    uninit_leaves set o w w.state (ended_leaves set o (table.carrier_gone v) h)

link_leaves : (set : ServoSet) (o : Option Measurement) (v : Core) (on : Option Deltas) → Leaves set o v → Leaves set o (table.by_link v on)
link_leaves set o v (Some d) h = linked_leaves set o (table.with_link v (Some d)) v.state h
link_leaves set o v None h =
    let w : Core = table.ended (table.with_link v None) in
    uninit_leaves set o w w.state (ended_leaves set o (table.with_link v None) h)

lease_leaves : (set : ServoSet) (o : Option Measurement) (v : Core) (fresh : Bool) → Leaves set o v → Leaves set o (table.by_lease v fresh)
lease_leaves set o v true h = h
lease_leaves set o v false h = ended_leaves set o (table.with_lease v false) h

sample_leaves : (set : ServoSet) (o : Option Measurement) (v : Core) (n base bits : ℕ) → Leaves set o v → Leaves set o (sampling.by_sample v n base bits)
sample_leaves set o v n base bits h =
    let w : Core = sampling.with_last v n in
    either set o (sampling.hears v) (sampling.heard w n (sampling.good_tag v.last n base bits)) v (heard_leaves set o w n (sampling.good_tag v.last n base bits) h) h

call_leaves : (x : ServoSetting) (set : ServoSet) (o : Option Measurement) (v : Core) (c : Call) → IsNoMeasure c → Leaves set o v → Leaves set o (after x v c)
call_leaves x set o v (CallSample n base bits) c h = sample_leaves set o v n base bits h
call_leaves x set o v (CallMeasured f y) c h = absurd c
call_leaves x set o v CallTick c h = ticked_leaves set o (table.one_tick v) v.state h
call_leaves x set o v (CallLease fresh) c h = lease_leaves set o v fresh h
call_leaves x set o v (CallLink on) c h = link_leaves set o v on h
call_leaves x set o v (CallCarrier up) c h = carrier_leaves set o v up h
call_leaves x set o v CallReset c h = (h.0, inl refl)

-- what is left is what is held
left : (set : ServoSet) (o : Option Measurement) (w : Core) → Leaves set o w → Leaves set w.kept w
left set o w (same, inl none) = (same, inl none)
left set o w (same, inr it) = (same, inr (refl, it.1))

free_or_not : (c : Call) → IsNoMeasure c ⊎ ((f : Four) × (y : ℤ) × (c ≡ CallMeasured f y))
free_or_not (CallMeasured f y) = inr (f, y, refl)
free_or_not (CallSample n base bits) = inl tt
free_or_not CallTick = inl tt
free_or_not (CallLease fresh) = inl tt
free_or_not (CallLink on) = inl tt
free_or_not (CallCarrier up) = inl tt
free_or_not CallReset = inl tt

measured_at : (x : ServoSetting) (calls : List Call) (f : Four) (y : ℤ) → Leaves x.set (run x calls).kept (run x calls) → Measures x x.set (run x calls) f y (run x (CallMeasured f y ∷ calls))
measured_at x calls f y old = measured_leaves x x.set (run x calls) f y (measuring.deltas_in_chain (run x calls)) refl old

each_leaves : (x : ServoSetting) (calls : List Call) → Leaves x.set (run x calls).kept (run x calls)
each_leaves x [] = (refl, inl refl)
each_leaves x (c ∷ calls) =
    let v : Core = run x calls in
    let old : Leaves x.set v.kept v = each_leaves x calls in
    elim (free_or_not c) [
      | inl free ↦ left x.set v.kept (after x v c) (call_leaves x x.set v.kept v c free old)
      | inr it ↦
          let m : Measures x x.set v it.0 it.1 (run x (CallMeasured it.0 it.1 ∷ calls)) = measured_at x calls it.0 it.1 old in
          subst (λ (d : Call). Leaves x.set (after x v d).kept (after x v d)) (sym it.2) (left x.set m.0 (run x (CallMeasured it.0 it.1 ∷ calls)) m.1)
    ]

-- with a measurement there is a chain
stood : (v : Core) (k : Measurement) (o : Option Measurement) → Keeps o v → v.kept ≡ Some k → Stands v
stood v k o (inl none) is = absurd (none-some k (sym none ∙ is))
stood v k o (inr it) is = it.1

pub kept_stands : (x : ServoSetting) (calls : List Call) (k : Measurement) → (run x calls).kept ≡ Some k → Stands (run x calls)
kept_stands x calls k is = stood (run x calls) k (run x calls).kept (each_leaves x calls).1 is

was_there : (k : Measurement) (o : Option Measurement) (w : Core) → Keeps o w → w.kept ≡ Some k → o ≡ Some k
was_there k o w (inl none) is = absurd (none-some k (sym none ∙ is))
was_there k o w (inr it) is = sym it.0 ∙ is

-- a call that is no measurement brings none
pub kept_before : (x : ServoSetting) (calls : List Call) (c : Call) (k : Measurement) → IsNoMeasure c → (run x (c ∷ calls)).kept ≡ Some k → (run x calls).kept ≡ Some k
kept_before x calls c k free is =
    let v : Core = run x calls in
    was_there k v.kept (after x v c) (call_leaves x x.set v.kept v c free (each_leaves x calls)).1 is

-- a measurement was brought by this call
pub record Brings (x : ServoSetting) (calls : List Call) (f : Four) (y : ℤ) (k : Measurement) : Type 0 where
  pub deltas : Deltas
  pub in_chain : measuring.deltas_in_chain (run x calls) ≡ Some deltas
  pub in_range : measuring.is_in x.lo x.hi (measuring.x_of deltas f) ≡ true
  pub is : k ≡ measuring.kept_of f deltas y

-- a measurement keeps the one that is held, or brings its own
pub measured_before : (x : ServoSetting) (calls : List Call) (f : Four) (y : ℤ) (k : Measurement) → (run x (CallMeasured f y ∷ calls)).kept ≡ Some k → ((run x calls).kept ≡ Some k) ⊎ Brings x calls f y k
measured_before x calls f y k is =
    let m : Measures x x.set (run x calls) f y (run x (CallMeasured f y ∷ calls)) = measured_at x calls f y (each_leaves x calls) in
    let there : m.0 ≡ Some k = was_there k m.0 (run x (CallMeasured f y ∷ calls)) m.1.1 is in
    elim m.2 [
      | inl old ↦ inl (old ∙ there)
      | inr new ↦ inr (record { deltas = new.deltas; in_chain = new.in_chain; in_range = new.in_range; is = same_Some k (measuring.kept_of f new.deltas y) (sym there ∙ new.is) })
    ]

-- with a chain before
pub brought_in_chain : (x : ServoSetting) (calls : List Call) (f : Four) (y : ℤ) (k : Measurement) → Brings x calls f y k → Stands (run x calls)
brought_in_chain x calls f y k b = chain_of (run x calls) (run x calls).first b.deltas refl b.in_chain

-- What the servo answers if its chain goes on

pub same_news : (a b : Option ℕ) → is_some a ≡ true → is_some b ≡ true → news_of a b ≡ Same
same_news (Some m) (Some n) e f = refl
same_news None b e f = absurd (false≢true e)
same_news (Some m) None e f = absurd (false≢true f)

told_none : (x : ServoSetting) (v w : Core) (number : ℕ) (told : List PortIn) → Stands v → Stands w → with_sample None number (with_news (news_of v.first w.first) told) ≡ told
told_none x v w number told s t = ap (λ news. with_sample None number (with_news news told)) (same_news v.first w.first s t)

-- nothing reaches the port
pub nothing_heard : (x : ServoSetting) (calls : List Call) (c : Call) (number : ℕ) (told : List PortIn) → IsNoSample c → Stands (run x calls) → Stands (run x (c ∷ calls)) → heard_of (answer_to x (run x calls) c) number told ≡ told
nothing_heard x calls (CallSample n base bits) number told free s t = absurd free
nothing_heard x calls (CallMeasured f y) number told free s t = told_none x (run x calls) (run x (CallMeasured f y ∷ calls)) number told s t
nothing_heard x calls CallTick number told free s t = told_none x (run x calls) (run x (CallTick ∷ calls)) number told s t
nothing_heard x calls (CallLease fresh) number told free s t = told_none x (run x calls) (run x (CallLease fresh ∷ calls)) number told s t
nothing_heard x calls (CallLink on) number told free s t = told_none x (run x calls) (run x (CallLink on ∷ calls)) number told s t
nothing_heard x calls (CallCarrier up) number told free s t = told_none x (run x calls) (run x (CallCarrier up ∷ calls)) number told s t
nothing_heard x calls CallReset number told free s t = told_none x (run x calls) (run x (CallReset ∷ calls)) number told s t
