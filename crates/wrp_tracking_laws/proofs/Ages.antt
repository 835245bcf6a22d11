-- In TRACK the four that the servo holds is young: a tick at which it is too old ends TRACK.
use Rattle.std.proofs.Common.{◌≡◌, refl, sym, subst, ℕ, ℤ, Bool, true, false, cond, ◌&&◌, nat_le, ◌+◌, ◌-◌, ◌≤◌, is_some, Option, None, Some, List, [], ◌∷◌, arith}
use Rattle.std.proofs.lemmas.Bool.Decides.{nat_tests}
use Rattle.std.specs.Prelude.{nat_lt, int_le, IfSome}
use Rattle.wrp_base.specs.declared.link.Deltas.{Deltas}
use Rattle.wrp_base.specs.declared.link.ServoState.{ServoState}
use Rattle.wrp_base.specs.declared.link.ServoState.TheVariants.{Uninit, SyncTai, SyncNsec, SyncPhase, WaitStable, Track, Holdover}
use Rattle.wrp_base.specs.declared.measurement.Four.{Four}
use Rattle.wrp_base.proofs.Booleans.{and_second}
use Rattle.wrp_servo.specs.declared.machine.Measurement.{Measurement}
use Rattle.wrp_servo.specs.declared.machine.Core.{Core}
use Rattle.wrp_servo.specs.Following.{restarted}
use Rattle.wrp_servo.specs.Table as table
use Rattle.wrp_servo.specs.Table.{is_old, is_track, too_old}
use Rattle.wrp_servo.specs.Sampling as sampling
use Rattle.wrp_servo.specs.Measuring as measuring
use Rattle.wrp_servo.specs.Call.{Call, CallSample, CallMeasured, CallTick, CallLease, CallLink, CallCarrier, CallReset, ServoSetting, run}
use Rattle.wrp_servo.specs.Laws.{TrackHasChain, TrackIsNear}
use Rattle.wrp_tracking_laws.specs.ServoGives.{FoursRise, TrackIsYoung}

-- in TRACK the four is not too old
abbrev Shows : Core → Type 0
Shows v = is_track v.state ≡ true → is_old v ≡ false

off : (v : Core) → is_track v.state ≡ false → Shows v
off v h e = absurd cc

either : (b : Bool) (v w : Core) → Shows v → Shows w → Shows (cond b v w)
either true v w h k = h
either false v w h k = k

-- if there is none, none is old
nothing : (v : Core) → v.kept ≡ None → Shows v
nothing v none _ = let P : Option Measurement → Type 0 = λ o. too_old v.set.age v.ticks o ≡ false in subst P (sym none) refl

pub ended_in-none : (v : Core) (s : ServoState) → (table.ended_in v s).kept ≡ None
ended_in-none v Uninit = refl
ended_in-none v SyncTai = refl
ended_in-none v SyncNsec = refl
ended_in-none v SyncPhase = refl
ended_in-none v WaitStable = refl
ended_in-none v Track = refl
ended_in-none v Holdover = refl

ended-shows : (v : Core) → Shows v → Shows (table.ended v)
ended-shows v h = either (is_some v.first) (table.ended_in v v.state) v (nothing (table.ended_in v v.state) (ended_in-none v v.state)) h

-- a chain that ends leaves none
ended-none : (v : Core) → is_some v.first ≡ true → (table.ended v).kept ≡ None
ended-none v some = let P : Bool → Type 0 = λ b. (cond b (table.ended_in v v.state) v).kept ≡ None in subst P (sym some) (ended_in-none v v.state)

uninit-shows : (v : Core) (s : ServoState) → Shows v → Shows (table.uninit_outside_holdover v s)
uninit-shows v Uninit h = off (record v { state = Uninit }) refl
uninit-shows v SyncTai h = off (record v { state = Uninit }) refl
uninit-shows v SyncNsec h = off (record v { state = Uninit }) refl
uninit-shows v SyncPhase h = off (record v { state = Uninit }) refl
uninit-shows v WaitStable h = off (record v { state = Uninit }) refl
uninit-shows v Track h = off (record v { state = Uninit }) refl
uninit-shows v Holdover h = h

restarted-shows : (v : Core) (s : ServoState) → Shows v → Shows (table.restarted_outside_holdover v s)
restarted-shows v Uninit h = h
restarted-shows v SyncTai h = h
restarted-shows v SyncNsec h = h
restarted-shows v SyncPhase h = h
restarted-shows v WaitStable h = h
restarted-shows v Track h = h
restarted-shows v Holdover h = h

linked-shows : (v : Core) (s : ServoState) → Shows v → Shows (table.linked v s)
linked-shows v Uninit h = off (record v { state = SyncTai }) refl
linked-shows v SyncTai h = h
linked-shows v SyncNsec h = h
linked-shows v SyncPhase h = h
linked-shows v WaitStable h = h
linked-shows v Track h = h
linked-shows v Holdover h = h

-- a good sample
judged-shows : (v : Core) (s : ServoState) → Shows v → Shows (sampling.judged_in v s)
judged-shows v Uninit h = h
judged-shows v SyncTai h = h
judged-shows v SyncNsec h = h
judged-shows v SyncPhase h = either (int_le v.phase.s v.phase.goal && int_le v.phase.goal v.phase.s) (record v { state = WaitStable; calm = 0 }) v (off (record v { state = WaitStable; calm = 0 }) refl) h
judged-shows v WaitStable h = h
judged-shows v Track h = either (sampling.stays_near v) v (table.ended v) h (ended-shows v h)
judged-shows v Holdover h = h

chained-shows : (v : Core) (n : ℕ) → Shows v → Shows (sampling.chained v n)
chained-shows v n h =
    either v.phase.lock.locked (cond (sampling.may_start v) (record v { first = Some n }) v) (table.ended v)
    (either (sampling.may_start v) (record v { first = Some n }) v h h) (ended-shows v h)

good-shows : (v : Core) (n : ℕ) → Shows v → Shows (sampling.good v n)
good-shows v n h =
    let w : Core = sampling.chained (sampling.followed v) n in
    either (sampling.is_far v.phase.u) (sampling.lost v) (sampling.judged w) (ended-shows v h) (judged-shows w w.state (chained-shows (sampling.followed v) n h))

heard-shows : (v : Core) (n : ℕ) (tag : Option ℕ) → Shows v → Shows (sampling.heard v n tag)
heard-shows v n None h = h
heard-shows v n (Some tag) h = good-shows (sampling.with_tag v tag) n h

sample-shows : (v : Core) (n base bits : ℕ) → Shows v → Shows (sampling.by_sample v n base bits)
sample-shows v n base bits h =
    let w : Core = sampling.with_last v n in
    either (sampling.hears v) (sampling.heard w n (sampling.good_tag v.last n base bits)) v (heard-shows w n (sampling.good_tag v.last n base bits) h) h

-- a tick: what is old then ends
aged : (v : Core) (t o : Bool) → is_track v.state ≡ t → is_old v ≡ o → (is_track v.state ≡ true → is_some v.first ≡ true) → Shows (cond (t && o) (table.ended v) v)
aged v true true track old chain = nothing (table.ended v) (ended-none v (chain track))
aged v true false track old chain = λ _. old
aged v false o track old chain = off v track

aged-shows : (v : Core) → (is_track v.state ≡ true → is_some v.first ≡ true) → Shows (table.ended_by_age v)
aged-shows v chain = aged v (is_track v.state) (is_old v) refl refl chain

-- what has none stays so
aged_none : (v : Core) → v.kept ≡ None → Shows (table.ended_by_age v)
aged_none v none = either (is_track v.state && is_old v) (table.ended v) v (ended-shows v (nothing v none)) (nothing v none)

gap : (v : Core) (past some : Bool) → is_some v.first ≡ some → (is_track v.state ≡ true → is_some v.first ≡ true) → Shows (table.ended_by_age (cond past (table.ended v) v))
gap v false some is chain = aged-shows v chain
gap v true true is chain = aged_none (table.ended v) (ended-none v is)
gap v true false is chain =
    let P : Bool → Type 0 = λ b. Shows (table.ended_by_age (cond b (table.ended_in v v.state) v)) in
    subst P (sym is) (aged-shows v chain)

later-shows : (v : Core) → (is_track v.state ≡ true → is_some v.first ≡ true) → Shows (table.ended_by_age (table.ended_by_gap v))
later-shows v chain = gap v (table.is_past_gap v) (is_some v.first) refl chain

un_tracked : (b : Bool) → is_track (cond b SyncTai Uninit) ≡ false
un_tracked true = refl
un_tracked false = refl

held-shows : (v : Core) → is_track v.state ≡ false → Shows (table.holdover_ticked v)
held-shows v h =
    let w : Core = record v { state = cond (is_some v.signals.link) SyncTai Uninit; phase = restarted v.phase } in
    either (nat_le v.set.holdover (v.ticks - v.left_tick)) w v (off w (un_tracked (is_some v.signals.link))) (off v h)

ticked-shows : (v : Core) (s : ServoState) → (is_track s ≡ true → is_some v.first ≡ true) → Shows (table.ticked_in (record v { state = s }) s)
ticked-shows v Uninit chain = later-shows (record v { state = Uninit }) chain
ticked-shows v SyncTai chain = later-shows (record v { state = SyncTai }) chain
ticked-shows v SyncNsec chain = later-shows (record v { state = SyncNsec }) chain
ticked-shows v SyncPhase chain = later-shows (record v { state = SyncPhase }) chain
ticked-shows v WaitStable chain = later-shows (record v { state = WaitStable }) chain
ticked-shows v Track chain = later-shows (record v { state = Track }) chain
ticked-shows v Holdover chain = held-shows (record v { state = Holdover }) refl

-- a measurement
not_older : (age ticks old new : ℕ) → old ≤ new → nat_lt age (ticks - old) ≡ false → nat_lt age (ticks - new) ≡ false
not_older age ticks old new rises young = grind (arith, nat_tests)

young_next : (age ticks new : ℕ) (o : Option Measurement) → is_some o ≡ true → IfSome o (λ k. k.four.tick ≤ new) → too_old age ticks o ≡ false → nat_lt age (ticks - new) ≡ false
young_next age ticks new None some rises young = absurd cc
young_next age ticks new (Some k) some rises young = not_older age ticks k.four.tick new rises young

young_enough : (n age : ℕ) → nat_le n age ≡ true → nat_lt age n ≡ false
young_enough n age h = grind (arith, nat_tests)

by_period-shows : (v : Core) (k : Measurement) (est : ℤ) → Shows (measuring.by_period v k est)
by_period-shows v k est = either (measuring.is_half v est) (measuring.aimed v k SyncPhase) (measuring.stepped v SyncNsec) (off (measuring.aimed v k SyncPhase) refl) (off (measuring.stepped v SyncNsec) refl)

aimed-shows : (v : Core) (k : Measurement) (b : Bool) → measuring.may_track v k ≡ b → v.kept ≡ Some k → (w : Core) → Shows w → Shows (cond b (measuring.aimed v k Track) w)
aimed-shows v k true may is w h = λ _.
    let P : Option Measurement → Type 0 = λ o. too_old v.set.age v.ticks o ≡ false in
    let calm : (sampling.is_calm v && nat_le (v.ticks - k.four.tick) v.set.age) ≡ true =
    and_second (sampling.is_within v.set.track_tau (sampling.residual v.phase k)) (sampling.is_calm v && nat_le (v.ticks - k.four.tick) v.set.age) may in
    subst P (sym is) (young_enough (v.ticks - k.four.tick) v.set.age (and_second (sampling.is_calm v) (nat_le (v.ticks - k.four.tick) v.set.age) calm))
aimed-shows v k false may is w h = h

settled-shows : (v : Core) (k : Measurement) (est : ℤ) → v.kept ≡ Some k → Shows (measuring.settled v k est)
settled-shows v k est is =
    let w : Core = cond (measuring.is_half v est) (measuring.aimed v k SyncPhase) (record v { state = SyncNsec }) in
    aimed-shows v k (measuring.may_track v k) refl is w (either (measuring.is_half v est) (measuring.aimed v k SyncPhase) (record v { state = SyncNsec }) (off (measuring.aimed v k SyncPhase) refl) (off (record v { state = SyncNsec }) refl))

placed-shows : (v : Core) (k : Measurement) (est : ℤ) (s : ServoState) → (is_track s ≡ true → too_old v.set.age v.ticks (Some k) ≡ false) → Shows (measuring.placed_in (record v { state = s; kept = Some k }) k est s)
placed-shows v k est Uninit young = off (record v { state = Uninit; kept = Some k }) refl
placed-shows v k est SyncTai young =
    let w : Core = record v { state = SyncTai; kept = Some k } in
    either (measuring.is_below_second est) (measuring.by_period w k est) (measuring.stepped w SyncTai) (by_period-shows w k est) (off (measuring.stepped w SyncTai) refl)
placed-shows v k est SyncNsec young = by_period-shows (record v { state = SyncNsec; kept = Some k }) k est
placed-shows v k est SyncPhase young = off (record v { state = SyncPhase; kept = Some k }) refl
placed-shows v k est WaitStable young =
    let w : Core = record v { state = WaitStable; kept = Some k } in
    either (nat_le v.set.stable v.calm) (measuring.settled w k est) w (settled-shows w k est refl) (off w refl)
placed-shows v k est Track young =
    let w : Core = record v { state = Track; kept = Some k } in
    either (sampling.is_within v.set.track_tau (sampling.residual v.phase k)) (measuring.aimed w k Track) (table.ended w) young (ended-shows w young)
placed-shows v k est Holdover young = off (record v { state = Holdover; kept = Some k }) refl

measured-shows : (x : ServoSetting) (v : Core) (f : Four) (y : ℤ) (on : Option Deltas) → (is_track v.state ≡ true → is_some v.kept ≡ true) → IfSome v.kept (λ k. k.four.tick ≤ f.tick) → Shows v → Shows (measuring.answered x.lo x.hi v f y on)
measured-shows x v f y None some rises h = h
measured-shows x v f y (Some d) some rises h =
    let k : Measurement = measuring.kept_of f d y in
    either (measuring.is_in x.lo x.hi (measuring.x_of d f)) (measuring.placed v k) (table.ended v)
    (placed-shows v k (sampling.est_of v.phase.u k) v.state (λ track. young_next v.set.age v.ticks f.tick v.kept (some track) rises (h track)))
    (ended-shows v h)

-- any call
carrier-shows : (v : Core) (up : Bool) → Shows v → Shows (table.by_carrier v up)
carrier-shows v true h = restarted-shows (table.with_carrier v true) v.state h
carrier-shows v false h =
    let w : Core = table.ended (table.carrier_gone v) in
    uninit-shows w w.state (ended-shows (table.carrier_gone v) h)

link-shows : (v : Core) (on : Option Deltas) → Shows v → Shows (table.by_link v on)
link-shows v (Some d) h = linked-shows (table.with_link v (Some d)) v.state h
link-shows v None h =
    let w : Core = table.ended (table.with_link v None) in
    uninit-shows w w.state (ended-shows (table.with_link v None) h)

lease-shows : (v : Core) (fresh : Bool) → Shows v → Shows (table.by_lease v fresh)
lease-shows v true h = h
lease-shows v false h = ended-shows (table.with_lease v false) h

young : TrackHasChain → TrackIsNear → (x : ServoSetting) (calls : List Call) → FoursRise x calls → Shows (run x calls)
young chain near x [] rise = off (run x []) refl
young chain near x (CallSample n base bits ∷ calls) rise = sample-shows (run x calls) n base bits (young chain near x calls rise)
young chain near x (CallMeasured f y ∷ calls) rise =
    measured-shows x (run x calls) f y (measuring.deltas_in_chain (run x calls)) (λ track. (near x calls track).kept) rise.0 (young chain near x calls rise.1)
young chain near x (CallTick ∷ calls) rise = ticked-shows (table.one_tick (run x calls)) (run x calls).state (chain x calls)
young chain near x (CallLease fresh ∷ calls) rise = lease-shows (run x calls) fresh (young chain near x calls rise)
young chain near x (CallLink on ∷ calls) rise = link-shows (run x calls) on (young chain near x calls rise)
young chain near x (CallCarrier up ∷ calls) rise = carrier-shows (run x calls) up (young chain near x calls rise)
young chain near x (CallReset ∷ calls) rise = off (run x (CallReset ∷ calls)) refl

in_ticks : (age ticks tick : ℕ) → nat_lt age (ticks - tick) ≡ false → ticks ≤ tick + age
in_ticks age ticks tick h =
    let few : ticks - tick ≤ age = grind (arith, nat_tests) in
    omega arith

pub track-is_young : TrackIsYoung
track-is_young x calls kept chain near rise track is =
    let v : Core = run x calls in
    let P : Option Measurement → Type 0 = λ o. too_old v.set.age v.ticks o ≡ false in
    in_ticks v.set.age v.ticks kept.four.tick (subst P is (young chain near x calls rise track))
