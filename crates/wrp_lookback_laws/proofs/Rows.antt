-- What a row of the servo does to the chain's first sample, to the four, to the lock detector and to the setpoint.
use Rattle.std.specs.Prelude.{◌⊎◌, int_le}
use Rattle.std.proofs.Common.{◌≡◌, refl, ap, ◌∙◌, sym, subst, ℕ, ℤ, Bool, true, false, cond, not, ◌&&◌, nat_le, ◌-◌, is_some, Option, None, Some, inl, inr}
use Rattle.wrp_base.specs.declared.link.ServoState.{ServoState}
use Rattle.wrp_base.specs.declared.link.ServoState.TheVariants.{Uninit, SyncTai, SyncNsec, SyncPhase, WaitStable, Track, Holdover}
use Rattle.wrp_pi.specs.Lock.{Detector, rested as lock_rested}
use Rattle.wrp_servo.specs.declared.machine.Core.{Core}
use Rattle.wrp_servo.specs.declared.machine.Measurement.{Measurement}
use Rattle.wrp_servo.specs.Following.{restarted}
use Rattle.wrp_servo.specs.Measuring.{by_period, settled, placed, placed_in, aimed, stepped, is_half, is_below_second, may_track}
use Rattle.wrp_servo.specs.Sampling.{is_holdover, est_of, residual, is_within, stays_near, may_start, chained, judged, judged_in}
use Rattle.wrp_servo.specs.Table.{is_track, is_old, is_past_gap, ended, ended_in, ended_by_gap, ended_by_age, uninit_outside_holdover, linked, one_tick, by_tick}

-- what no row changes except those of a good sample and of a reset
pub record Held (v w : Core) : Type 0 where
  pub last : w.last ≡ v.last
  pub s : w.phase.s ≡ v.phase.s

-- the chain and the detector stay, and HOLDOVER is neither entered nor left
pub record Stays (v w : Core) : Type 0 where
  pub held : Held v w
  pub first : w.first ≡ v.first
  pub kept : w.kept ≡ v.kept
  pub lock : w.phase.lock ≡ v.phase.lock
  pub state : is_holdover w.state ≡ is_holdover v.state

-- a detector stays, or rests if HOLDOVER is entered or left
abbrev pub Turned : Detector → Bool → Detector → Bool → Type 0
Turned l h m k = ((m ≡ l) × (k ≡ h)) ⊎ ((m ≡ lock_rested l.limits) × (k ≡ not h))

-- no chain is left
pub record Falls (v w : Core) : Type 0 where
  pub held : Held v w
  pub first : w.first ≡ None
  pub kept : w.kept ≡ None
  pub lock : Turned v.phase.lock (is_holdover v.state) w.phase.lock (is_holdover w.state)

abbrev pub Moves : Core → Core → Type 0
Moves v w = Stays v w ⊎ Falls v w

-- ---- one row after another

held-both : (u v w : Core) → Held u v → Held v w → Held u w
held-both u v w a b = record { last = b.last ∙ a.last; s = b.s ∙ a.s }

turned-from : (l m n : Detector) (h k j : Bool) → m ≡ l → k ≡ h → Turned m k n j → Turned l h n j
turned-from l m n h k j a b (inl (p, q)) = inl (p ∙ a, q ∙ b)
turned-from l m n h k j a b (inr (p, q)) = inr (p ∙ ap (λ (d : Detector). lock_rested d.limits) a, q ∙ ap not b)

turned-to : (l m n : Detector) (h k j : Bool) → Turned l h m k → n ≡ m → j ≡ k → Turned l h n j
turned-to l m n h k j (inl (p, q)) a b = inl (a ∙ p, b ∙ q)
turned-to l m n h k j (inr (p, q)) a b = inr (a ∙ p, b ∙ q)

after-stays : (u v w : Core) → Stays u v → Moves v w → Moves u w
after-stays u v w a (inl b) = inl (record {
  held = held-both u v w a.held b.held;
  first = b.first ∙ a.first;
  kept = b.kept ∙ a.kept;
  lock = b.lock ∙ a.lock;
  state = b.state ∙ a.state;
})
after-stays u v w a (inr b) = inr (record {
  held = held-both u v w a.held b.held;
  first = b.first;
  kept = b.kept;
  lock = turned-from u.phase.lock v.phase.lock w.phase.lock (is_holdover u.state) (is_holdover v.state) (is_holdover w.state) a.lock a.state b.lock;
})

then-falls : (u v w : Core) → Moves u v → Held v w → w.first ≡ None → w.kept ≡ None → w.phase.lock ≡ v.phase.lock → is_holdover w.state ≡ is_holdover v.state → Moves u w
then-falls u v w (inl a) h f k l s = inr (record { held = held-both u v w a.held h; first = f; kept = k; lock = inl (l ∙ a.lock, s ∙ a.state) })
then-falls u v w (inr a) h f k l s = inr (record {
  held = held-both u v w a.held h;
  first = f;
  kept = k;
  lock = turned-to u.phase.lock v.phase.lock w.phase.lock (is_holdover u.state) (is_holdover v.state) (is_holdover w.state) a.lock l s;
})

pub then-stays : (u v w : Core) → Moves u v → Stays v w → Moves u w
then-stays u v w (inl a) b = after-stays u v w a (inl b)
then-stays u v w (inr a) b = then-falls u v w (inr a) b.held (b.first ∙ a.first) (b.kept ∙ a.kept) b.lock b.state

pub either : (u : Core) (b : Bool) (v w : Core) → Moves u v → Moves u w → Moves u (cond b v w)
either u true v w h k = h
either u false v w h k = k

-- a change of what is not covered here
pub quiet : (u v w : Core) → Moves u v → w.last ≡ v.last → w.phase.s ≡ v.phase.s → w.first ≡ v.first → w.kept ≡ v.kept → w.phase.lock ≡ v.phase.lock → is_holdover w.state ≡ is_holdover v.state → Moves u w
quiet u v w t last s first kept lock state =
    then-stays u v w t (record { held = record { last = last; s = s }; first = first; kept = kept; lock = lock; state = state })

pub same : (v : Core) → Moves v v
same v = inl (record { held = record { last = refl; s = refl }; first = refl; kept = refl; lock = refl; state = refl })

-- ---- the end of a chain

ended-at : (v : Core) (first : Option ℕ) (s : ServoState) → Moves (record v { state = s; first = first }) (ended (record v { state = s; first = first }))
ended-at v None s = same (record v { state = s; first = None })
ended-at v (Some m) Track = inr (record { held = record { last = refl; s = refl }; first = refl; kept = refl; lock = inr (refl, refl) })
ended-at v (Some m) SyncNsec = inr (record { held = record { last = refl; s = refl }; first = refl; kept = refl; lock = inl (refl, refl) })
ended-at v (Some m) SyncPhase = inr (record { held = record { last = refl; s = refl }; first = refl; kept = refl; lock = inl (refl, refl) })
ended-at v (Some m) WaitStable = inr (record { held = record { last = refl; s = refl }; first = refl; kept = refl; lock = inl (refl, refl) })
ended-at v (Some m) _ = inr (record { held = record { last = refl; s = refl }; first = refl; kept = refl; lock = inl (refl, refl) })

-- without a chain nothing ends
ended-none : (w : Core) → w.first ≡ None → ended w ≡ w
ended-none w h = ap (λ (o : Option ℕ). cond (is_some o) (ended_in w w.state) w) h

pub then-ended : (v w : Core) → Moves v w → Moves v (ended w)
then-ended v w (inl a) = after-stays v w (ended w) a (ended-at w w.first w.state)
then-ended v w (inr a) = subst (λ (z : Core). Moves v z) (sym (ended-none w a.first)) (inr a)

-- ---- links, leases, carriers and ticks

pub then-uninit : (u v : Core) (s : ServoState) → Moves u (record v { state = s }) → Moves u (uninit_outside_holdover (record v { state = s }) s)
then-uninit u v Holdover t = t
then-uninit u v s t = quiet u _ _ t refl refl refl refl refl refl

pub then-linked : (u v : Core) (s : ServoState) → Moves u (record v { state = s }) → Moves u (linked (record v { state = s }) s)
then-linked u v Uninit t = quiet u _ _ t refl refl refl refl refl refl
then-linked u v s t = t

pub then-later : (u v : Core) → Moves u v → Moves u (ended_by_age (ended_by_gap v))
then-later u v t =
    let w : Core = ended_by_gap v in
    let g : Moves u w = either u (is_past_gap v) (ended v) v (then-ended u v t) t in
    either u (is_track w.state && is_old w) (ended w) w (then-ended u w g) g

-- what follows from a call: the chain stays or ends, whatever the detector does
pub record Next (v w : Core) : Type 0 where
  pub held : Held v w
  pub chain : ((w.first ≡ v.first) × (w.kept ≡ v.kept)) ⊎ ((w.first ≡ None) × (w.kept ≡ None))
  pub lock : Turned v.phase.lock (is_holdover v.state) w.phase.lock (is_holdover w.state)

pub next-of : (v w : Core) → Moves v w → Next v w
next-of v w (inl a) = record { held = a.held; chain = inl (a.first, a.kept); lock = inl (a.lock, a.state) }
next-of v w (inr a) = record { held = a.held; chain = inr (a.first, a.kept); lock = a.lock }

awake : (b : Bool) → is_holdover (cond b SyncTai Uninit) ≡ false
awake true = refl
awake false = refl

tick_in_holdover : (v : Core) → Next (record v { state = Holdover }) (by_tick (record v { state = Holdover }))
tick_in_holdover v =
    let w : Core = one_tick (record v { state = Holdover }) in
    elim (nat_le w.set.holdover (w.ticks - w.left_tick)) as (λ b. Next (record v { state = Holdover }) (cond b (record w { state = cond (is_some w.signals.link) SyncTai Uninit; phase = restarted w.phase }) w)) [
      | true ↦ record { held = record { last = refl; s = refl }; chain = inl (refl, refl); lock = inr (refl, awake (is_some v.signals.link)) }
      | false ↦ record { held = record { last = refl; s = refl }; chain = inl (refl, refl); lock = inl (refl, refl) }
    ]

tick_outside : (v : Core) (s : ServoState) → Next (record v { state = s }) (ended_by_age (ended_by_gap (one_tick (record v { state = s }))))
tick_outside v s =
    let u : Core = record v { state = s } in
    let w : Core = one_tick u in
    next-of u (ended_by_age (ended_by_gap w)) (then-later u w (quiet u u w (same u) refl refl refl refl refl refl))

pub tick-next : (v : Core) (s : ServoState) → Next (record v { state = s }) (by_tick (record v { state = s }))
tick-next v Holdover = tick_in_holdover v
tick-next v Uninit = tick_outside v Uninit
tick-next v SyncTai = tick_outside v SyncTai
tick-next v SyncNsec = tick_outside v SyncNsec
tick-next v SyncPhase = tick_outside v SyncPhase
tick-next v WaitStable = tick_outside v WaitStable
tick-next v Track = tick_outside v Track

-- ---- measurements

then-by_period : (u v : Core) (k : Measurement) (est : ℤ) (s : ServoState) → is_holdover s ≡ false → Moves u (record v { state = s }) → Moves u (by_period (record v { state = s }) k est)
then-by_period u v k est s h t =
    let w : Core = record v { state = s } in
    either u (is_half w est) (aimed w k SyncPhase) (stepped w SyncNsec)
    (quiet u w (aimed w k SyncPhase) t refl refl refl refl refl (sym h))
    (then-falls u w (stepped w SyncNsec) t (record { last = refl; s = refl }) refl refl refl (sym h))

then-settled : (u v : Core) (k : Measurement) (est : ℤ) → Moves u (record v { state = WaitStable }) → Moves u (settled (record v { state = WaitStable }) k est)
then-settled u v k est t =
    let w : Core = record v { state = WaitStable } in
    let lower : Core = cond (is_half w est) (aimed w k SyncPhase) (record w { state = SyncNsec }) in
    either u (may_track w k) (aimed w k Track) lower
    (quiet u w (aimed w k Track) t refl refl refl refl refl refl)
    (either u (is_half w est) (aimed w k SyncPhase) (record w { state = SyncNsec })
    (quiet u w (aimed w k SyncPhase) t refl refl refl refl refl refl)
    (quiet u w (record w { state = SyncNsec }) t refl refl refl refl refl refl))

then-placed : (u v : Core) (k : Measurement) (est : ℤ) (s : ServoState) → Moves u (record v { state = s }) → Moves u (placed_in (record v { state = s }) k est s)
then-placed u v k est SyncTai t =
    let w : Core = record v { state = SyncTai } in
    either u (is_below_second est) (by_period w k est) (stepped w SyncTai)
    (then-by_period u v k est SyncTai refl t)
    (then-falls u w (stepped w SyncTai) t (record { last = refl; s = refl }) refl refl refl refl)
then-placed u v k est SyncNsec t = then-by_period u v k est SyncNsec refl t
then-placed u v k est WaitStable t =
    let w : Core = record v { state = WaitStable } in
    either u (nat_le v.set.stable v.calm) (settled w k est) w (then-settled u v k est t) t
then-placed u v k est Track t =
    let w : Core = record v { state = Track } in
    either u (is_within v.set.track_tau (residual v.phase k)) (aimed w k Track) (ended w)
    (quiet u w (aimed w k Track) t refl refl refl refl refl refl)
    (then-ended u w t)
then-placed u v k est s t = t

-- a four that is kept
pub placed-moves : (v : Core) (k : Measurement) → Moves (record v { kept = Some k }) (placed v k)
placed-moves v k =
    let u : Core = record v { kept = Some k } in
    then-placed u u k (est_of v.phase.u k) v.state (same u)

-- ---- good samples

then-judged : (u v : Core) (s : ServoState) → Moves u (record v { state = s }) → Moves u (judged_in (record v { state = s }) s)
then-judged u v SyncPhase t =
    let w : Core = record v { state = SyncPhase } in
    either u (int_le v.phase.s v.phase.goal && int_le v.phase.goal v.phase.s) (record w { state = WaitStable; calm = 0 }) w
    (quiet u w (record w { state = WaitStable; calm = 0 }) t refl refl refl refl refl refl) t
then-judged u v WaitStable t =
    let w : Core = record v { state = WaitStable } in
    quiet u w (judged_in w WaitStable) t refl refl refl refl refl refl
then-judged u v Track t =
    let w : Core = record v { state = Track } in
    either u (stays_near w) w (ended w) t (then-ended u w t)
then-judged u v s t = t

judged-moves : (u v : Core) → Moves u v → Moves u (judged v)
judged-moves u v t = then-judged u v v.state t

-- a good sample in range: the chain stays, or begins, and may end then
abbrev pub Begins : Core → ℕ → Core → Type 0
Begins f n w = Moves f w ⊎ ((f.first ≡ None) × Moves (record f { first = Some n }) w)

none_where : (o : Option ℕ) (b : Bool) → (not (is_some o) && b) ≡ true → o ≡ None
none_where None b h = refl
none_where (Some n) b h = absurd cc

begun : (f : Core) (n : ℕ) (b : Bool) → may_start f ≡ b → Begins f n (judged (cond b (record f { first = Some n }) f))
begun f n true h =
    inr (none_where f.first (is_some f.signals.link && f.signals.lease) h, judged-moves (record f { first = Some n }) (record f { first = Some n }) (same (record f { first = Some n })))
begun f n false h = inl (judged-moves f f (same f))

pub chained-begins : (f : Core) (n : ℕ) → Begins f n (judged (chained f n))
chained-begins f n =
    elim f.phase.lock.locked as (λ l. Begins f n (judged (cond l (cond (may_start f) (record f { first = Some n }) f) (ended f)))) [
      | true ↦ begun f n (may_start f) refl
      | false ↦ inl (judged-moves f (ended f) (then-ended f f (same f)))
    ]
