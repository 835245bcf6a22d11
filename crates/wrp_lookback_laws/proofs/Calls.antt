-- What one call does to the chain's first sample, to the four, to the lock detector and to the setpoint.
use Rattle.std.specs.Prelude.{◌⊎◌}
use Rattle.std.proofs.Common.{◌≡◌, refl, ap, ℕ, ℤ, Bool, true, false, cond, Option, None, Some, inl, inr}
use Rattle.wrp_base.specs.declared.link.Deltas.{Deltas}
use Rattle.wrp_base.specs.declared.link.ServoState.{ServoState}
use Rattle.wrp_base.specs.declared.link.ServoState.TheVariants.{Holdover}
use Rattle.wrp_base.specs.declared.measurement.Four.{Four}
use Rattle.wrp_pi.specs.Lock.{Detector, Limits, rested as lock_rested}
use Rattle.wrp_servo.specs.declared.machine.Core.{Core}
use Rattle.wrp_servo.specs.declared.machine.Measurement.{Measurement}
use Rattle.wrp_servo.specs.Following.{unlocked}
use Rattle.wrp_servo.specs.Measuring.{answered, is_in, x_of, kept_of, placed}
use Rattle.wrp_servo.specs.Sampling.{is_holdover, hears, good_tag, is_far, with_tag, with_last, followed, chained, judged, lost, good, heard, by_sample}
use Rattle.wrp_servo.specs.Table.{ended, restarted_outside_holdover, with_carrier, carrier_gone, with_link, with_lease, by_lease, by_link, by_carrier}
use Rattle.wrp_lookback_laws.proofs.Rows.{Held, Next, Turned, Begins, same, quiet, next-of, then-ended, then-uninit, then-linked, placed-moves, chained-begins}

pub turned-limits : (l m : Detector) (h k : Bool) → Turned l h m k → m.limits ≡ l.limits
turned-limits l m h k (inl (p, q)) = ap (λ (d : Detector). d.limits) p
turned-limits l m h k (inr (p, q)) = ap (λ (d : Detector). d.limits) p

pub ended-next : (v : Core) → Next v (ended v)
ended-next v = next-of v (ended v) (then-ended v v (same v))

pub lease-next : (v : Core) (fresh : Bool) → Next v (by_lease v fresh)
lease-next v true = next-of v (with_lease v true) (quiet v v (with_lease v true) (same v) refl refl refl refl refl refl)
lease-next v false =
    let w : Core = with_lease v false in
    next-of v (ended w) (then-ended v w (quiet v v w (same v) refl refl refl refl refl refl))

pub link-next : (v : Core) (on : Option Deltas) → Next v (by_link v on)
link-next v (Some d) =
    let w : Core = with_link v (Some d) in
    next-of v (by_link v (Some d)) (then-linked v w v.state (quiet v v w (same v) refl refl refl refl refl refl))
link-next v None =
    let w : Core = with_link v None in
    next-of v (by_link v None) (then-uninit v (ended w) (ended w).state (then-ended v w (quiet v v w (same v) refl refl refl refl refl refl)))

-- a carrier that goes rests the detector
pub gone-next : (v : Core) → Next (record v { phase = unlocked v.phase }) (by_carrier v false)
gone-next v =
    let u : Core = record v { phase = unlocked v.phase } in
    let w : Core = carrier_gone v in
    next-of u (by_carrier v false) (then-uninit u (ended w) (ended w).state (then-ended u w (quiet u u w (same u) refl refl refl refl refl refl)))

-- a carrier that comes: outside HOLDOVER the detector rests, and nothing else changes
pub record Comes (v w : Core) : Type 0 where
  pub held : Held v w
  pub first : w.first ≡ v.first
  pub kept : w.kept ≡ v.kept
  pub state : w.state ≡ v.state
  pub lock : w.phase.lock ≡ cond (is_holdover v.state) v.phase.lock (lock_rested v.phase.lock.limits)

comes-at : (v : Core) (s : ServoState) → Comes (record v { state = s }) (restarted_outside_holdover (with_carrier (record v { state = s }) true) s)
comes-at v Holdover = record { held = record { last = refl; s = refl }; first = refl; kept = refl; state = refl; lock = refl }
comes-at v s = record { held = record { last = refl; s = refl }; first = refl; kept = refl; state = refl; lock = refl }

pub comes-next : (v : Core) → Comes v (by_carrier v true)
comes-next v = comes-at v v.state

-- a measurement: if it has no deltas nothing changes; in range its four is kept, else the chain ends
abbrev pub Answers : (lo hi : ℤ) → Core → Four → ℤ → Option Deltas → Core → Type 0
Answers lo hi v f y None w = w ≡ v
Answers lo hi v f y (Some d) w =
    ((is_in lo hi (x_of d f) ≡ true) × Next (record v { kept = Some (kept_of f d y) }) w) ⊎ ((is_in lo hi (x_of d f) ≡ false) × Next v w)

answered-by : (lo hi : ℤ) (v : Core) (f : Four) (y : ℤ) (d : Deltas) (b : Bool) → is_in lo hi (x_of d f) ≡ b → Answers lo hi v f y (Some d) (cond b (placed v (kept_of f d y)) (ended v))
answered-by lo hi v f y d true e =
    let k : Measurement = kept_of f d y in
    inl (e, next-of (record v { kept = Some k }) (placed v k) (placed-moves v k))
answered-by lo hi v f y d false e = inr (e, ended-next v)

pub answered-next : (lo hi : ℤ) (v : Core) (f : Four) (y : ℤ) (on : Option Deltas) → Answers lo hi v f y on (answered lo hi v f y on)
answered-next lo hi v f y None = refl
answered-next lo hi v f y (Some d) = answered-by lo hi v f y d (is_in lo hi (x_of d f)) refl

-- ---- samples

-- what a sample gives, by the tag that it has if it is heard and good
abbrev pub Sampled : Core → ℕ → Option ℕ → Core → Type 0
Sampled v n None w = (w ≡ v) ⊎ (w ≡ with_last v n)
Sampled v n (Some tag) w = w ≡ good (with_tag (with_last v n) tag) n

heard-is : (v : Core) (n : ℕ) (tag : Option ℕ) → Sampled v n tag (heard (with_last v n) n tag)
heard-is v n None = inr refl
heard-is v n (Some tag) = refl

pub sample-is : (v : Core) (n base bits : ℕ) → Sampled v n (cond (hears v) (good_tag v.last n base bits) None) (by_sample v n base bits)
sample-is v n base bits =
    elim (hears v) as (λ b. Sampled v n (cond b (good_tag v.last n base bits) None) (cond b (heard (with_last v n) n (good_tag v.last n base bits)) v)) [
      | true ↦ heard-is v n (good_tag v.last n base bits)
      | false ↦ inl refl
    ]

-- a good sample out of range: the chain stays or ends, and the detector rests
pub record Loses (v w : Core) : Type 0 where
  pub last : w.last ≡ v.last
  pub chain : ((w.first ≡ v.first) × (w.kept ≡ v.kept)) ⊎ ((w.first ≡ None) × (w.kept ≡ None))
  pub lock : w.phase.lock ≡ lock_rested v.phase.lock.limits

pub lost-loses : (v : Core) → Loses v (lost v)
lost-loses v =
    let t : Next v (ended v) = ended-next v in
    record {
      last = t.held.last;
      chain = t.chain;
      lock = ap (λ (l : Limits). lock_rested l) (turned-limits v.phase.lock (ended v).phase.lock (is_holdover v.state) (is_holdover (ended v).state) t.lock);
    }

-- a good sample in range: the chain stays, begins or ends
pub record Follows (f : Core) (n : ℕ) (w : Core) : Type 0 where
  pub held : Held f w
  pub chain : (((w.first ≡ f.first) × (w.kept ≡ f.kept)) ⊎ ((w.first ≡ None) × (w.kept ≡ None))) ⊎ ((f.first ≡ None) × (w.first ≡ Some n) × (w.kept ≡ f.kept))
  pub lock : Turned f.phase.lock (is_holdover f.state) w.phase.lock (is_holdover w.state)

begun-chain : (f : Core) (n : ℕ) (w : Core) → f.first ≡ None → (((w.first ≡ Some n) × (w.kept ≡ f.kept)) ⊎ ((w.first ≡ None) × (w.kept ≡ None))) →
    (((w.first ≡ f.first) × (w.kept ≡ f.kept)) ⊎ ((w.first ≡ None) × (w.kept ≡ None))) ⊎ ((f.first ≡ None) × (w.first ≡ Some n) × (w.kept ≡ f.kept))
begun-chain f n w none (inl (p, q)) = inr (none, p, q)
begun-chain f n w none (inr (p, q)) = inl (inr (p, q))

follows-by : (f : Core) (n : ℕ) (w : Core) → Begins f n w → Follows f n w
follows-by f n w (inl t) = let u : Next f w = next-of f w t in record { held = u.held; chain = inl u.chain; lock = u.lock }
follows-by f n w (inr (none, t)) =
    let u : Next (record f { first = Some n }) w = next-of (record f { first = Some n }) w t in
    record { held = record { last = u.held.last; s = u.held.s }; chain = begun-chain f n w none u.chain; lock = u.lock }

pub near-follows : (v : Core) (n : ℕ) → Follows (followed v) n (judged (chained (followed v) n))
near-follows v n = follows-by (followed v) n (judged (chained (followed v) n)) (chained-begins (followed v) n)

-- a good sample, by whether its phase is out of range
abbrev pub Good : Core → ℕ → Core → Type 0
Good v n w = ((is_far v.phase.u ≡ true) × Loses v w) ⊎ ((is_far v.phase.u ≡ false) × Follows (followed v) n w)

good-by : (v : Core) (n : ℕ) (b : Bool) → is_far v.phase.u ≡ b → Good v n (cond b (lost v) (judged (chained (followed v) n)))
good-by v n true e = inl (e, lost-loses v)
good-by v n false e = inr (e, near-follows v n)

pub good-next : (v : Core) (n : ℕ) → Good v n (good v n)
good-next v n = good-by v n (is_far v.phase.u) refl
