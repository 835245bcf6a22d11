-- Ticks and time: the ticks of a node come neither too early nor too late (this project's
-- profile). The true time between two ticks is from dmin to dmax.
use Rattle.std.specs.Prelude.{ℕ, ℤ, pos, ◌≡◌, ◌+◌, ◌-◌, ◌*◌, ◌<◌, ◌≤◌, ◌+ℤ◌, ◌≤ℤ◌, ◌⊎◌, List, ◌∷◌}
use Rattle.wrp_tracking_laws.specs.History.{Was, EachStep}

-- a node at one moment: the true time, its tick count, and the time of its last tick or of its start
pub record TickMoment : Type 0 where
  pub time : ℤ
  pub ticks : ℕ
  pub last : ℤ

-- time passes, not too far past the last tick
pub record TimePasses (dmax : ℕ) (a b : TickMoment) : Type 0 where
  pub ticks : b.ticks ≡ a.ticks
  pub last : b.last ≡ a.last
  pub order : a.time ≤ℤ b.time
  pub near : b.time ≤ℤ (a.last +ℤ pos dmax)

-- a tick comes, not too early after the last one
pub record TickComes (dmin : ℕ) (a b : TickMoment) : Type 0 where
  pub ticks : b.ticks ≡ a.ticks + 1
  pub last : b.last ≡ b.time
  pub now : b.time ≡ a.time
  pub late : (a.last +ℤ pos dmin) ≤ℤ b.time

-- one step: time passes, or a tick comes
abbrev pub TickStep : (dmin dmax : ℕ) → TickMoment → TickMoment → Type 0
TickStep dmin dmax a b = TimePasses dmax a b ⊎ TickComes dmin a b

-- a moment at which the last tick is past, and not too long ago
pub record IsOnTime (dmax : ℕ) (a : TickMoment) : Type 0 where
  pub past : a.last ≤ℤ a.time
  pub near : a.time ≤ℤ (a.last +ℤ pos dmax)

-- the node ticked by these steps since the moment of number k, which is x
pub record TickedSince (dmin dmax k : ℕ) (x now : TickMoment) (past : List TickMoment)
    : Type 0 where
  pub was : Was (now ∷ past) k x
  pub steps : EachStep (TickStep dmin dmax) k (now ∷ past)
  pub on_time : IsOnTime dmax x

-- d ticks later it is at most d + 1 times dmax later
abbrev pub TicksAtMost : Type 0
TicksAtMost =
    (dmin dmax k : ℕ) (x now : TickMoment) (past : List TickMoment) →
    TickedSince dmin dmax k x now past →
    (d : ℕ) × (now.ticks ≡ x.ticks + d) × (now.time ≤ℤ (x.time +ℤ pos ((d + 1) * dmax)))

-- and the d-th tick is at least d - 1 times dmin later
abbrev pub TicksAtLeast : Type 0
TicksAtLeast =
    (dmin dmax k d : ℕ) (x now : TickMoment) (past : List TickMoment) →
    TickedSince dmin dmax k x now past →
    now.ticks ≡ x.ticks + d → 0 < d →
    (x.time +ℤ pos ((d - 1) * dmin)) ≤ℤ now.time

-- at most this many ticks since a moment take at most one more than this many times dmax
abbrev pub WithinTicks : Type 0
WithinTicks =
    (dmin dmax k most : ℕ) (x now : TickMoment) (past : List TickMoment) →
    TickedSince dmin dmax k x now past →
    now.ticks ≤ x.ticks + most →
    now.time ≤ℤ (x.time +ℤ pos ((most + 1) * dmax))
