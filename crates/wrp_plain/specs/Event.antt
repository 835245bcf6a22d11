-- The events of a world with a plain servo, as a list with the newest first, so that it is read looking back (this
-- project's profile).
use Rattle.std.specs.Prelude.{ℕ, ℤ, pos, ◌+◌, ◌^◌, ◌≤◌, ◌≤ℤ◌, ◌+ℤ◌, unsigned_abs, List, [], ◌∷◌, get_or}
use Rattle.wrp_plain.specs.declared.event.PlainEvent.{PlainEvent}
use Rattle.wrp_plain.specs.declared.event.PlainEvent.TheVariants.{Pass, Tick, Exch}

-- the stamps of an exchange
abbrev pub t1_of : List ℤ → ℤ
t1_of t = get_or t 0 (pos 0)

abbrev pub t2_of : List ℤ → ℤ
t2_of t = get_or t 1 (pos 0)

abbrev pub t3_of : List ℤ → ℤ
t3_of t = get_or t 2 (pos 0)

abbrev pub t4_of : List ℤ → ℤ
t4_of t = get_or t 3 (pos 0)

-- the four stamps are in their ranges
pub record AreStamps (t : List ℤ) : Type 0 where
  pub t1 : unsigned_abs (t1_of t) ≤ 2 ^ 61
  pub t2 : unsigned_abs (t2_of t) ≤ 2 ^ 61
  pub t3 : unsigned_abs (t3_of t) ≤ 2 ^ 61
  pub t4 : unsigned_abs (t4_of t) ≤ 2 ^ 61

-- a time of an exchange is in its range
abbrev pub IsShort : ℤ → Type 0
IsShort time = (pos 0 ≤ℤ time) × (time ≤ℤ pos (2 ^ 60))

-- the fields of an event are in their ranges
abbrev pub HasFields : PlainEvent → Type 0
HasFields (Pass dt drift) = (pos 1 ≤ℤ dt) × (dt ≤ℤ pos (10 ^ 18)) × (unsigned_abs drift ≤ 2 ^ 60)
HasFields Tick = Unit {0}
HasFields (Exch span dms dsm o2 o3 t) =
    IsShort span × IsShort dms × IsShort dsm × (unsigned_abs o2 ≤ 2 ^ 94) × (unsigned_abs o3 ≤ 2 ^ 94) × AreStamps t

-- the time that passed since the last tick, or since the start
abbrev pub time_since_tick : List PlainEvent → ℕ
time_since_tick [] = 0
time_since_tick (Pass dt drift ∷ events) = unsigned_abs dt + time_since_tick events
time_since_tick (Tick ∷ events) = 0
time_since_tick (Exch span dms dsm o2 o3 t ∷ events) = time_since_tick events

-- by how much the true offset moved by itself
abbrev pub drifts : List PlainEvent → ℤ
drifts [] = pos 0
drifts (Pass dt drift ∷ events) = drifts events +ℤ drift
drifts (Tick ∷ events) = drifts events
drifts (Exch span dms dsm o2 o3 t ∷ events) = drifts events
