-- The six premises of a world with a plain servo, and the first that an event breaks (this project's profile).
use Rattle.std.specs.Prelude.{◌≡◌, ℕ, ℤ, pos, ◌+◌, ◌*◌, ◌^◌, ◌+ℤ◌, ◌-ℤ◌, unsigned_abs, int_lt, if◌then◌else◌, List, [], ◌∷◌, Option, Some, None, Result, Ok, Err}
use Rattle.wrp_plain.specs.declared.settings.PlainSet.{PlainSet}
use Rattle.wrp_plain.specs.declared.event.PlainEvent.{PlainEvent}
use Rattle.wrp_plain.specs.declared.event.PlainEvent.TheVariants.{Pass, Tick, Exch}
use Rattle.wrp_plain.specs.declared.event.PlainBroken.{PlainBroken}
use Rattle.wrp_plain.specs.declared.event.PlainSeen.{PlainSeen}
use Rattle.wrp_plain.specs.Measurement.{moves_within}
use Rattle.wrp_plain.specs.Event.{t1_of, t2_of, t3_of, t4_of, HasFields, time_since_tick}
use Rattle.wrp_plain.specs.Seen.{true_offset, seen_of}

-- a premise is broken by what is over its limit
abbrev pub over : ℕ → ℤ → ℤ → Option PlainBroken
over premise shown bound =
    if int_lt bound shown then Some (record { premise = premise; shown = shown; bound = bound }) else None

-- a premise is broken by what is below its limit
abbrev pub below : ℕ → ℤ → ℤ → Option PlainBroken
below premise shown bound =
    if int_lt shown bound then Some (record { premise = premise; shown = shown; bound = bound }) else None

-- the first that is broken
abbrev pub first_broken : List (Option PlainBroken) → Option PlainBroken
first_broken [] = None
first_broken (None ∷ later) = first_broken later
first_broken (Some broken ∷ later) = Some broken

-- 1: the time since the last tick is at most dmax
abbrev pub tick_late : PlainSet → ℕ → ℤ → Option PlainBroken
tick_late set since dt = over 1 (pos (unsigned_abs dt + since)) set.dmax

-- 2: the true offset moves no faster than the rate; both sides in 10^-12 tau
abbrev pub rate_broken : PlainSet → ℤ → ℤ → Option PlainBroken
rate_broken set dt drift = over 2 (pos (unsigned_abs drift * 10 ^ 12)) (pos (set.rate * unsigned_abs dt))

-- 3: an exchange takes at most the span of the settings
abbrev pub span_broken : PlainSet → ℤ → Option PlainBroken
span_broken set span = over 3 span set.span

-- 4: neither delay is below the least
abbrev pub least_broken : PlainSet → ℤ → ℤ → Option PlainBroken
least_broken set dms dsm = first_broken (below 4 dms set.least ∷ below 4 dsm set.least ∷ [])

-- 5: the true offset at a stamp of the slave is no further from what it is now than it may move in this exchange
abbrev pub move_broken : PlainSet → ℤ → ℤ → ℤ → Option PlainBroken
move_broken set off span at = over 5 (pos (unsigned_abs (at -ℤ off))) (pos (moves_within set.rate (unsigned_abs span)))

abbrev pub moves_broken : PlainSet → ℤ → ℤ → ℤ → ℤ → Option PlainBroken
moves_broken set off span o2 o3 = first_broken (move_broken set off span o2 ∷ move_broken set off span o3 ∷ [])

-- what the stamps of the way down, and of the way up, are off by
abbrev pub down_error : List ℤ → ℤ → ℤ → ℤ
down_error t dms o2 = ((t2_of t -ℤ t1_of t) -ℤ dms) -ℤ o2

abbrev pub up_error : List ℤ → ℤ → ℤ → ℤ
up_error t dsm o3 = ((t4_of t -ℤ t3_of t) -ℤ dsm) +ℤ o3

-- 6: each way is measured to within the errors of its two stamps
abbrev pub stamps_broken : PlainSet → ℤ → ℤ → Option PlainBroken
stamps_broken set down up = first_broken (
    over 6 (pos (unsigned_abs down)) (pos (2 * set.err)) ∷ over 6 (pos (unsigned_abs up)) (pos (2 * set.err)) ∷ []
    )

-- the first premise that an event breaks, if this is the true offset and this much time passed since the last tick
abbrev pub broken_by : PlainSet → ℤ → ℕ → PlainEvent → Option PlainBroken
broken_by set off since (Pass dt drift) = first_broken (tick_late set since dt ∷ rate_broken set dt drift ∷ [])
broken_by set off since Tick = None
broken_by set off since (Exch span dms dsm o2 o3 t) = first_broken (
    span_broken set span ∷
    least_broken set dms dsm ∷
    moves_broken set off span o2 o3 ∷
    stamps_broken set (down_error t dms o2) (up_error t dsm o3) ∷ []
    )

-- the first premise that an event breaks after these events
abbrev pub broken_after : PlainSet → ℤ → List PlainEvent → PlainEvent → Option PlainBroken
broken_after set off events event = broken_by set (true_offset set off events) (time_since_tick events) event

-- the fields of each event of the list are in their ranges, and none breaks a premise
abbrev pub Accepts : PlainSet → ℤ → List PlainEvent → Type 0
Accepts set off [] = Unit {0}
Accepts set off (event ∷ events) =
    HasFields event × (broken_after set off events event ≡ None) × Accepts set off events

-- the answer to an event: what it gives if and only if it breaks no premise; else the first that it breaks
abbrev pub IsAnswer : PlainSet → ℤ → List PlainEvent → PlainEvent → Result PlainSeen PlainBroken → Type 0
IsAnswer set off events event (Ok seen) =
    (broken_after set off events event ≡ None) × (seen ≡ seen_of set off events event)
IsAnswer set off events event (Err broken) = broken_after set off events event ≡ Some broken

-- the premise that a judgement found broken
abbrev pub found_broken : Result (Unit {0}) PlainBroken → Option PlainBroken
found_broken (Ok kept) = None
found_broken (Err broken) = Some broken
