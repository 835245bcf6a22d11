-- A frame that departed, and how long it is kept: while it is on a fibre, and if it was put out at the horizon or
-- later (this project's profile).
use Rattle.std.specs.Prelude.{◌||◌, ◌&&◌, ℤ, Bool, true, false, if◌then◌else◌, Option, None, Some}
use Rattle.std.specs.Int.Signed.{le_z}
use Rattle.std.specs.Option.{is_some}
use Rattle.wrp_flights.specs.declared.departed.Departed.{Departed}
use Rattle.wrp_flights.specs.declared.departed.Reception.{Reception}

-- it is on a fibre: it has not arrived, and still can
abbrev pub is_on : Departed → Bool
is_on d = if d.gone then false else (if is_some d.arrival then false else true)

-- it was put out at this time or later
abbrev pub is_young : (horizon : ℤ) → Departed → Bool
is_young horizon d = le_z horizon d.sent

-- it is on a fibre, or young
abbrev pub is_kept : (horizon : ℤ) → Departed → Bool
is_kept horizon d = if is_on d then true else is_young horizon d

-- a frame, if it is kept
abbrev pub kept_in : (horizon : ℤ) → Option Departed → Option Departed
kept_in horizon None = None
kept_in horizon (Some d) = if is_kept horizon d then Some d else None

-- it arrives
abbrev pub receive : Reception → Departed → Departed
receive reception d = record d { arrival = Some reception }

-- it is lost, if this says so and it is on a fibre
abbrev pub lost : Bool → Departed → Departed
lost loses d = record d { gone = d.gone || (loses && is_on d) }

-- what became of a frame that was kept, if it still is
abbrev pub turn_in : (horizon : ℤ) → (Departed → Departed) → Option Departed → Option Departed
turn_in horizon change None = None
turn_in horizon change (Some d) = kept_in horizon (Some (change d))
