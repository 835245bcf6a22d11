-- Ports that have something to send, as the simulator finds them (this project's profile).
use Rattle.std.specs.Prelude.{◌≤◌, ◌≤ℤ◌, ◌^◌, ◌+◌, ◌*◌, ℕ, ℤ, pos, nat_lt, if◌then◌else◌, Option, None, Some, option_and_then, unsigned_abs}
use Rattle.wrp_base.specs.declared.link.Role.{Role}
use Rattle.wrp_base.specs.declared.link.Role.TheVariants.{Master, Slave}
use Rattle.wrp_network.specs.Network.{End}
use Rattle.wrp_course.specs.declared.event.Event.{Event}
use Rattle.wrp_course.specs.declared.event.Event.TheVariants.{Depart}
use Rattle.wrp_course.specs.Setting.{Setting, end_at}
use Rattle.wrp_course.specs.Views.{oldest_of}
use Rattle.wrp_course.specs.WorldAt.{WorldAt, reading}
use Rattle.wrp_sim.specs.declared.sim.departing.Departure.{Departure}
use Rattle.wrp_sim.specs.Numbers.{drawn_stamp}
use Rattle.wrp_plant.specs.PutOut.{is_now}
use Rattle.wrp_sim.specs.Rules.{after_draw, comes, is_tellable, stamp_room}
use Rattle.wrp_sim.specs.declared.sim.state.State.{State}
use Rattle.wrp_sim.specs.Sim.{Gave}
use Rattle.wrp_sim.specs.SimAt.{SimAt}

-- a port of a node whose clock reads this
abbrev pub departure_by : (n : ℕ) (at : ℤ) (p : ℕ) → Departure
departure_by n at p = record { node = n; port = p; at = at }

abbrev pub departure_from : WorldAt → ℕ × ℕ → Departure
departure_from w port = departure_by port.0 (reading w port.0) port.1

-- a stamp can show this reading
pub record IsReadable (at : ℤ) : Type 0 where
  pub least : pos 0 ≤ℤ at
  pub greatest : unsigned_abs at ≤ 2 ^ 92

abbrev pub IsDeparture : Departure → Type 0
IsDeparture from = IsReadable from.at

-- the place of a port in the order: by its node in file order, then by its number, ascending; port
-- numbers are below 32
abbrev pub standing : Departure → ℕ
standing d = d.node * 32 + d.port

-- the one of two that comes first
abbrev pub first_of_two : (a b : Option Departure) → Option Departure
first_of_two None b = b
first_of_two (Some a) None = Some a
first_of_two (Some a) (Some b) = if nat_lt (standing b) (standing a) then Some b else Some a

-- the port at an end, if a stamp can show its node's clock
abbrev pub told_end : Setting → WorldAt → End → Option Departure
told_end s w end =
    if is_tellable s (reading w end.node) then Some (departure_by end.node (reading w end.node) end.port) else None

abbrev pub told_at : Setting → WorldAt → ℕ → Role → Option Departure
told_at s w k r = option_and_then (told_end s w) (end_at s k r)

-- and if its oldest waiting frame was put out now
abbrev pub departing_at : Setting → WorldAt → ℕ → Role → Option Departure
departing_at s w k r = if is_now w (oldest_of (w.end_at k r).waiting) then told_at s w k r else None

-- the ends of one more link are tried
abbrev pub departing_over : Setting → WorldAt → Option Departure → ℕ → Option Departure
departing_over s w first k = first_of_two (first_of_two first (departing_at s w k Master)) (departing_at s w k Slave)

-- the frame departs with a stamp that is drawn at this reading
abbrev pub departs_by : Setting → SimAt → Departure → Option Event → State → Type 0
departs_by s at from event new =
    Gave at (comes (Depart from.node from.port (drawn_stamp (stamp_room s from.node) from.at at.state)) (after_draw at)) event new
