-- What a departure and an arrival do to the parts of a plant as the code keeps them (this project's profile).
use Rattle.std.specs.Prelude.{◌≡◌, ◌≤◌, ◌+ℤ◌, ℤ, List, [], ◌∷◌, Option, None, Some, false, drop, vec_len, vec_capacity}
use Rattle.wrp_base.specs.declared.link.Role.{Role}
use Rattle.wrp_base.specs.declared.link.Role.TheVariants.{Master, Slave}
use Rattle.wrp_plant.specs.declared.ends.EndState.{EndState}
use Rattle.wrp_plant.specs.declared.ends.PutOut.{PutOut}
use Rattle.wrp_plant.specs.declared.ends.Span.{Span}
use Rattle.wrp_flights.specs.declared.departed.Departed.{Departed}
use Rattle.wrp_course.specs.declared.place.Place.{Place}
use Rattle.wrp_changes.specs.Moves.{Where}
use Rattle.wrp_plant.specs.Plant.{down_in, up_in}
use Rattle.wrp_course.specs.Setting.{is_role}
use Rattle.wrp_course.specs.WorldAt.{WorldAt, FrameAt, Sending, delay_from}

-- An arrival

-- the end that sent a frame
abbrev pub from_of : Departed → Place
from_of d = record { link = d.link; role = d.by }

-- A departure

-- the oldest frame that waits at an end is removed
pub record LosesOldest (old new : EndState) : Type 0 where
  pub name : new.name ≡ old.name
  pub tx : new.tx ≡ old.tx
  pub rx : new.rx ≡ old.rx
  pub waiting : new.waiting.items ≡ drop 1 old.waiting.items
  pub len : vec_len new.waiting ≤ vec_len old.waiting
  pub room : vec_capacity new.waiting ≡ vec_capacity old.waiting
  pub marks : new.marks ≡ old.marks

-- the same at the end with this role
pub record TakesOldest (role : Role) (old new : Span) : Type 0 where
  pub fibre : new.fibre ≡ old.fibre
  pub master : Where (is_role role Master) LosesOldest old.master new.master
  pub slave : Where (is_role role Slave) LosesOldest old.slave new.slave

-- the delay of a frame from an end, in tau
abbrev pub delay_in : Span → Role → ℤ
delay_in span Master = down_in span
delay_in span Slave = up_in span

-- the oldest waiting frame, as it departs from this end: in the code, and in the state
abbrev pub departed_of : Place → (due : ℤ) → List PutOut → Option Departed
departed_of place due [] = None
departed_of place due (oldest ∷ rest) = Some (record {
  link = place.link;
  by = place.role;
  octets = oldest.octets;
  sent = oldest.at;
  due = due;
  arrival = None;
  gone = false;
})

abbrev pub leaving : WorldAt → Place → (stamp : ℤ) → List Sending → Option FrameAt
leaving w place stamp [] = None
leaving w place stamp (oldest ∷ rest) = Some (record {
  link = place.link;
  by = place.role;
  sending = oldest;
  stamp = stamp;
  at = w.time;
  moment = w.count;
  due = w.time +ℤ delay_from w place.link place.role;
  arrival = None;
  gone = false;
})
