-- A link of a world that is served well comes up from rest: both its ends are in IDLE, as after a failed handshake, in quiet time
-- or in holdoff (this project's profile).
use Rattle.std.specs.Prelude.{◌≡◌, ◌⊎◌, ℕ, ◌≤◌, max, ℤ, pos, ◌+ℤ◌, ◌<ℤ◌, ◌≤ℤ◌, true, List, [], Some}
use Rattle.wrp_base.specs.declared.link.Role.{Role}
use Rattle.wrp_base.specs.declared.link.Role.TheVariants.{Master, Slave}
use Rattle.wrp_bounds.specs.Times.{frame_life, longest_tick, shortest_tick}
use Rattle.wrp_handshake_laws.specs.Ends.{end_of as port_of}
use Rattle.wrp_handshake_laws.specs.Laws.{IsAwake}
use Rattle.wrp_link_up_laws.specs.Pace.{Outlasts, OutlastsInTurn, rest_of}
use Rattle.wrp_link_up_laws.specs.Rest.{IsResting, time_from_rest, time_from_rest_in_turn}
use Rattle.wrp_course.specs.Run.{Happened}
use Rattle.wrp_course.specs.Runs.{IsRun, WasPutOut}
use Rattle.wrp_course.specs.Setting.{link_of}
use Rattle.wrp_course.specs.WorldAt.{Sending}
use Rattle.wrp_comes_up_laws.specs.Laws.{IsUp, counts_of, pace_of}
use Rattle.wrp_comes_up_laws.specs.Served.{Beginning, InTurn, IsServed, LongestWaits, Throughout, ends_of, events_of, offers_in, world_of}

-- how both ends rest: since this time, and for this many ticks each
pub record Rests : Type 0 where
  pub still : ℤ
  pub rest : Role → ℕ

-- since that time the master has put out no offer, unless it is awake
abbrev pub OffersNothing : Beginning → ℤ → Type 0
OffersNothing l still =
    (x : Sending) → WasPutOut x ((world_of l []).end_at l.k Master).sent → offers_in x.message.body ≡ true →
    (x.at ≤ℤ still) ⊎ IsAwake (ends_of l []).master

-- both ends of a White Rabbit link of the network rest, one of them not to its end
pub record IsAtRest (l : Beginning) (rests : Rests) : Type 0 where
  pub there : link_of l.s l.k ≡ Some l.link
  pub wr : l.link.wr ≡ true
  pub past : rests.still ≤ℤ (world_of l []).time
  pub resting :
      (role : Role) →
      IsResting (frame_life l.s.cfg) (shortest_tick l.s.cfg) (longest_tick l.s.cfg) rests.still (rests.rest role) (port_of (ends_of l []) role)
  pub yet : (1 ≤ rest_of (ends_of l []).master.link) ⊎ (1 ≤ rest_of (ends_of l []).slave.link)
  pub offers : OffersNothing l rests.still

-- the longer rest
abbrev pub longer_of : Rests → ℕ
longer_of rests = max (rests.rest Master) (rests.rest Slave)

-- more than this time passed since both ends rest
abbrev pub IsPastRest : Beginning → Rests → List Happened → ℕ → Type 0
IsPastRest l rests since time = (rests.still +ℤ pos time) <ℤ (world_of l since).time

-- a link that is served well from rest on is up once more than the stated time passed, and after each later event for
-- as long as it is served well
abbrev pub ComesUpFromRest : Type 0
ComesUpFromRest =
    (l : Beginning) (rests : Rests) (since : List Happened) (waits : LongestWaits) →
    IsRun l.s (events_of l since) → IsAtRest l rests →
    Throughout (IsServed waits l) since →
    Outlasts (shortest_tick l.s.cfg) (pace_of l waits) (counts_of l) (counts_of l) →
    IsPastRest l rests since (time_from_rest (pace_of l waits) (longer_of rests) (counts_of l) (counts_of l)) →
    IsUp l since

-- if no CALIBRATED overtakes a CALIBRATE it is up sooner, and needs no retries
abbrev pub ComesUpFromRestInTurn : Type 0
ComesUpFromRestInTurn =
    (l : Beginning) (rests : Rests) (since : List Happened) (waits : LongestWaits) →
    IsRun l.s (events_of l since) → IsAtRest l rests →
    Throughout (IsServed waits l) since →
    Throughout (InTurn l) since →
    OutlastsInTurn (shortest_tick l.s.cfg) (pace_of l waits) (counts_of l) →
    IsPastRest l rests since (time_from_rest_in_turn (pace_of l waits) (longer_of rests)) →
    IsUp l since
