-- A link comes up from rest: both its ends are in IDLE, as after a failed handshake, in quiet time or in holdoff.
-- This project's profile.
use Rattle.std.specs.Prelude.{◌≡◌, ◌⊎◌, ℕ, ◌+◌, ◌-◌, ◌*◌, ◌<◌, ◌≤◌, max, ℤ, pos, ◌+ℤ◌, ◌<ℤ◌, ◌≤ℤ◌, is_some, true, List, ◌++◌}
use Rattle.wrp_base.specs.declared.link.LinkState.TheVariants.{Idle}
use Rattle.wrp_base.specs.declared.link.Role.{Role}
use Rattle.wrp_base.specs.declared.link.Role.TheVariants.{Master, Slave}
use Rattle.wrp_link.specs.declared.interface.LinkSet.{LinkSet}
use Rattle.wrp_handshake_laws.specs.Ends.{AllMayCome, BothPorts, Change, IsAmong, OutlivesFrames, Port, Sending, end_of, ends_after, new_ends}
use Rattle.wrp_link_up_laws.specs.Laws.{IsUp}
use Rattle.wrp_link_up_laws.specs.Pace.{AllInTurn, IsGood, Outlasts, OutlastsInTurn, Pace, rest_of}

-- a link from its first change on, with all that happens until both its ends rest and since, the newest first
pub record RestRun : Type 0 where
  -- the counts of either end
  pub of_master : LinkSet
  pub of_slave : LinkSet
  pub start : ℤ
  pub before : List Change
  pub since : List Change
  -- since this time neither end has sent anything, and each rests for this many ticks
  pub still : ℤ
  pub rest : Role → ℕ

-- the ends before anything happened, as they rest, and after all
abbrev pub first_ends : RestRun → BothPorts
first_ends run = new_ends run.of_master run.of_slave run.start

abbrev pub resting_ends : RestRun → BothPorts
resting_ends run = ends_after (first_ends run) run.before

abbrev pub last_ends : RestRun → BothPorts
last_ends run = ends_after (first_ends run) (run.since ++ run.before)

-- a port rests in IDLE, with its carrier and a listed module: since a time it has sent nothing, and from then on it
-- rests for this many ticks, of which some may be over; they outlive two frames
pub record IsResting (life dmin dmax : ℕ) (still : ℤ) (rest : ℕ) (port : Port) : Type 0 where
  pub lit : port.link.carrier ≡ true
  pub listed : is_some port.link.own_module ≡ true
  pub idle : port.link.state ≡ Idle
  pub silent : (f : Sending) → IsAmong f port.sent → f.1 ≤ℤ still
  pub outlives : 2 * life < (rest - 1) * dmin
  -- its rest ends no sooner than this: all of it is left, or at least this many ticks have passed
  pub late : (rest_of port.link ≡ rest) ⊎ ((still +ℤ pos (rest * dmin)) ≤ℤ (port.ticked +ℤ pos ((rest_of port.link + 1) * dmin)))
  -- and no later than this
  pub soon : (rest_of port.link ≡ 0) ⊎ ((port.ticked +ℤ pos (rest_of port.link * dmax)) ≤ℤ (still +ℤ pos (rest * dmax)))

-- what both laws require: White Rabbit at both ends, quiet times that outlive two frames, changes that may come, both
-- ends at rest, one of them not to its end, and good delivery since
pub record IsServedFromRest (life dmin : ℕ) (pace : Pace) (run : RestRun) : Type 0 where
  pub master_wr : run.of_master.wr ≡ true
  pub slave_wr : run.of_slave.wr ≡ true
  pub master_quiet : OutlivesFrames life dmin run.of_master
  pub slave_quiet : OutlivesFrames life dmin run.of_slave
  pub come : AllMayCome life dmin (first_ends run) (run.since ++ run.before)
  pub past : run.still ≤ℤ (resting_ends run).time
  pub resting : (role : Role) → IsResting life dmin pace.dmax run.still (run.rest role) (end_of (resting_ends run) role)
  pub yet : (1 ≤ rest_of (resting_ends run).master.link) ⊎ (1 ≤ rest_of (resting_ends run).slave.link)
  pub good : IsGood pace (resting_ends run) run.since

-- the timers of both ends outlast what they wait for
pub record BothOutlastFromRest (dmin : ℕ) (pace : Pace) (run : RestRun) : Type 0 where
  pub master : Outlasts dmin pace run.of_master run.of_slave
  pub slave : Outlasts dmin pace run.of_slave run.of_master

-- the same if no CALIBRATED overtakes a CALIBRATE, as it is since both ends rest
pub record BothInTurnFromRest (dmin : ℕ) (pace : Pace) (run : RestRun) : Type 0 where
  pub master : OutlastsInTurn dmin pace run.of_master
  pub slave : OutlastsInTurn dmin pace run.of_slave
  pub in_turn : AllInTurn (resting_ends run) run.since

-- how long after that time a link is up at the latest: as from new carriers, with the longer rest for the longer
-- quiet time
abbrev pub time_from_rest : Pace → (rests : ℕ) → (of_master of_slave : LinkSet) → ℕ
time_from_rest pace rests of_master of_slave =
    (rests + of_master.wait + of_slave.wait + 2) * pace.dmax + pace.announce + pace.lock + 6 * pace.delay

abbrev pub time_from_rest_in_turn : Pace → (rests : ℕ) → ℕ
time_from_rest_in_turn pace rests = (rests + 2) * pace.dmax + pace.announce + pace.lock + 6 * pace.delay

-- the longer rest
abbrev pub longer_rest : RestRun → ℕ
longer_rest run = max (run.rest Master) (run.rest Slave)

-- more than this time passed since then
abbrev pub IsPastRest : RestRun → ℕ → Type 0
IsPastRest run time = (run.still +ℤ pos time) <ℤ (last_ends run).time

-- a link that is served well from rest on is up once more than the stated time passed, and at each later moment for as
-- long as it is served well
abbrev pub ComesUpFromRest : Type 0
ComesUpFromRest =
    (life dmin : ℕ) (pace : Pace) (run : RestRun) →
    IsServedFromRest life dmin pace run →
    BothOutlastFromRest dmin pace run →
    IsPastRest run (time_from_rest pace (longer_rest run) run.of_master run.of_slave) →
    IsUp (last_ends run)

-- if no CALIBRATED overtakes a CALIBRATE it is up sooner, and needs no retries
abbrev pub ComesUpFromRestInTurn : Type 0
ComesUpFromRestInTurn =
    (life dmin : ℕ) (pace : Pace) (run : RestRun) →
    IsServedFromRest life dmin pace run →
    BothInTurnFromRest dmin pace run →
    IsPastRest run (time_from_rest_in_turn pace (longer_rest run)) →
    IsUp (last_ends run)
