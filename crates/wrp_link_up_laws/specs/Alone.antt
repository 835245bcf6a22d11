-- What the laws require is needed: runs of which all but one requirement holds, and which are still not up after the
-- stated time.
use Rattle.std.specs.Prelude.{◌+◌, ◌*◌, ◌<◌, pos, true, List, [], ◌∷◌, Some}
use Rattle.wrp_base.specs.declared.link.Role.TheVariants.{Slave}
use Rattle.wrp_link.specs.declared.interface.LinkIn.TheVariants.{Announce}
use Rattle.wrp_link.specs.declared.interface.LinkSet.{LinkSet}
use Rattle.wrp_handshake_laws.specs.Ends.{Change, Passes, Hears}
use Rattle.wrp_link_up_laws.specs.Laws.{LinkRun, last, IsServed, IsPast, IsUp}
use Rattle.wrp_link_up_laws.specs.Pace.{Pace, patience, OutlastsInTurn, time_to_up, time_in_turn}
use Rattle.wrp_link_up_laws.specs.Slow.{patient, slow_pace, slow_called, slow_run}
use Rattle.wrp_link_up_laws.specs.Worked.{blue, violet, round}

-- counts without retries
abbrev pub hasty : LinkSet
hasty = record { quiet = 4; wait = 3; lock_wait = 5; retries = 0; holdoff = 40; wr = true }

-- the slowest link's pace, and 10 tau for an offer
abbrev pub hasty_pace : Pace
hasty_pace = record { dmax = 10; delay = 10; announce = 10; lock = 10 }

-- a tick at both ends, and an Announce that offers White Rabbit
abbrev pub offering : List Change → List Change
offering older = Hears Slave (Announce (Some 1)) (pos 0) ∷ round older

-- the slowest link as far as the CALIBRATED that is heard in vain at 190; both timers end at 220, and both ends
-- are in quiet time until 260
abbrev pub hasty_failed : List Change
hasty_failed = round (round (round (round (round (round (round slow_called))))))

-- and the slave holds off
abbrev pub hasty_changes : List Change
hasty_changes = Passes 10 ∷ offering (offering (offering (offering hasty_failed)))

abbrev pub hasty_run : LinkRun
hasty_run =
    record {
      of_master = hasty;
      of_slave = hasty;
      at_master = blue;
      at_slave = violet;
      start = pos 100;
      before = [];
      since = hasty_changes;
    }

-- without retries a link is not up, although its timers keep the two other inequalities of the first law
pub record NeedsRetries : Type 0 where
  pub served : IsServed 10 10 hasty_pace hasty_run
  pub retry : hasty_pace.delay + 10 < hasty.wait * 10
  pub locks : hasty_pace.lock + 2 * hasty_pace.delay + 10 < patience hasty.lock_wait hasty.retries * 10
  pub past : IsPast hasty_run (time_to_up hasty_pace hasty hasty)
  pub not_up : IsUp (last hasty_run) → ⊥

-- if a CALIBRATED overtakes a CALIBRATE a link is not up by the time of the second law, although its timers keep the
-- inequalities of that law
pub record NeedsOrder : Type 0 where
  pub served : IsServed 10 10 slow_pace slow_run
  pub outlasts : OutlastsInTurn 10 slow_pace patient
  pub past : IsPast slow_run (time_in_turn slow_pace patient patient)
  pub not_up : IsUp (last slow_run) → ⊥
