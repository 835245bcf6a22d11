-- A worked example of one link: all that happens from its carriers on, with good delivery. White Rabbit is offered as
-- soon as both ends are awake, each message is heard at once, and every tick comes 10 tau after the last.
use Rattle.std.specs.Prelude.{◌≡◌, pos, ◌+ℤ◌, true, false, List, [], ◌∷◌, Some}
use Rattle.wrp_base.specs.declared.link.Module.{Module}
use Rattle.wrp_base.specs.declared.link.Role.TheVariants.{Master, Slave}
use Rattle.wrp_base.specs.declared.message.WrMsg.TheVariants.{Present as SLAVE_PRESENT, Lock as LOCK, Locked as LOCKED, Calibrate as CALIBRATE, Calibrated as CALIBRATED, ModeOn as WR_MODE_ON}
use Rattle.wrp_link.specs.declared.interface.LinkIn.TheVariants.{Msg, Announce, Tick}
use Rattle.wrp_link.specs.declared.interface.LinkSet.{LinkSet}
use Rattle.wrp_handshake_laws.specs.Ends.{Change, Passes, Hears}
use Rattle.wrp_link_up_laws.specs.Laws.{LinkRun, dark, last, IsServed, BothOutlast, BothInTurn, IsPast, IsUp}
use Rattle.wrp_link_up_laws.specs.Pace.{Pace, time_to_up, time_in_turn}

-- the modules at the master and at the slave
abbrev pub blue : Module
blue = record { tx = 5; rx = 6; transition = 0; err = 0 }

abbrev pub violet : Module
violet = record { tx = 7; rx = 8; transition = 0; err = 0 }

-- the counts of either end
abbrev pub upper : LinkSet
upper = record { quiet = 2; wait = 2; lock_wait = 3; retries = 2; holdoff = 2; wr = true }

abbrev pub lower : LinkSet
lower = record { quiet = 3; wait = 3; lock_wait = 2; retries = 1; holdoff = 3; wr = true }

-- ticks 10 tau apart, messages and the Announce at once, and 10 tau for the lock detector
abbrev pub pace : Pace
pace = record { dmax = 10; delay = 0; announce = 0; lock = 10 }

-- a tick at both ends, 10 tau later
abbrev pub round : List Change → List Change
round older = Hears Slave (Tick false) (pos 0) ∷ (Hears Master (Tick false) (pos 0) ∷ (Passes 10 ∷ older))

-- the carriers come at 100; quiet time ends at 120 at the master and at 130 at the slave
abbrev pub awake : List Change
awake = round (round (round []))

-- White Rabbit is offered; the slave comes to S_LOCK, the master to M_LOCK
abbrev pub offered : List Change
offered =
    Hears Slave (Msg LOCK) (pos 130) ∷
    (Hears Master (Msg SLAVE_PRESENT) (pos 130) ∷
    (Hears Slave (Announce (Some 1)) (pos 0) ∷
    awake))

-- at 140 the slave is locked, just after the master's tick: the master has to wait for the next one
abbrev pub locked : List Change
locked =
    Hears Slave (Msg (CALIBRATE 0 0 0)) (pos 140) ∷
    (Hears Master (Msg LOCKED) (pos 140) ∷
    (Hears Slave (Tick true) (pos 0) ∷
    (Hears Master (Tick false) (pos 0) ∷
    (Passes 10 ∷
    offered))))

-- at 150 the master gives its delays, just after the slave's tick: the slave has to wait for the next one
abbrev pub told : List Change
told =
    Hears Master (Msg (CALIBRATE 0 0 0)) (pos 150) ∷
    (Hears Slave (Msg (CALIBRATED 5 6)) (pos 150) ∷
    round locked)

-- 160: the link is up at the latest this long after the carriers, if no CALIBRATED overtakes a CALIBRATE
abbrev pub on_time : List Change
on_time = Passes 10 ∷ told

-- it is up
abbrev pub comes_on : List Change
comes_on =
    Hears Slave (Msg WR_MODE_ON) (pos 160) ∷
    (Hears Master (Msg (CALIBRATED 7 8)) (pos 160) ∷
    (Hears Slave (Tick false) (pos 0) ∷
    (Hears Master (Tick false) (pos 0) ∷
    on_time)))

-- 220: past the time of the law that lets messages overtake each other
abbrev pub stays_on : List Change
stays_on = Passes 10 ∷ round (round (round (round (round comes_on))))

-- the link with such changes since the carriers came
abbrev pub run_of : List Change → LinkRun
run_of since =
    record {
      of_master = upper;
      of_slave = lower;
      at_master = blue;
      at_slave = violet;
      start = pos 100;
      before = [];
      since = since;
    }

-- all that the two laws require holds of one run
pub record WorkedUp : Type 0 where
  pub served : IsServed 1 10 pace (run_of stays_on)
  pub outlast : BothOutlast 10 pace (run_of stays_on)
  pub in_turn : BothInTurn 10 pace (run_of stays_on)
  pub past : IsPast (run_of stays_on) (time_to_up pace upper lower)

-- the time for the case in which no CALIBRATED overtakes a CALIBRATE is met exactly: just after that time, a link with
-- all that the law requires is not up yet
pub record NoSoonerInTurn : Type 0 where
  pub served : IsServed 1 10 pace (run_of on_time)
  pub in_turn : BothInTurn 10 pace (run_of on_time)
  pub passed : ((dark (run_of on_time)).time +ℤ pos (time_in_turn pace upper lower)) ≡ (last (run_of on_time)).time
  pub not_up : IsUp (last (run_of on_time)) → ⊥
