-- The slowest link: each CALIBRATED overtakes its CALIBRATE, and each end has to wait for its first retry.
use Rattle.std.specs.Prelude.{◌≡◌, pos, ◌+ℤ◌, true, false, List, [], ◌∷◌, Some}
use Rattle.wrp_base.specs.declared.link.Role.TheVariants.{Master, Slave}
use Rattle.wrp_base.specs.declared.message.WrMsg.TheVariants.{Present as SLAVE_PRESENT, Lock as LOCK, Locked as LOCKED, Calibrate as CALIBRATE, Calibrated as CALIBRATED}
use Rattle.wrp_link.specs.declared.interface.LinkIn.TheVariants.{Msg, Announce, Tick}
use Rattle.wrp_link.specs.declared.interface.LinkSet.{LinkSet}
use Rattle.wrp_handshake_laws.specs.Ends.{Change, Passes, Hears}
use Rattle.wrp_link_up_laws.specs.Laws.{LinkRun, dark, last, IsServed, BothOutlast, IsUp}
use Rattle.wrp_link_up_laws.specs.Pace.{Pace, time_to_up}
use Rattle.wrp_link_up_laws.specs.Worked.{blue, violet, round}

-- the counts of both ends
abbrev pub patient : LinkSet
patient = record { quiet = 4; wait = 3; lock_wait = 5; retries = 2; holdoff = 4; wr = true }

-- ticks 10 tau apart, 10 tau for a message, the Announce at once, and 10 tau for the lock detector
abbrev pub slow_pace : Pace
slow_pace = record { dmax = 10; delay = 10; announce = 0; lock = 10 }

-- from the carriers at 100 to the end of quiet time at 140, and the offer
abbrev pub slow_offered : List Change
slow_offered = Hears Slave (Announce (Some 1)) (pos 0) ∷ round (round (round (round [])))

-- 180: SLAVE_PRESENT, LOCK and LOCKED took 10 tau each, and the lock detector 10
abbrev pub slow_locked : List Change
slow_locked =
    Hears Master (Msg LOCKED) (pos 170) ∷
    round (
    Hears Slave (Tick true) (pos 0) ∷
    (Hears Master (Tick false) (pos 0) ∷
    (Passes 10 ∷
    (Hears Slave (Msg LOCK) (pos 150) ∷
    round (
    Hears Master (Msg SLAVE_PRESENT) (pos 140) ∷
    round slow_offered)))))

-- 190: the master's CALIBRATED is heard at once, its CALIBRATE of 180 after it, and so the CALIBRATED is in vain
abbrev pub slow_called : List Change
slow_called =
    Hears Slave (Msg (CALIBRATE 0 0 0)) (pos 180) ∷
    (Hears Slave (Msg (CALIBRATED 5 6)) (pos 190) ∷
    round slow_locked)

-- 230: at 220 the master sent both again
abbrev pub slow_told : List Change
slow_told =
    Hears Slave (Msg (CALIBRATE 0 0 0)) (pos 220) ∷
    (Hears Slave (Msg (CALIBRATED 5 6)) (pos 220) ∷
    round (round (round (round slow_called))))

-- 240: the same happens the other way
abbrev pub slow_answered : List Change
slow_answered =
    Hears Master (Msg (CALIBRATE 0 0 0)) (pos 230) ∷
    (Hears Master (Msg (CALIBRATED 7 8)) (pos 240) ∷
    round slow_told)

-- 280: at 270 the slave sent both again, and the master is in WR_LINK_ON
abbrev pub slow_master_on : List Change
slow_master_on =
    Hears Master (Msg (CALIBRATE 0 0 0)) (pos 270) ∷
    (Hears Master (Msg (CALIBRATED 7 8)) (pos 270) ∷
    round (round (round (round slow_answered))))

-- 290: WR_MODE_ON is not heard yet
abbrev pub slow_changes : List Change
slow_changes = Passes 10 ∷ slow_master_on

abbrev pub slow_run : LinkRun
slow_run =
    record {
      of_master = patient;
      of_slave = patient;
      at_master = blue;
      at_slave = violet;
      start = pos 100;
      before = [];
      since = slow_changes;
    }

-- the time of the law is met exactly: just after that time, a link with all that the law requires is not up yet
pub record NoSooner : Type 0 where
  pub served : IsServed 10 10 slow_pace slow_run
  pub outlast : BothOutlast 10 slow_pace slow_run
  pub passed : ((dark slow_run).time +ℤ pos (time_to_up slow_pace patient patient)) ≡ (last slow_run).time
  pub not_up : IsUp (last slow_run) → ⊥
