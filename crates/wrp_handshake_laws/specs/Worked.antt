-- One handshake worked out: what happens at both ends of a link until both are in WR_LINK_ON, and the
-- master's history with one state exchanged.
use Rattle.std.specs.Prelude.{◌≡◌, pos, true, false, List, [], ◌∷◌, map, Some}
use Rattle.wrp_base.specs.declared.link.LinkState.{LinkState}
use Rattle.wrp_base.specs.declared.link.LinkState.TheVariants.{MLock, Calibration, LinkOn}
use Rattle.wrp_base.specs.declared.link.Mark.{Mark}
use Rattle.wrp_base.specs.declared.link.Module.{Module}
use Rattle.wrp_base.specs.declared.link.Role.TheVariants.{Master, Slave}
use Rattle.wrp_base.specs.declared.message.WrMsg.TheVariants.{Present as SLAVE_PRESENT, Lock as LOCK, Locked as LOCKED, Calibrate as CALIBRATE, Calibrated as CALIBRATED, ModeOn as WR_MODE_ON}
use Rattle.wrp_check.specs.Handshake.{SameHandshake}
use Rattle.wrp_link.specs.declared.interface.LinkIn.TheVariants.{Msg, Announce, Tick}
use Rattle.wrp_link.specs.declared.interface.LinkSet.{LinkSet}
use Rattle.wrp_handshake_laws.specs.Ends.{BothPorts, Change, Passes, Hears, Starts, Lights, OutlivesFrames, AllMayCome, ends_after, new_ends}

-- the module at the master, whose delays are 5 tau to send and 6 tau to receive
abbrev pub blue : Module
blue = record { tx = 5; rx = 6; transition = 0; err = 0 }

-- the module at the slave, whose delays are 7 tau to send and 8 tau to receive
abbrev pub violet : Module
violet = record { tx = 7; rx = 8; transition = 0; err = 0 }

-- the counts of either end
abbrev pub set : LinkSet
set = record { quiet = 2; wait = 5; lock_wait = 5; retries = 1; holdoff = 2; wr = true }

-- what happens, the newest first: both nodes start and the carriers come; two ticks of quiet time; an Announce that
-- offers White Rabbit; and the messages, each one heard when the other end has sent it
abbrev pub worked_changes : List Change
worked_changes =
    Hears Slave (Msg WR_MODE_ON) (pos 141) ∷
    (Hears Master (Msg (CALIBRATED 7 8)) (pos 141) ∷
    (Hears Slave (Tick true) (pos 0) ∷
    (Passes 10 ∷
    (Hears Master (Msg (CALIBRATE 0 0 0)) (pos 131) ∷
    (Hears Slave (Msg (CALIBRATED 5 6)) (pos 131) ∷
    (Hears Master (Tick false) (pos 0) ∷
    (Hears Slave (Msg (CALIBRATE 0 0 0)) (pos 131) ∷
    (Hears Master (Msg LOCKED) (pos 131) ∷
    (Hears Slave (Tick true) (pos 0) ∷
    (Passes 10 ∷
    (Hears Slave (Msg LOCK) (pos 121) ∷
    (Hears Master (Msg SLAVE_PRESENT) (pos 120) ∷
    (Passes 1 ∷
    (Hears Slave (Announce (Some 1)) (pos 0) ∷
    (Hears Slave (Tick false) (pos 0) ∷
    (Hears Master (Tick false) (pos 0) ∷
    (Passes 10 ∷
    (Hears Slave (Tick false) (pos 0) ∷
    (Hears Master (Tick false) (pos 0) ∷
    (Passes 10 ∷
    (Lights (Some blue) (Some violet) ∷
    (Starts Slave ∷
    (Starts Master ∷
    [])))))))))))))))))))))))

-- both ends before all this
abbrev pub before_it : BothPorts
before_it = new_ends set set (pos 100)

-- both ends after all this has happened
abbrev pub after_it : BothPorts
after_it = ends_after before_it worked_changes

-- M_LOCK in the place of CALIBRATION
abbrev pub exchanged : LinkState → LinkState
exchanged Calibration = MLock
exchanged state = state

-- a mark that leads to that state
abbrev pub exchanged_mark : Mark → Mark
exchanged_mark mark = record mark { to = exchanged mark.to }

-- each change may come, with frames that live 1 tau and ticks 10 tau apart; both ends are in WR_LINK_ON; and
-- with the exchanged state in the master's history the slave's handshake is not the same one
pub record WorkedHandshake : Type 0 where
  pub quiet : OutlivesFrames 1 10 set
  pub come : AllMayCome 1 10 before_it worked_changes
  pub master_on : after_it.master.link.state ≡ LinkOn
  pub slave_on : after_it.slave.link.state ≡ LinkOn
  pub refuted : SameHandshake Slave after_it.slave.marks (map exchanged_mark after_it.master.marks) → ⊥
