-- The marks that the packets 1 to 8 of a complete handshake leave at both ends, written out (this project's profile). In the
-- order of their numbers the packets are SLAVE_PRESENT, LOCK, LOCKED, CALIBRATE and CALIBRATED of the master, CALIBRATE and
-- CALIBRATED of the slave, and WR_MODE_ON.
use Rattle.std.specs.Prelude.{◌≡◌, ℕ, pos, List, [], ◌∷◌, None, Some}
use Rattle.wrp_base.specs.declared.link.LinkState.TheVariants.{Idle, Present, SLock, MLock, Locked, Calibration, Calibrated, RespCalib, LinkOn}
use Rattle.wrp_base.specs.declared.message.WrMsg.TheVariants.{Present as SLAVE_PRESENT, Lock as LOCK, Locked as LOCKED, Calibrate as CALIBRATE, Calibrated as CALIBRATED, ModeOn as WR_MODE_ON}
use Rattle.wrp_pcap.specs.Marks.{slave_marks, master_marks}

abbrev pub eight : List ℕ
eight = 1 ∷ 2 ∷ 3 ∷ 4 ∷ 5 ∷ 6 ∷ 7 ∷ 8 ∷ []

-- a message that moves a port has the number of its own packet as its sending time, and its contents are 0
pub record MarksOfEight : Type 0 where
  pub slave :
      slave_marks eight
      ≡ (record { at = pos 1; from = Idle; to = Present; by = None }
      ∷ record { at = pos 2; from = Present; to = SLock; by = Some (LOCK, pos 2) }
      ∷ record { at = pos 3; from = SLock; to = Locked; by = None }
      ∷ record { at = pos 4; from = Locked; to = RespCalib; by = Some (CALIBRATE 0 0 0, pos 4) }
      ∷ record { at = pos 6; from = RespCalib; to = Calibration; by = Some (CALIBRATED 0 0, pos 5) }
      ∷ record { at = pos 7; from = Calibration; to = Calibrated; by = None }
      ∷ record { at = pos 8; from = Calibrated; to = LinkOn; by = Some (WR_MODE_ON, pos 8) } ∷ [])
  pub master :
      master_marks eight
      ≡ (record { at = pos 2; from = Idle; to = MLock; by = Some (SLAVE_PRESENT, pos 1) }
      ∷ record { at = pos 4; from = MLock; to = Calibration; by = Some (LOCKED, pos 3) }
      ∷ record { at = pos 5; from = Calibration; to = Calibrated; by = None }
      ∷ record { at = pos 6; from = Calibrated; to = RespCalib; by = Some (CALIBRATE 0 0 0, pos 6) }
      ∷ record { at = pos 8; from = RespCalib; to = LinkOn; by = Some (CALIBRATED 0 0, pos 7) } ∷ [])
