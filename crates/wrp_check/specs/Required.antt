-- What a message says of the peer: the states that the peer passed in the same handshake, up to the message that moves
-- this port. This project's profile.
use Rattle.std.specs.Prelude.{List, [], ◌∷◌}
use Rattle.wrp_base.specs.declared.link.LinkState.{LinkState}
use Rattle.wrp_base.specs.declared.link.LinkState.TheVariants.{Present, SLock, MLock, Locked, Calibration, Calibrated, RespCalib, LinkOn}
use Rattle.wrp_base.specs.declared.link.Role.{Role}
use Rattle.wrp_base.specs.declared.link.Role.TheVariants.{Master, Slave}
use Rattle.wrp_base.specs.declared.message.WrMsg.{WrMsg}
use Rattle.wrp_base.specs.declared.message.WrMsg.TheVariants.{Lock as LOCK, Locked as LOCKED, Calibrate as CALIBRATE, Calibrated as CALIBRATED, ModeOn as WR_MODE_ON}

-- the states that the peer has entered, in their order, when it sends the message that moves a port of
-- this role; a message that moves no such port, and SLAVE_PRESENT, require none
abbrev pub required_of : Role → WrMsg → List LinkState
required_of Slave LOCK = MLock ∷ []
required_of Slave (CALIBRATE _ _ _) = MLock ∷ (Calibration ∷ [])
required_of Slave (CALIBRATED _ _) = MLock ∷ (Calibration ∷ (Calibrated ∷ []))
required_of Slave WR_MODE_ON = MLock ∷ (Calibration ∷ (Calibrated ∷ (RespCalib ∷ (LinkOn ∷ []))))
required_of Master LOCKED = Present ∷ (SLock ∷ (Locked ∷ []))
required_of Master (CALIBRATE _ _ _) = Present ∷ (SLock ∷ (Locked ∷ (RespCalib ∷ (Calibration ∷ []))))
required_of Master (CALIBRATED _ _) = Present ∷ (SLock ∷ (Locked ∷ (RespCalib ∷ (Calibration ∷ (Calibrated ∷ [])))))
required_of _ _ = []
