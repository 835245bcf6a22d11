-- How far a port is in a handshake, what it sends there, and what a move from state to state is.
use Rattle.std.proofs.Common.{◌≡◌, ◌≢◌, refl, ℕ, ℤ, Bool, true, false, is_some, List, [], ◌∷◌, reverse, Option}
use Rattle.std.specs.List.{AllByRecursion}
use Rattle.wrp_base.specs.declared.link.LinkState.{LinkState}
use Rattle.wrp_base.specs.declared.link.LinkState.TheVariants.{Idle, Present, SLock, MLock, Locked, Calibration, Calibrated, RespCalib, LinkOn}
use Rattle.wrp_base.specs.declared.link.Role.{Role}
use Rattle.wrp_base.specs.declared.link.Role.TheVariants.{Master, Slave}
use Rattle.wrp_base.specs.declared.link.Mark.{Mark}
use Rattle.wrp_base.specs.declared.message.WrMsg.{WrMsg}
use Rattle.wrp_base.specs.declared.message.WrMsg.TheVariants.{Present as SLAVE_PRESENT, Lock as LOCK, Locked as LOCKED, Calibrate as CALIBRATE, Calibrated as CALIBRATED, ModeOn as WR_MODE_ON}
use Rattle.wrp_base.specs.Link.{other_of}
use Rattle.wrp_link.specs.declared.interface.LinkIn.{LinkIn}
use Rattle.wrp_link.specs.declared.interface.LinkIn.TheVariants.{Msg, Announce}
use Rattle.wrp_link.specs.LinkAt.{LinkAt}
use Rattle.wrp_check.specs.Required.{required_of}
use Rattle.wrp_link.specs.Table.{is_same}
use Rattle.wrp_link.proofs.Fits.{Belongs}
use Rattle.wrp_check.specs.Stretches.{Entered}
use Rattle.wrp_check.proofs.Entering.{entered_less}

-- past PRESENT: such a port sends numbered messages
abbrev pub engaged : Role → LinkState → Bool
engaged Slave Idle = false
engaged Slave Present = false
engaged Master Idle = false
engaged _ _ = true

-- moved by a numbered message of its peer
abbrev pub bound : Role → LinkState → Bool
bound Slave Idle = false
bound Slave Present = false
bound Master Idle = false
bound Master MLock = false
bound _ _ = true

-- every message but SLAVE_PRESENT
abbrev pub numbered : WrMsg → Bool
numbered SLAVE_PRESENT = false
numbered _ = true

-- the message of a port that engages its peer
abbrev pub opens : Role → WrMsg → Bool
opens Slave SLAVE_PRESENT = true
opens Master LOCK = true
opens _ _ = false

-- the states entered in a stretch, the newest first
abbrev pub way_of : Role → LinkState → List LinkState
way_of Slave Present = Present ∷ []
way_of Slave SLock = SLock ∷ (Present ∷ [])
way_of Slave Locked = Locked ∷ (SLock ∷ (Present ∷ []))
way_of Slave RespCalib = RespCalib ∷ (Locked ∷ (SLock ∷ (Present ∷ [])))
way_of Slave Calibration = Calibration ∷ (RespCalib ∷ (Locked ∷ (SLock ∷ (Present ∷ []))))
way_of Slave Calibrated = Calibrated ∷ (Calibration ∷ (RespCalib ∷ (Locked ∷ (SLock ∷ (Present ∷ [])))))
way_of Slave LinkOn = LinkOn ∷ (Calibrated ∷ (Calibration ∷ (RespCalib ∷ (Locked ∷ (SLock ∷ (Present ∷ []))))))
way_of Master MLock = MLock ∷ []
way_of Master Calibration = Calibration ∷ (MLock ∷ [])
way_of Master Calibrated = Calibrated ∷ (Calibration ∷ (MLock ∷ []))
way_of Master RespCalib = RespCalib ∷ (Calibrated ∷ (Calibration ∷ (MLock ∷ [])))
way_of Master LinkOn = LinkOn ∷ (RespCalib ∷ (Calibrated ∷ (Calibration ∷ (MLock ∷ []))))
way_of _ _ = []

-- what a port sends in a state
abbrev pub Sends : Role → LinkState → WrMsg → Type 0
Sends Slave Present SLAVE_PRESENT = Unit {0}
Sends Slave Locked LOCKED = Unit {0}
Sends Slave Calibration (CALIBRATE _ _ _) = Unit {0}
Sends Slave Calibrated (CALIBRATE _ _ _) = Unit {0}
Sends Slave Calibrated (CALIBRATED _ _) = Unit {0}
Sends Master MLock LOCK = Unit {0}
Sends Master Calibration (CALIBRATE _ _ _) = Unit {0}
Sends Master Calibrated (CALIBRATE _ _ _) = Unit {0}
Sends Master Calibrated (CALIBRATED _ _) = Unit {0}
Sends Master LinkOn WR_MODE_ON = Unit {0}
Sends _ _ _ = ⊥

abbrev pub SendsAll : Role → LinkState → List WrMsg → Type 0
SendsAll role state ms = AllByRecursion (λ m. Sends role state m) ms

-- a port that is not engaged sends no numbered message
pub shut_sends : (role : Role) (s : LinkState) (m : WrMsg) → engaged role s ≡ false → Sends role s m → numbered m ≡ false
shut_sends Slave Present SLAVE_PRESENT e h = refl
shut_sends Slave Locked LOCKED e h = cc
shut_sends Slave Calibration (CALIBRATE _ _ _) e h = cc
shut_sends Slave Calibrated (CALIBRATE _ _ _) e h = cc
shut_sends Slave Calibrated (CALIBRATED _ _) e h = cc
shut_sends Master MLock LOCK e h = cc
shut_sends Master Calibration (CALIBRATE _ _ _) e h = cc
shut_sends Master Calibrated (CALIBRATE _ _ _) e h = cc
shut_sends Master Calibrated (CALIBRATED _ _) e h = cc
shut_sends Master LinkOn WR_MODE_ON e h = cc
shut_sends _ _ _ e h = absurd h

-- a bound port does not send what engages its peer
pub bound_sends : (role : Role) (s : LinkState) (m : WrMsg) → bound role s ≡ true → Sends role s m → opens role m ≡ false
bound_sends Slave Present SLAVE_PRESENT e h = cc
bound_sends Slave Locked LOCKED e h = refl
bound_sends Slave Calibration (CALIBRATE _ _ _) e h = refl
bound_sends Slave Calibrated (CALIBRATE _ _ _) e h = refl
bound_sends Slave Calibrated (CALIBRATED _ _) e h = refl
bound_sends Master MLock LOCK e h = cc
bound_sends Master Calibration (CALIBRATE _ _ _) e h = refl
bound_sends Master Calibrated (CALIBRATE _ _ _) e h = refl
bound_sends Master Calibrated (CALIBRATED _ _) e h = refl
bound_sends Master LinkOn WR_MODE_ON e h = refl
bound_sends _ _ _ e h = absurd h

-- what a port sends is backed by the states of its stretch
pub sends_entered :
    (time : ℤ) (marks : List Mark) (role : Role) (s : LinkState) (m : WrMsg) →
    Sends role s m → Entered time (way_of role s) marks → Entered time (reverse (required_of (other_of role) m)) marks
sends_entered time marks Slave Present SLAVE_PRESENT h e = tt
sends_entered time marks Slave Locked LOCKED h e = e
sends_entered time marks Slave Calibration (CALIBRATE _ _ _) h e = e
sends_entered time marks Slave Calibrated (CALIBRATE _ _ _) h e = entered_less time Calibrated (way_of Slave Calibration) marks e
sends_entered time marks Slave Calibrated (CALIBRATED _ _) h e = e
sends_entered time marks Master MLock LOCK h e = e
sends_entered time marks Master Calibration (CALIBRATE _ _ _) h e = e
sends_entered time marks Master Calibrated (CALIBRATE _ _ _) h e = entered_less time Calibrated (way_of Master Calibration) marks e
sends_entered time marks Master Calibrated (CALIBRATED _ _) h e = e
sends_entered time marks Master LinkOn WR_MODE_ON h e = e
sends_entered time marks _ _ _ h e = absurd h

-- what a move from state to state is
pub data Kind (role : Role) (from : LinkState) (l : LinkAt) (input : LinkIn) (next : LinkState) : Type 0 where
  -- a slave in IDLE to PRESENT
  opening :
      from ≡ Idle → l.carrier ≡ true → is_some l.own_module ≡ true → l.quiet ≡ 0 → engaged role next ≡ false →
      ((suffix : Option ℕ) × (input ≡ Announce suffix)) → Kind role from l input next
  -- a master in IDLE to M_LOCK
  engaging :
      from ≡ Idle → l.carrier ≡ true → is_some l.own_module ≡ true → l.quiet ≡ 0 → engaged role next ≡ true → bound role next ≡ false →
      input ≡ Msg SLAVE_PRESENT → role ≡ Master → Kind role from l input next
  -- a slave in PRESENT to S_LOCK
  answering :
      from ≢ Idle → engaged role from ≡ false → engaged role next ≡ true → bound role next ≡ true →
      input ≡ Msg LOCK → role ≡ Slave → Kind role from l input next
  -- a master in M_LOCK to CALIBRATION
  binding :
      engaged role from ≡ true → bound role from ≡ false → engaged role next ≡ true → bound role next ≡ true →
      input ≡ Msg LOCKED → Kind role from l input next
  going_on :
      engaged role from ≡ true → bound role from ≡ true → engaged role next ≡ true → bound role next ≡ true →
      Kind role from l input next

-- a row that moves
pub record FitsMove (role : Role) (from : LinkState) (l : LinkAt) (input : LinkIn) (next : LinkState) (ms : List WrMsg) : Type 0 where
  pub kind : Kind role from l input next
  pub way : way_of role next ≡ next ∷ way_of role from
  pub belongs : Belongs role next
  pub changes : is_same from next ≡ false
  pub leaves : is_same next Idle ≡ false
  pub sends : SendsAll role next ms
