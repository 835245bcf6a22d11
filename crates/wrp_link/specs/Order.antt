-- The order of the states of link setup, and what a list of inputs shows when one looks back over it: the states since
-- IDLE, and the delays that the peer gave. The order is this project's profile.
use Rattle.std.specs.Prelude.{◌≡◌, ◌≢◌, ℕ, if◌then◌else◌, List, [], ◌∷◌, ◌++◌}
use Rattle.wrp_base.specs.declared.link.LinkState.{LinkState}
use Rattle.wrp_base.specs.declared.link.LinkState.TheVariants.{Idle, Present, SLock, MLock, Locked, Calibration, Calibrated, RespCalib, LinkOn}
use Rattle.wrp_base.specs.declared.link.Role.{Role}
use Rattle.wrp_base.specs.declared.link.Role.TheVariants.{Master, Slave}
use Rattle.wrp_base.specs.declared.message.WrMsg.TheVariants.{Calibrated as CALIBRATED}
use Rattle.wrp_link.specs.declared.interface.LinkIn.{LinkIn}
use Rattle.wrp_link.specs.declared.interface.LinkIn.TheVariants.{Msg}
use Rattle.wrp_link.specs.LinkAt.{LinkAt}
use Rattle.wrp_link.specs.Table.{run_of, is_same}

-- the states of a role, in the order of a handshake
abbrev pub order_of : Role → List LinkState
order_of Slave =
    Idle ∷ (Present ∷ (SLock ∷ (Locked ∷ (RespCalib ∷ (Calibration ∷ (Calibrated ∷ (LinkOn ∷ [])))))))
order_of Master = Idle ∷ (MLock ∷ (Calibration ∷ (Calibrated ∷ (RespCalib ∷ (LinkOn ∷ [])))))

-- a list of states, up to one of them
abbrev pub up_to : LinkState → List LinkState → List LinkState
up_to last [] = []
up_to last (state ∷ states) = state ∷ (if is_same state last then [] else up_to last states)

-- the states passed since IDLE, with one more change
abbrev pub passing : List LinkState → LinkState → LinkState → List LinkState
passing passed from to = if is_same to Idle then Idle ∷ [] else (if is_same from to then passed else passed ++ to ∷ [])

-- the states that a link in IDLE passed over inputs, newest first, since it last was in IDLE: IDLE first
abbrev pub passed_by : LinkAt → List LinkIn → List LinkState
passed_by l [] = Idle ∷ []
passed_by l (input ∷ before) = passing (passed_by l before) (run_of l before).state (run_of l (input ∷ before)).state

-- a link was out of IDLE after these inputs, and after each of the inputs that came since
abbrev pub StaysOut : LinkAt → List LinkIn → List LinkIn → Type 0
StaysOut l [] before = (run_of l before).state ≢ Idle
StaysOut l (input ∷ since) before = ((run_of l (input ∷ (since ++ before))).state ≢ Idle) × StaysOut l since before

-- the peer gave these delays in the handshake that the link is in after inputs, newest first: one of them is the
-- CALIBRATED that has them, it moved the link, and the link did not return to IDLE since
pub record Told (l : LinkAt) (inputs : List LinkIn) (tx rx : ℕ) : Type 0 where
  pub since : List LinkIn
  pub before : List LinkIn
  pub splits : inputs ≡ since ++ Msg (CALIBRATED tx rx) ∷ before
  pub moved : (run_of l before).state ≢ (run_of l (Msg (CALIBRATED tx rx) ∷ before)).state
  pub stays : StaysOut l since (Msg (CALIBRATED tx rx) ∷ before)
