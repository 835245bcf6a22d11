-- The marks that a complete handshake leaves at both ends, the oldest first, with the numbers of packets in place of
-- times (this project's profile).
use Rattle.std.specs.Prelude.{ℕ, ◌<◌, pos, List, [], ◌∷◌, get_or, None, Some}
use Rattle.wrp_base.specs.declared.link.LinkState.{LinkState}
use Rattle.wrp_base.specs.declared.link.LinkState.TheVariants.{Idle, Present, SLock, MLock, Locked, Calibration, Calibrated, RespCalib, LinkOn}
use Rattle.wrp_base.specs.declared.link.Mark.{Mark}
use Rattle.wrp_base.specs.declared.message.WrMsg.{WrMsg}
use Rattle.wrp_base.specs.declared.message.WrMsg.TheVariants.{Present as SLAVE_PRESENT, Lock as LOCK, Locked as LOCKED, Calibrate as CALIBRATE, Calibrated as CALIBRATED, ModeOn as WR_MODE_ON}

-- each number is below the next
abbrev pub Rises : List ℕ → Type 0
Rises [] = Unit {0}
Rises (p ∷ []) = Unit {0}
Rises (p ∷ q ∷ numbers) = (p < q) × Rises (q ∷ numbers)

-- the number of the packet at a place, 1 to 8
abbrev pub packet : List ℕ → ℕ → ℕ
packet numbers place = get_or (0 ∷ numbers) place 0

-- a change of state without a message
abbrev pub alone : ℕ → LinkState → LinkState → Mark
alone at from to = record { at = pos at; from = from; to = to; by = None }

-- a change of state by a message with its sending time
abbrev pub moved : ℕ → LinkState → LinkState → WrMsg → ℕ → Mark
moved at from to by sent = record { at = pos at; from = from; to = to; by = Some (by, pos sent) }

abbrev pub slave_marks : List ℕ → List Mark
slave_marks numbers =
    let p = packet numbers in
    alone (p 1) Idle Present ∷
    (moved (p 2) Present SLock LOCK (p 2) ∷
    (alone (p 3) SLock Locked ∷
    (moved (p 4) Locked RespCalib (CALIBRATE 0 0 0) (p 4) ∷
    (moved (p 6) RespCalib Calibration (CALIBRATED 0 0) (p 5) ∷
    (alone (p 7) Calibration Calibrated ∷
    (moved (p 8) Calibrated LinkOn WR_MODE_ON (p 8) ∷
    []))))))

abbrev pub master_marks : List ℕ → List Mark
master_marks numbers =
    let p = packet numbers in
    moved (p 2) Idle MLock SLAVE_PRESENT (p 1) ∷
    (moved (p 4) MLock Calibration LOCKED (p 3) ∷
    (alone (p 5) Calibration Calibrated ∷
    (moved (p 6) Calibrated RespCalib (CALIBRATE 0 0 0) (p 6) ∷
    (moved (p 8) RespCalib LinkOn (CALIBRATED 0 0) (p 7) ∷
    []))))
