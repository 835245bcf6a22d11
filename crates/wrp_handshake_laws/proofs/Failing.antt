-- Only SLAVE_PRESENT makes a port in WR_LINK_ON fail, and only after its quiet time was ticked in that state.
use Rattle.std.proofs.Common.{◌≡◌, ◌≢◌, refl, ℕ, ◌≤◌, Bool, true, false, cond, eqb, ltb, leb, [], ◌∷◌, Option, None, Some}
use Rattle.std.proofs.lemmas.Bool.{leb-true}
use Rattle.wrp_base.specs.declared.link.LinkState.{LinkState}
use Rattle.wrp_base.specs.declared.link.LinkState.TheVariants.{Idle, Present, SLock, MLock, Locked, Calibration, Calibrated, RespCalib, LinkOn}
use Rattle.wrp_base.specs.declared.link.Role.{Role}
use Rattle.wrp_base.specs.declared.link.Role.TheVariants.{Master, Slave}
use Rattle.wrp_base.specs.declared.message.WrMsg.{WrMsg}
use Rattle.wrp_base.specs.declared.message.WrMsg.TheVariants.{Present as SLAVE_PRESENT, Lock as LOCK, Locked as LOCKED, Calibrate as CALIBRATE, Calibrated as CALIBRATED, ModeOn as WR_MODE_ON}
use Rattle.wrp_link.specs.declared.interface.LinkIn.{LinkIn}
use Rattle.wrp_link.specs.declared.interface.LinkIn.TheVariants.{Msg, Announce, Tick, CarrierDown, CarrierUp}
use Rattle.wrp_link.specs.LinkAt.{LinkAt, Waiting}
use Rattle.wrp_link.specs.Rows.{Row, Moves, Resends, Fails, Waits, CarrierGoes, under, may_leave_idle, slave_row, master_row, message_row, announce_row, resent, timer_row, tick_row, row_of}

-- what a row that fails says of a port in WR_LINK_ON
abbrev pub FailsBy : LinkAt → LinkState → LinkIn → Row → Type 0
FailsBy l from input Fails = from ≡ LinkOn → (input ≡ Msg SLAVE_PRESENT) × (l.set.quiet ≤ l.on_ticks)
FailsBy l from input _ = Unit {0}

under_fails :
    (b : Bool) (l : LinkAt) (from : LinkState) (input : LinkIn) (row : Row) →
    (b ≡ true → FailsBy l from input row) → FailsBy l from input (under b row)
under_fails true l from input row h = h refl
under_fails false l from input row h = tt

cond_fails :
    (b : Bool) (l : LinkAt) (from : LinkState) (input : LinkIn) (r s : Row) →
    FailsBy l from input r → FailsBy l from input s → FailsBy l from input (cond b r s)
cond_fails true l from input r s h k = h
cond_fails false l from input r s h k = k

slave_fails : (l : LinkAt) (from : LinkState) (m : WrMsg) → FailsBy l from (Msg m) (slave_row from m)
slave_fails l Present LOCK = tt
slave_fails l Locked (CALIBRATE _ _ _) = tt
slave_fails l RespCalib (CALIBRATED tx rx) = tt
slave_fails l Calibrated WR_MODE_ON = tt
slave_fails l _ _ = tt

master_fails : (l : LinkAt) (from : LinkState) (m : WrMsg) → FailsBy l from (Msg m) (master_row l from m)
master_fails l Idle SLAVE_PRESENT = under_fails (may_leave_idle l) l Idle (Msg SLAVE_PRESENT) (Moves MLock (LOCK ∷ [])) (λ e. tt)
master_fails l MLock SLAVE_PRESENT = tt
master_fails l MLock LOCKED = tt
master_fails l Calibrated (CALIBRATE _ _ _) = tt
master_fails l RespCalib (CALIBRATED tx rx) = tt
master_fails l LinkOn (CALIBRATED _ _) = tt
master_fails l LinkOn SLAVE_PRESENT =
    under_fails (leb l.set.quiet l.on_ticks) l LinkOn (Msg SLAVE_PRESENT) Fails (λ e on. (refl, leb-true l.set.quiet l.on_ticks e))
master_fails l _ _ = tt

message_fails : (l : LinkAt) (role : Role) (m : WrMsg) → FailsBy l l.state (Msg m) (message_row l role m)
message_fails l Slave m = slave_fails l l.state m
message_fails l Master m = master_fails l l.state m

announce_fails : (l : LinkAt) (role : Role) (from : LinkState) (suffix : Option ℕ) → FailsBy l from (Announce suffix) (announce_row l role from suffix)
announce_fails l Slave Idle suffix = under_fails _ l Idle (Announce suffix) (Moves Present (SLAVE_PRESENT ∷ [])) (λ e. tt)
announce_fails l _ _ suffix = tt

timer_fails : (l : LinkAt) (from : LinkState) (input : LinkIn) (w : Option Waiting) → from ≢ LinkOn → FailsBy l from input (timer_row l w)
timer_fails l from input None out = tt
timer_fails l from input (Some w) out =
    cond_fails (eqb w.ticks 1) l from input (cond (ltb 0 w.retries) (Resends (resent l l.state)) Fails) Waits
    (cond_fails (ltb 0 w.retries) l from input (Resends (resent l l.state)) Fails tt (λ on. absurd (out on)))
    tt

tick_fails : (l : LinkAt) (from : LinkState) (locked : Bool) → FailsBy l from (Tick locked) (tick_row l from locked)
tick_fails l SLock true = tt
tick_fails l SLock false = timer_fails l SLock (Tick false) l.waiting (λ e. cc)
tick_fails l Calibration locked = tt
tick_fails l Idle locked = tt
tick_fails l LinkOn locked = tt
tick_fails l Present locked = timer_fails l Present (Tick locked) l.waiting (λ e. cc)
tick_fails l MLock locked = timer_fails l MLock (Tick locked) l.waiting (λ e. cc)
tick_fails l Locked locked = timer_fails l Locked (Tick locked) l.waiting (λ e. cc)
tick_fails l Calibrated locked = timer_fails l Calibrated (Tick locked) l.waiting (λ e. cc)
tick_fails l RespCalib locked = timer_fails l RespCalib (Tick locked) l.waiting (λ e. cc)

-- each row that an input finds
pub row_fails : (l : LinkAt) (input : LinkIn) → FailsBy l l.state input (row_of l input)
row_fails l (Msg m) = under_fails l.carrier l l.state (Msg m) (message_row l l.role m) (λ e. message_fails l l.role m)
row_fails l (Announce suffix) = under_fails l.carrier l l.state (Announce suffix) (announce_row l l.role l.state suffix) (λ e. announce_fails l l.role l.state suffix)
row_fails l (Tick locked) = under_fails l.carrier l l.state (Tick locked) (tick_row l l.state locked) (λ e. tick_fails l l.state locked)
row_fails l CarrierDown = under_fails l.carrier l l.state CarrierDown CarrierGoes (λ e. tt)
row_fails l (CarrierUp fitted) = tt
