-- Each row of the handshake table moves and sends as the stages say.
use Rattle.std.proofs.Common.{◌≡◌, ◌≢◌, refl, sym, ◌∙◌, subst₂, ℕ, Bool, true, false, cond, eqb, ltb, ◌&&◌, is_some, [], ◌∷◌, Option, None, Some}
use Rattle.std.proofs.lemmas.Bool.{eqb-true}
use Rattle.wrp_base.specs.declared.link.LinkState.{LinkState}
use Rattle.wrp_base.specs.declared.link.LinkState.TheVariants.{Idle, Present, SLock, MLock, Locked, Calibration, Calibrated, RespCalib, LinkOn}
use Rattle.wrp_base.specs.declared.link.Module.{Module}
use Rattle.wrp_base.specs.declared.link.Role.{Role}
use Rattle.wrp_base.specs.declared.link.Role.TheVariants.{Master, Slave}
use Rattle.wrp_base.specs.declared.message.WrMsg.{WrMsg}
use Rattle.wrp_base.specs.declared.message.WrMsg.TheVariants.{Present as SLAVE_PRESENT, Lock as LOCK, Locked as LOCKED, Calibrate as CALIBRATE, Calibrated as CALIBRATED, ModeOn as WR_MODE_ON}
use Rattle.wrp_base.proofs.Booleans.{and_second}
use Rattle.wrp_link.specs.declared.interface.LinkIn.{LinkIn}
use Rattle.wrp_link.specs.declared.interface.LinkIn.TheVariants.{Msg, Announce, Tick, CarrierDown, CarrierUp}
use Rattle.wrp_link.specs.LinkAt.{LinkAt, Waiting}
use Rattle.wrp_link.specs.Rows.{Row, NoRow, Stays, Moves, Keeps, Resends, Fails, Waits, Counts, CarrierComes, CarrierGoes, under, may_leave_idle, offers, own_calibrated, slave_row, master_row, message_row, announce_row, resent, timer_row, tick_row, row_of}
use Rattle.wrp_link.proofs.Fits.{Belongs}
use Rattle.wrp_handshake_laws.proofs.Stages.{Sends, SendsAll, opening, engaging, answering, binding, going_on, FitsMove}

abbrev pub RowFits : Role → LinkState → LinkAt → LinkIn → Row → Type 0
RowFits role from l input NoRow = Unit {0}
RowFits role from l input (Stays sends) = SendsAll role from sends
RowFits role from l input (Moves next sends) = FitsMove role from l input next sends
RowFits role from l input (Keeps tx rx next sends) = FitsMove role from l input next sends
RowFits role from l input (Resends sends) = SendsAll role from sends
RowFits role from l input Fails = from ≢ Idle
RowFits role from l input Waits = from ≢ Idle
RowFits role from l input Counts = (locked : Bool) × (input ≡ Tick locked)
RowFits role from l input (CarrierComes fitted) = input ≡ CarrierUp fitted
RowFits role from l input CarrierGoes = input ≡ CarrierDown

under_fits :
    (b : Bool) (role : Role) (from : LinkState) (l : LinkAt) (input : LinkIn) (row : Row) →
    (b ≡ true → RowFits role from l input row) → RowFits role from l input (under b row)
under_fits true role from l input row h = h refl
under_fits false role from l input row h = tt

pub and_left : (a b : Bool) → a && b ≡ true → a ≡ true
and_left true b e = refl
and_left false b e = e

over : (l : LinkAt) → may_leave_idle l ≡ true → l.quiet ≡ 0
over l e = eqb-true l.quiet 0 (and_left (eqb l.quiet 0) _ e)

listed : (l : LinkAt) → may_leave_idle l ≡ true → is_some l.own_module ≡ true
listed l e = and_left (is_some l.own_module) l.set.wr (and_second (eqb l.quiet 0) _ e)

calibrated_sent : (role : Role) (m : Option Module) → Sends role Calibrated (own_calibrated m)
calibrated_sent Slave None = tt
calibrated_sent Slave (Some m) = tt
calibrated_sent Master None = tt
calibrated_sent Master (Some m) = tt

-- the slave's messages
slave_fits : (l : LinkAt) (from : LinkState) (m : WrMsg) → RowFits Slave from l (Msg m) (slave_row from m)
slave_fits l Present LOCK =
    record {
      kind = answering (λ e. cc) refl refl refl refl refl;
      way = refl;
      belongs = tt;
      changes = refl;
      leaves = refl;
      sends = tt;
    }
slave_fits l Locked (CALIBRATE _ _ _) =
    record { kind = going_on refl refl refl refl; way = refl; belongs = tt; changes = refl; leaves = refl; sends = tt }
slave_fits l RespCalib (CALIBRATED tx rx) =
    record { kind = going_on refl refl refl refl; way = refl; belongs = tt; changes = refl; leaves = refl; sends = (tt, tt) }
slave_fits l Calibrated WR_MODE_ON =
    record { kind = going_on refl refl refl refl; way = refl; belongs = tt; changes = refl; leaves = refl; sends = tt }
slave_fits l _ _ = tt

-- the master's
master_fits : (l : LinkAt) (from : LinkState) (m : WrMsg) → l.carrier ≡ true → RowFits Master from l (Msg m) (master_row l from m)
master_fits l Idle SLAVE_PRESENT lit =
    under_fits (may_leave_idle l) Master Idle l (Msg SLAVE_PRESENT) (Moves MLock (LOCK ∷ []))
    (λ e.
    record {
      kind = engaging refl lit (listed l e) (over l e) refl refl refl refl;
      way = refl;
      belongs = tt;
      changes = refl;
      leaves = refl;
      sends = (tt, tt);
    })
master_fits l MLock SLAVE_PRESENT lit = (tt, tt)
master_fits l MLock LOCKED lit =
    record { kind = binding refl refl refl refl refl; way = refl; belongs = tt; changes = refl; leaves = refl; sends = (tt, tt) }
master_fits l Calibrated (CALIBRATE _ _ _) lit =
    record { kind = going_on refl refl refl refl; way = refl; belongs = tt; changes = refl; leaves = refl; sends = tt }
master_fits l RespCalib (CALIBRATED tx rx) lit =
    record { kind = going_on refl refl refl refl; way = refl; belongs = tt; changes = refl; leaves = refl; sends = (tt, tt) }
master_fits l LinkOn (CALIBRATED _ _) lit = (tt, tt)
master_fits l LinkOn SLAVE_PRESENT lit = under_fits _ Master LinkOn l (Msg SLAVE_PRESENT) Fails (λ e f. cc)
master_fits l _ _ lit = tt

message_fits : (l : LinkAt) (role : Role) (m : WrMsg) → l.carrier ≡ true → RowFits role l.state l (Msg m) (message_row l role m)
message_fits l Slave m lit = slave_fits l l.state m
message_fits l Master m lit = master_fits l l.state m lit

announce_fits :
    (l : LinkAt) (role : Role) (from : LinkState) (suffix : Option ℕ) →
    l.carrier ≡ true → RowFits role from l (Announce suffix) (announce_row l role from suffix)
announce_fits l Slave Idle suffix lit =
    under_fits _ Slave Idle l (Announce suffix) (Moves Present (SLAVE_PRESENT ∷ []))
    (λ e.
    record {
      kind = opening refl lit (listed l (and_second _ _ (and_second (offers suffix) _ e))) (over l (and_second _ _ (and_second (offers suffix) _ e))) refl (suffix, refl);
      way = refl;
      belongs = tt;
      changes = refl;
      leaves = refl;
      sends = (tt, tt);
    })
announce_fits l _ _ suffix lit = tt

resent_fits : (l : LinkAt) (role : Role) (s : LinkState) → Belongs role s → SendsAll role s (resent l s)
resent_fits l Slave Present b = (tt, tt)
resent_fits l Master MLock b = (tt, tt)
resent_fits l Slave Locked b = (tt, tt)
resent_fits l Slave Calibrated b = (tt, (calibrated_sent Slave l.own_module, tt))
resent_fits l Master Calibrated b = (tt, (calibrated_sent Master l.own_module, tt))
resent_fits l Slave MLock b = absurd b
resent_fits l Master Present b = absurd b
resent_fits l Master Locked b = absurd b
resent_fits l _ _ b = tt

cond_fits :
    (b : Bool) (role : Role) (from : LinkState) (l : LinkAt) (input : LinkIn) (r s : Row) →
    RowFits role from l input r → RowFits role from l input s → RowFits role from l input (cond b r s)
cond_fits true role from l input r s h k = h
cond_fits false role from l input r s h k = k

timer_fits :
    (l : LinkAt) (input : LinkIn) (w : Option Waiting) →
    Belongs l.role l.state → l.state ≢ Idle → RowFits l.role l.state l input (timer_row l w)
timer_fits l input None b out = out
timer_fits l input (Some w) b out =
    cond_fits (eqb w.ticks 1) l.role l.state l input (cond (ltb 0 w.retries) (Resends (resent l l.state)) Fails) Waits
    (cond_fits (ltb 0 w.retries) l.role l.state l input (Resends (resent l l.state)) Fails (resent_fits l l.role l.state b) out)
    out

timer_at :
    (role : Role) (from : LinkState) (l : LinkAt) (locked : Bool) →
    l.role ≡ role → l.state ≡ from → Belongs role from → from ≢ Idle →
    RowFits role from l (Tick locked) (timer_row l l.waiting)
timer_at role from l locked r s b out =
    subst₂ (λ (x : Role) (y : LinkState). RowFits x y l (Tick locked) (timer_row l l.waiting)) r s
    (timer_fits l (Tick locked) l.waiting
    (subst₂ (λ (x : Role) (y : LinkState). Belongs x y) (sym r) (sym s) b)
    (λ e. out (sym s ∙ e)))

tick_fits :
    (role : Role) (from : LinkState) (l : LinkAt) (locked : Bool) →
    l.role ≡ role → l.state ≡ from → Belongs role from → RowFits role from l (Tick locked) (tick_row l from locked)
tick_fits Slave SLock l true r s b =
    record { kind = going_on refl refl refl refl; way = refl; belongs = tt; changes = refl; leaves = refl; sends = (tt, tt) }
tick_fits Master SLock l true r s b = absurd b
tick_fits Slave Calibration l locked r s b =
    record {
      kind = going_on refl refl refl refl;
      way = refl;
      belongs = tt;
      changes = refl;
      leaves = refl;
      sends = (calibrated_sent Slave l.own_module, tt);
    }
tick_fits Master Calibration l locked r s b =
    record {
      kind = going_on refl refl refl refl;
      way = refl;
      belongs = tt;
      changes = refl;
      leaves = refl;
      sends = (calibrated_sent Master l.own_module, tt);
    }
tick_fits role Idle l locked r s b = (locked, refl)
tick_fits role LinkOn l locked r s b = (locked, refl)
tick_fits role SLock l false r s b = timer_at role SLock l false r s b (λ e. cc)
tick_fits role Present l locked r s b = timer_at role Present l locked r s b (λ e. cc)
tick_fits role MLock l locked r s b = timer_at role MLock l locked r s b (λ e. cc)
tick_fits role Locked l locked r s b = timer_at role Locked l locked r s b (λ e. cc)
tick_fits role Calibrated l locked r s b = timer_at role Calibrated l locked r s b (λ e. cc)
tick_fits role RespCalib l locked r s b = timer_at role RespCalib l locked r s b (λ e. cc)

pub row_fits : (l : LinkAt) (input : LinkIn) → Belongs l.role l.state → RowFits l.role l.state l input (row_of l input)
row_fits l (Msg m) b = under_fits l.carrier l.role l.state l (Msg m) (message_row l l.role m) (λ lit. message_fits l l.role m lit)
row_fits l (Announce suffix) b =
    under_fits l.carrier l.role l.state l (Announce suffix) (announce_row l l.role l.state suffix)
    (λ lit. announce_fits l l.role l.state suffix lit)
row_fits l (Tick locked) b =
    under_fits l.carrier l.role l.state l (Tick locked) (tick_row l l.state locked)
    (λ lit. tick_fits l.role l.state l locked refl refl b)
row_fits l CarrierDown b = under_fits l.carrier l.role l.state l CarrierDown CarrierGoes (λ lit. refl)
row_fits l (CarrierUp fitted) b = refl
