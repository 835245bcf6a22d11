-- What each row of the handshake table keeps: the order of the states, and what is known of the peer.
use Rattle.std.proofs.Common.{◌≡◌, refl, ℕ, Bool, true, false, cond, eqb, ltb, [], ◌∷◌, ◌++◌, Option, None, Some}
use Rattle.wrp_base.specs.declared.link.LinkState.{LinkState}
use Rattle.wrp_base.specs.declared.link.LinkState.TheVariants.{Idle, Present, SLock, MLock, Locked, Calibration, Calibrated, RespCalib, LinkOn}
use Rattle.wrp_base.specs.declared.link.Role.{Role}
use Rattle.wrp_base.specs.declared.link.Role.TheVariants.{Master, Slave}
use Rattle.wrp_base.specs.declared.message.WrMsg.{WrMsg}
use Rattle.wrp_base.specs.declared.message.WrMsg.TheVariants.{Present as SLAVE_PRESENT, Lock as LOCK, Locked as LOCKED, Calibrate as CALIBRATE, Calibrated as CALIBRATED, ModeOn as WR_MODE_ON}
use Rattle.wrp_link.specs.declared.interface.LinkIn.{LinkIn}
use Rattle.wrp_link.specs.declared.interface.LinkIn.TheVariants.{Msg, Announce, Tick, CarrierDown, CarrierUp}
use Rattle.wrp_link.specs.Laws.{TurnsOn}
use Rattle.wrp_link.specs.LinkAt.{LinkAt, Waiting}
use Rattle.wrp_link.specs.Order.{order_of, up_to}
use Rattle.wrp_link.specs.Rows.{Row, Moves, Keeps, Resends, Fails, Waits, CarrierGoes, under, slave_row, master_row, message_row, announce_row, resent, timer_row, tick_row, row_of}
use Rattle.wrp_link.specs.Table.{is_same}

-- the states that a role has
abbrev pub Belongs : Role → LinkState → Type 0
Belongs Slave MLock = ⊥
Belongs Master Present = ⊥
Belongs Master SLock = ⊥
Belongs Master Locked = ⊥
Belongs _ _ = Unit {0}

-- the states in which the peer's delays are known
abbrev pub knows : Role → LinkState → Bool
knows Slave Calibration = true
knows Slave Calibrated = true
knows Slave LinkOn = true
knows Master LinkOn = true
knows _ _ = false

-- a state comes right after another in the order of a role
pub record Follows (role : Role) (from next : LinkState) : Type 0 where
  pub belongs : Belongs role next
  pub order : up_to next (order_of role) ≡ up_to from (order_of role) ++ next ∷ []
  pub leaves : is_same from next ≡ false
  pub out : is_same next Idle ≡ false

-- a row that moves and keeps nothing
pub record FitsMove (role : Role) (from : LinkState) (input : LinkIn) (next : LinkState) : Type 0 where
  pub follows : Follows role from next
  pub known : knows role next ≡ knows role from
  pub turns : next ≡ LinkOn → TurnsOn role from input

-- a row that moves and keeps the peer's delays
pub record FitsKeep (role : Role) (from : LinkState) (input : LinkIn) (tx rx : ℕ) (next : LinkState) : Type 0 where
  pub follows : Follows role from next
  pub unknown : knows role from ≡ false
  pub known : knows role next ≡ true
  pub told : input ≡ Msg (CALIBRATED tx rx)
  pub turns : next ≡ LinkOn → TurnsOn role from input

-- a row that fits the order
abbrev pub Fits : Role → LinkState → LinkIn → Row → Type 0
Fits role from input (Moves next _) = FitsMove role from input next
Fits role from input (Keeps tx rx next _) = FitsKeep role from input tx rx next
Fits role from input _ = Unit {0}

under_fits :
    (b : Bool) (role : Role) (from : LinkState) (input : LinkIn) (row : Row) →
    Fits role from input row → Fits role from input (under b row)
under_fits true role from input row h = h
under_fits false role from input row h = tt

cond_fits :
    (b : Bool) (role : Role) (from : LinkState) (input : LinkIn) (r s : Row) →
    Fits role from input r → Fits role from input s → Fits role from input (cond b r s)
cond_fits true role from input r s h k = h
cond_fits false role from input r s h k = k

-- the slave's messages
slave_fits : (from : LinkState) (m : WrMsg) → Fits Slave from (Msg m) (slave_row from m)
slave_fits Present LOCK =
    record {
      follows = record { belongs = tt; order = refl; leaves = refl; out = refl };
      known = refl;
      turns = λ e. cc;
    }
slave_fits Locked (CALIBRATE _ _ _) =
    record {
      follows = record { belongs = tt; order = refl; leaves = refl; out = refl };
      known = refl;
      turns = λ e. cc;
    }
slave_fits RespCalib (CALIBRATED tx rx) =
    record {
      follows = record { belongs = tt; order = refl; leaves = refl; out = refl };
      unknown = refl;
      known = refl;
      told = refl;
      turns = λ e. cc;
    }
slave_fits Calibrated WR_MODE_ON =
    record {
      follows = record { belongs = tt; order = refl; leaves = refl; out = refl };
      known = refl;
      turns = λ e. (refl, refl);
    }
slave_fits _ _ = tt

-- the master's messages
master_fits : (l : LinkAt) (from : LinkState) (m : WrMsg) → Fits Master from (Msg m) (master_row l from m)
master_fits l Idle SLAVE_PRESENT =
    under_fits _ Master Idle (Msg SLAVE_PRESENT) (Moves MLock (LOCK ∷ []))
    (record {
      follows = record { belongs = tt; order = refl; leaves = refl; out = refl };
      known = refl;
      turns = λ e. cc;
    })
master_fits l MLock LOCKED =
    record {
      follows = record { belongs = tt; order = refl; leaves = refl; out = refl };
      known = refl;
      turns = λ e. cc;
    }
master_fits l Calibrated (CALIBRATE _ _ _) =
    record {
      follows = record { belongs = tt; order = refl; leaves = refl; out = refl };
      known = refl;
      turns = λ e. cc;
    }
master_fits l RespCalib (CALIBRATED tx rx) =
    record {
      follows = record { belongs = tt; order = refl; leaves = refl; out = refl };
      unknown = refl;
      known = refl;
      told = refl;
      turns = λ e. (refl, (tx, (rx, refl)));
    }
master_fits l LinkOn SLAVE_PRESENT = under_fits _ Master LinkOn (Msg SLAVE_PRESENT) Fails tt
master_fits l _ _ = tt

message_fits : (l : LinkAt) (role : Role) (m : WrMsg) → Fits role l.state (Msg m) (message_row l role m)
message_fits l Slave m = slave_fits l.state m
message_fits l Master m = master_fits l l.state m

announce_fits :
    (l : LinkAt) (role : Role) (from : LinkState) (suffix : Option ℕ) →
    Fits role from (Announce suffix) (announce_row l role from suffix)
announce_fits l Slave Idle suffix =
    under_fits _ Slave Idle (Announce suffix) (Moves Present (SLAVE_PRESENT ∷ []))
    (record {
      follows = record { belongs = tt; order = refl; leaves = refl; out = refl };
      known = refl;
      turns = λ e. cc;
    })
announce_fits l _ _ suffix = tt

timer_fits :
    (l : LinkAt) (role : Role) (from : LinkState) (input : LinkIn) (w : Option Waiting) →
    Fits role from input (timer_row l w)
timer_fits l role from input None = tt
timer_fits l role from input (Some w) =
    cond_fits (eqb w.ticks 1) role from input (cond (ltb 0 w.retries) (Resends (resent l l.state)) Fails) Waits
    (cond_fits (ltb 0 w.retries) role from input (Resends (resent l l.state)) Fails tt tt)
    tt

tick_fits :
    (l : LinkAt) (role : Role) (from : LinkState) (locked : Bool) →
    Belongs role from → Fits role from (Tick locked) (tick_row l from locked)
tick_fits l Slave SLock true h =
    record {
      follows = record { belongs = tt; order = refl; leaves = refl; out = refl };
      known = refl;
      turns = λ e. cc;
    }
tick_fits l Master SLock true h = absurd h
tick_fits l Slave Calibration locked h =
    record {
      follows = record { belongs = tt; order = refl; leaves = refl; out = refl };
      known = refl;
      turns = λ e. cc;
    }
tick_fits l Master Calibration locked h =
    record {
      follows = record { belongs = tt; order = refl; leaves = refl; out = refl };
      known = refl;
      turns = λ e. cc;
    }
tick_fits l role Idle locked h = tt
tick_fits l role LinkOn locked h = tt
tick_fits l role SLock false h = timer_fits l role SLock (Tick false) l.waiting
tick_fits l role Present locked h = timer_fits l role Present (Tick locked) l.waiting
tick_fits l role MLock locked h = timer_fits l role MLock (Tick locked) l.waiting
tick_fits l role Locked locked h = timer_fits l role Locked (Tick locked) l.waiting
tick_fits l role Calibrated locked h = timer_fits l role Calibrated (Tick locked) l.waiting
tick_fits l role RespCalib locked h = timer_fits l role RespCalib (Tick locked) l.waiting

-- every row that an input finds fits
pub row_fits : (l : LinkAt) (input : LinkIn) → Belongs l.role l.state → Fits l.role l.state input (row_of l input)
row_fits l (Msg m) h = under_fits l.carrier l.role l.state (Msg m) (message_row l l.role m) (message_fits l l.role m)
row_fits l (Announce suffix) h =
    under_fits l.carrier l.role l.state (Announce suffix) (announce_row l l.role l.state suffix) (announce_fits l l.role l.state suffix)
row_fits l (Tick locked) h =
    under_fits l.carrier l.role l.state (Tick locked) (tick_row l l.state locked) (tick_fits l l.role l.state locked h)
row_fits l CarrierDown h = under_fits l.carrier l.role l.state CarrierDown CarrierGoes tt
row_fits l (CarrierUp own_module) h = tt
