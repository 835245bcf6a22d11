-- A port's link at a moment: what its setup has led to, and how it starts, enters a state and fails. The names of the
-- states are the names of the White Rabbit Specification 2.0; the counts and timers are this project's profile.
use Rattle.std.specs.Prelude.{ℕ, Bool, true, false, Option, None, Some}
use Rattle.wrp_base.specs.declared.link.LinkState.{LinkState}
use Rattle.wrp_base.specs.declared.link.LinkState.TheVariants.{Idle, Present, SLock, MLock, Locked, Calibration, Calibrated, RespCalib, LinkOn}
use Rattle.wrp_base.specs.declared.link.Module.{Module}
use Rattle.wrp_base.specs.declared.link.Role.{Role}
use Rattle.wrp_base.specs.declared.link.Role.TheVariants.{Master, Slave}
use Rattle.wrp_link.specs.declared.interface.LinkSet.{LinkSet}

-- the timer of a waiting state: the ticks until it ends, and the retries that are left
pub record Waiting : Type 0 where
  pub ticks : ℕ
  pub retries : ℕ

-- a port's link at a moment
pub record LinkAt : Type 0 where
  -- which end of the link the port is, and what it is set to
  pub role : Role
  pub set : LinkSet
  -- whether the carrier is there
  pub carrier : Bool
  pub state : LinkState
  -- the ticks of quiet time and of holdoff that are left
  pub quiet : ℕ
  pub holdoff : ℕ
  -- the timer, only in a waiting state
  pub waiting : Option Waiting
  -- the ticks since WR_LINK_ON was entered
  pub on_ticks : ℕ
  -- the port's module, if the calibration database lists it
  pub own_module : Option Module
  -- the peer's deltaTx and deltaRx of this handshake, in tau
  pub deltas : Option (ℕ × ℕ)

-- a link before its first input: no carrier
abbrev pub new_link : Role → LinkSet → LinkAt
new_link role set =
    record {
      role = role;
      set = set;
      carrier = false;
      state = Idle;
      quiet = 0;
      holdoff = 0;
      waiting = None;
      on_ticks = 0;
      own_module = None;
      deltas = None;
    }

-- how many ticks a state waits; the states without a timer have none
abbrev pub wait_of : LinkSet → LinkState → Option ℕ
wait_of set Idle = None
wait_of set Present = Some set.wait
wait_of set SLock = Some set.lock_wait
wait_of set MLock = Some set.lock_wait
wait_of set Locked = Some set.wait
wait_of set Calibration = None
wait_of set Calibrated = Some set.wait
wait_of set RespCalib = Some set.wait
wait_of set LinkOn = None

-- a timer that runs this many ticks, if any, with this many retries
abbrev pub armed : Option ℕ → ℕ → Option Waiting
armed None retries = None
armed (Some ticks) retries = Some (record { ticks = ticks; retries = retries })

-- the link as it enters a state: its timer is armed with all retries
abbrev pub entering : LinkAt → LinkState → LinkAt
entering l next = record l { state = next; waiting = armed (wait_of l.set next) l.set.retries; on_ticks = 0 }

-- the holdoff after a failed handshake: it is the slave that waits
abbrev pub holdoff_of : Role → LinkSet → ℕ
holdoff_of Slave set = set.holdoff
holdoff_of Master set = 0

-- the link after a handshake failed: IDLE, in quiet time, without the peer's deltas
abbrev pub failed : LinkAt → LinkAt
failed l = record (entering l Idle) { quiet = l.set.quiet; holdoff = holdoff_of l.role l.set; deltas = None }

-- the link when a carrier comes: IDLE, in quiet time, whatever was before
abbrev pub with_carrier : LinkAt → Option Module → LinkAt
with_carrier l own_module = record (new_link l.role l.set) { carrier = true; quiet = l.set.quiet; own_module = own_module }
