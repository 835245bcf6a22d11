-- A port at a moment, and the list of inputs that it stands for.
use Rattle.std.specs.Prelude.{◌≡◌, ℕ, pos, ◌≤◌, ◌≤ℤ◌, ◌^◌, List, Option, None, Some}
use Rattle.wrp_base.specs.declared.link.Deltas.{Deltas}
use Rattle.wrp_base.specs.declared.link.LinkState.{LinkState}
use Rattle.wrp_base.specs.declared.link.LinkState.TheVariants.{LinkOn}
use Rattle.wrp_base.specs.declared.link.Module.{Module}
use Rattle.wrp_base.specs.declared.link.Role.{Role}
use Rattle.wrp_base.specs.declared.link.Role.TheVariants.{Slave}
use Rattle.wrp_base.specs.declared.time.Stamp.{Stamp}
use Rattle.wrp_base.specs.Message.{IsSound}
use Rattle.wrp_exch.specs.Exchange.{ExchangeAt, StandsFor as ExchangeStandsFor}
use Rattle.wrp_link.specs.LinkAt.{LinkAt}
use Rattle.wrp_port.specs.declared.interface.PortIn.{PortIn}
use Rattle.wrp_port.specs.declared.interface.PortIn.TheVariants.{Msg, Sent}
use Rattle.wrp_port.specs.declared.line.Rest.{Rest}
use Rattle.wrp_port.specs.declared.setting.Setting.{Setting}
use Rattle.wrp_port.specs.History.{rest_after, calls_of}

-- what a port is seen as: its setting, its line and its exchange
pub record PortAt : Type 0 where
  pub set : Setting
  pub line : Rest
  pub exchange : ExchangeAt

-- each count that a port is set to is at least 1
pub record IsSetting (set : Setting) : Type 0 where
  pub quiet : 1 ≤ set.link.quiet
  pub wait : 1 ≤ set.link.wait
  pub lock_wait : 1 ≤ set.link.lock_wait
  pub announce : 1 ≤ set.sched.announce
  pub sync : 1 ≤ set.sched.sync
  pub delay : 1 ≤ set.sched.delay
  pub lease : 1 ≤ set.sched.lease

-- a stamp's value is 0 to 2^93
abbrev pub IsStamp : Stamp → Type 0
IsStamp stamp = (pos 0 ≤ℤ stamp.value) × (stamp.value ≤ℤ pos (2 ^ 93))

-- an input that can come: its message is one that can be sent, and its stamp is in range
abbrev pub IsFit : PortIn → Type 0
IsFit (Msg message stamp tick) = IsSound message × IsStamp stamp
IsFit (Sent delay seq stamp tick) = IsStamp stamp
IsFit _ = Unit {0}

-- the port stands for these inputs, newest first: it is what looking back over them finds
pub record StandsFor (port : PortAt) (inputs : List PortIn) : Type 0 where
  pub line : port.line ≡ rest_after port.set inputs
  pub exchange : ExchangeStandsFor port.set.ring port.exchange (calls_of port.set inputs)

-- the transmission delay of a module, in tau: 0 if the module is not listed
abbrev pub tx_of : Option Module → ℕ
tx_of None = 0
tx_of (Some own_module) = own_module.tx

-- the reception delay of a module, in tau: 0 if the module is not listed
abbrev pub rx_of : Option Module → ℕ
rx_of None = 0
rx_of (Some own_module) = own_module.rx

-- the four delays of a link: the peer's, and the own module's
abbrev pub deltas_by : Option (ℕ × ℕ) → Option Module → Deltas
deltas_by None own_module = record { txm = 0; rxm = 0; txs = tx_of own_module; rxs = rx_of own_module }
deltas_by (Some (tx, rx)) own_module = record { txm = tx; rxm = rx; txs = tx_of own_module; rxs = rx_of own_module }

-- the four delays of a link, by role and state: a slave in WR_LINK_ON has them, and no other port
abbrev pub deltas_in : Role → LinkState → LinkAt → Option Deltas
deltas_in Slave LinkOn l = Some (deltas_by l.deltas l.own_module)
deltas_in role state l = None

-- the four delays of a slave port in WR_LINK_ON
abbrev pub deltas_of : Role → LinkAt → Option Deltas
deltas_of role l = deltas_in role l.state l
