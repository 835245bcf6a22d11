-- One link by itself: its two ports with all that they ever sent, and the ways in which it changes. What is lost, late,
-- repeated or out of order is a choice of changes; the physics on which this rests is this project's profile.
use Rattle.std.specs.Prelude.{◌≡◌, ◌⊎◌, ℕ, ◌-◌, ◌*◌, ◌<◌, ℤ, pos, ◌+ℤ◌, ◌≤ℤ◌, if◌then◌else◌, List, [], ◌∷◌, Option, None, Some}
use Rattle.wrp_base.specs.declared.link.LinkState.{LinkState}
use Rattle.wrp_base.specs.declared.link.Mark.{Mark}
use Rattle.wrp_base.specs.declared.link.Module.{Module}
use Rattle.wrp_base.specs.declared.link.Role.{Role}
use Rattle.wrp_base.specs.declared.link.Role.TheVariants.{Master, Slave}
use Rattle.wrp_base.specs.declared.message.WrMsg.{WrMsg}
use Rattle.wrp_base.specs.Link.{other_of}
use Rattle.wrp_link.specs.declared.interface.LinkIn.{LinkIn}
use Rattle.wrp_link.specs.declared.interface.LinkIn.TheVariants.{Msg, Tick, CarrierUp}
use Rattle.wrp_link.specs.declared.interface.LinkSet.{LinkSet}
use Rattle.wrp_link.specs.LinkAt.{LinkAt, new_link}
use Rattle.wrp_link.specs.Rows.{Row, row_of}
use Rattle.wrp_link.specs.Table.{by_row, sent_by, is_same}

-- a message with the true time of its sending
abbrev pub Sending : Type 0
Sending = WrMsg × ℤ

-- a port at a moment
pub record Port : Type 0 where
  pub link : LinkAt
  -- the true time of its node's last tick, or of the node's start
  pub ticked : ℤ
  -- the changes of its link state, the newest first
  pub marks : List Mark
  -- the messages that it ever sent, the newest first
  pub sent : List Sending

-- both ports of a link at a true time
pub record BothPorts : Type 0 where
  pub time : ℤ
  pub master : Port
  pub slave : Port

-- the port of this role
abbrev pub end_of : BothPorts → Role → Port
end_of ends Master = ends.master
end_of ends Slave = ends.slave

-- the ends with another port of this role
abbrev pub with_end : BothPorts → Role → Port → BothPorts
with_end ends Master port = record ends { master = port }
with_end ends Slave port = record ends { slave = port }

-- a message is among those that were sent
abbrev pub IsAmong : Sending → List Sending → Type 0
IsAmong m [] = ⊥
IsAmong m (n ∷ ns) = (m ≡ n) ⊎ IsAmong m ns

-- messages that are sent at a time one after the other, before those that were sent earlier
abbrev pub stamped : ℤ → List WrMsg → List Sending → List Sending
stamped time [] sent = sent
stamped time (m ∷ ms) sent = stamped time ms ((m, time) ∷ sent)

-- the message that an input is, with its sending time
abbrev pub mover_of : LinkIn → ℤ → Option Sending
mover_of (Msg m) at = Some (m, at)
mover_of _ at = None

-- the last tick after an input was given
abbrev pub ticked_by : LinkIn → ℤ → ℤ → ℤ
ticked_by (Tick locked) time before = time
ticked_by _ time before = before

-- the history after the state changed, or stayed
abbrev pub marked : ℤ → LinkState → LinkState → Option Sending → List Mark → List Mark
marked time old new mover marks =
    if is_same old new then marks else record { at = time; from = old; to = new; by = mover } ∷ marks

-- a port after this row of the handshake table; an input that is a message was sent at the second time
abbrev pub port_by : ℤ → Port → LinkIn → ℤ → Row → Port
port_by time port input at row =
    record {
      link = by_row port.link row;
      ticked = ticked_by input time port.ticked;
      marks = marked time port.link.state (by_row port.link row).state (mover_of input at) port.marks;
      sent = stamped time (sent_by row) port.sent;
    }

-- a port after an input
abbrev pub after_input : ℤ → Port → LinkIn → ℤ → Port
after_input time port input at = port_by time port input at (row_of port.link input)

-- what a port may be given: a message that its peer sent at most a frame's life before, a tick not sooner
-- than dmin after the last, and anything else freely
abbrev pub MayHear : (life dmin : ℕ) → ℤ → Port → Port → LinkIn → ℤ → Type 0
MayHear life dmin time port peer (Msg m) at = IsAmong (m, at) peer.sent × (time ≤ℤ (at +ℤ pos life))
MayHear life dmin time port peer (Tick locked) at = (port.ticked +ℤ pos dmin) ≤ℤ time
MayHear life dmin time port peer _ at = Unit {0}

-- an input with which no carrier comes
abbrev pub IsNoCarrier : LinkIn → Type 0
IsNoCarrier (CarrierUp fitted) = ⊥
IsNoCarrier _ = Unit {0}

-- the ways in which a link changes
pub data Change : Type 0 where
  -- time passes
  Passes : ℕ → Change
  -- the port of a role is given an input; if that is a message, the time is the time of its sending
  Hears : Role → LinkIn → ℤ → Change
  -- the node of the port of a role starts: its ticks count from now on
  Starts : Role → Change
  -- the carrier comes at both ends, the master's and the slave's module in place
  Lights : Option Module → Option Module → Change

-- the ends after a change
abbrev pub changed : BothPorts → Change → BothPorts
changed ends (Passes dt) = record ends { time = ends.time +ℤ pos dt }
changed ends (Hears role input at) = with_end ends role (after_input ends.time (end_of ends role) input at)
changed ends (Starts role) = with_end ends role (record (end_of ends role) { ticked = ends.time })
changed ends (Lights of_master of_slave) =
    record ends {
      master = after_input ends.time ends.master (CarrierUp of_master) (pos 0);
      slave = after_input ends.time ends.slave (CarrierUp of_slave) (pos 0);
    }

-- a change that may come: a carrier comes only at both ends together
abbrev pub MayCome : (life dmin : ℕ) → BothPorts → Change → Type 0
MayCome life dmin ends (Passes dt) = Unit {0}
MayCome life dmin ends (Hears role input at) =
    IsNoCarrier input × MayHear life dmin ends.time (end_of ends role) (end_of ends (other_of role)) input at
MayCome life dmin ends (Starts role) = Unit {0}
MayCome life dmin ends (Lights of_master of_slave) = Unit {0}

-- the ends after a list of changes, the newest first
abbrev pub ends_after : BothPorts → List Change → BothPorts
ends_after ends [] = ends
ends_after ends (change ∷ older) = changed (ends_after ends older) change

-- each of a list of changes, the newest first, may come when it does
abbrev pub AllMayCome : (life dmin : ℕ) → BothPorts → List Change → Type 0
AllMayCome life dmin ends [] = Unit {0}
AllMayCome life dmin ends (change ∷ older) =
    MayCome life dmin (ends_after ends older) change × AllMayCome life dmin ends older

-- a port before its first input, at a true time
abbrev pub new_port : Role → LinkSet → ℤ → Port
new_port role set time = record { link = new_link role set; ticked = time; marks = []; sent = [] }

-- a link before its first change
abbrev pub new_ends : LinkSet → LinkSet → ℤ → BothPorts
new_ends of_master of_slave time =
    record { time = time; master = new_port Master of_master time; slave = new_port Slave of_slave time }

-- the quiet time of a port, less one tick, outlives a frame twice
abbrev pub OutlivesFrames : (life dmin : ℕ) → LinkSet → Type 0
OutlivesFrames life dmin set = 2 * life < (set.quiet - 1) * dmin

-- ends that a list of changes, each of which may come, can lead to
pub record CanBe (life dmin : ℕ) (ends : BothPorts) : Type 0 where
  pub of_master : LinkSet
  pub of_slave : LinkSet
  pub start : ℤ
  pub changes : List Change
  pub master_quiet : OutlivesFrames life dmin of_master
  pub slave_quiet : OutlivesFrames life dmin of_slave
  pub come : AllMayCome life dmin (new_ends of_master of_slave start) changes
  pub is : ends ≡ ends_after (new_ends of_master of_slave start) changes

-- when the carriers last came, after one more change
abbrev pub lit_by : BothPorts → Change → ℤ → ℤ
lit_by ends (Lights of_master of_slave) before = ends.time
lit_by ends _ before = before

-- when the carriers last came, over a list of changes, the newest first; the start, if they never did
abbrev pub lit_at : BothPorts → List Change → ℤ
lit_at ends [] = ends.time
lit_at ends (change ∷ older) = lit_by (ends_after ends older) change (lit_at ends older)

-- the module in place at the port of a role, after one more change
abbrev pub placed_by : Change → Role → Option Module → Option Module
placed_by (Lights of_master of_slave) Master before = of_master
placed_by (Lights of_master of_slave) Slave before = of_slave
placed_by _ role before = before

-- the module in place at the port of a role, over a list of changes, the newest first: the one with which
-- the carrier last came
abbrev pub placed_at : List Change → Role → Option Module
placed_at [] role = None
placed_at (change ∷ older) role = placed_by change role (placed_at older role)
