-- What a port keeps, what each input makes of it, and the list of inputs that it stands for (this
-- project's profile).
use Rattle.std.specs.Prelude.{◌≡◌, ℕ, ◌+◌, ◌-◌, ◌%◌, ◌==◌, ◌&&◌, Bool, true, false, if◌then◌else◌, nat_lt, List, Option, None, Some}
use Rattle.std.specs.Option.{option_map}
use Rattle.wrp_l1sync.specs.declared.interface.L1In.{L1In}
use Rattle.wrp_l1sync.specs.declared.interface.L1In.TheVariants.{Enable, Disable, Own, Msg, Tick}
use Rattle.wrp_l1sync.specs.declared.interface.L1Out.{L1Out}
use Rattle.wrp_l1sync.specs.declared.interface.L1State.{L1State}
use Rattle.wrp_l1sync.specs.declared.interface.L1State.TheVariants.{Disabled}
use Rattle.wrp_l1sync.specs.declared.kept.Kept.{Kept}
use Rattle.wrp_l1sync.specs.declared.message.L1Msg.{L1Msg}
use Rattle.wrp_l1sync.specs.Inputs.{is_enabled, own_of, last_message, ticks_since, ticks_of, state_with, change_of}

-- what a port keeps: its settings, whether it is enabled, its own message, the message of its peer
-- with the ticks for which it is kept, and the ticks since it last sent
pub record PortAt : Type 0 where
  pub timeout : ℕ
  pub interval : ℕ
  pub enabled : Bool
  pub own : L1Msg
  pub kept : Option Kept
  pub turn : ℕ

-- a message that this many ticks follow, while it is kept
abbrev pub kept_by : (timeout ticks : ℕ) → Option L1Msg → Option Kept
kept_by timeout ticks None = None
kept_by timeout ticks (Some message) =
    if nat_lt ticks timeout then Some (record { msg = message; left = timeout - ticks }) else None

-- the port that looking back over its inputs finds
abbrev pub port_of : (timeout interval : ℕ) → List L1In → PortAt
port_of timeout interval inputs =
    record {
      timeout = timeout;
      interval = interval;
      enabled = is_enabled inputs;
      own = own_of inputs;
      kept = kept_by timeout (ticks_since inputs) (last_message inputs);
      turn = ticks_of inputs % interval;
    }

-- the port stands for these inputs, newest first
abbrev pub StandsFor : PortAt → List L1In → Type 0
StandsFor port inputs = port ≡ port_of port.timeout port.interval inputs

-- ---- what each input makes of a port

-- a kept message one tick later: with the last of its ticks it is forgotten
abbrev pub aged : Option Kept → Option Kept
aged None = None
aged (Some kept) = if kept.left == 1 then None else Some (record kept { left = kept.left - 1 })

abbrev pub enabled_by : PortAt → PortAt
enabled_by port = if port.enabled then port else record port { enabled = true; turn = 0 }

abbrev pub heard_by : PortAt → L1Msg → PortAt
heard_by port message =
    if port.enabled then record port { kept = kept_by port.timeout 0 (Some message) } else port

-- the ticks since the last sending, this tick included: 0 if the port sends
abbrev pub next_turn : PortAt → ℕ
next_turn port = (port.turn + 1) % port.interval

abbrev pub ticked_by : PortAt → PortAt
ticked_by port =
    if port.enabled then record port { kept = aged port.kept; turn = next_turn port } else port

abbrev pub after : PortAt → L1In → PortAt
after port Enable = enabled_by port
after port Disable = record port { enabled = false; kept = None }
after port (Own message) = record port { own = message }
after port (Msg message) = heard_by port message
after port Tick = ticked_by port

-- ---- what a port shows

abbrev pub message_of : Kept → L1Msg
message_of kept = kept.msg

abbrev pub state_by : PortAt → L1State
state_by port =
    if port.enabled then state_with port.own (option_map message_of port.kept) else Disabled

-- the message that a tick makes the port send
abbrev pub due_by : PortAt → Option L1Msg
due_by port = if port.enabled && (next_turn port == 0) then Some port.own else None

abbrev pub send_by : PortAt → L1In → Option L1Msg
send_by port Tick = due_by port
send_by port _ = None

abbrev pub out_by : PortAt → L1In → L1Out
out_by port input =
    record {
      send = send_by port input;
      moved = change_of (state_by port) (state_by (after port input));
    }
