-- A world at a moment: true time, clocks, fibres, ends of links, and every frame that was ever sent. Nothing is
-- forgotten; lists of what grows are newest first (this project's profile).
use Rattle.std.specs.Prelude.{ℕ, ℤ, pos, ◌+ℤ◌, ◌-ℤ◌, ◌&&◌, Bool, true, false, if◌then◌else◌, List, [], Option, None, Some}
use Rattle.std.specs.Option.{option_map_or, is_some}
use Rattle.wrp_base.specs.declared.link.Mark.{Mark}
use Rattle.wrp_base.specs.declared.link.Module.{Module}
use Rattle.wrp_base.specs.declared.link.Role.{Role}
use Rattle.wrp_base.specs.declared.link.Role.TheVariants.{Master, Slave}
use Rattle.wrp_base.specs.declared.message.PtpMsg.{PtpMsg}
use Rattle.wrp_network.specs.declared.network.LinkCfg.{LinkCfg}
use Rattle.wrp_base.specs.declared.time.Raw.{Raw}
use Rattle.wrp_node.specs.NodeAt.{NodeAt, Taken}
use Rattle.wrp_node.specs.NodeRun.{new_node}
use Rattle.wrp_course.specs.declared.clocks.ClockState.{ClockState}
use Rattle.wrp_course.specs.declared.fibres.FibreState.{FibreState}
use Rattle.wrp_course.specs.Setting.{Setting, link_of, start_of, entry_at}

-- a frame that was put out: at which true time, and in which event; events are counted from 1
pub record Sending : Type 0 where
  pub message : PtpMsg
  pub at : ℤ
  pub moment : ℕ

-- the arrival of a frame; its moment is the number of events before it
pub record Arrival : Type 0 where
  pub raw : Raw
  pub sample : ℕ
  pub at : ℤ
  pub moment : ℕ

-- a frame that departed; its moment is the number of events before its departure
pub record FrameAt : Type 0 where
  pub link : ℕ
  -- the end that sent it
  pub by : Role
  pub sending : Sending
  pub stamp : ℤ
  pub at : ℤ
  pub moment : ℕ
  -- when it arrives, if it does
  pub due : ℤ
  pub arrival : Option Arrival
  -- it can no longer arrive
  pub gone : Bool

-- an end of a link
pub record EndAt : Type 0 where
  -- the name of the module in place, and its true delays
  pub name : List ℕ
  pub tx : ℕ
  pub rx : ℕ
  -- what has not departed, the oldest first
  pub waiting : List Sending
  -- all that was ever put out
  pub sent : List Sending
  -- the history of the link's state
  pub marks : List Mark

-- a network at a moment; nodes and links are by number, and times are in tau
pub record WorldAt : Type 0 where
  -- true time, and the events so far
  pub time : ℤ
  pub count : ℕ
  -- by node: its clock, itself, and its inputs
  pub clock : ℕ → ClockState
  pub node : ℕ → NodeAt
  pub inputs : ℕ → List Taken
  -- by link
  pub fibre : ℕ → FibreState
  pub end_at : ℕ → Role → EndAt
  -- the frames that departed, numbered from 1
  pub departed : ℕ
  pub frame : ℕ → Option FrameAt

-- The world before any event

-- the module that the file names at an end
abbrev pub named_at : Role → LinkCfg → List ℕ
named_at Master link = link.upper_module.bytes
named_at Slave link = link.lower_module.bytes

-- the module in place at an end of link k before any event; no name if there is no such link
abbrev pub first_name : Setting → ℕ → Role → List ℕ
first_name s k r = option_map_or (named_at r) (link_of s k) []

-- an end with this module, whose true delays are those of its entry
abbrev pub new_end : List ℕ → Option Module → EndAt
new_end name entry = record {
  name = name;
  tx = option_map_or (λ m. m.tx) entry 0;
  rx = option_map_or (λ m. m.rx) entry 0;
  waiting = [];
  sent = [];
  marks = [];
}

-- all nodes are down, and all links are cut
abbrev pub new_world : Setting → WorldAt
new_world s = record {
  time = start_of s;
  count = 0;
  clock = λ n. record { up = false; off = pos 0; ticked = start_of s; samples = 0 };
  node = λ n. new_node;
  inputs = λ n. [];
  fibre = λ k. record { joined = false; ms = pos 0; sm = pos 0 };
  end_at = λ k r. new_end (first_name s k r) (entry_at s k r (first_name s k r));
  departed = 0;
  frame = λ i. None;
}

-- What holds at a moment

-- the nodes at both ends of a link are up; false if there is no such link
abbrev pub ends_are_up : (ℕ → ClockState) → Option LinkCfg → Bool
ends_are_up clock None = false
ends_are_up clock (Some link) = (clock link.upper).up && (clock link.lower).up

-- a link has its carrier if it is joined and both its nodes are up
abbrev pub has_carrier : Setting → WorldAt → ℕ → Bool
has_carrier s w k = (w.fibre k).joined && ends_are_up w.clock (link_of s k)

-- the true one-way delay of a frame from an end: both ports' and the fibre's
abbrev pub delay_from : WorldAt → ℕ → Role → ℤ
delay_from w k Master = (pos (w.end_at k Master).tx +ℤ (w.fibre k).ms) +ℤ pos (w.end_at k Slave).rx
delay_from w k Slave = (pos (w.end_at k Slave).tx +ℤ (w.fibre k).sm) +ℤ pos (w.end_at k Master).rx

-- what a node's clock reads
abbrev pub reading : WorldAt → ℕ → ℤ
reading w n = w.time +ℤ (w.clock n).off

-- the true phase of a node against its parent: the difference of their offsets, and the delay from the parent
abbrev pub phase_of : WorldAt → ℕ → LinkCfg → ℤ
phase_of w k link = ((w.clock link.lower).off -ℤ (w.clock link.upper).off) +ℤ delay_from w k Master

-- a frame that departed, has not arrived, and still can
abbrev pub is_on_fibre : Option FrameAt → Bool
is_on_fibre None = false
is_on_fibre (Some f) = if f.gone then false else (if is_some f.arrival then false else true)
