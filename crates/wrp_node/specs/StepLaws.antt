-- What a world builds on of each step of a node: what of an input is of account, and how much a step puts out (this project's profile).
use Rattle.std.specs.Prelude.{◌≡◌, ◌≤◌, ◌+◌, ◌^◌, ℕ, ℤ, pos, Bool, true, false, unsigned_abs, length, Result}
use Rattle.wrp_base.specs.declared.message.PtpMsg.{PtpMsg}
use Rattle.wrp_frame.specs.declared.fault.FrameFault.{FrameFault}
use Rattle.wrp_node.specs.declared.interface.Input.{Input}
use Rattle.wrp_node.specs.declared.interface.Input.TheVariants.{Tick, Frame, Reset}
use Rattle.wrp_node.specs.NodeAt.{Taken, NodeSetting, NodeAt}
use Rattle.wrp_node.specs.NodeStep.{node_step}

-- whether an input is a frame
abbrev pub is_frame : Input → Bool
is_frame (Frame p octets raw sample) = true
is_frame _ = false

-- what is noted beside an input that is no frame has no effect
abbrev pub OnlyFramesSay : Type 0
OnlyFramesSay =
    (fixed : NodeSetting) (n : NodeAt) (input : Input) (says other : Result PtpMsg FrameFault) (y z : ℤ) → is_frame input ≡ false →
    node_step fixed (record { input = input; says = says; answer = y }) n ≡ node_step fixed (record { input = input; says = other; answer = z }) n

-- a step of the clock is commanded by a frame alone, by at most 2^62 periods
pub record CommandIsHeld (fixed : NodeSetting) (t : Taken) (n : NodeAt) : Type 0 where
  pub by_frame : is_frame t.input ≡ false → (node_step fixed t n).cycles ≡ pos 0
  pub held : unsigned_abs (node_step fixed t n).cycles ≤ 2 ^ 62

-- so it is for every input at every node
abbrev pub CommandsAreHeld : Type 0
CommandsAreHeld = (fixed : NodeSetting) (t : Taken) (n : NodeAt) → CommandIsHeld fixed t n

-- a port sends at most four messages
abbrev pub SendsAreFew : Type 0
SendsAreFew = (fixed : NodeSetting) (t : Taken) (n : NodeAt) (p : ℕ) → length ((node_step fixed t n).sends p) ≤ 4

-- the ticks after an input
abbrev pub ticks_by : Input → ℕ → ℕ
ticks_by Tick ticks = ticks + 1
ticks_by Reset ticks = 0
ticks_by _ ticks = ticks

-- a tick raises the tick count by 1, a reset sets it to 0, and each other input leaves it as it is
abbrev pub TicksAreCounted : Type 0
TicksAreCounted = (fixed : NodeSetting) (t : Taken) (n : NodeAt) → (node_step fixed t n).node.ticks ≡ ticks_by t.input n.ticks
