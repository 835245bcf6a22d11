-- What a world shows to the laws on how far its nodes are from true time (this project's profile).
use Rattle.std.specs.Prelude.{ℕ, List, map}
use Rattle.wrp_base.specs.declared.link.Role.TheVariants.{Master, Slave}
use Rattle.wrp_network.specs.declared.network.LinkCfg.{LinkCfg}
use Rattle.wrp_node.specs.NodeAt.{state_of}
use Rattle.wrp_tracking_laws.specs.Moment.{Moment}
use Rattle.wrp_tracking_laws.specs.Ticks.{TickMoment}
use Rattle.wrp_tracking_laws.specs.Tree.{Offsets}
use Rattle.wrp_course.specs.Run.{Happened, worlds_of}
use Rattle.wrp_course.specs.Setting.{Setting, node_setting_of}
use Rattle.wrp_course.specs.WorldAt.{WorldAt, delay_from}

-- how far the clock of each node is ahead of true time, and the state of its servo
abbrev pub offsets_at : Setting → WorldAt → Offsets
offsets_at s w = record { off = λ n. (w.clock n).off; state = λ n. state_of (node_setting_of s n) (w.node n) }

-- a node's ticks: true time, how many there were since its start, and the time of the last or of the start
abbrev pub ticks_at : WorldAt → ℕ → TickMoment
ticks_at w n = record { time = w.time; ticks = (w.node n).ticks; last = (w.clock n).ticked }

-- a link of this number: true time, the ticks of its lower node, the offsets of both nodes, and both ways with their ports
abbrev pub moment_at : ℕ → LinkCfg → WorldAt → Moment
moment_at k link w = record {
  time = w.time;
  ticks = (w.node link.lower).ticks;
  own = (w.clock link.lower).off;
  parent = (w.clock link.upper).off;
  down = delay_from w k Master;
  up = delay_from w k Slave;
}

-- the same after each event of a run, the newest first
abbrev pub moments_of : Setting → ℕ → LinkCfg → List Happened → List Moment
moments_of s k link events = map (moment_at k link) (worlds_of s events)
