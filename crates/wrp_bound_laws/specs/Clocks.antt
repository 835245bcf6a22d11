-- The ticks of the nodes of a run, by true time (this project's profile).
use Rattle.std.specs.Prelude.{◌≡◌, ◌<◌, ℕ, true, List, ◌∷◌}
use Rattle.wrp_network.specs.Network.{node_count}
use Rattle.wrp_bounds.specs.Times.{longest_tick, shortest_tick}
use Rattle.wrp_tracking_laws.specs.Ticks.{IsOnTime, TickStep}
use Rattle.wrp_course.specs.Run.{Happened, world_after}
use Rattle.wrp_course.specs.Runs.{IsRun}
use Rattle.wrp_course.specs.Setting.{Setting}
use Rattle.wrp_bound_laws.specs.Views.{ticks_at}

-- a node that is up had its last tick, or its start, no longer ago than its longest tick
abbrev pub TicksAreOnTime : Type 0
TicksAreOnTime =
    (s : Setting) (events : List Happened) (n : ℕ) → IsRun s events → n < node_count s.cfg → ((world_after s events).clock n).up ≡ true →
    IsOnTime (longest_tick s.cfg) (ticks_at (world_after s events) n)

-- in each event through which a node is up, either it ticks, in its time, or it does not tick and time may pass
abbrev pub TicksStepOnTime : Type 0
TicksStepOnTime =
    (s : Setting) (h : Happened) (before : List Happened) (n : ℕ) → IsRun s (h ∷ before) → n < node_count s.cfg → ((world_after s before).clock n).up ≡ true →
    ((world_after s (h ∷ before)).clock n).up ≡ true →
    TickStep (shortest_tick s.cfg) (longest_tick s.cfg) (ticks_at (world_after s before) n) (ticks_at (world_after s (h ∷ before)) n)
