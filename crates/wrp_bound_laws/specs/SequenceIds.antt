-- The sequenceIds of the messages whose sending is stamped, in a run: a master's Syncs and a slave's Delay_Reqs (IEEE 1588-2019;
-- the schedule is this project's profile).
use Rattle.std.specs.Prelude.{◌≡◌, ◌<◌, ◌*◌, ◌+ℤ◌, ◌≤ℤ◌, ◌++◌, ℕ, pos, min, true, unsigned_abs, List, length, Some}
use Rattle.wrp_base.specs.declared.link.Role.{Role}
use Rattle.wrp_base.specs.declared.link.Role.TheVariants.{Master, Slave}
use Rattle.wrp_base.specs.declared.message.Body.{Body}
use Rattle.wrp_base.specs.declared.message.Body.TheVariants.{DelayReq, Sync}
use Rattle.wrp_network.specs.declared.network.LinkCfg.{LinkCfg}
use Rattle.wrp_bounds.specs.Times.{shortest_tick}
use Rattle.wrp_node.specs.NodeAt.{link_at}
use Rattle.wrp_port.specs.Hearing.{is_open}
use Rattle.wrp_course.specs.Run.{Happened, world_after}
use Rattle.wrp_course.specs.Runs.{IsRun, WasPutOut}
use Rattle.wrp_course.specs.Setting.{Setting, end_of, link_of}
use Rattle.wrp_course.specs.WorldAt.{Sending}
use Rattle.wrp_bound_laws.specs.Moments.{AtEach}

-- the port at an end of a link takes messages and keeps its schedule
abbrev pub IsOpenAt : Setting → LinkCfg → Role → List Happened → Type 0
IsOpenAt s link r events =
    is_open (link_at (s.set (end_of r link).node) ((world_after s events).node (end_of r link).node) (end_of r link).port) ≡ true

-- a message whose sending is stamped: a master's Sync, and a slave's Delay_Req
abbrev pub IsTimed : Role → Body → Type 0
IsTimed Master (Sync origin) = Unit {0}
IsTimed Slave (DelayReq origin) = Unit {0}
IsTimed _ _ = ⊥

-- the end of a link puts out at most one such message in an event
abbrev pub OneTimedAnEvent : Type 0
OneTimedAnEvent =
    (s : Setting) (events : List Happened) (k : ℕ) (link : LinkCfg) (r : Role) (x y : Sending) → IsRun s events →
    link_of s k ≡ Some link → WasPutOut x ((world_after s events).end_at k r).sent →
    WasPutOut y ((world_after s events).end_at k r).sent → IsTimed r x.message.body → IsTimed r y.message.body →
    x.moment ≡ y.moment → x ≡ y

-- while its port stays open, a sequenceId of such a message does not come again before the time that the network's
-- bounds allow for
abbrev pub IdsComeAgainLate : Type 0
IdsComeAgainLate =
    (s : Setting) (newer older : List Happened) (k : ℕ) (link : LinkCfg) (r : Role) (x y : Sending) → IsRun s (newer ++ older) →
    link_of s k ≡ Some link → WasPutOut x ((world_after s older).end_at k r).sent → x.moment ≡ length older →
    WasPutOut y ((world_after s (newer ++ older)).end_at k r).sent → IsTimed r x.message.body → IsTimed r y.message.body →
    x.message.head.seq ≡ y.message.head.seq → AtEach (IsOpenAt s link r) newer older → x.moment < y.moment →
    (x.at +ℤ pos (65_000 * min (unsigned_abs s.cfg.sync) (unsigned_abs s.cfg.delay) * shortest_tick s.cfg)) ≤ℤ y.at
