-- No node so far ticks now.
use Rattle.std.proofs.Common.{◌≡◌, ◌-◌, find}
use Rattle.wrp_course.specs.Setting.{Setting, from_on}
use Rattle.wrp_world.specs.StandsFor.{StandsFor}
use Rattle.wrp_course.specs.WorldAt.{WorldAt}
use Rattle.wrp_sim.specs.Rules.{ticks_now}
use Rattle.wrp_sim.specs.Sim.{SimIs}
use Rattle.wrp_sim.specs.SimAt.{SimAt}
use Rattle.wrp_sim.proofs.sim.state.State.look_for_tick.Given as goal

abbrev pub invariant-loop-n : goal.invariant-loop-n
invariant-loop-n g l =
    (s : Setting) (w : WorldAt) (at : SimAt) → StandsFor (λ f x y. g.F.Fn.post f (x, tt) y) s w l.fn.world → SimIs at l.fn.self →
    find (ticks_now w at) (from_on (l.count - l.n) l.n) ≡ find (ticks_now w at) (from_on l.count 0)
