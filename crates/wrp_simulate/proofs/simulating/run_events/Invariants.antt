-- The lines of the events so far are written, or wait.
use Rattle.std.proofs.Common.{◌≡◌, ◌-◌, ℕ}
use Rattle.wrp_scene.specs.Scenario.{SceneAt}
use Rattle.wrp_course.specs.Setting.{Setting}
use Rattle.wrp_simulate.specs.SimStands.{Begins, CanRun, FitsCourse, IsInRun, Running}
use Rattle.wrp_scene.specs.EventLimit.{event_limit}
use Rattle.wrp_simulate.proofs.simulating.run_events.Given as goal

abbrev pub invariant-events : goal.invariant-events
invariant-events g l =
    record {
      ready : CanRun (λ f x. g.F.Fn.pre f (x, tt)) (λ f x y. g.F.Fn.post f (x, tt) y) l.network;
      course : FitsCourse l.network l.course;
      run : IsInRun (λ f x y. g.F.Fn.post f (x, tt) y) l.network l.course;
      stands : (seed : ℕ) (s : Setting) (scene : SceneAt) → Begins (λ f x y. g.F.Fn.post f (x, tt) y) seed s scene l.fn.network l.fn.course
          → Running (λ f x y. g.F.Fn.post f (x, tt) y) seed s scene l.network l.course (g.K.Sink.held l.fn.sink) (g.K.Sink.held l.sink) l.text.items;
      sink : g.K.Sink.faults l.sink ≡ g.K.Sink.faults l.fn.sink;
    }

abbrev pub decreases-events : goal.decreases-events
decreases-events g l = event_limit - l.course.events
