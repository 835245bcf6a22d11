-- The lines of the steps from this one on are still missing.
use Rattle.std.proofs.Common.{◌++◌, map}
use Rattle.std.specs.List.{concat, flat_map}
use Rattle.wrp_course.specs.Setting.{Setting}
use Rattle.wrp_world.specs.StandsFor.{StandsFor}
use Rattle.wrp_world.specs.Step.{step_seen}
use Rattle.wrp_course.specs.WorldAt.{WorldAt}
use Rattle.wrp_loop.specs.LoopText.{step_lines}
use Rattle.wrp_loop.proofs.Lacking.{Lacks}
use Rattle.wrp_loop.proofs.lines.append_steps.Given as goal

abbrev pub invariant-loop-out : goal.invariant-loop-out
invariant-loop-out g l =
    (s : Setting) (w : WorldAt) → StandsFor (λ f x y. g.F.Fn.post f (x, tt) y) s w l.world
    → Lacks (λ out. concat (step_lines s w (step_seen out))) l.outs l.out-index l.text.items
    (l.fn.text.items ++ flat_map (λ step. concat (step_lines s w step)) (map step_seen l.outs))
