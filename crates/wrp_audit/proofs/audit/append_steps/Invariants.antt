-- The lines of the steps from this one on are still missing.
use Rattle.std.proofs.Common.{◌++◌, map}
use Rattle.std.specs.List.{flat_map}
use Rattle.wrp_course.specs.Setting.{Setting}
use Rattle.wrp_world.specs.StandsFor.{StandsFor}
use Rattle.wrp_world.specs.Step.{step_seen}
use Rattle.wrp_course.specs.WorldAt.{WorldAt}
use Rattle.wrp_audit.specs.AuditStands.{line_by}
use Rattle.wrp_replay.proofs.CountLemmas.{Lacks}
use Rattle.wrp_audit.proofs.audit.append_steps.Given as goal

abbrev pub invariant-loop-out : goal.invariant-loop-out
invariant-loop-out g l =
    (s : Setting) (w : WorldAt) → StandsFor (λ f x y. g.F.Fn.post f (x, tt) y) s w l.world
    → Lacks (λ out. line_by l.emit s w (step_seen out)) l.outs l.out-index l.text.items
    (l.fn.text.items ++ flat_map (line_by l.emit s w) (map step_seen l.outs))
