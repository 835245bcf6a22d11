use Rattle.std.proofs.Common.{◌≡◌, drop}
use Rattle.wrp_course.specs.Setting.{Setting}
use Rattle.wrp_course.specs.WorldAt.{WorldAt}
use Rattle.wrp_world.specs.StandsFor.{StandsFor}
use Rattle.wrp_loop.specs.Index.{fits, has_number, no_choice, with_all}
use Rattle.wrp_loop.proofs.index.Index.find.Given as goal

abbrev pub invariant-loop-came : goal.invariant-loop-came
invariant-loop-came g l =
    (s : Setting) (w : WorldAt) → StandsFor (λ f x y. g.F.Fn.post f (x, tt) y) s w l.world
    → with_all (fits s w l.from l.octets) (has_number l.self.handed.items) l.self.came.items no_choice
    ≡ with_all (fits s w l.from l.octets) (has_number l.self.handed.items) (drop l.came-index l.self.came.items) l.choice
