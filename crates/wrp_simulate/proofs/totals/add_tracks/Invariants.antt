-- The steps before this one are counted.
use Rattle.std.proofs.Common.{◌≡◌, length}
use Rattle.wrp_course.specs.Setting.{Setting}
use Rattle.wrp_world.specs.StandsFor.{StandsFor}
use Rattle.wrp_course.specs.WorldAt.{WorldAt}
use Rattle.wrp_simulate.proofs.SimLines.{AddsTo}
use Rattle.wrp_simulate.proofs.totals.add_tracks.Given as goal

abbrev pub invariant-loop-out : goal.invariant-loop-out
invariant-loop-out g l =
    record {
      count : length l.totals.items ≡ length l.fn.totals.items;
      adds : (s : Setting) (w : WorldAt) → StandsFor (λ f x y. g.F.Fn.post f (x, tt) y) s w l.world
          → AddsTo w l.outs l.out-index l.fn.totals.items l.totals.items;
    }
