-- It is the first among the ends of the links so far.
use Rattle.std.proofs.Common.{◌≡◌, ◌≤◌}
use Rattle.wrp_plant.specs.FirstPort.{first_among}
use Rattle.wrp_plant.specs.Plant.{PlantIs}
use Rattle.wrp_course.specs.Setting.{Setting}
use Rattle.wrp_course.specs.WorldAt.{WorldAt}
use Rattle.wrp_plant.proofs.plant.Plant.first_put_out.Given as goal

abbrev pub invariant-loop-k : goal.invariant-loop-k
invariant-loop-k l = (l.k ≤ l.count) × ((s : Setting) (w : WorldAt) → PlantIs s w l.fn.self → l.first ≡ first_among s w l.k)
