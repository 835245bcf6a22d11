-- The answer for the remaining links is the answer for all of them.
use Rattle.std.proofs.Common.{◌≡◌, ◌-◌, ◌||◌}
use Rattle.std.specs.List.{list_any}
use Rattle.wrp_base.specs.declared.link.Role.TheVariants.{Master, Slave}
use Rattle.wrp_plant.specs.Plant.{PlantIs}
use Rattle.wrp_plant.specs.PutOut.{puts_out_at}
use Rattle.wrp_course.specs.Setting.{Setting, from_on}
use Rattle.wrp_course.specs.WorldAt.{WorldAt}
use Rattle.wrp_plant.proofs.plant.Plant.puts_out_anywhere.Given as goal

abbrev pub invariant-loop-k : goal.invariant-loop-k
invariant-loop-k l =
    (s : Setting) (w : WorldAt) → PlantIs s w l.fn.self →
    list_any (λ k. puts_out_at w k Master || puts_out_at w k Slave) (from_on (l.count - l.k) l.k)
    ≡ list_any (λ k. puts_out_at w k Master || puts_out_at w k Slave) (from_on l.count 0)
