use Rattle.std.proofs.Common.{◌≡◌, ◌+◌, ◌∙◌, ap, refl, sym, subst, length, to_z, of_z}
use Rattle.std.specs.Int.{w128}
use Rattle.wrp_plant.specs.New.{new_clock}
use Rattle.wrp_plant.specs.Plant.{Each}
use Rattle.wrp_plant.proofs.EachLists.{each_push, length_push}
use Rattle.wrp_plant.proofs.plant.new.new_clocks.Goals as goal

pub loop-i-preserved : goal.loop-i-preserved
loop-i-preserved c =
    let items = c.in_ok-push.ensures.items in (
      ap length items ∙ length_push c.loop-i.clocks.items _ ∙ ap (λ k. k + 1) c.loop-i.invariant.0,
      subst (Each (λ n clock. clock ≡ new_clock (to_z w128 (of_z w128 c.args.start)))) (sym items)
          (each_push (λ n clock. clock ≡ new_clock (to_z w128 (of_z w128 c.args.start))) c.loop-i.clocks.items _ c.loop-i.invariant.1 refl),
    )
