use Rattle.std.proofs.Common.{◌∙◌, ap, drop, subst, sym, to_z, of_z, ◌+◌}
use Rattle.std.specs.Int.{w128}
use Rattle.wrp_flights.specs.Losing.{lost_by}
use Rattle.wrp_flights.proofs.Losses.{Losing, losing_hit, losing_miss, lost_loses}
use Rattle.wrp_flights.proofs.losing.lose_all.Goals.{then-hits, else-hits}
use Rattle.wrp_flights.proofs.losing.lose_all.Goals as goal

pub loop-it-preserved : goal.loop-it-preserved
loop-it-preserved c =
    let so_far = Losing (to_z w128 (of_z w128 c.args.horizon)) (lost_by c.args.links.now c.args.loss) c.args.kept.now.entries in
    let left = drop (c.loop-it.it-index + 1) c.args.listed.now in
    elim c.if-hits.branch [
      | then-hits w ↦ subst (λ k. so_far k left) (sym (ap (λ m. m.entries) w.kept-is))
          (losing_hit (to_z w128 (of_z w128 c.args.horizon)) (lost_by c.args.links.now c.args.loss) c.args.kept.now.entries c.loop-it.kept.entries w.lose_one.new.kept.entries
          c.args.listed.now c.loop-it.it-index _ (lost_loses c.args.links.now c.args.loss) c.loop-it-test.true w.lose_one.ensures c.loop-it.invariant)
      | else-hits w ↦ subst (λ k. so_far k left) (sym (ap (λ m. m.entries) w.kept-is))
          (losing_miss (to_z w128 (of_z w128 c.args.horizon)) c.args.links.now c.args.loss c.args.kept.now.entries c.loop-it.kept.entries c.args.listed.now c.loop-it.it-index _
          c.loop-it-test.true (sym c.hits.ensures ∙ w.if-hits.false) c.loop-it.invariant)
    ]
