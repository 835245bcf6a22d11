-- The lines that close the loop follow what waits.
use Rattle.std.proofs.Common.{◌∙◌, ◌++◌, ap, inr, subst, List, ℕ}
use Rattle.std.specs.List.{concat}
use Rattle.wrp_course.specs.Run.{world_after}
use Rattle.wrp_loop.specs.LoopRun.{events_at}
use Rattle.wrp_loop.specs.LoopText.{forged_lines}
use Rattle.wrp_records.specs.declared.status.Status.TheVariants.{Done}
use Rattle.wrp_records.specs.Engine.{Finishes}
use Rattle.wrp_network_world.specs.Counts.{all_counts}
use Rattle.wrp_loop.proofs.running.close.Goals as goal

pub returns-in-Ok-clause-closes : goal.returns-in-Ok-clause-closes
returns-in-Ok-clause-closes g c = λ s l stands forged.
    let lines = c.in-Ok.ensures s (world_after s (events_at l)) stands
    ∙ ap (λ (n : ℕ). c.args.text.now.items ++ (all_counts s (world_after s (events_at l)) ++ concat (forged_lines n))) forged in
    inr (subst (λ (text : List ℕ). Finishes Done c.answer.result (g.K.Sink.held c.args.sink.now) (g.K.Sink.held c.answer.new.sink) text) (c.deref.ensures.value ∙ lines) c.answer.ensures.how)
