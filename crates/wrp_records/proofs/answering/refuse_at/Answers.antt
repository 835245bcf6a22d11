-- The line is the network's.
use Rattle.std.proofs.Common.{◌∙◌, ℕ, List, inr, subst}
use Rattle.wrp_records.specs.declared.status.Status.TheVariants.{BadNetwork}
use Rattle.wrp_records.specs.Engine.{Finishes}
use Rattle.wrp_records.proofs.answering.refuse_at.Goals as goal

pub returns-in-Ok-clause-how : goal.returns-in-Ok-clause-how
returns-in-Ok-clause-how g c =
    inr (subst (λ (line : List ℕ). Finishes BadNetwork c.answer.result (g.K.Sink.held c.args.sink.now) (g.K.Sink.held c.answer.new.sink) line)
    (c.as_bytes.ensures.value ∙ c.in-Ok.ensures) c.answer.ensures.how)
