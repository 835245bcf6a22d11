-- The lines that sum up follow what waits.
use Rattle.std.proofs.Common.{◌≡◌, ◌∙◌, inl, inr, subst, sym, List, ℕ}
use Rattle.wrp_records.specs.declared.status.Status.TheVariants.{Done, ReadFault, WriteFault}
use Rattle.wrp_simulate.specs.declared.totals.Total.{Total}
use Rattle.wrp_records.specs.Engine.{Finishes}
use Rattle.wrp_simulate.specs.SimStands.{AreTotals}
use Rattle.wrp_simulate.proofs.simulating.close.Goals as goal

pub returns-in-Ok-clause-closes : goal.returns-in-Ok-clause-closes
returns-in-Ok-clause-closes g c = λ s w offs stands totals.
    let lines = c.in-Ok.ensures s w offs stands (subst (λ (items : List Total). AreTotals offs items) (sym c.deref.ensures.value) totals) in
    inr
    (subst (λ (text : List ℕ). Finishes Done c.answer.result (g.K.Sink.held c.args.sink.now) (g.K.Sink.held c.answer.new.sink) text) (c.deref-in-Ok.ensures.value ∙ lines) c.answer.ensures.how)

pub returns-in-Ok-clause-never : goal.returns-in-Ok-clause-never
returns-in-Ok-clause-never g c = λ is.
    elim c.answer.ensures.either [
      | inl done ↦ (let both : Done ≡ ReadFault = sym done ∙ is in absurd (cc))
      | inr cut ↦ (let both : WriteFault ≡ ReadFault = sym cut ∙ is in absurd (cc))
    ]
