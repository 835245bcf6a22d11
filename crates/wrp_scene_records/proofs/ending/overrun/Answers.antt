-- The line that names the event follows what waits.
use Rattle.std.proofs.Common.{◌≡◌, ◌∙◌, inl, inr, sym}
use Rattle.wrp_records.specs.declared.status.Status.TheVariants.{ReadFault, TooLarge, WriteFault}
use Rattle.wrp_scene_records.proofs.ending.overrun.Goals as goal

pub returns-in-Ok-clause-never : goal.returns-in-Ok-clause-never
returns-in-Ok-clause-never g c = λ is.
    elim c.answer.ensures.either [
      | inl large ↦ (let both : TooLarge ≡ ReadFault = sym large ∙ is in absurd (cc))
      | inr cut ↦ (let both : WriteFault ≡ ReadFault = sym cut ∙ is in absurd (cc))
    ]
