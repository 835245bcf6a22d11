use Rattle.wrp_changes.proofs.Departing.{on_ok}
use Rattle.wrp_changes.proofs.giving.give.Goals as goal

pub returns-clause-gifts : goal.returns-clause-gifts
returns-clause-gifts c = on_ok c.give_by.result c.give_by.ensures (λ h. h.gifts)

pub returns-clause-inputs : goal.returns-clause-inputs
returns-clause-inputs c = on_ok c.give_by.result c.give_by.ensures (λ h. h.inputs)

pub returns-clause-few : goal.returns-clause-few
returns-clause-few c = on_ok c.give_by.result c.give_by.ensures (λ h. h.few)
