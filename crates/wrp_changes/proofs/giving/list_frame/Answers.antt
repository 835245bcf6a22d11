use Rattle.wrp_course.specs.declared.event.Event.TheVariants.{Deliver}
use Rattle.wrp_changes.proofs.Departing.{on_ok}
use Rattle.wrp_changes.proofs.giving.list_frame.Goals as goal

pub returns : goal.returns
returns c = on_ok c.list.result c.list.ensures (λ h. h (Deliver c.args.number) c.gift_of_frame.ensures)
