use Rattle.wrp_course.specs.declared.event.Event.TheVariants.{Noise}
use Rattle.wrp_changes.proofs.Departing.{on_ok}
use Rattle.wrp_changes.proofs.giving.list_noise.Goals as goal

pub returns : goal.returns
returns c = on_ok c.list.result c.list.ensures (λ h. h (Noise c.args.n c.args.port c.args.bytes.now c.args.raw) c.gift_of_noise.ensures)
