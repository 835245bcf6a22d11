use Rattle.std.proofs.Common.{Some}
use Rattle.wrp_node.specs.declared.interface.Input.TheVariants.{Tick as TickInput}
use Rattle.wrp_course.specs.declared.event.Event.TheVariants.{Tick}
use Rattle.wrp_changes.proofs.Departing.{on_ok}
use Rattle.wrp_changes.proofs.FrameGifts.{tick_gives}
use Rattle.wrp_changes.proofs.Listing.{gives_listed}
use Rattle.wrp_changes.proofs.giving.list_tick.Goals as goal

pub returns : goal.returns
returns c =
    on_ok c.put_tick.result c.put_tick.ensures
    (λ h. gives_listed c.args.plant.now (Tick c.args.n) (Some (record { node = c.args.n; input = TickInput })) _ h (tick_gives c.args.plant.now c.args.n c.requires))
