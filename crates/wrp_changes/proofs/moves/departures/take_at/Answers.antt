use Rattle.std.proofs.Common.{arith}
use Rattle.wrp_changes.specs.Flights.{TakesOldest}
use Rattle.wrp_changes.proofs.Turned.{turned_place}
use Rattle.wrp_changes.proofs.moves.departures.take_at.Goals as goal

pub returns : goal.returns
returns c =
    turned_place (TakesOldest c.args.place.role) c.args.spans.now.items c.from.result c.args.place.link c.index_mut.result.now c.take_oldest.new.span c.from.ensures (omega (arith, c.requires))
    c.index_mut.ensures.value c.take_oldest.ensures
