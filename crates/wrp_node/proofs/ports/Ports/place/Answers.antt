-- The port at the place of the number, which is the first of that number.
use Rattle.std.proofs.Common.{ap, sym}
use Rattle.wrp_node.specs.Index.{numbers_in}
use Rattle.wrp_node.proofs.Indexing.{here, place_here, place_nowhere}
use Rattle.wrp_node.proofs.ports.Ports.place.Goals as goal

pub returns-in-Some : goal.returns-in-Some
returns-in-Some c =
    sym (place_here c.args.number c.from.result c.self.inside.places.items c.args.self.now c.index.result.now c.self.view_is
    (here c.args.number c.in-Some.at c.from.result c.self.inside.places.items c.args.self.now c.index.result.now (ap numbers_in c.self.view_is) c.from.ensures c.in-Some.ensures c.index.ensures)
    c.self.invariant.different)

pub returns-in-None : goal.returns-in-None
returns-in-None c = sym (place_nowhere c.args.number c.args.self.now c.in-None.ensures)
