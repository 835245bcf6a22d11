-- The port of the number counts, and no other.
use Rattle.std.proofs.Common.{ap}
use Rattle.wrp_node.specs.declared.place.PortPlace.{PortPlace}
use Rattle.wrp_node.specs.Index.{numbers_in}
use Rattle.wrp_node.specs.Place.{Counts}
use Rattle.wrp_node.proofs.Indexing.{Here, here, indexed_here, done_here, done_nowhere, nowhere, counted_not, counted_is}
use Rattle.wrp_node.proofs.ports.Ports.count.Goals as goal

pub invariant_of-self : goal.invariant_of-self
invariant_of-self c =
    let h : Here c.args.number c.self.inside.places.items c.from.result c.index_mut.result.now =
    here c.args.number c.in-Some.at c.from.result c.self.inside.places.items c.args.self.now c.index_mut.result.now (ap numbers_in c.self.view_is) c.from.ensures c.in-Some.ensures c.index_mut.ensures.value in
    indexed_here c.args.number c.from.result c.self.inside.places.items c.index_mut.result.now c.count.new.self c.self.inside.index h (ap (λ (z : PortPlace). z.number) c.count.ensures) c.self.invariant

pub returns-in-Some : goal.returns-in-Some
returns-in-Some c =
    let h : Here c.args.number c.self.inside.places.items c.from.result c.index_mut.result.now =
    here c.args.number c.in-Some.at c.from.result c.self.inside.places.items c.args.self.now c.index_mut.result.now (ap numbers_in c.self.view_is) c.from.ensures c.in-Some.ensures c.index_mut.ensures.value in
    done_here (Counts c.args.number c.args.reason) c.args.number c.from.result c.self.inside.places.items c.args.self.now c.index_mut.result.now c.count.new.self
    (counted_not c.args.number c.args.reason) c.self.view_is h c.self.invariant.different (counted_is c.args.number c.args.reason c.index_mut.result.now c.count.new.self h.number c.count.ensures)

pub returns-in_default : goal.returns-in_default
returns-in_default c =
    done_nowhere (Counts c.args.number c.args.reason) c.args.number c.args.self.now (counted_not c.args.number c.args.reason)
    (nowhere c.args.number (numbers_in c.args.self.now) c.at.result c.in_default.not-Some c.at.ensures)
