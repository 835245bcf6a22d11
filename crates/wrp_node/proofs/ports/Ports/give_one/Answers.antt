-- The port of the number is given the input, and no other.
use Rattle.std.proofs.Common.{ap}
use Rattle.wrp_node.specs.declared.ports.To.TheVariants.{One}
use Rattle.wrp_node.specs.Index.{numbers_in}
use Rattle.wrp_node.specs.Place.{GivesTo}
use Rattle.wrp_node.proofs.Indexing.{Here, here, indexed_here, done_here, done_nowhere, nowhere, given_not, given_is}
use Rattle.wrp_node.proofs.ports.Ports.give_one.Goals as goal

pub invariant_of-self : goal.invariant_of-self
invariant_of-self c =
    let h : Here c.args.number c.self.inside.places.items c.from.result c.index_mut.result.now =
    here c.args.number c.in-Some.at c.from.result c.self.inside.places.items c.args.self.now c.index_mut.result.now (ap numbers_in c.self.view_is) c.from.ensures c.in-Some.ensures c.index_mut.ensures.value in
    indexed_here c.args.number c.from.result c.self.inside.places.items c.index_mut.result.now c.tell.new.self c.self.inside.index h c.tell.ensures.number c.self.invariant

pub returns-in-Some : goal.returns-in-Some
returns-in-Some c =
    let h : Here c.args.number c.self.inside.places.items c.from.result c.index_mut.result.now =
    here c.args.number c.in-Some.at c.from.result c.self.inside.places.items c.args.self.now c.index_mut.result.now (ap numbers_in c.self.view_is) c.from.ensures c.in-Some.ensures c.index_mut.ensures.value in
    done_here (GivesTo (One c.args.number) c.args.input.now) c.args.number c.from.result c.self.inside.places.items c.args.self.now c.index_mut.result.now c.tell.new.self
    (given_not c.args.number c.args.input.now) c.self.view_is h c.self.invariant.different (given_is c.args.number c.args.input.now c.index_mut.result.now c.tell.new.self h.number c.tell.ensures)

pub returns-in_default : goal.returns-in_default
returns-in_default c =
    done_nowhere (GivesTo (One c.args.number) c.args.input.now) c.args.number c.args.self.now (given_not c.args.number c.args.input.now)
    (nowhere c.args.number (numbers_in c.args.self.now) c.at.result c.in_default.not-Some c.at.ensures)
