-- One port more; the ports keep their numbers, and with them their index.
use Rattle.std.proofs.Common.{◌≡◌, ◌∙◌, ◌++◌, ap, sym, List, take, drop, length, arith}
use Rattle.std.specs.List.{AllZip}
use Rattle.wrp_node.specs.declared.place.PortPlace.{PortPlace}
use Rattle.wrp_node.specs.declared.ports.To.TheVariants.{Every}
use Rattle.wrp_node.specs.Index.{numbers_in}
use Rattle.wrp_node.specs.Place.{GivesTo}
use Rattle.wrp_node.proofs.Giving.{numbers_given}
use Rattle.wrp_node.proofs.Indexing.{still_indexed}
use Rattle.wrp_node.proofs.Lists.{done_more, done_over}
use Rattle.wrp_node.proofs.ports.Ports.give_every.Goals as goal

pub loop-place-preserved : goal.loop-place-preserved
loop-place-preserved c =
    done_more (GivesTo Every c.args.input.now) c.args.self.now c.loop-place.place-items c.loop-place.place-index c.place-item.result c.tell.new.self (omega arith) c.tell.ensures c.loop-place.invariant

pub invariant_of-self : goal.invariant_of-self
invariant_of-self c =
    let after : List PortPlace = take c.self.inside.places.len (c.loop-place.place-items ++ drop (length c.loop-place.place-items) c.self.inside.places.items) in
    let whole : length c.loop-place.place-items ≡ c.self.inside.places.len = omega arith in
    let end : c.loop-place.place-index ≡ length c.loop-place.place-items = omega arith in
    let zip : AllZip (GivesTo Every c.args.input.now) c.args.self.now after =
    done_over (GivesTo Every c.args.input.now) c.self.inside.places.len c.loop-place.place-index c.args.self.now c.loop-place.place-items (drop (length c.loop-place.place-items) c.self.inside.places.items) whole end c.loop-place.invariant in
    still_indexed c.self.inside.places.items after c.self.inside.index
    (numbers_given Every c.args.input.now c.args.self.now after zip ∙ ap numbers_in (sym c.self.view_is)) c.self.invariant
