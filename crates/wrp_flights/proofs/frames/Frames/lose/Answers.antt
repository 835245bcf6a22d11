use Rattle.std.proofs.Common.{◌≡◌, refl, subst, rules, to_z, of_z}
use Rattle.std.specs.Int.{w128}
use Rattle.wrp_flights.specs.Departed.{turn_in}
use Rattle.wrp_flights.specs.Frames.{at}
use Rattle.wrp_flights.specs.Listing.{Settled}
use Rattle.wrp_flights.specs.Losing.{lost_by}
use Rattle.wrp_flights.proofs.Losses.{lost_stills}
use Rattle.wrp_flights.proofs.Staying.{settled_orders, settles, turned_aged, turned_dues}
use Rattle.wrp_flights.proofs.frames.Frames.lose.Goals as goal

pub lose-requires : goal.lose-requires
lose-requires c =
    let h : c.self.inside.horizon ≡ to_z w128 (of_z w128 c.self.inside.horizon) = search rules in
    subst (λ x. Settled x c.self.inside.kept.entries c.self.inside.on_fibre.items) h
    (settles c.self.inside.horizon c.self.inside.sent.items c.self.inside.kept.entries c.self.inside.ages.keys c.self.inside.on_fibre.items c.self.inside.dues.keys c.self.invariant)

pub settle-requires : goal.settle-requires
settle-requires c =
    turned_dues (to_z w128 (of_z w128 c.self.inside.horizon)) c.self.inside.kept.entries c.lose.new.kept.entries c.self.inside.dues.keys
    (lost_by c.args.links.now c.args.loss) (lost_stills c.args.links.now c.args.loss) c.self.invariant.orders.listed c.lose.ensures.kept

pub invariant_of-self : goal.invariant_of-self
invariant_of-self c =
    let h : to_z w128 (of_z w128 c.self.inside.horizon) ≡ c.self.inside.horizon = search rules in
    record {
      aged = turned_aged c.self.inside.horizon c.self.inside.sent.items c.self.inside.kept.entries c.lose.new.kept.entries c.self.inside.ages.keys (lost_by c.args.links.now c.args.loss) (λ q d. refl)
          c.self.invariant.aged (λ q. subst (λ x. at q c.lose.new.kept.entries ≡ turn_in x (lost_by c.args.links.now c.args.loss q) (at q c.self.inside.kept.entries)) h (c.lose.ensures.kept q));
      lists = c.lose.ensures.lists;
      orders = settled_orders (to_z w128 (of_z w128 c.self.inside.horizon)) c.self.inside.sent.items c.self.inside.kept.entries c.lose.new.kept.entries c.self.inside.dues.keys c.settle.new.dues.keys
          (lost_by c.args.links.now c.args.loss) (lost_stills c.args.links.now c.args.loss)
          c.self.invariant.orders c.lose.ensures.kept c.settle.ensures.dues c.settle.ensures.first c.settle.ensures.fewer;
    }
