use Rattle.std.proofs.Common.{◌≡◌, subst, rules, to_z, of_z}
use Rattle.std.specs.Int.{w128}
use Rattle.wrp_flights.specs.Departed.{turn_in}
use Rattle.wrp_flights.specs.Frames.{at}
use Rattle.wrp_flights.specs.Listing.{Settled}
use Rattle.wrp_flights.specs.Losing.{arrives_by}
use Rattle.wrp_flights.proofs.Losses.{arrives_sent, arrives_stills}
use Rattle.wrp_flights.proofs.Staying.{settled_orders, settles, turned_aged, turned_dues}
use Rattle.wrp_flights.proofs.frames.Frames.arrive.Goals as goal

pub arrive-requires : goal.arrive-requires
arrive-requires c =
    let h : c.self.inside.horizon ≡ to_z w128 (of_z w128 c.self.inside.horizon) = search rules in
    subst (λ x. Settled x c.self.inside.kept.entries c.self.inside.on_fibre.items) h
    (settles c.self.inside.horizon c.self.inside.sent.items c.self.inside.kept.entries c.self.inside.ages.keys c.self.inside.on_fibre.items c.self.inside.dues.keys c.self.invariant)

pub settle-requires : goal.settle-requires
settle-requires c =
    turned_dues (to_z w128 (of_z w128 c.self.inside.horizon)) c.self.inside.kept.entries c.arrive.new.kept.entries c.self.inside.dues.keys
    (arrives_by c.args.number c.args.reception c.args.link c.args.by) (arrives_stills c.args.number c.args.reception c.args.link c.args.by) c.self.invariant.orders.listed c.arrive.ensures.kept

pub invariant_of-self : goal.invariant_of-self
invariant_of-self c =
    let h : to_z w128 (of_z w128 c.self.inside.horizon) ≡ c.self.inside.horizon = search rules in
    record {
      aged = turned_aged c.self.inside.horizon c.self.inside.sent.items c.self.inside.kept.entries c.arrive.new.kept.entries c.self.inside.ages.keys
          (arrives_by c.args.number c.args.reception c.args.link c.args.by) (arrives_sent c.args.number c.args.reception c.args.link c.args.by)
          c.self.invariant.aged (λ q. subst (λ x. at q c.arrive.new.kept.entries ≡ turn_in x (arrives_by c.args.number c.args.reception c.args.link c.args.by q) (at q c.self.inside.kept.entries)) h (c.arrive.ensures.kept q));
      lists = c.arrive.ensures.lists;
      orders = settled_orders (to_z w128 (of_z w128 c.self.inside.horizon)) c.self.inside.sent.items c.self.inside.kept.entries c.arrive.new.kept.entries c.self.inside.dues.keys c.settle.new.dues.keys
          (arrives_by c.args.number c.args.reception c.args.link c.args.by) (arrives_stills c.args.number c.args.reception c.args.link c.args.by)
          c.self.invariant.orders c.arrive.ensures.kept c.settle.ensures.dues c.settle.ensures.first c.settle.ensures.fewer;
    }
