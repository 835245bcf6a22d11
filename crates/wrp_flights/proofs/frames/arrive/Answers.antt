use Rattle.std.proofs.Common.{◌≡◌, [], rules, subst, to_z, of_z}
use Rattle.std.specs.Int.{w128}
use Rattle.wrp_flights.specs.Departed.{turn_in}
use Rattle.wrp_flights.specs.Frames.{at}
use Rattle.wrp_flights.specs.Listing.{Settled}
use Rattle.wrp_flights.specs.Losing.{arrives_by}
use Rattle.wrp_flights.proofs.Losses.{arrives_kept, landed_settled}
use Rattle.wrp_flights.proofs.frames.arrive.Goals as goal

pub lose-requires : goal.lose-requires
lose-requires c =
    let h : c.args.horizon ≡ to_z w128 (of_z w128 c.args.horizon) = search rules in
    landed_settled (to_z w128 (of_z w128 c.args.horizon)) c.args.reception c.args.number c.args.kept.now.entries c.receive.new.kept.entries c.forget_old.new.kept.entries
    c.args.listed.now.items c.land.new.listed.items
    (subst (λ x. Settled x c.args.kept.now.entries c.args.listed.now.items) h c.requires) c.receive.ensures c.forget_old.ensures c.land.ensures

pub returns-clause-kept : goal.returns-clause-kept
returns-clause-kept c =
    let h : to_z w128 (of_z w128 c.args.horizon) ≡ c.args.horizon = search rules in
    λ k. subst (λ x. at k c.lose.new.kept.entries ≡ turn_in x (arrives_by c.args.number c.args.reception c.args.from.0 c.args.from.1 k) (at k c.args.kept.now.entries)) h
    (arrives_kept (to_z w128 (of_z w128 c.args.horizon)) c.args.reception c.args.number c.args.from.0 c.args.from.1 [] c.args.kept.now.entries c.receive.new.kept.entries c.forget_old.new.kept.entries
    c.lose.new.kept.entries c.receive.ensures c.forget_old.ensures c.lose.ensures.kept k)
