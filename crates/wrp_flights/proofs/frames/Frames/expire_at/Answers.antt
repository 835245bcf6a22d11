use Rattle.std.proofs.Common.{to_z, of_z, rules}
use Rattle.std.specs.Int.{w128}
use Rattle.wrp_flights.proofs.Staying.{listed_later, passed_holds}
use Rattle.wrp_flights.proofs.frames.Frames.expire_at.Goals as goal

pub expire-requires-clause-listed : goal.expire-requires-clause-listed
expire-requires-clause-listed c =
    listed_later c.self.inside.horizon (to_z w128 (of_z w128 c.args.horizon)) c.self.inside.sent.items c.self.inside.kept.entries c.self.inside.ages.keys (search rules) c.self.invariant.aged

pub invariant_of-self : goal.invariant_of-self
invariant_of-self c =
    passed_holds c.self.inside.horizon (to_z w128 (of_z w128 c.args.horizon)) c.self.inside.sent.items c.self.inside.kept.entries c.expire.new.kept.entries c.self.inside.ages.keys c.expire.new.ages.keys
    c.self.inside.on_fibre.items c.self.inside.dues.keys c.self.invariant c.expire.ensures.kept c.expire.ensures.young c.expire.ensures.fewer
