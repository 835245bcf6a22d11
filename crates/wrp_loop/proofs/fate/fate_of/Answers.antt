-- What is found is the frame that the rule names, and the peer is the peer of the route.
use Rattle.std.proofs.Common.{None, Some}
use Rattle.wrp_base.proofs.Booleans.{not_both}
use Rattle.wrp_loop.specs.LoopRun.{world_at}
use Rattle.wrp_loop.proofs.Fates.{by_route, found_is, of_peer}
use Rattle.wrp_loop.proofs.fate.fate_of.Goals as goal

pub returns-in-Some : goal.returns-in-Some
returns-in-Some g c = λ x l way k.
    found_is _ x c.args.network.now c.args.course.now l way c.args.route c.args.octets.now (Some c.in-Some.number) k (c.in-Some.ensures x.setting (world_at x l) k.at.0.stands)

pub returns-then-is_by : goal.returns-then-is_by
returns-then-is_by g c = λ x l way k. (
  found_is _ x c.args.network.now c.args.course.now l way c.args.route c.args.octets.now None k (c.in-None.ensures x.setting (world_at x l) k.at.0.stands),
  of_peer _ x c.args.network.now c.args.course.now l way c.args.route c.args.octets.now k (c.is_by.ensures.0 c.if-is_by.true),
)

pub returns-else-is_by : goal.returns-else-is_by
returns-else-is_by g c = λ x l way k. (
  found_is _ x c.args.network.now c.args.course.now l way c.args.route c.args.octets.now None k (c.in-None.ensures x.setting (world_at x l) k.at.0.stands),
  λ of. not_both c.is_by.result (c.is_by.ensures.1 (by_route _ x c.args.network.now c.args.course.now l way c.args.route c.args.octets.now k of)) c.if-is_by.false,
)
