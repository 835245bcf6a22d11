use Rattle.std.proofs.Common.{subst}
use Rattle.wrp_sim.specs.Sim.{FollowsRules}
use Rattle.wrp_sim.specs.TakesTurns.{TakesTurns}
use Rattle.wrp_sim.proofs.Turns.{put_none, put_one}
use Rattle.wrp_sim.proofs.sim.Sim.next.Goals as goal

pub returns-then-next_into-clause-follows : goal.returns-then-next_into-clause-follows
returns-then-next_into-clause-follows g c =
    subst (FollowsRules _ c.args.world.now c.args.self.now c.next_into.new.self) (put_one c.next_into.result c.next_into.new.event c.if-next_into.true) c.next_into.ensures.follows

pub returns-then-next_into-clause-turns : goal.returns-then-next_into-clause-turns
returns-then-next_into-clause-turns g c =
    subst (TakesTurns _ c.args.world.now c.args.self.now c.next_into.new.self) (put_one c.next_into.result c.next_into.new.event c.if-next_into.true) c.next_into.ensures.turns

pub returns-else-next_into-clause-follows : goal.returns-else-next_into-clause-follows
returns-else-next_into-clause-follows g c =
    subst (FollowsRules _ c.args.world.now c.args.self.now c.next_into.new.self) (put_none c.next_into.result c.next_into.new.event c.if-next_into.false) c.next_into.ensures.follows

pub returns-else-next_into-clause-turns : goal.returns-else-next_into-clause-turns
returns-else-next_into-clause-turns g c =
    subst (TakesTurns _ c.args.world.now c.args.self.now c.next_into.new.self) (put_none c.next_into.result c.next_into.new.event c.if-next_into.false) c.next_into.ensures.turns
