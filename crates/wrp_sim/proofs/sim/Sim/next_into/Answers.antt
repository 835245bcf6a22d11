use Rattle.std.proofs.Common.{sym, subst}
use Rattle.wrp_sim.specs.declared.sim.state.State.{State}
use Rattle.wrp_sim.specs.HandsOver.{HandsOver}
use Rattle.wrp_sim.specs.Sim.{FitsSim, FollowsRules, put}
use Rattle.wrp_sim.specs.TakesTurns.{TakesTurns}
use Rattle.wrp_sim.proofs.Handing.{hands_over}
use Rattle.wrp_sim.proofs.KeepsNext.{takes_turns}
use Rattle.wrp_sim.proofs.Turns.{put_one}
use Rattle.wrp_sim.proofs.sim.Sim.next_into.Goals as goal

pub returns-clause-turns : goal.returns-clause-turns
returns-clause-turns g c =
    subst (λ (old : State). TakesTurns (λ f x y. g.F.Fn.post f (x, tt) y) c.args.world.now old c.next_into.new.self (put c.next_into.result c.next_into.new.event)) c.self.view_is
    (takes_turns (λ f x y. g.F.Fn.post f (x, tt) y) c.simulator_keeps_the_bounds.ensures.accepted c.args.world.now c.self.inside.state c.next_into.new.self (put c.next_into.result c.next_into.new.event)
    (subst (FitsSim c.args.world.now.plant.net.cfg) (sym c.self.view_is) c.requires.fits) c.next_into.ensures.stays c.next_into.ensures.follows)

pub returns-clause-hands : goal.returns-clause-hands
returns-clause-hands g c = λ e.
    subst (λ (old : State). HandsOver old c.next_into.new.self c.next_into.new.event) c.self.view_is
    (hands_over (λ f x. g.F.Fn.pre f (x, tt)) (λ f x y. g.F.Fn.post f (x, tt) y) c.args.world.now c.self.inside.state c.next_into.new.self c.next_into.new.event c.requires.valid
    (subst (FitsSim c.args.world.now.plant.net.cfg) (sym c.self.view_is) c.requires.fits) c.next_into.ensures.stays
    (subst (FollowsRules (λ f x y. g.F.Fn.post f (x, tt) y) c.args.world.now c.self.inside.state c.next_into.new.self) (put_one c.next_into.result c.next_into.new.event e) c.next_into.ensures.follows))
