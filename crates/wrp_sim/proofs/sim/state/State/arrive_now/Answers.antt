use Rattle.std.proofs.Common.{◌∙◌, refl, sym}
use Rattle.wrp_course.specs.declared.event.Event.TheVariants.{Arrive}
use Rattle.wrp_sim.specs.Rules.{after_arrival, arrives_by, comes}
use Rattle.wrp_sim.proofs.RuleCases.{raw_known, raw_unknown}
use Rattle.wrp_sim.proofs.Turns.{gave_none, gives_same}
use Rattle.wrp_sim.proofs.sim.state.State.arrive_now.Goals as goal

pub returns-in-Some-clause-follows : goal.returns-in-Some-clause-follows
returns-in-Some-clause-follows g c s w at h i =
    gives_same at (comes (Arrive c.args.frame c.in-Some.raw) (after_arrival c.args.self.now.scene c.args.frame at)) (arrives_by c.args.self.now.scene s w at c.args.frame) _ c.comes.new.self
    (sym (raw_known c.args.self.now.scene s w at c.args.frame c.in-Some.raw (sym (c.raw_of.ensures s w h) ∙ c.in-Some.is)))
    (refl, c.comes.ensures.follows (after_arrival c.args.self.now.scene c.args.frame at) (c.take_arrival.ensures.at at i))

pub returns-in-Some-clause-stays : goal.returns-in-Some-clause-stays
returns-in-Some-clause-stays g c =
    let arrived = c.take_arrival.ensures.stays c.args.world.now.plant.net.cfg c.requires.fits in
    let kept = c.comes.ensures.stays c.args.world.now.plant.net.cfg arrived.fits in
    record { scene = kept.scene ∙ arrived.scene; fits = kept.fits }

pub returns-in-None-clause-follows : goal.returns-in-None-clause-follows
returns-in-None-clause-follows g c s w at h i =
    gave_none at (arrives_by c.args.self.now.scene s w at c.args.frame) _ (raw_unknown c.args.self.now.scene s w at c.args.frame (sym (c.raw_of.ensures s w h) ∙ c.in-None.is)) i
