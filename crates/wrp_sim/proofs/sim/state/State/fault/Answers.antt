use Rattle.std.proofs.Common.{ap, sym}
use Rattle.wrp_course.specs.declared.event.Event.TheVariants.{Down, Cut}
use Rattle.wrp_sim.specs.Rules.{comes, fault_of, join_event, up_event, with_tick}
use Rattle.wrp_sim.proofs.Turns.{gives_same}
use Rattle.wrp_sim.proofs.sim.state.State.fault.Goals as goal

pub returns-in-Down-clause-follows : goal.returns-in-Down-clause-follows
returns-in-Down-clause-follows g c s w at stays h i =
    gives_same stays (comes (Down c.in-Down.node) at) (fault_of c.args.self.now.scene s w at c.args.kind) _ c.takes_down.new.self (sym (ap (fault_of c.args.self.now.scene s w at) c.in-Down.is)) (c.takes_down.ensures.follows at stays i)

pub returns-in-Down-clause-stays : goal.returns-in-Down-clause-stays
returns-in-Down-clause-stays g c = c.takes_down.ensures.stays c.args.world.now.plant.net.cfg c.requires.fits

pub returns-in-Cut-clause-follows : goal.returns-in-Cut-clause-follows
returns-in-Cut-clause-follows g c s w at stays h i =
    gives_same stays (comes (Cut c.in-Cut.link) at) (fault_of c.args.self.now.scene s w at c.args.kind) _ c.cuts.new.self (sym (ap (fault_of c.args.self.now.scene s w at) c.in-Cut.is)) (c.cuts.ensures.follows at stays i)

pub returns-in-Cut-clause-stays : goal.returns-in-Cut-clause-stays
returns-in-Cut-clause-stays g c = c.cuts.ensures.stays c.args.world.now.plant.net.cfg c.requires.fits

pub returns-in-Up-clause-follows : goal.returns-in-Up-clause-follows
returns-in-Up-clause-follows g c s w at stays h i =
    gives_same stays (comes (up_event c.args.self.now.scene c.in-Up.node) (with_tick s w.time c.in-Up.node at)) (fault_of c.args.self.now.scene s w at c.args.kind) _ c.wake.new.self
    (sym (ap (fault_of c.args.self.now.scene s w at) c.in-Up.is)) (c.wake.ensures.follows s w at stays h i)

pub returns-in-Join-clause-follows : goal.returns-in-Join-clause-follows
returns-in-Join-clause-follows g c s w at stays h i =
    gives_same stays (comes (join_event c.args.self.now.scene s c.in-Join.link) at) (fault_of c.args.self.now.scene s w at c.args.kind) _ c.rejoin.new.self
    (sym (ap (fault_of c.args.self.now.scene s w at) c.in-Join.is)) (c.rejoin.ensures.follows s w at stays h i)
