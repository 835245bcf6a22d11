use Rattle.std.proofs.Common.{◌∙◌, ap, sym, subst, option_map}
use Rattle.std.specs.List.{AllByRecursion}
use Rattle.wrp_world.proofs.AllTake.{all_at}
use Rattle.wrp_scene.specs.Scenario.{IsFault}
use Rattle.wrp_sim.proofs.Faults.{Left, all_removed, first_taken, left_dropped, left_taken, left_waiting}
use Rattle.wrp_sim.proofs.sim.failing.take_fault.Goals as goal

pub has_come-requires-clause-fault : goal.has_come-requires-clause-fault
has_come-requires-clause-fault g c = all_at (IsFault c.args.world.now.plant.net.cfg) c.tried.faults.items c.tried.i c.fault_at-fault.result c.tried.invariant.0 c.fault_at-fault.ensures

pub applies-requires-clause-kind : goal.applies-requires-clause-kind
applies-requires-clause-kind g c = (all_at (IsFault c.args.world.now.plant.net.cfg) c.tried.faults.items c.tried.i c.fault_at-fault.result c.tried.invariant.0 c.fault_at-fault.ensures).kind

pub returns-then-applies-clause-first : goal.returns-then-applies-clause-first
returns-then-applies-clause-first g c s w h =
    sym (ap (option_map (λ f. f.kind)) (first_taken s w c.args.faults.now.items c.tried.faults.items c.tried.i c.fault_at-fault.result c.fault_at-fault.ensures
    (sym (c.has_come.ensures s w h) ∙ c.if-has_come.true) (sym (c.applies.ensures s w h) ∙ c.if-applies.true) (c.tried.invariant.1 s w h)))

pub returns-then-applies-clause-left : goal.returns-then-applies-clause-left
returns-then-applies-clause-left g c s w h =
    c.remove.ensures
    ∙ sym (left_taken s w c.args.faults.now.items c.tried.faults.items c.tried.i c.fault_at-fault.result c.fault_at-fault.ensures
    (sym (c.has_come.ensures s w h) ∙ c.if-has_come.true) (sym (c.applies.ensures s w h) ∙ c.if-applies.true) (c.tried.invariant.1 s w h))

pub returns-then-applies-clause-faults : goal.returns-then-applies-clause-faults
returns-then-applies-clause-faults g c =
    subst (λ xs. AllByRecursion (IsFault c.args.world.now.plant.net.cfg) xs) (sym c.remove.ensures) (all_removed (IsFault c.args.world.now.plant.net.cfg) c.tried.faults.items c.tried.i c.tried.invariant.0)

pub returns-then-applies-clause-kind : goal.returns-then-applies-clause-kind
returns-then-applies-clause-kind g c = (all_at (IsFault c.args.world.now.plant.net.cfg) c.tried.faults.items c.tried.i c.fault_at-fault.result c.tried.invariant.0 c.fault_at-fault.ensures).kind

pub tried-preserved-else-applies : goal.tried-preserved-else-applies
tried-preserved-else-applies g c = (
  subst (λ xs. AllByRecursion (IsFault c.args.world.now.plant.net.cfg) xs) (sym c.remove.ensures) (all_removed (IsFault c.args.world.now.plant.net.cfg) c.tried.faults.items c.tried.i c.tried.invariant.0),
  λ s w h.
      subst (λ xs. Left s w c.args.faults.now.items xs c.tried.i) (sym c.remove.ensures)
      (left_dropped s w c.args.faults.now.items c.tried.faults.items c.tried.i c.fault_at-fault.result c.fault_at-fault.ensures
      (sym (c.has_come.ensures s w h) ∙ c.if-has_come.true) (sym (c.applies.ensures s w h) ∙ c.if-applies.false) (c.tried.invariant.1 s w h)),
)

pub tried-preserved : goal.tried-preserved
tried-preserved g c = (
  c.tried.invariant.0,
  λ s w h.
      left_waiting s w c.args.faults.now.items c.tried.faults.items c.tried.i c.fault_at-fault.result c.fault_at-fault.ensures
      (sym (c.has_come.ensures s w h) ∙ c.if-has_come.false) (c.tried.invariant.1 s w h),
)
