-- The faults that are left are tried one after another.
use Rattle.std.proofs.Common.{◌∙◌, ap, ap₂, sym, subst, ℤ, pos, ◌*ℤ◌, ◌+ℤ◌, ◌≤◌, ◌^◌, unsigned_abs, fold, map, get_or, arith}
use Rattle.std.proofs.lemmas.Int.{ints}
use Rattle.std.specs.List.{AllByRecursion}
use Rattle.wrp_network.specs.declared.configuration.NetCfg.{NetCfg}
use Rattle.wrp_base.specs.Clock.{second}
use Rattle.wrp_config.specs.declared.network.Network.{Network}
use Rattle.wrp_plant.proofs.SignedReads.{read}
use Rattle.wrp_scene.specs.declared.scene.fault.Fault.{Fault}
use Rattle.wrp_scene.specs.declared.scene.fault.FaultKind.TheVariants.{Down}
use Rattle.wrp_sim.specs.Rules.{fault_time, sooner}
use Rattle.wrp_scene.specs.Scenario.{IsFault}
use Rattle.wrp_sim.proofs.Moments.{small_fault, tried_all, tried_one}
use Rattle.wrp_sim.proofs.sim.state.State.soonest_fault.Goals as goal

abbrev none : Fault
none = record { at = pos 0; kind = Down 0 }

pub sum-at-requires-clause-b : goal.sum-at-requires-clause-b
sum-at-requires-clause-b g c =
    let all : AllByRecursion (IsFault c.args.world.now.plant.net.cfg) c.deref-fault-items.result.now =
    subst (AllByRecursion (IsFault c.args.world.now.plant.net.cfg)) (sym c.deref-fault-items.ensures.value) c.requires.fits.faults in
    let small = small_fault c.args.world.now.plant.net.cfg c.deref-fault-items.result.now c.loop-fault.fault-index none all c.loop-fault-test.true in
    let bound : unsigned_abs (get_or c.deref-fault-items.result.now c.loop-fault.fault-index none).at ≤ 2 ^ 125 = omega (arith, small) in
    subst (λ (z : ℤ). unsigned_abs z ≤ 2 ^ 125) (sym (read (get_or c.deref-fault-items.result.now c.loop-fault.fault-index none).at (omega (arith, small)))) bound

pub loop-fault-preserved : goal.loop-fault-preserved
loop-fault-preserved g c =
    let all : AllByRecursion (IsFault c.args.world.now.plant.net.cfg) c.deref-fault-items.result.now =
    subst (AllByRecursion (IsFault c.args.world.now.plant.net.cfg)) (sym c.deref-fault-items.ensures.value) c.requires.fits.faults in
    let small = small_fault c.args.world.now.plant.net.cfg c.deref-fault-items.result.now c.loop-fault.fault-index none all c.loop-fault-test.true in
    let best = read c.sooner-best.result (omega (arith, c.sooner-best.ensures.size)) in
    let held = c.loop-fault.invariant in (
      omega (arith, ints, best, c.sooner-best.ensures.later),
      omega (arith, ints, best, c.sooner-best.ensures.most, held.1),
      subst (λ (z : ℤ). unsigned_abs z ≤ 2 ^ 101) (sym best) c.sooner-best.ensures.size,
      λ s w h.
          let cfg = ap (λ (net : Network). net.cfg) c.net.ensures ∙ h.plant.cfg in
          let at = read c.sum-at.result (omega (arith, c.sum-at.ensures.size)) ∙ c.sum-at.ensures.value
          ∙ ap₂ (λ (a b : ℤ). a +ℤ b)
          (read c.start_of-start.result (omega (arith, c.start_of-start.ensures.size)) ∙ c.start_of-start.ensures.value ∙ ap (λ (x : NetCfg). x.epoch *ℤ second) cfg)
          (read (get_or c.deref-fault-items.result.now c.loop-fault.fault-index none).at (omega (arith, small))) in
          tried_one _ (fault_time s) c.deref-fault-items.result.now c.args.self.now.faults.items c.loop-fault.fault-index none _ _
          c.deref-fault-items.ensures.value c.loop-fault-test.true (best ∙ c.sooner-best.ensures.value ∙ ap (sooner _ _) at)
          ∙ held.3 s w h,
    )

pub returns-clause-value : goal.returns-clause-value
returns-clause-value g c s w h =
    let now = read c.args.now (omega (arith, c.requires.now)) in
    let other = read c.args.other (omega (arith, c.requires.other)) in
    tried_all _ (fault_time s) c.deref-fault-items.result.now c.args.self.now.faults.items c.loop-fault.fault-index _
    c.deref-fault-items.ensures.value c.loop-fault-test.false
    ∙ c.loop-fault.invariant.3 s w h
    ∙ ap₂ (λ (n b : ℤ). fold (sooner n) b (map (fault_time s) c.args.self.now.faults.items)) now other
