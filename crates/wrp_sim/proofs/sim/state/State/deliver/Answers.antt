-- The frame that arrived last is handed over.
use Rattle.std.proofs.Common.{◌≡◌, ◌-◌, ap, sym, nat_lt, true, Some, arith}
use Rattle.wrp_base.proofs.Naturals.{lt_true}
use Rattle.wrp_course.specs.declared.event.Event.TheVariants.{Deliver}
use Rattle.wrp_sim.specs.declared.sim.state.Handed.{Handed}
use Rattle.wrp_sim.specs.Rules.{comes, delivers}
use Rattle.wrp_sim.specs.SimAt.{SimAt}
use Rattle.wrp_sim.proofs.RuleCases.{hands_over}
use Rattle.wrp_sim.proofs.Turns.{gives_same}
use Rattle.wrp_sim.proofs.sim.state.State.deliver.Goals as goal

pub returns-then-self-gt0-clause-follows : goal.returns-then-self-gt0-clause-follows
returns-then-self-gt0-clause-follows c at i =
    let times : c.args.self.now.arrived.times ≡ at.arrived.times = ap (λ (x : Handed). x.times) i.arrived in
    let more : nat_lt 0 at.arrived.times ≡ true = lt_true 0 at.arrived.times (omega (arith, times, c.if-self-gt0.true)) in
    let next : SimAt = record at { arrived = record at.arrived { times = at.arrived.times - 1 } } in
    gives_same at (comes (Deliver at.arrived.frame) next) (delivers at) (Some (Deliver c.args.self.now.arrived.frame)) c.comes.new.self (sym (hands_over at more)) (
      ap (λ (x : Handed). Deliver x.frame) i.arrived,
      c.comes.ensures.follows next
          (record {
            state = i.state;
            begun = i.begun;
            faults = i.faults;
            ticks = i.ticks;
            ticked = i.ticked;
            arrived = ap (λ (x : Handed). record x { times = x.times - 1 }) i.arrived;
          }),
    )
