use Rattle.std.proofs.Common.{◌∙◌, ap, sym, option_map}
use Rattle.wrp_sim.specs.Rules.{fails, faults_left, fault_of, next_fault, rest_of}
use Rattle.wrp_sim.proofs.RuleCases.{not_taken, taken}
use Rattle.wrp_sim.proofs.Turns.{gave_none, gives_same}
use Rattle.wrp_sim.proofs.sim.state.State.fail.Goals as goal

pub returns-in-Some-clause-follows : goal.returns-in-Some-clause-follows
returns-in-Some-clause-follows g c s w at h i =
    gives_same (rest_of s w at) (fault_of c.args.self.now.scene s w (rest_of s w at) c.in-Some.kind) (fails c.args.self.now.scene s w at) _ c.fault.new.self
    (sym (taken (fault_of c.args.self.now.scene s w (rest_of s w at)) (next_fault s w at.faults) c.in-Some.kind
    (sym c.in-Some.is ∙ c.take_fault.ensures.first s w h ∙ ap (λ faults. option_map (λ f. f.kind) (next_fault s w faults)) i.faults)))
    (c.fault.ensures.follows s w (rest_of s w at) (rest_of s w at) h
    (record { state = i.state; begun = i.begun; faults = c.take_fault.ensures.left s w h ∙ ap (faults_left s w) i.faults; ticks = i.ticks; ticked = i.ticked; arrived = i.arrived }))

pub returns-in-None-clause-follows : goal.returns-in-None-clause-follows
returns-in-None-clause-follows g c s w at h i =
    gave_none (rest_of s w at) (fails c.args.self.now.scene s w at) _
    (not_taken (fault_of c.args.self.now.scene s w (rest_of s w at)) (next_fault s w at.faults)
    (sym c.in-None.is ∙ c.take_fault.ensures.first s w h ∙ ap (λ faults. option_map (λ f. f.kind) (next_fault s w faults)) i.faults))
    (record { state = i.state; begun = i.begun; faults = c.take_fault.ensures.left s w h ∙ ap (faults_left s w) i.faults; ticks = i.ticks; ticked = i.ticked; arrived = i.arrived })
