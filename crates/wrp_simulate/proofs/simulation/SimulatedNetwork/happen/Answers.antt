-- The event is taken, and its steps are written.
use Rattle.std.proofs.Common.{Ok, Err, Result, refl}
use Rattle.std.specs.Result.{OnOk}
use Rattle.wrp_simulate.proofs.NewSim.{run_stays}
use Rattle.wrp_simulate.proofs.simulation.SimulatedNetwork.happen.Goals as goal

-- what holds in any case holds if it went well
in_any_case : {T E : Type 0} (P : Type 0) (r : Result T E) → P → OnOk r P
in_any_case P (Ok value) holds = holds
in_any_case P (Err error) holds = tt

pub write-requires-clause-ready : goal.write-requires-clause-ready
write-requires-clause-ready g c =
    run_stays c.args.self.now _ c.requires.ready c.take.ensures.valid c.take.ensures.net refl c.take.ensures.laws

pub returns-in-Ok-clause-ready : goal.returns-in-Ok-clause-ready
returns-in-Ok-clause-ready g c =
    run_stays c.args.self.now _ c.requires.ready c.take.ensures.valid c.take.ensures.net refl c.take.ensures.laws

pub returns-in-Err-clause-ready : goal.returns-in-Err-clause-ready
returns-in-Err-clause-ready g c =
    run_stays c.args.self.now _ c.requires.ready c.take.ensures.valid c.take.ensures.net refl c.take.ensures.laws

pub returns-in-Ok-clause-counted : goal.returns-in-Ok-clause-counted
returns-in-Ok-clause-counted g c = in_any_case _ c.write.result c.in-Ok.ensures.counted

pub returns-in-Ok-clause-nodes : goal.returns-in-Ok-clause-nodes
returns-in-Ok-clause-nodes g c = in_any_case _ c.write.result c.in-Ok.ensures.nodes

pub returns-in-Ok-clause-steps : goal.returns-in-Ok-clause-steps
returns-in-Ok-clause-steps g c = in_any_case _ c.write.result c.in-Ok.ensures.steps
