-- The place is the fault's.
use Rattle.std.proofs.Common.{ℕ, List, subst}
use Rattle.wrp_records.specs.Engine.{RefusesAt}
use Rattle.wrp_records.proofs.answering.refuse_network.Goals as goal

pub returns-in-Fault-clause-how : goal.returns-in-Fault-clause-how
returns-in-Fault-clause-how g c =
    rw c.in-Fault.is
    (subst (λ (place : List ℕ). RefusesAt c.in-Fault.code place c.refuse_at.result (g.K.Sink.held c.args.sink.now) (g.K.Sink.held c.refuse_at.new.sink))
    c.as_str.ensures.value c.refuse_at.ensures.how)
