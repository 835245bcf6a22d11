-- After a reading into a place, the place has what was read.
use Rattle.std.proofs.Common.{◌≡◌, Result, Ok, Err, ap, sym, ◌∙◌}
use Rattle.wrp_base.specs.declared.fault.TraceFault.{TraceFault}
use Rattle.wrp_trace.specs.Inputs.{IsReadInto}

pub read_into : {A : Type 0} (read : Result A TraceFault) (answer : Result Unit TraceFault) (old new : A) (u : Unit)
    → IsReadInto read answer old new → answer ≡ Ok u → Ok new ≡ read
read_into (Ok x) answer old new u h e = ap Ok h.1
read_into (Err f) answer old new u h e = cc (sym h.0 ∙ e)

-- the fault of an answer
abbrev fault_in : Result Unit TraceFault → TraceFault → TraceFault
fault_in (Ok done) other = other
fault_in (Err fault) other = fault

pub fault_into : {A : Type 0} (read : Result A TraceFault) (answer : Result Unit TraceFault) (old new : A) (fault : TraceFault)
    → IsReadInto read answer old new → answer ≡ Err fault → Err fault ≡ read
fault_into (Ok x) answer old new fault h e = cc (sym h.0 ∙ e)
fault_into (Err f) answer old new fault h e = ap (λ (r : Result Unit TraceFault). Err (fault_in r fault)) (sym e ∙ h.0)
