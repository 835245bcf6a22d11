use Rattle.std.proofs.Common.{◌≡◌, ◌++◌, drop}
use Rattle.wrp_caldb.proofs.copies.fibres_copied.Given as goal

abbrev pub invariant-loop-one : goal.invariant-loop-one
invariant-loop-one l = l.listed ≡ l.copies.items ++ drop l.one-index l.listed
