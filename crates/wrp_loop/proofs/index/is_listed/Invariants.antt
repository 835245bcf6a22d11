use Rattle.std.proofs.Common.{◌≡◌, drop}
use Rattle.wrp_loop.specs.Index.{has_number}
use Rattle.wrp_loop.proofs.index.is_listed.Given as goal

abbrev pub invariant-loop-other : goal.invariant-loop-other
invariant-loop-other l = has_number l.came l.number ≡ has_number (drop l.other-index l.came) l.number
