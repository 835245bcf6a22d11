-- The list has one new clock for each round so far.
use Rattle.std.proofs.Common.{◌≡◌, length}
use Rattle.wrp_plant.specs.New.{new_clock}
use Rattle.wrp_plant.specs.Plant.{Each}
use Rattle.wrp_plant.proofs.plant.new.new_clocks.Given as goal

abbrev pub invariant-loop-i : goal.invariant-loop-i
invariant-loop-i l = (length l.clocks.items ≡ l._i) × Each (λ n clock. clock ≡ new_clock l.fn.start) l.clocks.items
