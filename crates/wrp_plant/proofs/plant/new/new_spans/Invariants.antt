-- The links so far.
use Rattle.std.proofs.Common.{◌≡◌, length}
use Rattle.wrp_plant.specs.New.{IsSpanOf}
use Rattle.wrp_plant.specs.Plant.{Each}
use Rattle.wrp_plant.proofs.plant.new.new_spans.Given as goal

abbrev pub invariant-loop-link : goal.invariant-loop-link
invariant-loop-link l = (length l.spans.items ≡ l.link-index) × Each (IsSpanOf l.fn.db l.fn.links) l.spans.items
