-- Each of the nodes so far has a link above it.
use Rattle.std.proofs.Common.{◌≡◌, ℕ, ◌<◌, true}
use Rattle.std.specs.Option.{is_some}
use Rattle.wrp_network.specs.Network.{link_above}
use Rattle.wrp_plant.proofs.plant.tops.top_of.Given as goal

abbrev pub invariant-loop-n : goal.invariant-loop-n
invariant-loop-n l = (m : ℕ) → m < l.n → is_some (link_above l.fn.cfg m) ≡ true
