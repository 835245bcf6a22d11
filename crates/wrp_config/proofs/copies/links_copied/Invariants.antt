use Rattle.std.proofs.Common.{◌≡◌, ◌≤◌, ◌++◌, drop, length}
use Rattle.wrp_config.proofs.copies.links_copied.Given as goal

abbrev pub invariant-loop-link : goal.invariant-loop-link
invariant-loop-link l = (length l.copies.items ≤ l.link-index) × (l.links ≡ l.copies.items ++ drop l.link-index l.links)
