use Rattle.std.proofs.Common.{◌≡◌}
use Rattle.wrp_network_text.specs.Tree.{is_root, some_below}
use Rattle.wrp_network_text.proofs.tree.has_root_below.Given as goal

abbrev pub invariant-loop-m : goal.invariant-loop-m
invariant-loop-m l = l.found ≡ some_below (is_root l.cfg) l.m
