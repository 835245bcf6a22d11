use Rattle.std.proofs.Common.{◌≡◌, ◌+◌, ◌-◌, ◌*◌, ◌^◌, ◌<◌, ◌≤◌, sum_by}
use Rattle.wrp_network.specs.Network.{node_count}
use Rattle.wrp_bounds.specs.Bounds.{path_of, links_up, step_over}
use Rattle.wrp_bounds.proofs.bounds.path_sum.Given as goal

-- what is summed so far and what is left make the path
abbrev pub invariant-loop-passed : goal.invariant-loop-passed
invariant-loop-passed l = record {
  sum : l.sum + sum_by (step_over l.fn.cfg) (links_up (8 - l.passed) l.fn.cfg l.at) ≡ path_of l.fn.cfg l.fn.n;
  node : l.at < node_count l.fn.cfg;
  size : l.sum ≤ l.passed * 2 ^ 80;
}
