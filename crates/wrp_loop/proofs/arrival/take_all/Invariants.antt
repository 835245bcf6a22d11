use Rattle.std.proofs.Common.{◌≡◌, ◌≤◌, ◌-◌, length}
use Rattle.std.specs.List.{AllByRecursion}
use Rattle.wrp_loop.specs.Calls.{Grew, IsFrame, taken_calls}
use Rattle.wrp_loop.proofs.arrival.take_all.Given as goal

abbrev pub invariant-taking : goal.invariant-taking
invariant-taking g l = record {
  few : length l.got.items ≤ 16;
  frames : AllByRecursion IsFrame l.got.items;
  told : Grew (g.N.Link.told l.initial.link) (g.N.Link.told l.link) (taken_calls l.to l.got.items);
  faults : g.N.Link.faults l.link ≡ g.N.Link.faults l.initial.link;
}

abbrev pub decreases-taking : goal.decreases-taking
decreases-taking g l = 16 - length l.got.items
