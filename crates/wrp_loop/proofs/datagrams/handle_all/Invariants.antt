-- The datagrams before this one were handled.
use Rattle.std.proofs.Common.{◌≡◌, ◌≤◌, ◌+◌}
use Rattle.wrp_world.specs.Taking.{laws_of}
use Rattle.wrp_loop.specs.Datagrams.{Way}
use Rattle.wrp_loop.specs.LoopRun.{LoopAt, Plan}
use Rattle.wrp_loop.specs.LoopStands.{CanLoop, Carries, FitsCourse}
use Rattle.wrp_loop.proofs.Fates.{HandledFirst}
use Rattle.wrp_loop.proofs.datagrams.handle_all.Given as goal

abbrev pub invariant-loop-frame : goal.invariant-loop-frame
invariant-loop-frame g l = record {
  valid : CanLoop (λ f x. g.F.Fn.pre f (x, tt)) (λ f x y. g.F.Fn.post f (x, tt) y) l.network;
  fits : FitsCourse l.network l.course;
  net : l.network.world.plant.net ≡ l.fn.network.world.plant.net;
  laws : laws_of l.network.world ≡ laws_of l.fn.network.world;
  sim : l.course.sim ≡ l.fn.course.sim;
  few : l.course.forged ≤ l.fn.course.forged + l.frame-index;
  more : l.fn.course.events ≤ l.course.events;
  handled : (x : Plan) (k : LoopAt) (way : Way) → Carries (λ f x y. g.F.Fn.post f (x, tt) y) x l.fn.network l.fn.course k way l.route
      → HandledFirst (λ f x y. g.F.Fn.post f (x, tt) y) x l.network l.course k way l.route l.got l.frame-index l.fn.text.items l.text.items;
}
