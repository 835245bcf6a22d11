-- All lines of the events so far are written.
use Rattle.std.proofs.Common.{◌≡◌, [], ℕ, List, Option}
use Rattle.wrp_io.specs.declared.link.LinkCall.{LinkCall}
use Rattle.wrp_loop.specs.SoFar.{CameSoFar, IsReady, rounds_left}
use Rattle.wrp_network_world.specs.NetworkSetting.{setting_in}
use Rattle.wrp_network_world.specs.LawsFit.{HasLawOf}
use Rattle.wrp_loop.specs.LoopPasses.{Rounding}
use Rattle.wrp_loop.specs.Loops.{plan_of}
use Rattle.wrp_scene.specs.Scenario.{SceneAt}
use Rattle.wrp_loop.proofs.running.run_rounds.Given as goal

abbrev pub invariant-rounds : goal.invariant-rounds
invariant-rounds g l =
    record {
      ready : IsReady (λ f x. g.F.Fn.pre f (x, tt)) (λ f x y. g.F.Fn.post f (x, tt) y) l.network l.course;
      net : l.network.world.plant.net ≡ l.fn.network.world.plant.net;
      laws : HasLawOf (λ f x y. g.F.Fn.post f (x, tt) y) (setting_in l.fn.network.world.plant.net) l.network.world;
      waits : l.text.items ≡ [];
      rounding : (scene : SceneAt) (seed : ℕ) (before : Option (List LinkCall))
          → CameSoFar (λ f x y. g.F.Fn.post f (x, tt) y) (plan_of (setting_in l.fn.network.world.plant.net) scene seed) l.fn.network l.fn.course before (g.N.Link.told l.fn.link) []
          → Rounding (λ f x y. g.F.Fn.post f (x, tt) y) (plan_of (setting_in l.fn.network.world.plant.net) scene seed) l.network l.course before (g.N.Link.told l.link)
          (g.K.Sink.held l.fn.sink) (g.K.Sink.held l.sink) l.text.items;
      sink : g.K.Sink.faults l.sink ≡ g.K.Sink.faults l.fn.sink;
      link : g.N.Link.faults l.link ≡ g.N.Link.faults l.fn.link;
    }

abbrev pub decreases-rounds : goal.decreases-rounds
decreases-rounds g l = rounds_left l.course
