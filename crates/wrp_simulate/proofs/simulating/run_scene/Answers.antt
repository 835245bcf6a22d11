-- The network and its simulator are new.
use Rattle.std.proofs.Common.{◌∙◌, [], sym, ap, subst, arith}
use Rattle.wrp_network.specs.Network.{node_count}
use Rattle.wrp_config.specs.declared.network.Network.{Network}
use Rattle.wrp_sim.specs.Sim.{FitsSim}
use Rattle.wrp_world.specs.StandsFor.{StandsFor}
use Rattle.wrp_course.specs.WorldAt.{new_world}
use Rattle.wrp_records.specs.LinesAfter.{Closed}
use Rattle.wrp_network_world.specs.NetworkSetting.{setting_in}
use Rattle.wrp_scene_records.specs.Scenarios.{IsScenario}
use Rattle.wrp_simulate.specs.Simulates.{simulation_of}
use Rattle.wrp_simulate.proofs.SimSteps.{first_run, nothing_run}
use Rattle.wrp_simulate.proofs.simulating.run_scene.Goals as goal

pub run_events-requires-clause-course : goal.run_events-requires-clause-course
run_events-requires-clause-course g c =
    let net = c.in-Ok-new.ensures.net in
    let none = c.in-Ok.ensures.none in
    record {
      sim = subst (λ (k : Network). FitsSim k.cfg c.in-Ok.course.sim) (sym net) c.in-Ok.ensures.fits;
      totals = c.in-Ok.ensures.count ∙ ap (λ (k : Network). node_count k.cfg) (sym net);
      count = c.in-Ok-new.ensures.none ∙ sym none;
      below = omega (arith, none);
    }

pub run_events-requires-clause-run : goal.run_events-requires-clause-run
run_events-requires-clause-run g c =
    let net = c.in-Ok-new.ensures.net in
    let begins = first_run c.args.seed c.args.scene c.in-Ok-new.network c.in-Ok.course
    (subst (λ (k : Network). StandsFor (λ f x y. g.F.Fn.post f (x, tt) y) (setting_in k) (new_world (setting_in k)) c.in-Ok-new.network.world) (sym net) c.in-Ok-new.ensures.stands)
    c.in-Ok.ensures.scene c.in-Ok.ensures.begins c.in-Ok.ensures.totals c.in-Ok.ensures.none in
    (c.args.seed, setting_in c.in-Ok-new.network.world.plant.net, c.args.scene, [], begins.0, begins.1)

pub returns-clause-stands : goal.returns-clause-stands
returns-clause-stands g c =
    let net = c.in-Ok-new.ensures.net in
    subst
    (λ (k : Network). Closed (λ lines. IsScenario (setting_in k) lines c.args.scene) (simulation_of (setting_in k) c.args.seed) c.run_events.result (g.K.Sink.held c.args.sink.now) (g.K.Sink.held c.run_events.new.sink)) net
    (c.run_events.ensures.stands c.args.seed (setting_in c.in-Ok-new.network.world.plant.net) c.args.scene
    (first_run c.args.seed c.args.scene c.in-Ok-new.network c.in-Ok.course
    (subst (λ (k : Network). StandsFor (λ f x y. g.F.Fn.post f (x, tt) y) (setting_in k) (new_world (setting_in k)) c.in-Ok-new.network.world) (sym net) c.in-Ok-new.ensures.stands)
    c.in-Ok.ensures.scene c.in-Ok.ensures.begins c.in-Ok.ensures.totals c.in-Ok.ensures.none))

pub returns-in-Err-clause-stands : goal.returns-in-Err-clause-stands
returns-in-Err-clause-stands g c = nothing_run (setting_in c.args.net) c.args.scene c.args.seed _

pub returns-in-Err-new-clause-stands : goal.returns-in-Err-new-clause-stands
returns-in-Err-new-clause-stands g c = nothing_run (setting_in c.args.net) c.args.scene c.args.seed _
