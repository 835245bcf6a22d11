-- What follows the scenario, and what happens if the scenario is refused.
use Rattle.std.proofs.Common.{◌≡◌, ◌∙◌, [], refl, subst, sym, ℕ, List}
use Rattle.wrp_config.specs.declared.network.Network.{Network}
use Rattle.wrp_scene.specs.Scenario.{SceneAt}
use Rattle.wrp_records.specs.declared.status.Status.TheVariants.{Done, ReadFault, WriteFault}
use Rattle.wrp_records.specs.ByLines.{of_lines}
use Rattle.wrp_records.specs.LinesAfter.{Closed}
use Rattle.wrp_records.specs.Passages.{Passes, passage}
use Rattle.wrp_records.proofs.Passed.{passes_closed, passes_stopped}
use Rattle.wrp_network_world.specs.NetworkSetting.{setting_in}
use Rattle.wrp_scene_records.specs.Scenarios.{IsScenario}
use Rattle.wrp_simulate.specs.Simulates.{simulation_of}
use Rattle.wrp_scene_records.specs.ScenarioStands.{SaysScenario}
use Rattle.wrp_simulate.proofs.SimSteps.{closed_by}
use Rattle.wrp_simulate.proofs.simulating.simulate.Goals as goal

pub handle_records-requires-clause-fresh : goal.handle_records-requires-clause-fresh
handle_records-requires-clause-fresh g c = (c.new-lines.ensures.taken, (c.new-lines.result.scene, c.new-lines.ensures.taken, refl))

not_read : Done ≡ ReadFault → ⊥
not_read e = cc

not_write : Done ≡ WriteFault → ⊥
not_write e = cc

pub returns : goal.returns
returns g c =
    let net : Network = c.new-lines.result.net.now in
    let same = c.new-lines.ensures.net ∙ c.deref.ensures in
    let own = same ∙ sym c.into_inner.ensures in
    let says : (lines : List (List ℕ)) → SaysScenario c.handle_records.new.machine lines → IsScenario (setting_in net) lines c.into_scene-scene.result =
    λ lines says.
    subst (λ (scene : SceneAt). IsScenario (setting_in net) lines scene) (sym c.into_scene-scene.ensures)
    (subst (λ k. IsScenario (setting_in k.now) lines c.handle_records.new.machine.scene) c.in-Done.ensures.setting says) in
    let how = closed_by (simulation_of (setting_in net) c.args.seed) (SaysScenario c.handle_records.new.machine) (λ lines. IsScenario (setting_in net) lines c.into_scene-scene.result) c.run_scene.result _ _ says
    (subst (λ (k : Network). Closed (λ lines. IsScenario (setting_in k) lines c.into_scene-scene.result) (simulation_of (setting_in k) c.args.seed) c.run_scene.result
    (g.K.Sink.held c.handle_records.new.sink) (g.K.Sink.held c.run_scene.new.sink)) (sym own) c.run_scene.ensures.stands) in
    record {
      passes = subst
          (λ (k : Network). Passes (of_lines (simulation_of (setting_in k) c.args.seed)) (passage g.S.Source.left g.S.Source.faults c.args.source.now c.handle_records.new.source)
          (passage g.K.Sink.held g.K.Sink.faults c.args.sink.now c.run_scene.new.sink) c.args.reader.now.rest c.args.reader.now.ended c.handle_records.new.reader.ended [] c.run_scene.result)
          same
          (passes_closed (simulation_of (setting_in net) c.args.seed) (SaysScenario c.handle_records.new.machine) _ _ _ _ _ _ _ c.args.reader.now.rest c.args.reader.now.ended c.handle_records.new.reader
          c.run_scene.result c.in-Done.ensures.stands how c.in-Done.ensures.at_end c.in-Done.ensures.ended
          (c.in-Done.ensures.read_kept not_read) c.run_scene.ensures.never
          (c.in-Done.ensures.write_kept not_write) c.run_scene.ensures.rose c.run_scene.ensures.kept);
    }

pub returns-in_default : goal.returns-in_default
returns-in_default g c =
    let net : Network = c.new-lines.result.net.now in
    record {
      passes = subst
          (λ (k : Network). Passes (of_lines (simulation_of (setting_in k) c.args.seed)) (passage g.S.Source.left g.S.Source.faults c.args.source.now c.handle_records.new.source)
          (passage g.K.Sink.held g.K.Sink.faults c.args.sink.now c.handle_records.new.sink) c.args.reader.now.rest c.args.reader.now.ended c.handle_records.new.reader.ended [] c.handle_records.result)
          (c.new-lines.ensures.net ∙ c.deref.ensures)
          (passes_stopped (simulation_of (setting_in net) c.args.seed) (SaysScenario c.handle_records.new.machine) _ _ c.args.reader.now.rest c.args.reader.now.ended c.handle_records.new.reader c.handle_records.result
          c.handle_records.ensures.stands c.in_default.not-Done c.handle_records.ensures.at_end c.handle_records.ensures.ended c.handle_records.ensures.open
          (record { failed = c.handle_records.ensures.read_fault; sound = c.handle_records.ensures.read_kept }) (record { failed = c.handle_records.ensures.write_fault; sound = c.handle_records.ensures.write_kept }));
    }
