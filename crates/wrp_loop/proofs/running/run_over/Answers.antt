-- What follows the scenario, and what happens if the scenario is refused.
use Rattle.std.proofs.Common.{◌≡◌, ◌∙◌, ◌++◌, map, refl, subst, sym, ℕ, List}
use Rattle.wrp_config.specs.declared.network.Network.{Network}
use Rattle.wrp_scene.specs.Scenario.{SceneAt}
use Rattle.wrp_records.specs.declared.status.Status.TheVariants.{Done, ReadFault, WriteFault}
use Rattle.wrp_records.specs.Lines.{content_of, lines_of}
use Rattle.wrp_records.specs.Passages.{passage}
use Rattle.wrp_network_world.specs.NetworkSetting.{setting_in}
use Rattle.wrp_loop.specs.LoopPasses.{LoopPasses, Ran}
use Rattle.wrp_scene_records.specs.Scenarios.{IsScenario}
use Rattle.wrp_scene_records.specs.ScenarioStands.{SaysScenario}
use Rattle.wrp_loop.proofs.LoopSteps.{passes_ran, passes_unran, ran_called}
use Rattle.wrp_loop.proofs.running.run_over.Goals as goal

pub handle_records-requires-clause-fresh : goal.handle_records-requires-clause-fresh
handle_records-requires-clause-fresh g c = (c.new-lines.ensures.taken, (c.new-lines.result.scene, c.new-lines.ensures.taken, refl))

not_read : Done ≡ ReadFault → ⊥
not_read e = cc

not_write : Done ≡ WriteFault → ⊥
not_write e = cc

pub returns-clause-passes : goal.returns-clause-passes
returns-clause-passes g c =
    let net : Network = c.new-lines.result.net.now in
    let same = c.new-lines.ensures.net ∙ c.deref.ensures in
    let own = same ∙ sym c.into_inner.ensures in
    let says : (lines : List (List ℕ)) → SaysScenario c.handle_records.new.machine lines → IsScenario (setting_in net) lines c.into_scene-scene.result =
    λ lines says.
    subst (λ (scene : SceneAt). IsScenario (setting_in net) lines scene) (sym c.into_scene-scene.ensures)
    (subst (λ k. IsScenario (setting_in k.now) lines c.handle_records.new.machine.scene) c.in-Done.ensures.setting says) in
    let ran = subst (λ (k : Network). Ran (setting_in k) c.into_scene-scene.result c.args.seed (g.N.Link.told c.args.link.now) (g.N.Link.told c.run_scene.new.link) (g.K.Sink.held c.handle_records.new.sink)
    (g.K.Sink.held c.run_scene.new.sink) c.run_scene.result) (sym own) c.run_scene.ensures.ran in
    let link = passage g.N.Link.told g.N.Link.faults c.args.link.now c.run_scene.new.link in
    subst
    (λ (k : Network). LoopPasses (setting_in k) c.args.seed (passage g.S.Source.left g.S.Source.faults c.args.source.now c.handle_records.new.source)
    (passage g.K.Sink.held g.K.Sink.faults c.args.sink.now c.run_scene.new.sink) link c.args.reader.now.rest c.args.reader.now.ended c.handle_records.new.reader.ended c.run_scene.result)
    same
    (passes_ran (setting_in net) c.into_scene-scene.result c.args.seed (SaysScenario c.handle_records.new.machine) _ link _ _ _ _ _ _ c.args.reader.now.rest c.args.reader.now.ended c.handle_records.new.reader
    c.run_scene.result c.in-Done.ensures.stands says ran c.in-Done.ensures.at_end c.in-Done.ensures.ended (c.in-Done.ensures.read_kept not_read) c.run_scene.ensures.never
    (c.in-Done.ensures.write_kept not_write) (record { failed = c.run_scene.ensures.rose; sound = c.run_scene.ensures.kept }) c.run_scene.ensures.linked)

pub returns-clause-unstarted : goal.returns-clause-unstarted
returns-clause-unstarted g c = λ un.
    let net : Network = c.new-lines.result.net.now in
    let lines = map content_of (lines_of (c.args.reader.now.rest ++ c.in-Done.ensures.stands.given)) in
    let said = subst (λ (scene : SceneAt). IsScenario (setting_in net) lines scene) (sym c.into_scene-scene.ensures)
    (subst (λ k. IsScenario (setting_in k.now) lines c.handle_records.new.machine.scene) c.in-Done.ensures.setting (c.in-Done.ensures.stands.done refl)) in
    let ran = c.run_scene.ensures.ran in
    absurd (ran_called (setting_in c.into_inner.result) c.args.seed lines ran.calls c.run_scene.result ran.text
    (ran.so lines (subst (λ (k : Network). IsScenario (setting_in k) lines c.into_scene-scene.result) (c.new-lines.ensures.net ∙ c.deref.ensures ∙ sym c.into_inner.ensures) said)) un)

pub returns-in_default-clause-passes : goal.returns-in_default-clause-passes
returns-in_default-clause-passes g c =
    let net : Network = c.new-lines.result.net.now in
    let link = passage g.N.Link.told g.N.Link.faults c.args.link.now c.args.link.now in
    subst
    (λ (k : Network). LoopPasses (setting_in k) c.args.seed (passage g.S.Source.left g.S.Source.faults c.args.source.now c.handle_records.new.source)
    (passage g.K.Sink.held g.K.Sink.faults c.args.sink.now c.handle_records.new.sink) link c.args.reader.now.rest c.args.reader.now.ended c.handle_records.new.reader.ended c.handle_records.result)
    (c.new-lines.ensures.net ∙ c.deref.ensures)
    (passes_unran (setting_in net) c.args.seed (SaysScenario c.handle_records.new.machine) _ _ link c.args.reader.now.rest c.args.reader.now.ended c.handle_records.new.reader c.handle_records.result
    c.handle_records.ensures.stands c.in_default.not-Done c.handle_records.ensures.at_end c.handle_records.ensures.ended c.handle_records.ensures.open
    (record { failed = c.handle_records.ensures.read_fault; sound = c.handle_records.ensures.read_kept }) (record { failed = c.handle_records.ensures.write_fault; sound = c.handle_records.ensures.write_kept })
    c.handle_records.ensures.never.2 refl refl)
