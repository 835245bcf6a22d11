-- What became of the event.
use Rattle.std.proofs.Common.{◌∙◌, ◌<◌, ap, refl, subst, sym, rules}
use Rattle.std.proofs.lemmas.Int.{to_z-of_z}
use Rattle.std.specs.List.{AllByRecursion}
use Rattle.wrp_network.specs.declared.configuration.NetCfg.{NetCfg}
use Rattle.wrp_network.specs.Network.{IsTree, node_count}
use Rattle.wrp_config.specs.declared.network.Network.{Network}
use Rattle.wrp_course.specs.declared.event.Event.{Event}
use Rattle.wrp_course.specs.declared.node_out.NodeOut.{NodeOut}
use Rattle.wrp_trace.specs.Events.{bare}
use Rattle.wrp_trace.specs.Places.{event_in}
use Rattle.wrp_course.specs.EventAt.{IsEventOf}
use Rattle.wrp_world.specs.Step.{IsRefusal}
use Rattle.wrp_audit.specs.AuditStands.{Broke}
use Rattle.wrp_network_world.specs.NetworkSetting.{setting_in}
use Rattle.wrp_audit.proofs.AuditSteps.{behind_none, broke_of, can_stay, counts_none, counts_one}
use Rattle.wrp_audit.proofs.AuditPlaces.{took_at}
use Rattle.wrp_audit.proofs.NodesWithin.{nodes_within}
use Rattle.wrp_audit.proofs.audit.AuditedNetwork.happen.Goals as goal

pub returns-in_ok-write-in-Ok-clause-ready : goal.returns-in_ok-write-in-Ok-clause-ready
returns-in_ok-write-in-Ok-clause-ready g c =
    can_stay c.args.self.now _ c.requires.ready c.step_into.ensures.valid c.step_into.ensures.net refl refl c.step_into.ensures.laws

pub returns-in_err-write-in-Ok-clause-ready : goal.returns-in_err-write-in-Ok-clause-ready
returns-in_err-write-in-Ok-clause-ready g c =
    can_stay c.args.self.now _ c.requires.ready c.step_into.ensures.valid c.step_into.ensures.net refl refl c.step_into.ensures.laws

pub returns-in_ok-append_broken-in-Err-Broken-clause-ready : goal.returns-in_ok-append_broken-in-Err-Broken-clause-ready
returns-in_ok-append_broken-in-Err-Broken-clause-ready g c =
    can_stay c.args.self.now _ c.requires.ready c.step_into.ensures.valid c.step_into.ensures.net refl refl c.step_into.ensures.laws

pub returns-in_err-append_broken-in-Err-Broken-clause-ready : goal.returns-in_err-append_broken-in-Err-Broken-clause-ready
returns-in_err-append_broken-in-Err-Broken-clause-ready g c =
    can_stay c.args.self.now _ c.requires.ready c.step_into.ensures.valid c.step_into.ensures.net refl refl c.step_into.ensures.laws

pub returns-in-Err-Memory-clause-ready : goal.returns-in-Err-Memory-clause-ready
returns-in-Err-Memory-clause-ready g c =
    can_stay c.args.self.now _ c.requires.ready c.step_into.ensures.valid c.step_into.ensures.net refl refl c.step_into.ensures.laws

pub returns-in_ok-write-in-Ok-clause-count : goal.returns-in_ok-write-in-Ok-clause-count
returns-in_ok-write-in-Ok-clause-count g c =
    counts_one c.event.result.now c.args.self.now.world c.step_into.new.self c.step_into.new.outs.items c.requires.ready.valid c.in-Ok.ensures.steps

pub returns-in_err-write-in-Ok-clause-count : goal.returns-in_err-write-in-Ok-clause-count
returns-in_err-write-in-Ok-clause-count g c =
    counts_one c.event.result.now c.args.self.now.world c.step_into.new.self c.step_into.new.outs.items c.requires.ready.valid c.in-Ok.ensures.steps

pub returns-in_ok-append_broken-in-Err-Broken-clause-count : goal.returns-in_ok-append_broken-in-Err-Broken-clause-count
returns-in_ok-append_broken-in-Err-Broken-clause-count g c =
    counts_none c.args.self.now.world c.step_into.new.self c.requires.ready.valid c.in-Err-Broken.ensures.stays

pub returns-in_err-append_broken-in-Err-Broken-clause-count : goal.returns-in_err-append_broken-in-Err-Broken-clause-count
returns-in_err-append_broken-in-Err-Broken-clause-count g c =
    counts_none c.args.self.now.world c.step_into.new.self c.requires.ready.valid c.in-Err-Broken.ensures.stays

pub returns-in-Err-Memory-clause-count : goal.returns-in-Err-Memory-clause-count
returns-in-Err-Memory-clause-count g c = counts_none c.args.self.now.world c.step_into.new.self c.requires.ready.valid c.in-Err-Memory.ensures.stays

pub write-requires-clause-nodes : goal.write-requires-clause-nodes
write-requires-clause-nodes g c =
    let valid = c.requires.ready.valid in
    let own = valid.stands.plant.cfg in
    let within = nodes_within _ valid.setting valid.state c.event.result.now c.args.self.now.world c.step_into.new.self c.step_into.new.outs.items valid.stands c.in-Ok.ensures.steps
    (subst IsTree own valid.plant.accepted.tree)
    (subst (λ (cfg : NetCfg). IsEventOf cfg c.event.result.now) own (subst (IsEventOf c.args.self.now.world.plant.net.cfg) (sym c.event.ensures) c.requires.event)) in
    subst (λ (cfg : NetCfg). AllByRecursion (λ (out : NodeOut). out.node < node_count cfg) c.step_into.new.outs.items)
    (sym own ∙ ap (λ (net : Network). net.cfg) (sym c.step_into.ensures.net)) within

pub returns-in_ok-write-in-Ok-clause-happens : goal.returns-in_ok-write-in-Ok-clause-happens
returns-in_ok-write-in-Ok-clause-happens g c = λ w stood.
    took_at _ c.args.self.now.emit (setting_in c.args.self.now.world.plant.net) w
    (event_in c.args.place.now) c.event.result.now c.args.self.now.world c.step_into.new.self c.step_into.new.outs.items c.write.new.text.items c.event.ensures stood c.in-Ok.ensures.steps
    (λ v stands. behind_none (c.in_ok-write-in-Ok.ensures _ v stands) c.requires.none)

pub returns-in_ok-append_broken-in-Err-Broken-clause-happens : goal.returns-in_ok-append_broken-in-Err-Broken-clause-happens
returns-in_ok-append_broken-in-Err-Broken-clause-happens g c = λ w stood.
    subst (λ (e : Event). Broke (setting_in c.args.self.now.world.plant.net) w (bare e) c.args.number c.append_broken.new.text.items) c.event.ensures
    (broke_of _ (setting_in c.args.self.now.world.plant.net) w c.event.result.now c.args.self.now.world _ _ _ c.args.number c.append_broken.new.text.items stood
    (subst (IsRefusal _ c.event.result.now c.args.self.now.world) c.in-Err-Broken.field-0-is c.in-Err-Broken.ensures.refusal)
    (let line = behind_none c.in_ok-append_broken-in-Err-Broken.ensures c.requires.none in search (line, to_z-of_z, rules)))
