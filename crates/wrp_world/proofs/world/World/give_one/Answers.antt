-- The node takes its input, and the plant takes the report of the step.
use Rattle.std.proofs.Common.{◌∙◌, ap, sym, subst, slice_set, ◌+◌}
use Rattle.wrp_changes.specs.PlantTold.{MayStep, SendsFew}
use Rattle.wrp_changes.specs.Room.{HasRoom}
use Rattle.wrp_world.specs.KeepsFibres.{KeepsFibres}
use Rattle.wrp_world.proofs.Inside.{world_of}
use Rattle.wrp_world.proofs.NodesTake.{few_sent, fibres_next, fits_input, gave_one, laws_next, news_by_parts, news_read, node_here, steps_once, told_one, took_one, valid_next}
use Rattle.wrp_world.proofs.world.World.give_one.Goals as goal

pub step_node-requires-clause-valid : goal.step_node-requires-clause-valid
step_node-requires-clause-valid g c =
    c.requires.valid.nodes c.args.out.now.node c.index_mut-node.result.now
    (node_here _ _ c.args.self.now c.self.inside.plant c.self.inside.nodes.items c.args.out.now c.from.result c.index_mut-node.result.now c.self.view_is c.requires.valid c.requires.gift c.from.ensures c.index_mut-node.ensures.value)

pub step_node-requires-clause-input : goal.step_node-requires-clause-input
step_node-requires-clause-input g c =
    fits_input _ _ c.args.self.now c.args.out.now.node c.args.out.now.input c.index_mut-node.result.now c.requires.valid
    (node_here _ _ c.args.self.now c.self.inside.plant c.self.inside.nodes.items c.args.out.now c.from.result c.index_mut-node.result.now c.self.view_is c.requires.valid c.requires.gift c.from.ensures c.index_mut-node.ensures.value)
    c.requires.gift.input c.requires.asks

pub told-requires-clause-few : goal.told-requires-clause-few
told-requires-clause-few g c =
    let took = took_one _ _ c.args.put c.args.self.now c.self.inside.plant c.self.inside.nodes.items c.args.out.now c.step_node.new.out.outs.items c.from.result c.index_mut-node.result.now c.step_node.new.node c.news_of-news.result
    c.self.view_is c.requires.valid c.requires.gift c.from.ensures c.index_mut-node.ensures.value c.step_node.ensures.took (news_read _ c.args.put _ _ _ _ (record { sfits = c.ranges.put.sfits })
    (news_by_parts _ _ _ _ c.args.out.now c.step_node.new.out c.news_of-news.result _ _ c.step_node.ensures.node c.step_node.ensures.input c.news_of-news.ensures.node c.news_of-news.ensures.ticked c.news_of-news.ensures.by
    (ap (λ v. v.items) c.news_of-news.ensures.before) (ap (λ v. v.items) c.news_of-news.ensures.after) c.states-before.ensures.states c.states-after.ensures.states)) in
    subst (λ outs. SendsFew outs) (sym c.as_slice.ensures.value) (few_sent _ _ c.args.put c.args.self.now c.args.out.now c.step_node.new.out.outs.items c.index_mut-node.result.now c.step_node.new.node c.news_of-news.result took)

pub told-requires-clause-step : goal.told-requires-clause-step
told-requires-clause-step g c =
    let took = took_one _ _ c.args.put c.args.self.now c.self.inside.plant c.self.inside.nodes.items c.args.out.now c.step_node.new.out.outs.items c.from.result c.index_mut-node.result.now c.step_node.new.node c.news_of-news.result
    c.self.view_is c.requires.valid c.requires.gift c.from.ensures c.index_mut-node.ensures.value c.step_node.ensures.took (news_read _ c.args.put _ _ _ _ (record { sfits = c.ranges.put.sfits })
    (news_by_parts _ _ _ _ c.args.out.now c.step_node.new.out c.news_of-news.result _ _ c.step_node.ensures.node c.step_node.ensures.input c.news_of-news.ensures.node c.news_of-news.ensures.ticked c.news_of-news.ensures.by
    (ap (λ v. v.items) c.news_of-news.ensures.before) (ap (λ v. v.items) c.news_of-news.ensures.after) c.states-before.ensures.states c.states-after.ensures.states)) in
    subst (λ outs. MayStep outs c.self.inside.plant) (sym c.as_slice.ensures.value)
    (subst (λ w. MayStep c.step_node.new.out.outs.items w.plant) (sym c.self.view_is)
    (steps_once _ _ c.args.put c.args.self.now c.args.out.now c.step_node.new.out.outs.items c.index_mut-node.result.now c.step_node.new.node c.news_of-news.result took c.requires.asks))

pub told-requires-clause-room : goal.told-requires-clause-room
told-requires-clause-room g c = subst (λ w. HasRoom 1 w.plant) (sym c.self.view_is) c.requires.room

pub returns-clause-valid : goal.returns-clause-valid
returns-clause-valid g c =
    let took = took_one _ _ c.args.put c.args.self.now c.self.inside.plant c.self.inside.nodes.items c.args.out.now c.step_node.new.out.outs.items c.from.result c.index_mut-node.result.now c.step_node.new.node c.news_of-news.result
    c.self.view_is c.requires.valid c.requires.gift c.from.ensures c.index_mut-node.ensures.value c.step_node.ensures.took (news_read _ c.args.put _ _ _ _ (record { sfits = c.ranges.put.sfits })
    (news_by_parts _ _ _ _ c.args.out.now c.step_node.new.out c.news_of-news.result _ _ c.step_node.ensures.node c.step_node.ensures.input c.news_of-news.ensures.node c.news_of-news.ensures.ticked c.news_of-news.ensures.by
    (ap (λ v. v.items) c.news_of-news.ensures.before) (ap (λ v. v.items) c.news_of-news.ensures.after) c.states-before.ensures.states c.states-after.ensures.states)) in
    let told = told_one _ _ c.args.put c.args.self.now c.args.out.now c.step_node.new.out c.index_mut-node.result.now c.step_node.new.node c.news_of-news.result c.self.inside.plant c.told.new.plant c.self.inside.nodes.items c.from.result c.as_slice.result.now
    took c.self.view_is c.from.ensures c.step_node.ensures.node c.step_node.ensures.input c.as_slice.ensures.value c.told.ensures.is in
    valid_next _ _ c.args.put c.args.self.now c.args.out.now c.step_node.new.out c.index_mut-node.result.now c.step_node.new.node c.news_of-news.result
    (world_of c.told.new.plant (slice_set c.self.inside.nodes.items c.from.result c.step_node.new.node)) told
    (record {
      fits = c.told.ensures.fits;
      net = c.told.ensures.net ∙ ap (λ w. w.plant.net) c.self.view_is;
      events = c.told.ensures.events ∙ ap (λ w. w.plant.events) c.self.view_is;
      valid = c.step_node.ensures.valid;
    }) c.requires.asks

pub returns-clause-gave : goal.returns-clause-gave
returns-clause-gave g c =
    let took = took_one _ _ c.args.put c.args.self.now c.self.inside.plant c.self.inside.nodes.items c.args.out.now c.step_node.new.out.outs.items c.from.result c.index_mut-node.result.now c.step_node.new.node c.news_of-news.result
    c.self.view_is c.requires.valid c.requires.gift c.from.ensures c.index_mut-node.ensures.value c.step_node.ensures.took (news_read _ c.args.put _ _ _ _ (record { sfits = c.ranges.put.sfits })
    (news_by_parts _ _ _ _ c.args.out.now c.step_node.new.out c.news_of-news.result _ _ c.step_node.ensures.node c.step_node.ensures.input c.news_of-news.ensures.node c.news_of-news.ensures.ticked c.news_of-news.ensures.by
    (ap (λ v. v.items) c.news_of-news.ensures.before) (ap (λ v. v.items) c.news_of-news.ensures.after) c.states-before.ensures.states c.states-after.ensures.states)) in
    let told = told_one _ _ c.args.put c.args.self.now c.args.out.now c.step_node.new.out c.index_mut-node.result.now c.step_node.new.node c.news_of-news.result c.self.inside.plant c.told.new.plant c.self.inside.nodes.items c.from.result c.as_slice.result.now
    took c.self.view_is c.from.ensures c.step_node.ensures.node c.step_node.ensures.input c.as_slice.ensures.value c.told.ensures.is in
    gave_one _ _ c.args.put c.args.self.now c.args.out.now c.step_node.new.out c.index_mut-node.result.now c.step_node.new.node c.news_of-news.result
    (world_of c.told.new.plant (slice_set c.self.inside.nodes.items c.from.result c.step_node.new.node)) told

pub returns-clause-room : goal.returns-clause-room
returns-clause-room g c k h = c.told.ensures.room k (subst (λ w. HasRoom (k + 1) w.plant) (sym c.self.view_is) h)

pub returns-clause-laws : goal.returns-clause-laws
returns-clause-laws g c =
    let took = took_one _ _ c.args.put c.args.self.now c.self.inside.plant c.self.inside.nodes.items c.args.out.now c.step_node.new.out.outs.items c.from.result c.index_mut-node.result.now c.step_node.new.node c.news_of-news.result
    c.self.view_is c.requires.valid c.requires.gift c.from.ensures c.index_mut-node.ensures.value c.step_node.ensures.took (news_read _ c.args.put _ _ _ _ (record { sfits = c.ranges.put.sfits })
    (news_by_parts _ _ _ _ c.args.out.now c.step_node.new.out c.news_of-news.result _ _ c.step_node.ensures.node c.step_node.ensures.input c.news_of-news.ensures.node c.news_of-news.ensures.ticked c.news_of-news.ensures.by
    (ap (λ v. v.items) c.news_of-news.ensures.before) (ap (λ v. v.items) c.news_of-news.ensures.after) c.states-before.ensures.states c.states-after.ensures.states)) in
    let told = told_one _ _ c.args.put c.args.self.now c.args.out.now c.step_node.new.out c.index_mut-node.result.now c.step_node.new.node c.news_of-news.result c.self.inside.plant c.told.new.plant c.self.inside.nodes.items c.from.result c.as_slice.result.now
    took c.self.view_is c.from.ensures c.step_node.ensures.node c.step_node.ensures.input c.as_slice.ensures.value c.told.ensures.is in
    laws_next c.args.self.now (world_of c.told.new.plant (slice_set c.self.inside.nodes.items c.from.result c.step_node.new.node)) c.args.out.now.node c.index_mut-node.result.now c.step_node.new.node
    took.node_at told.nodes c.step_node.ensures.law

pub invariant_of-self : goal.invariant_of-self
invariant_of-self g c =
    let took = took_one _ _ c.args.put c.args.self.now c.self.inside.plant c.self.inside.nodes.items c.args.out.now c.step_node.new.out.outs.items c.from.result c.index_mut-node.result.now c.step_node.new.node c.news_of-news.result
    c.self.view_is c.requires.valid c.requires.gift c.from.ensures c.index_mut-node.ensures.value c.step_node.ensures.took (news_read _ c.args.put _ _ _ _ (record { sfits = c.ranges.put.sfits })
    (news_by_parts _ _ _ _ c.args.out.now c.step_node.new.out c.news_of-news.result _ _ c.step_node.ensures.node c.step_node.ensures.input c.news_of-news.ensures.node c.news_of-news.ensures.ticked c.news_of-news.ensures.by
    (ap (λ v. v.items) c.news_of-news.ensures.before) (ap (λ v. v.items) c.news_of-news.ensures.after) c.states-before.ensures.states c.states-after.ensures.states)) in
    let told = told_one _ _ c.args.put c.args.self.now c.args.out.now c.step_node.new.out c.index_mut-node.result.now c.step_node.new.node c.news_of-news.result c.self.inside.plant c.told.new.plant c.self.inside.nodes.items c.from.result c.as_slice.result.now
    took c.self.view_is c.from.ensures c.step_node.ensures.node c.step_node.ensures.input c.as_slice.ensures.value c.told.ensures.is in
    fibres_next _ _ c.args.put c.args.self.now c.args.out.now c.step_node.new.out c.index_mut-node.result.now c.step_node.new.node c.news_of-news.result
    (world_of c.told.new.plant (slice_set c.self.inside.nodes.items c.from.result c.step_node.new.node)) told c.told.ensures.fits
    (subst (λ w. KeepsFibres w.plant) c.self.view_is c.self.invariant)
