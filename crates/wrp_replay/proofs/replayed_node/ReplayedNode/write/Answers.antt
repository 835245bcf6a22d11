-- The input is one that the node can take, and the lines are the lines of what it puts out.
use Rattle.std.proofs.Common.{rules}
use Rattle.std.proofs.lemmas.Int.{to_z-of_z}
use Rattle.std.proofs.lemmas.Result.{IfOk-weaker}
use Rattle.wrp_trace.specs.LineSetting.{line_setting_of}
use Rattle.wrp_replay.proofs.GoingOn.{fits_input, tick_more, took_input}
use Rattle.wrp_replay.proofs.replayed_node.ReplayedNode.write.Goals as goal

pub step_into-requires-clause-input : goal.step_into-requires-clause-input
step_into-requires-clause-input g c =
    fits_input (line_setting_of c.args.self.now.replayed.net.now c.args.self.now.replayed.node) c.args.self.now.node c.args.self.now.input
    c.requires.ready.ports c.requires.room c.requires.input

pub returns-clause-count : goal.returns-clause-count
returns-clause-count g c =
    let valid = c.requires.ready.valid in
    tick_more valid.fixed c.args.self.now.node c.step_into.new.self valid.inputs c.args.self.now.input c.step_into.new.outs.items valid.stands c.step_into.ensures.took

pub returns-clause-took : goal.returns-clause-took
returns-clause-took g c =
    IfOk-weaker c.append_outputs.result _ _
    (λ x wrote. took_input c.args.self.now c.step_into.new.self c.args.self.now.input c.step_into.new.outs.items c.deref.result.now c.ticks-ticks.result _ c.args.text.now.items c.append_outputs.new.text.items
    c.requires.ready c.step_into.ensures.took c.step_into.ensures.law c.ticks-ticks.ensures.run c.requires.none c.deref.ensures.0 (search (to_z-of_z, rules)) wrote)
    c.append_outputs.ensures
