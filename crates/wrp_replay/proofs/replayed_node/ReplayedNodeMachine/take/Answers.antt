-- The replay goes on with an input, or the line is refused.
use Rattle.std.proofs.Common.{◌∙◌, Err, refl, sym}
use Rattle.std.proofs.lemmas.Result.{IfOk-weaker}
use Rattle.wrp_trace.specs.LineSetting.{line_setting_of}
use Rattle.wrp_replay.proofs.BareSetting.{read_bare}
use Rattle.wrp_trace.proofs.ReadingLemmas.{is_reading}
use Rattle.wrp_trace.proofs.ReadInto.{read_into, fault_into}
use Rattle.wrp_replay.proofs.GoingOn.{goes_on, refuses_so, taken_with}
use Rattle.wrp_replay.proofs.replayed_node.ReplayedNodeMachine.take.Goals as goal

pub returns-in_ok-write-in-Ok-clause-accepted : goal.returns-in_ok-write-in-Ok-clause-accepted
returns-in_ok-write-in-Ok-clause-accepted g c = λ lines before is taken accepted.
    let read = read_into _ _ _ _ _ c.in-Ok.ensures.value refl in
    goes_on c.one_run.ensures.run c.one_run.ensures.node (record c.args.self.now { input = c.read_parts.new.input }) c.write.new.self lines
    c.args.line.now before c.write.new.text.items c.read_parts.new.input
    (read_bare (line_setting_of c.args.self.now.replayed.net.now c.args.self.now.replayed.node) c.args.line.now ∙ sym read)
    c.write.ensures.same c.in_ok-write-in-Ok.ensures.took (taken_with c.args.self.now c.read_parts.new.input lines taken) accepted

pub returns-in-Err-clause-refused : goal.returns-in-Err-clause-refused
returns-in-Err-clause-refused g c = λ lines refusal.
    IfOk-weaker c.refuse.result _ _
    (λ taken tells is has counts. refuses_so (line_setting_of c.args.self.now.replayed.net.now c.args.self.now.replayed.node) lines c.args.line.now
    c.args.text.now.items c.refuse.new.text.items
    c.args.number c.in-Err.fault taken refusal tells c.requires.none
    (is_reading _ (Err c.in-Err.fault) (fault_into _ _ _ _ _ c.in-Err.ensures.value refl)) is counts)
    c.refuse.ensures
