-- Each step has its lines.
use Rattle.std.proofs.Common.{◌++◌, ◌∙◌, ap, sym, ℕ, List}
use Rattle.std.proofs.lemmas.List.Folds.{flat_map-map}
use Rattle.wrp_course.specs.declared.node_out.NodeOut.{NodeOut}
use Rattle.wrp_world.specs.Step.{step_seen}
use Rattle.wrp_audit.specs.AuditStands.{line_by}
use Rattle.wrp_replay.proofs.CountLemmas.{lacks_less, lacks_none}
use Rattle.wrp_audit.proofs.audit.append_steps.Goals as goal

pub loop-out-init : goal.loop-out-init
loop-out-init g c = λ s w stands.
    ap (λ (t : List ℕ). c.args.text.now.items ++ t) (sym (flat_map-map (line_by c.args.emit s w) step_seen c.args.outs.now))

pub loop-out-preserved : goal.loop-out-preserved
loop-out-preserved g c = λ s w stands.
    lacks_less
    (λ out. line_by c.args.emit s w (step_seen out)) c.args.outs.now c.loop-out.out-index c.out-item.result c.loop-out.text.items c.append_one.new.text.items _
    c.loop-out-test.true (c.loop-out.invariant s w stands)
    (c.in_ok-append_one.ensures s w stands ∙ ap (λ (out : NodeOut). c.loop-out.text.items ++ line_by c.args.emit s w (step_seen out)) c.out-item.is)

pub returns : goal.returns
returns g c = λ s w stands.
    lacks_none (λ out. line_by c.args.emit s w (step_seen out)) c.args.outs.now c.loop-out.out-index c.loop-out.text.items _
    c.loop-out-test.false (c.loop-out.invariant s w stands)
