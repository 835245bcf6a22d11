use Rattle.std.proofs.Common.{◌∙◌, ap}
use Rattle.wrp_course.specs.Setting.{end_at}
use Rattle.wrp_changes.proofs.Arriving.{samples_at_end, samples_of}
use Rattle.wrp_changes.proofs.moves.arrivals.samples_past.Goals as goal

pub returns : goal.returns
returns c s w h =
    samples_at_end w (end_at s c.args.from.link c.other_of.result) c.node_at-n.result c.clock.result.now.samples (c.node_at-n.ensures.value s w h)
    (ap (λ k. k.samples) (c.clock.ensures.value s w h))
    ∙ ap (λ r. samples_of w (end_at s c.args.from.link r)) c.other_of.ensures
