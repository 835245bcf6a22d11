-- Nothing moves, and nothing is marked.
use Rattle.std.proofs.Common.{◌∙◌, ap, map, pos}
use Rattle.wrp_trace.proofs.PlaceLemmas.{nothing_holds}
use Rattle.wrp_trace.proofs.events.place.still.Goals as goal

pub returns : goal.returns
returns c =
    nothing_holds c.args.cfg.now c.args.marks.now (pos 1) c.still_clocks-drifts.result c.still_fibres-fibres.result c.requires.found c.requires.nodes c.requires.links
    (c.still_clocks-drifts.ensures ∙ ap (map (λ node. pos 0)) c.deref.ensures.0) (c.still_fibres-fibres.ensures ∙ ap (map (λ link. (pos 0, pos 0))) c.deref-2.ensures.0)
