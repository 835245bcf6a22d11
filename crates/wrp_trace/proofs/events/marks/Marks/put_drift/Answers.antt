-- It is also said, and the other clocks are as before.
use Rattle.std.proofs.Common.{◌∙◌, ap, refl, slice_set, w64}
use Rattle.std.proofs.lemmas.Int.{to_z-of_z}
use Rattle.wrp_trace.specs.Places.{drifts_in}
use Rattle.wrp_trace.proofs.PlaceLemmas.{put_clocks, put_said}
use Rattle.wrp_trace.proofs.events.marks.Marks.put_drift.Goals as goal

pub returns-clause-said : goal.returns-clause-said
returns-clause-said c =
    put_said c.args.self.now.nodes.items c.set_mark.new.marks.items (drifts_in c.args.event.now) (drifts_in c.write_drift.new.event) c.args.n c.from.result c.from-2.result c.args.drift
    c.from.ensures c.from-2.ensures c.requires.marks c.requires.drifts c.set_mark.ensures (c.write_drift.ensures.set ∙ ap (λ z. slice_set (drifts_in c.args.event.now) c.from.result z) (to_z-of_z w64 c.args.drift c.ranges.drift))

pub returns-clause-clocks : goal.returns-clause-clocks
returns-clause-clocks c =
    put_clocks c.args.self.now _ c.args.event.now c.write_drift.new.event c.args.n c.from.result c.from-2.result c.args.drift
    c.from.ensures c.from-2.ensures c.requires.rest c.write_drift.ensures.only refl refl c.set_mark.ensures (c.write_drift.ensures.set ∙ ap (λ z. slice_set (drifts_in c.args.event.now) c.from.result z) (to_z-of_z w64 c.args.drift c.ranges.drift))
