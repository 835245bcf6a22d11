-- A field that says nothing is the fault of all fields.
use Rattle.std.proofs.Common.{◌∙◌, ◌<◌, length, sym, ap, arith}
use Rattle.csv.specs.Records.{fields_of}
use Rattle.wrp_trace.specs.Swaps.{swap_said}
use Rattle.wrp_trace.proofs.SwapLemmas.{stops}
use Rattle.wrp_trace.proofs.events.swaps.swaps_at.Goals as goal

pub returns-in-Err-clause-value : goal.returns-in-Err-clause-value
returns-in-Err-clause-value c =
    let fields = fields_of c.args.row.now in
    let below : c.loop-at.at < length fields = omega (arith, c.loop-at-test.true, c.len-at-end.ensures) in
    sym (c.loop-at.invariant.0 ∙ stops fields c.loop-at.at c.place_of-place.result c.loop-at.swaps.items c.field.result.now c.in-Err.fault below c.place_of-place.ensures c.field.ensures
    (c.in-Err.ensures.value ∙ ap (λ swaps. swap_said c.place_of-place.result swaps c.field.result.now) c.deref.ensures.0))
