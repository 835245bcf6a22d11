-- What is said already, what is said once, and what is no number.
use Rattle.std.proofs.Common.{◌∙◌, ◌<◌, ◌^◌, Some, ap, arith, slice_set, sym, w64}
use Rattle.std.specs.Prelude.{unsigned_abs}
use Rattle.std.proofs.lemmas.Int.{fits_signed_from_abs, to_z-of_z}
use Rattle.wrp_trace.specs.Changes.{change_in}
use Rattle.wrp_trace.specs.Places.{drifts_in, said_in}
use Rattle.wrp_trace.proofs.PlaceLemmas.{none_in, once_in, twice_in}
use Rattle.wrp_trace.proofs.events.marks.Marks.take_drift.Goals as goal

pub returns-then-is_marked-clause-value : goal.returns-then-is_marked-clause-value
returns-then-is_marked-clause-value c =
    twice_in c.args.self.now.nodes.items c.deref.result.now (drifts_in c.args.event.now) c.args.place c.args.n (change_in c.args.text.now) c.is_marked.result c.name_fault.result
    c.requires.marks c.requires.drifts c.deref.ensures.0 c.is_marked.ensures c.if-is_marked.true c.name_fault.ensures

pub returns-in-Some-clause-value : goal.returns-in-Some-clause-value
returns-in-Some-clause-value c =
    let range = c.in-Some.ensures.range in
    let small : unsigned_abs c.in-Some.drift < 2 ^ 63 = omega (arith, range) in
    let same = to_z-of_z w64 c.in-Some.drift (fits_signed_from_abs w64 c.in-Some.drift small) in
    once_in c.args.self.now.nodes.items c.deref.result.now (drifts_in c.args.event.now) _ c.args.place c.args.n (change_in c.args.text.now) c.in-Some.drift c.is_marked.result
    c.requires.marks c.requires.drifts c.deref.ensures.0 c.is_marked.ensures c.if-is_marked.false (sym c.change_in.ensures.value ∙ c.in-Some.is) (c.put_drift.ensures.said ∙ ap (λ z. slice_set (said_in c.args.self.now.nodes.items (drifts_in c.args.event.now)) c.args.n (Some z)) same)

pub returns-in-None-clause-value : goal.returns-in-None-clause-value
returns-in-None-clause-value c =
    none_in c.args.self.now.nodes.items c.deref.result.now (drifts_in c.args.event.now) c.args.place c.args.n (change_in c.args.text.now) c.is_marked.result c.number_fault.result
    c.requires.marks c.requires.drifts c.deref.ensures.0 c.is_marked.ensures c.if-is_marked.false (sym c.change_in.ensures.value ∙ c.in-None.is) c.number_fault.ensures
