-- What is written is the `pass` that the line says.
use Rattle.std.proofs.Common.{◌≡◌, ◌∙◌, ◌<◌, ◌^◌, ℤ, Ok, Result, ap, arith, w64}
use Rattle.std.specs.Prelude.{unsigned_abs}
use Rattle.std.proofs.lemmas.Int.{fits_signed_from_abs, ints, to_z-of_z}
use Rattle.csv.specs.Records.{fields_of}
use Rattle.wrp_base.specs.declared.fault.TraceFault.{TraceFault}
use Rattle.wrp_trace.specs.Events.{pass_of, told_in}
use Rattle.wrp_trace.proofs.PlaceLemmas.{on_ok, pass_comes, pass_read}
use Rattle.wrp_trace.proofs.events.place.pass_into.Goals as goal

abbrev spans : ℤ → Result ℤ TraceFault
spans z = Ok z

read : (c : goal.After-changes_into) → told_in c.changes_into.result c.changes_into.new.event ≡ pass_of c.args.cfg.now (fields_of c.args.row.now)
read c =
    let range = c.in_ok-span.ensures.range in
    let small : unsigned_abs c.in_ok-span.span < 2 ^ 63 = omega (arith, ints, range.0, range.1) in
    let same = to_z-of_z w64 c.in_ok-span.span (fits_signed_from_abs w64 c.in_ok-span.span small) in
    pass_read c.args.cfg.now (fields_of c.args.row.now) c.changes_into.new.marks c.changes_into.new.event c.changes_into.result c.changes_into.ensures.passing
    (ap spans (c.changes_into.ensures.span ∙ c.write_span.ensures.span ∙ same) ∙ c.in_ok-span.ensures.value) c.changes_into.ensures.value

pub returns-clause-value : goal.returns-clause-value
returns-clause-value c = read c

pub returns-clause-event : goal.returns-clause-event
returns-clause-event c =
    on_ok c.changes_into.result _ (λ u is. pass_comes c.args.cfg.now (fields_of c.args.row.now) c.changes_into.new.marks c.changes_into.new.event c.changes_into.result u c.changes_into.ensures.passing (read c) is)
