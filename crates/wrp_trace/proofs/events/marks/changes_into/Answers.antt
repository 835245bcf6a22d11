-- A field that says nothing is the fault of all fields, and each other field says something of one
-- more.
use Rattle.std.proofs.Common.{◌∙◌, ◌≡◌, ◌<◌, ap, drop, length, sym, arith}
use Rattle.csv.specs.Records.{fields_of}
use Rattle.wrp_trace.specs.Changes.{changes_said, said_count}
use Rattle.wrp_trace.specs.Places.{drifts_in, moves_in, said_by}
use Rattle.wrp_trace.proofs.ChangeLemmas.{goes, none_said, stops}
use Rattle.wrp_trace.proofs.PlaceLemmas.{change_counts, few_by}
use Rattle.wrp_trace.proofs.events.marks.changes_into.Goals as goal

pub loop-at-init : goal.loop-at-init
loop-at-init c =
    let none = c.forget.ensures.none in
    let zero : said_count (said_by c.forget.new.self (drifts_in c.forget.new.event) (moves_in c.forget.new.event)) ≡ 0 = ap said_count none ∙ none_said c.args.cfg.now in (
      ap (λ said. changes_said c.args.cfg.now 3 said (drop 2 (fields_of c.args.row.now))) (sym none),
      c.forget.ensures.passing,
      omega (arith, zero),
      c.forget.ensures.span,
    )

pub place_of-place-requires : goal.place_of-place-requires
place_of-place-requires c =
    let most = few_by c.args.cfg.now c.loop-at.marks (drifts_in c.loop-at.event) (moves_in c.loop-at.event) c.loop-at.invariant.1.holds c.room.ensures.nodes c.room.ensures.links in
    let count = c.loop-at.invariant.2 in
    omega (arith, most, count)

pub loop-at-preserved : goal.loop-at-preserved
loop-at-preserved c =
    let fields = fields_of c.args.row.now in
    let said = said_by c.loop-at.marks (drifts_in c.loop-at.event) (moves_in c.loop-at.event) in
    let more = said_by c.take.new.self (drifts_in c.take.new.event) (moves_in c.take.new.event) in
    let below : c.loop-at.at < length fields = omega (arith, c.loop-at-test.true, c.len-at-end.ensures) in
    let one = change_counts c.args.cfg.now c.place_of-place.result c.loop-at.marks (drifts_in c.loop-at.event) (moves_in c.loop-at.event) more c.field.result.now c.loop-at.invariant.1.holds c.in-Ok.ensures.value in
    let count = c.loop-at.invariant.2 in (
      c.loop-at.invariant.0 ∙ goes c.args.cfg.now fields c.loop-at.at c.place_of-place.result said more c.field.result.now below c.place_of-place.ensures c.field.ensures c.in-Ok.ensures.value,
      c.take.ensures.passing,
      omega (arith, one, count),
      c.take.ensures.span ∙ c.loop-at.invariant.3,
    )

pub returns-in-Err-clause-value : goal.returns-in-Err-clause-value
returns-in-Err-clause-value c =
    let fields = fields_of c.args.row.now in
    let below : c.loop-at.at < length fields = omega (arith, c.loop-at-test.true, c.len-at-end.ensures) in
    sym (c.loop-at.invariant.0 ∙ stops c.args.cfg.now fields c.loop-at.at c.place_of-place.result (said_by c.loop-at.marks (drifts_in c.loop-at.event) (moves_in c.loop-at.event)) c.field.result.now c.in-Err.fault below c.place_of-place.ensures c.field.ensures c.in-Err.ensures.value)
