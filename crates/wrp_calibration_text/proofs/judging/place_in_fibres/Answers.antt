use Rattle.std.proofs.Common.{◌≡◌, ℕ, List, None, map, take, sym}
use Rattle.toml.specs.Data.{Data}
use Rattle.toml.specs.View.{view, table_view}
use Rattle.wrp_caldb.specs.Calibration.{place_in_fibre}
use Rattle.wrp_caldb.specs.Refusal.{first_among, on_table}
use Rattle.wrp_calibration_text.proofs.Passes.{none_in_table, none_beside, passed, met_next}
use Rattle.wrp_calibration_text.proofs.judging.place_in_fibres.Goals.{in-Some+in_default-place_in_fibre, in_default}
use Rattle.wrp_calibration_text.proofs.judging.place_in_fibres.Goals as goal

pub loop-i-preserved : goal.loop-i-preserved
loop-i-preserved c =
    let all : List Data = map view c.args.fibres.now in
    let i = c.loop-i.i in
    let value = c.index-fibres-i.result in
    let here = place_in_fibre c.args.code all i in
    let none : on_table here (view value) ≡ None
    = elim c.match-as_table.branch [
      | in-Some+in_default-place_in_fibre w ↦
          let told = c.in_ok-repeats.ensures.before (take i all) (table_view w.in-Some.fibre.now) c.loop-i.invariant.1 (sym w.in-Some.ensures) in
          none_in_table here (view value) (table_view w.in-Some.fibre.now) w.in-Some.ensures (w.in_default-place_in_fibre.ensures all told)
      | in_default w ↦ none_beside here (view value) w.in_default.ensures
    ] in
    let place = λ (n : ℕ) (d : Data). on_table (place_in_fibre c.args.code all n) d in (
      passed place c.args.fibres.now i value (first_among place 0 all) c.loop-i-test.true c.index-fibres-i.is none c.loop-i.invariant.0,
      met_next c.args.code c.is_repeat.new.names c.args.fibres.now i value c.loop-i-test.true c.index-fibres-i.is
          (c.in_ok-repeats.ensures.noted (take i all) c.loop-i.invariant.1),
    )
