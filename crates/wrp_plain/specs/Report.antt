-- The report of a plain servo: of the measurements that are kept, the one with the least bound (this project's profile).
use Rattle.std.specs.Prelude.{ℤ, pos, neg_ℤ, ◌+◌, ◌*◌, ◌+ℤ◌, unsigned_abs, int_lt, Bool, not, List, map, take, find, Option}
use Rattle.std.specs.List.{list_all}
use Rattle.wrp_base.specs.Held.{held_within}
use Rattle.wrp_plain.specs.declared.settings.PlainSet.{PlainSet}
use Rattle.wrp_plain.specs.declared.settings.PlainReport.{PlainReport}
use Rattle.wrp_plain.specs.Measurement.{moves_within}
use Rattle.wrp_plain.specs.Call.{Call, Standing, standings}

-- what a measurement reports now: since it, the offset may have moved for all the ticks since and one more
abbrev pub report_at : PlainSet → Standing → PlainReport
report_at set mark = record {
  est = mark.est;
  bound = mark.base +ℤ pos (moves_within set.rate ((mark.ticks + 1) * unsigned_abs set.dmax));
}

-- what the kept measurements report, the newest first: the last `ring` ones are kept
abbrev pub kept_reports : PlainSet → List Call → List PlainReport
kept_reports set calls = map (report_at set) (take set.ring (standings set calls))

-- no report of the list has a lesser bound
abbrev pub is_least : List PlainReport → PlainReport → Bool
is_least reports r = list_all (λ s. not (int_lt s.bound r.bound)) reports

-- the first report of the least bound
abbrev pub least_report : List PlainReport → Option PlainReport
least_report reports = find (is_least reports) reports

-- the report that is expected after these calls: of equals the newest
abbrev pub report_of : PlainSet → List Call → Option PlainReport
report_of set calls = least_report (kept_reports set calls)

-- the command after a report: its offset negated, held within the greatest step
abbrev pub command_of : PlainSet → PlainReport → ℤ
command_of set report = held_within set.step (neg_ℤ report.est)
