-- What a command does to the true offset, and why a report holds until the next tick.
use Rattle.std.proofs.Common.{◌≡◌, ◌∙◌, ap, sym, subst, refl, append-nil, ℕ, ℤ, pos, neg_ℤ, ◌+◌, ◌≤◌, ◌≤ℤ◌, ◌+ℤ◌, ◌-ℤ◌, unsigned_abs, List, [], ◌∷◌, ◌++◌, take, All, IfSome, Option, None, Some, arith}
use Rattle.std.proofs.lemmas.Int.{ints, clamps}
use Rattle.std.proofs.lemmas.List.Elements.{All-contains, All-map, All-take, All-weaker}
use Rattle.wrp_base.specs.Held.{held_within}
use Rattle.wrp_base.proofs.Integers.{int_plus_zero}
use Rattle.wrp_plain.specs.declared.settings.PlainReport.{PlainReport}
use Rattle.wrp_plain.specs.declared.settings.PlainSet.{PlainSet}
use Rattle.wrp_plain.specs.declared.event.PlainEvent.{PlainEvent}
use Rattle.wrp_plain.specs.declared.event.PlainEvent.TheVariants.{Pass, Tick, Exch}
use Rattle.wrp_plain.specs.Call.{Call, Standing, standings}
use Rattle.wrp_plain.specs.Event.{drifts, time_since_tick}
use Rattle.wrp_plain.specs.Measurement.{HasRanges}
use Rattle.wrp_plain.specs.Premises.{Accepts}
use Rattle.wrp_plain.specs.Report.{is_least, kept_reports, least_report, report_at, report_of}
use Rattle.wrp_plain.specs.Seen.{calls_of, command_against, commands, offset_before_command, report_due, seen_of, told_by, true_offset}
use Rattle.wrp_plain.specs.Steered.{AreSteered, HasNoTick, IsCommanded, IsLeft, IsSteeredAt, IsStepAgainst, ReportsHoldUntilTick, moved_in, moved_with}
use Rattle.wrp_plain.specs.World.{IsWithinBound}
use Rattle.wrp_plain.proofs.Judged.{KeepsPass, keeps_pass}
use Rattle.wrp_plain.proofs.LineRanges.{start_ranges}
use Rattle.wrp_plain.proofs.Marks.{moved_by}
use Rattle.wrp_plain.proofs.Near.{IsNear, drifted, near-command, near-pass, near_told, since_small, steered}
use Rattle.wrp_plain.proofs.Worth.{found, within}

-- ---- a command

pub step_against : (step est : ℤ) → pos 1 ≤ℤ step → IsStepAgainst step est (held_within step (neg_ℤ est))
step_against step est h = record {
  whole = λ low high. omega (arith, ints, clamps);
  above = λ more. omega (arith, ints, clamps);
  below = λ less. omega (arith, ints, clamps);
}

commanded_so : (set : PlainSet) (o : Option PlainReport) → pos 1 ≤ℤ set.step → IfSome o (λ report. IsStepAgainst set.step report.est (command_against set o))
commanded_so set None h = tt
commanded_so set (Some report) h = step_against set.step report.est h

pub commanded : (set : PlainSet) (off : ℤ) (before : List PlainEvent) (event : PlainEvent) → HasRanges set →
    IsCommanded set event (seen_of set off before event)
commanded set off before (Pass dt drift) ranges = refl
commanded set off before Tick ranges = refl
commanded set off before (Exch span dms dsm o2 o3 t) ranges =
    commanded_so set (report_of set (told_by (Exch span dms dsm o2 o3 t) (calls_of set before))) ranges.step.0

-- the true offset moves by it
pub moves : (set : PlainSet) (off : ℤ) (before : List PlainEvent) (event : PlainEvent) →
    true_offset set off (event ∷ before) ≡ offset_before_command set off before event +ℤ (seen_of set off before event).command
moves set off before (Pass dt drift) = sym (int_plus_zero (offset_before_command set off before (Pass dt drift)))
moves set off before Tick = sym (int_plus_zero (offset_before_command set off before Tick))
moves set off before (Exch span dms dsm o2 o3 t) =
    sym (steered off (drifts before) (commands (calls_of set before))
    (command_against set (report_of set (told_by (Exch span dms dsm o2 o3 t) (calls_of set before)))))

-- the commands that the servo gave are the commands that the events give
command_more : (set : PlainSet) (off : ℤ) (before : List PlainEvent) (event : PlainEvent) →
    commands (calls_of set (event ∷ before)) ≡ commands (calls_of set before) +ℤ (seen_of set off before event).command
command_more set off before (Pass dt drift) = sym (int_plus_zero (commands (calls_of set before)))
command_more set off before Tick = sym (int_plus_zero (commands (calls_of set before)))
command_more set off before (Exch span dms dsm o2 o3 t) = refl

commands_told : (set : PlainSet) (off : ℤ) (events : List PlainEvent) → commands (calls_of set events) ≡ moved_in set off events []
commands_told set off [] = refl
commands_told set off (event ∷ before) =
    command_more set off before event
    ∙ ap (λ (m : ℤ). m +ℤ (seen_of set off before event).command) (commands_told set off before)
    ∙ ap (λ (es : List PlainEvent). moved_in set off before [] +ℤ (seen_of set off es event).command) (sym (append-nil before))

-- ---- a measurement, while no tick comes

assoc : (a b c : ℤ) → (a +ℤ b) +ℤ c ≡ a +ℤ (b +ℤ c)
assoc a b c = omega (arith, ints)

-- a mark that is moved
abbrev at : Standing → ℤ → Standing
at mark est = record mark { est = est }

near_same : (set : PlainSet) (since : ℕ) (mark : Standing) (off now est moved : ℤ) → off ≡ now → est ≡ moved →
    IsNear set off since (at mark est) → IsNear set now since (at mark moved)
near_same set since mark off now est moved same so near =
    subst (λ (a : ℤ). IsNear set a since (at mark moved)) same (subst (λ (e : ℤ). IsNear set off since (at mark e)) so near)

near_later : (set : PlainSet) (off : ℤ) (later base : List PlainEvent) (mark : Standing) → HasNoTick later → Accepts set off (later ++ base) →
    IsNear set (true_offset set off base) (time_since_tick base) mark →
    IsNear set (true_offset set off (later ++ base)) (time_since_tick (later ++ base)) (moved_by (moved_in set off later base) mark)
near_later set off [] base mark none accepted near =
    near_same set (time_since_tick base) mark (true_offset set off base) (true_offset set off base) mark.est (mark.est +ℤ pos 0) refl
    (sym (int_plus_zero mark.est)) near
near_later set off (Pass dt drift ∷ later) base mark none (fields, kept, before) near =
    let events : List PlainEvent = later ++ base in
    let now : ℤ = true_offset set off events in
    let moved : ℤ = moved_in set off later base in
    let keeps : KeepsPass set (time_since_tick events) dt drift = keeps_pass set now (time_since_tick events) dt drift kept in
    near_same set (unsigned_abs dt + time_since_tick events) mark (now +ℤ drift) (true_offset set off (Pass dt drift ∷ events))
    (mark.est +ℤ moved) (mark.est +ℤ (moved +ℤ pos 0))
    (drifted off (drifts events) drift (commands (calls_of set events)))
    (ap (λ (a : ℤ). mark.est +ℤ a) (sym (int_plus_zero moved)))
    (near-pass set now (time_since_tick events) dt drift keeps (moved_by moved mark) (near_later set off later base mark none before near))
near_later set off (Tick ∷ later) base mark none accepted near = absurd none
near_later set off (Exch span dms dsm o2 o3 t ∷ later) base mark none (fields, kept, before) near =
    let event : PlainEvent = Exch span dms dsm o2 o3 t in
    let events : List PlainEvent = later ++ base in
    let now : ℤ = true_offset set off events in
    let moved : ℤ = moved_in set off later base in
    let by : ℤ = command_against set (report_of set (told_by event (calls_of set events))) in
    near_same set (time_since_tick events) mark (now +ℤ by) (true_offset set off (event ∷ events))
    ((mark.est +ℤ moved) +ℤ by) (mark.est +ℤ (moved +ℤ by))
    (steered off (drifts events) (commands (calls_of set events)) by)
    (assoc mark.est moved by)
    (near-command set now by (time_since_tick events) (moved_by moved mark) (near_later set off later base mark none before near))

-- the report of a measurement that is kept at an event holds after it
mark_holds : (set : PlainSet) (off : ℤ) (before : List PlainEvent) (event : PlainEvent) (later : List PlainEvent) →
    HasNoTick later → Accepts set off (later ++ event ∷ before) → (mark : Standing) →
    IsNear set (offset_before_command set off before event) (time_since_tick (event ∷ before)) mark →
    IsWithinBound (true_offset set off (later ++ event ∷ before))
    (moved_with ((seen_of set off before event).command +ℤ moved_in set off later (event ∷ before)) (report_at set mark))
mark_holds set off before event later none accepted mark near =
    let events : List PlainEvent = later ++ event ∷ before in
    let by : ℤ = (seen_of set off before event).command in
    let moved : ℤ = moved_in set off later (event ∷ before) in
    let base : IsNear set (true_offset set off (event ∷ before)) (time_since_tick (event ∷ before)) (moved_by by mark) =
    near_same set (time_since_tick (event ∷ before)) mark (offset_before_command set off before event +ℤ by)
    (true_offset set off (event ∷ before)) (mark.est +ℤ by) (mark.est +ℤ by)
    (sym (moves set off before event)) refl
    (near-command set (offset_before_command set off before event) by (time_since_tick (event ∷ before)) mark near) in
    let now : IsNear set (true_offset set off events) (time_since_tick events) (at mark (mark.est +ℤ (by +ℤ moved))) =
    near_same set (time_since_tick events) mark (true_offset set off events) (true_offset set off events) ((mark.est +ℤ by) +ℤ moved)
    (mark.est +ℤ (by +ℤ moved)) refl (assoc mark.est by moved)
    (near_later set off later (event ∷ before) (moved_by by mark) none accepted base) in
    within set (true_offset set off events) (time_since_tick events) (since_small set off events accepted) (at mark (mark.est +ℤ (by +ℤ moved))) now

-- ---- a report

-- what holds of all reports holds of the expected one
due_so : (P : PlainReport → Type 0) (reports : List PlainReport) → All P reports → (o : Option PlainReport) → least_report reports ≡ o → IfSome o P
due_so P reports all None e = tt
due_so P reports all (Some report) e = All-contains P reports report all (found (is_least reports) reports report e)

due_event : (P : PlainReport → Type 0) (set : PlainSet) (event : PlainEvent) (calls : List Call) → All P (kept_reports set calls) →
    IfSome (report_due set event calls) P
due_event P set (Pass dt drift) calls all = tt
due_event P set Tick calls all = due_so P (kept_reports set calls) all (report_of set calls) refl
due_event P set (Exch span dms dsm o2 o3 t) calls all = due_so P (kept_reports set calls) all (report_of set calls) refl

pub holds : (set : PlainSet) (off : ℤ) (before : List PlainEvent) (event : PlainEvent) → Accepts set off (event ∷ before) → (later : List PlainEvent) →
    HasNoTick later → Accepts set off (later ++ event ∷ before) →
    IfSome (seen_of set off before event).report
    (λ report. IsWithinBound (true_offset set off (later ++ event ∷ before))
    (moved_with ((seen_of set off before event).command +ℤ moved_in set off later (event ∷ before)) report))
holds set off before event kept later none accepted =
    let calls : List Call = told_by event (calls_of set before) in
    let by : ℤ = (seen_of set off before event).command +ℤ moved_in set off later (event ∷ before) in
    let now : ℤ = true_offset set off (later ++ event ∷ before) in
    due_event (λ report. IsWithinBound now (moved_with by report)) set event calls
    (All-map (λ report. IsWithinBound now (moved_with by report)) (report_at set) (take set.ring (standings set calls))
    (All-take (λ mark. IsWithinBound now (moved_with by (report_at set mark))) set.ring (standings set calls)
    (All-weaker (IsNear set (offset_before_command set off before event) (time_since_tick (event ∷ before)))
    (λ mark. IsWithinBound now (moved_with by (report_at set mark)))
    (mark_holds set off before event later none accepted) (standings set calls)
    (near_told set off before kept.2 event kept.0 kept.1))))

-- ---- what is left

left_of : (est by off : ℤ) (bound : ℤ) → by ≡ neg_ℤ est → pos (unsigned_abs ((est +ℤ (by +ℤ pos 0)) -ℤ off)) ≤ℤ bound → pos (unsigned_abs off) ≤ℤ bound
left_of est by off bound e h = omega (arith, ints)

left_so : (set : PlainSet) (off by : ℤ) (o : Option PlainReport) → IfSome o (λ report. IsStepAgainst set.step report.est by) →
    IfSome o (λ report. IsWithinBound off (moved_with (by +ℤ pos 0) report)) →
    IfSome o (λ report. neg_ℤ set.step ≤ℤ report.est → report.est ≤ℤ set.step → pos (unsigned_abs off) ≤ℤ report.bound)
left_so set off by None step holds = tt
left_so set off by (Some report) step holds = λ low high. left_of report.est by off report.bound (step.whole low high) holds

left : (set : PlainSet) (off : ℤ) (before : List PlainEvent) (event : PlainEvent) → HasRanges set → Accepts set off (event ∷ before) →
    IsLeft set event (seen_of set off before event) (true_offset set off (event ∷ before))
left set off before (Pass dt drift) ranges kept = tt
left set off before Tick ranges kept = tt
left set off before (Exch span dms dsm o2 o3 t) ranges kept =
    let event : PlainEvent = Exch span dms dsm o2 o3 t in
    left_so set (true_offset set off (event ∷ before)) (seen_of set off before event).command (seen_of set off before event).report
    (commanded set off before event ranges) (holds set off before event kept [] tt kept)

-- ---- all events

steered_at : (set : PlainSet) (off : ℤ) (before : List PlainEvent) (event : PlainEvent) → HasRanges set → Accepts set off (event ∷ before) →
    IsSteeredAt set off before event
steered_at set off before event ranges kept = record {
  offset = ap (λ (m : ℤ). (off +ℤ drifts (event ∷ before)) +ℤ m) (commands_told set off before);
  commanded = commanded set off before event ranges;
  moves = moves set off before event;
  left = left set off before event ranges kept;
  holds = holds set off before event kept;
}

pub all_steered : (set : PlainSet) (off : ℤ) (events : List PlainEvent) → HasRanges set → Accepts set off events → AreSteered set off events
all_steered set off [] ranges accepted = tt
all_steered set off (event ∷ before) ranges accepted = (steered_at set off before event ranges accepted, all_steered set off before ranges accepted.2)

-- whatever the records say
pub reports_hold_until_tick_holds : ReportsHoldUntilTick
reports_hold_until_tick_holds first lines start events course = all_steered start.set start.off events (start_ranges first start course.starts) course.kept
