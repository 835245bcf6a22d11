-- The printed lines of reports and steps hold until the next tick.
use Rattle.std.proofs.Common.{◌≡◌, ◌≢◌, ◌∙◌, ap, sym, subst, refl, append_assoc, ◌⊎◌, inl, inr, ℕ, zero, suc, ℤ, pos, neg_ℤ, ◌+◌, ◌≤◌, ◌≤ℤ◌, ◌+ℤ◌, ◌-ℤ◌, unsigned_abs, List, [], ◌∷◌, ◌++◌, map, take, IfSome, IsSome, Option, None, Some, arith}
use Rattle.std.proofs.lemmas.Int.{ints}
use Rattle.wrp_base.proofs.Integers.{int_plus_zero}
use Rattle.wrp_plain.specs.declared.settings.PlainReport.{PlainReport}
use Rattle.wrp_plain.specs.declared.settings.PlainSet.{PlainSet}
use Rattle.wrp_plain.specs.declared.event.PlainEvent.{PlainEvent}
use Rattle.wrp_plain.specs.declared.event.PlainEvent.TheVariants.{Pass, Tick, Exch}
use Rattle.wrp_plain.specs.declared.event.PlainSeen.{PlainSeen}
use Rattle.wrp_plain.specs.Call.{Call, CallTick, Standing, standings}
use Rattle.wrp_plain.specs.LineText.{event_text, events_text, report_line, report_text, step_text, tick_count}
use Rattle.wrp_plain.specs.Measurement.{HasRanges}
use Rattle.wrp_plain.specs.Premises.{Accepts}
use Rattle.wrp_plain.specs.Report.{least_report, report_at, report_of}
use Rattle.wrp_plain.specs.Said.{AreSaidTruly, Said, StaysWithin, said_text}
use Rattle.wrp_plain.specs.Seen.{calls_of, seen_of, true_offset}
use Rattle.wrp_plain.specs.Steered.{HasNoTick, IsStepAgainst, moved_in, moved_with}
use Rattle.wrp_plain.specs.World.{IsWithinBound, TellsTruth}
use Rattle.wrp_plain.proofs.Least.{least_report_some}
use Rattle.wrp_plain.proofs.Marks.{later, marks_before-tick}
use Rattle.wrp_plain.proofs.Steering.{commanded, holds}
use Rattle.wrp_plain.proofs.Worth.{some_kept, tells_truth}

-- ---- what events say

abbrev pub said_one : ℕ → PlainReport → ℤ → ℤ → Said
said_one tick report off by = record { tick = tick; report = report; off = off; by = by }

-- what is said for what an event gives: a report, if one is expected
abbrev pub said_seen : ℕ → Option PlainReport → ℤ → ℤ → List Said
said_seen tick None off by = []
said_seen tick (Some report) off by = said_one tick report off by ∷ []

abbrev pub said_at : PlainSet → ℤ → List PlainEvent → PlainEvent → List Said
said_at set off before event =
    said_seen (tick_count (event ∷ before)) (seen_of set off before event).report (seen_of set off before event).off (seen_of set off before event).command

-- what is said for events, newest first, in front of what is said later
abbrev pub said_onto : PlainSet → ℤ → List PlainEvent → List Said → List Said
said_onto set off [] said = said
said_onto set off (event ∷ before) said = said_onto set off before (said_at set off before event ++ said)

-- it is what they write
seen_written : (tick : ℕ) (o : Option PlainReport) (off by : ℤ) (rest : List ℕ) → (IsSome o) ⊎ (by ≡ pos 0) → (said : List Said) → said_text said ≡ rest →
    said_text (said_seen tick o off by ++ said) ≡ (report_text tick o off ++ step_text tick by) ++ rest
seen_written tick None off by rest (inl some) said is = absurd cc
seen_written tick None off by rest (inr none) said is = is ∙ ap (λ (b : ℤ). step_text tick b ++ rest) (sym none)
seen_written tick (Some report) off by rest known said is = ap (λ (l : List ℕ). (report_line tick report off ++ step_text tick by) ++ l) is

has_report : (set : PlainSet) (off : ℤ) (before : List PlainEvent) (event : PlainEvent) → TellsTruth set before event (seen_of set off before event) →
    (IsSome (seen_of set off before event).report) ⊎ ((seen_of set off before event).command ≡ pos 0)
has_report set off before (Pass dt drift) tells = inr refl
has_report set off before Tick tells = inr refl
has_report set off before (Exch span dms dsm o2 o3 t) tells = inl tells.never_short.1

pub events_written : (set : PlainSet) (off : ℤ) (events : List PlainEvent) → HasRanges set → Accepts set off events → (said : List Said) →
    said_text (said_onto set off events said) ≡ events_text set off events ++ said_text said
events_written set off [] ranges accepted said = refl
events_written set off (event ∷ before) ranges accepted said =
    events_written set off before ranges accepted.2 (said_at set off before event ++ said)
    ∙ ap (λ (l : List ℕ). events_text set off before ++ l)
    (seen_written (tick_count (event ∷ before)) (seen_of set off before event).report (seen_of set off before event).off
    (seen_of set off before event).command (said_text said)
    (has_report set off before event (tells_truth set off before ranges accepted.2 event accepted.0 accepted.1)) said refl)
    ∙ sym (append_assoc (events_text set off before) (event_text set off before event) (said_text said))

-- ---- a measurement is kept for good

abbrev pub HasMark : PlainSet → List Call → Type 0
HasMark set calls = (mark : Standing) × (more : List Standing) × (standings set calls ≡ mark ∷ more)

reports_by : (set : PlainSet) (calls : List Call) (mark : Standing) (more : List Standing) → 1 ≤ set.ring → standings set calls ≡ mark ∷ more → IsSome (report_of set calls)
reports_by set calls mark more one is =
    least_report_some set (take set.ring (standings set calls))
    (subst (λ (ms : List Standing). take set.ring ms ≢ []) (sym is) (some_kept set.ring mark more one))

-- so a tick has a report
tick_reports : (set : PlainSet) (calls : List Call) → 1 ≤ set.ring → HasMark set calls → IsSome (report_of set (CallTick ∷ calls))
tick_reports set calls one has =
    reports_by set (CallTick ∷ calls) (later has.0) (map later has.1) one (marks_before-tick set (pos 0) 0 calls ∙ ap (map later) has.2)

abbrev no_marks : List Standing
no_marks = []

take_none : (n : ℕ) → take n no_marks ≡ []
take_none zero = refl
take_none (suc n) = refl

mark_of : (set : PlainSet) (calls : List Call) (ms : List Standing) → standings set calls ≡ ms → (report : PlainReport) →
    report_of set calls ≡ Some report → HasMark set calls
mark_of set calls [] is report e =
    let none : report_of set calls ≡ None =
    ap (λ (ms : List Standing). least_report (map (report_at set) (take set.ring ms))) is
    ∙ ap (λ (ms : List Standing). least_report (map (report_at set) ms)) (take_none set.ring) in
    absurd cc
mark_of set calls (mark ∷ more) is report e = (mark, more, is)

-- ---- how long a report holds

-- with the commands of any later events until the next tick an estimate is within a bound of the true offset
abbrev pub Holds : PlainSet → ℤ → List PlainEvent → (est bound : ℤ) → Type 0
Holds set off base est bound =
    (later : List PlainEvent) → HasNoTick later → Accepts set off (later ++ base) →
    pos (unsigned_abs ((est +ℤ moved_in set off later base) -ℤ true_offset set off (later ++ base))) ≤ℤ bound

no_tick : (later : List PlainEvent) (event : PlainEvent) → HasNoTick later → HasNoTick (event ∷ []) → HasNoTick (later ++ event ∷ [])
no_tick [] event none one = one
no_tick (Pass dt drift ∷ later) event none one = no_tick later event none one
no_tick (Tick ∷ later) event none one = absurd none
no_tick (Exch span dms dsm o2 o3 t ∷ later) event none one = no_tick later event none one

zero_and : (a : ℤ) → pos 0 +ℤ a ≡ a +ℤ pos 0
zero_and a = omega (arith, ints)

assoc : (a b c : ℤ) → (a +ℤ b) +ℤ c ≡ a +ℤ (b +ℤ c)
assoc a b c = omega (arith, ints)

-- the commands of an event and of those after it
moved_on : (set : PlainSet) (off : ℤ) (later base : List PlainEvent) (event : PlainEvent) →
    moved_in set off (later ++ event ∷ []) base ≡ (seen_of set off base event).command +ℤ moved_in set off later (event ∷ base)
moved_on set off [] base event = zero_and (seen_of set off base event).command
moved_on set off (next ∷ later) base event =
    let by : ℤ = (seen_of set off base event).command in
    ap (λ (es : List PlainEvent). moved_in set off (later ++ event ∷ []) base +ℤ (seen_of set off es next).command) (append_assoc later (event ∷ []) base)
    ∙ ap (λ (m : ℤ). m +ℤ (seen_of set off (later ++ event ∷ base) next).command) (moved_on set off later base event)
    ∙ assoc by (moved_in set off later (event ∷ base)) (seen_of set off (later ++ event ∷ base) next).command

-- what holds goes on after an event that is no tick
holds_on : (set : PlainSet) (off : ℤ) (base : List PlainEvent) (event : PlainEvent) (est bound : ℤ) → HasNoTick (event ∷ []) →
    Holds set off base est bound → Holds set off (event ∷ base) (est +ℤ (seen_of set off base event).command) bound
holds_on set off base event est bound one held later none accepted =
    let by : ℤ = (seen_of set off base event).command in
    let same : (later ++ event ∷ []) ++ base ≡ later ++ event ∷ base = append_assoc later (event ∷ []) base in
    let all : pos (unsigned_abs ((est +ℤ moved_in set off (later ++ event ∷ []) base) -ℤ true_offset set off ((later ++ event ∷ []) ++ base))) ≤ℤ bound =
    held (later ++ event ∷ []) (no_tick later event none one) (subst (Accepts set off) (sym same) accepted) in
    subst (λ (m : ℤ). pos (unsigned_abs (m -ℤ true_offset set off (later ++ event ∷ base))) ≤ℤ bound)
    (ap (λ (m : ℤ). est +ℤ m) (moved_on set off later base event) ∙ sym (assoc est by (moved_in set off later (event ∷ base))))
    (subst (λ (es : List PlainEvent). pos (unsigned_abs ((est +ℤ moved_in set off (later ++ event ∷ []) base) -ℤ true_offset set off es)) ≤ℤ bound) same all)

-- now
holds_now : (set : PlainSet) (off : ℤ) (base : List PlainEvent) (est bound : ℤ) → Accepts set off base → Holds set off base est bound →
    pos (unsigned_abs (est -ℤ true_offset set off base)) ≤ℤ bound
holds_now set off base est bound accepted held =
    subst (λ (m : ℤ). pos (unsigned_abs (m -ℤ true_offset set off base)) ≤ℤ bound) (int_plus_zero est) (held [] tt accepted)

-- ---- what is said later

-- if a measurement is kept, what holds stays within its bound in what is said after these events
abbrev pub Stays : PlainSet → ℤ → List PlainEvent → List Said → Type 0
Stays set off base said =
    HasMark set (calls_of set base) → (est bound : ℤ) → Holds set off base est bound → StaysWithin (tick_count base) est bound said

seen_stays : (tick at : ℕ) (o : Option PlainReport) (off by est bound : ℤ) (said : List Said) → IsSome o → pos (unsigned_abs (est -ℤ off)) ≤ℤ bound →
    (at ≡ tick → StaysWithin tick (est +ℤ by) bound said) → StaysWithin tick est bound (said_seen at o off by ++ said)
seen_stays tick at None off by est bound said some now behind = absurd cc
seen_stays tick at (Some report) off by est bound said some now behind = (now, behind)

other_tick : (n : ℕ) → n + 1 ≡ n → ⊥
other_tick n e = omega arith

stays_on : (set : PlainSet) (off : ℤ) (base : List PlainEvent) (event : PlainEvent) (said : List Said) → HasRanges set → Accepts set off (event ∷ base) →
    Stays set off (event ∷ base) said → Stays set off base (said_at set off base event ++ said)
stays_on set off base (Pass dt drift) said ranges accepted stays has est bound held =
    subst (λ (e : ℤ). StaysWithin (tick_count base) e bound said) (int_plus_zero est)
    (stays has (est +ℤ pos 0) bound (holds_on set off base (Pass dt drift) est bound tt held))
stays_on set off base Tick said ranges accepted stays has est bound held =
    seen_stays (tick_count base) (tick_count base + 1) (report_of set (CallTick ∷ calls_of set base)) (true_offset set off base) (pos 0) est bound said
    (tick_reports set (calls_of set base) ranges.ring.0 has) (holds_now set off base est bound accepted.2 held)
    (λ same. absurd (other_tick (tick_count base) same))
stays_on set off base (Exch span dms dsm o2 o3 t) said ranges accepted stays has est bound held =
    let event : PlainEvent = Exch span dms dsm o2 o3 t in
    let seen : PlainSeen = seen_of set off base event in
    seen_stays (tick_count base) (tick_count base) seen.report (true_offset set off base) seen.command est bound said
    (tells_truth set off base ranges accepted.2 event accepted.0 accepted.1).never_short.1 (holds_now set off base est bound accepted.2 held)
    (λ same. stays (_, _, refl) (est +ℤ seen.command) bound (holds_on set off base event est bound tt held))

-- ---- each report

left_by : (est off by bound : ℤ) → pos (unsigned_abs (est -ℤ off)) ≤ℤ bound → by ≡ neg_ℤ est → pos (unsigned_abs (off +ℤ by)) ≤ℤ bound
left_by est off by bound h e = omega (arith, ints)

-- what an event gives, as it is said
said_truly : (step : ℤ) (tick : ℕ) (o : Option PlainReport) (off by : ℤ) (said : List Said) → IfSome o (IsWithinBound off) →
    ((by ≡ pos 0) ⊎ IfSome o (λ report. IsStepAgainst step report.est by)) →
    ((report : PlainReport) → o ≡ Some report → StaysWithin tick (report.est +ℤ by) report.bound said) →
    AreSaidTruly step said → AreSaidTruly step (said_seen tick o off by ++ said)
said_truly step tick None off by said within steps stays truly = truly
said_truly step tick (Some report) off by said within (inl none) stays truly =
    (record { within = within; steps = inl none; left = left_by report.est off by report.bound within; stays = stays report refl }, truly)
said_truly step tick (Some report) off by said within (inr step_is) stays truly =
    (record { within = within; steps = inr step_is; left = left_by report.est off by report.bound within; stays = stays report refl }, truly)

steps_of : (set : PlainSet) (off : ℤ) (base : List PlainEvent) (event : PlainEvent) → HasRanges set →
    ((seen_of set off base event).command ≡ pos 0)
    ⊎ IfSome (seen_of set off base event).report (λ report. IsStepAgainst set.step report.est (seen_of set off base event).command)
steps_of set off base (Pass dt drift) ranges = inl refl
steps_of set off base Tick ranges = inl refl
steps_of set off base (Exch span dms dsm o2 o3 t) ranges = inr (commanded set off base (Exch span dms dsm o2 o3 t) ranges)

-- after an event with a report a measurement is kept
kept_behind : (set : PlainSet) (off : ℤ) (base : List PlainEvent) (event : PlainEvent) (report : PlainReport) →
    (seen_of set off base event).report ≡ Some report →
    HasMark set (calls_of set (event ∷ base))
kept_behind set off base (Pass dt drift) report e = absurd cc
kept_behind set off base Tick report e = mark_of set (CallTick ∷ calls_of set base) (standings set (CallTick ∷ calls_of set base)) refl report e
kept_behind set off base (Exch span dms dsm o2 o3 t) report e = (_, _, refl)

at_report : (P : PlainReport → Type 0) (o : Option PlainReport) (report : PlainReport) → o ≡ Some report → IfSome o P → P report
at_report P o report e h = subst (λ (p : Option PlainReport). IfSome p P) e h

-- the report of an event holds after it
report_holds : (set : PlainSet) (off : ℤ) (base : List PlainEvent) (event : PlainEvent) → Accepts set off (event ∷ base) → (report : PlainReport) →
    (seen_of set off base event).report ≡ Some report → Holds set off (event ∷ base) (report.est +ℤ (seen_of set off base event).command) report.bound
report_holds set off base event accepted report e later none all =
    let by : ℤ = (seen_of set off base event).command in
    let moved : ℤ = moved_in set off later (event ∷ base) in
    let now : ℤ = true_offset set off (later ++ event ∷ base) in
    subst (λ (m : ℤ). pos (unsigned_abs (m -ℤ now)) ≤ℤ report.bound) (sym (assoc report.est by moved))
    (at_report (λ r. IsWithinBound now (moved_with (by +ℤ moved) r)) (seen_of set off base event).report report e
    (holds set off base event accepted later none all))

event_truly : (set : PlainSet) (off : ℤ) (base : List PlainEvent) (event : PlainEvent) (said : List Said) → HasRanges set → Accepts set off (event ∷ base) →
    Stays set off (event ∷ base) said → AreSaidTruly set.step said → AreSaidTruly set.step (said_at set off base event ++ said)
event_truly set off base event said ranges accepted stays truly =
    said_truly set.step (tick_count (event ∷ base)) (seen_of set off base event).report (seen_of set off base event).off
    (seen_of set off base event).command said
    (tells_truth set off base ranges accepted.2 event accepted.0 accepted.1).within
    (steps_of set off base event ranges)
    (λ report e. stays (kept_behind set off base event report e) (report.est +ℤ (seen_of set off base event).command) report.bound
    (report_holds set off base event accepted report e))
    truly

-- ---- all

pub all_truly : (set : PlainSet) (off : ℤ) (events : List PlainEvent) (said : List Said) → HasRanges set → Accepts set off events →
    Stays set off events said → AreSaidTruly set.step said → AreSaidTruly set.step (said_onto set off events said)
all_truly set off [] said ranges accepted stays truly = truly
all_truly set off (event ∷ before) said ranges accepted stays truly =
    all_truly set off before (said_at set off before event ++ said) ranges accepted.2
    (stays_on set off before event said ranges accepted stays) (event_truly set off before event said ranges accepted stays truly)

-- if nothing is said later, all stays
pub nothing_stays : (set : PlainSet) (off : ℤ) (events : List PlainEvent) → Stays set off events []
nothing_stays set off events has est bound held = tt
