-- The lines of an event are the lines of its outputs, one by one, so the line of each report is among them.
use Rattle.std.proofs.Common.{◌≡◌, ◌∙◌, refl, ap, sym, subst, ℕ, Bool, true, false, if◌then◌else◌, List, [], ◌∷◌, ◌++◌, append_assoc, flat_map, Some, arith}
use Rattle.std.specs.List.{AllByRecursion, Contains}
use Rattle.std.proofs.lemmas.List.Elements.{Contains-append_left, Contains-append_right}
use Rattle.wrp_base.specs.declared.link.LinkState.TheVariants.{LinkOn}
use Rattle.wrp_base.specs.declared.link.LinkWord.TheVariants.{In}
use Rattle.wrp_base.proofs.Lists.{all_weaker}
use Rattle.wrp_config.specs.Accepted.{HasNames}
use Rattle.wrp_course.specs.Given.{NodeStepAt}
use Rattle.wrp_course.specs.Run.{Happened, steps_at, world_after}
use Rattle.wrp_course.specs.Setting.{Setting}
use Rattle.wrp_course.specs.WorldAt.{WorldAt}
use Rattle.wrp_node.specs.declared.interface.Output.{Output}
use Rattle.wrp_node.specs.declared.interface.Output.TheVariants.{Report as ReportOf}
use Rattle.wrp_node.specs.declared.interface.Report.{Report}
use Rattle.wrp_node.specs.declared.interface.Report.TheVariants.{Link, Track}
use Rattle.wrp_records.specs.Lines.{IsWhole, lines_of}
use Rattle.wrp_records.proofs.Feeds.{lines_of-whole}
use Rattle.wrp_simulate.specs.SimText.{is_printed}
use Rattle.wrp_asked.specs.ReportLines.{HasLinkOnLine, HasTrackLine, LineOf, LinkOnReportsHaveLines, ReportsHaveLines, TrackReportsHaveLines}
use Rattle.wrp_asked.proofs.EventLines.{line_at, lines_by, whole_line}
use Rattle.wrp_asked.proofs.HeadlineParts.{writes}

-- Lines, one by one

abbrev out_lines : (Output → Bool) → Setting → WorldAt → ℕ → Output → List (List ℕ)
out_lines has_line s w n o = if has_line o then line_at s w n o ∷ [] else []

abbrev step_lines : (Output → Bool) → Setting → WorldAt → NodeStepAt → List (List ℕ)
step_lines has_line s w step = flat_map (out_lines has_line s w step.node) step.outs

one_cut : (has : Bool) (line rest : List ℕ) → IsWhole line → lines_of ((if has then line else []) ++ rest) ≡ (if has then line ∷ [] else []) ++ lines_of rest
one_cut true line rest whole =
    ap (λ (l : List ℕ). lines_of (l ++ rest)) whole.is ∙ lines_of-whole whole.front rest whole.plain ∙ ap (λ (l : List ℕ). l ∷ lines_of rest) (sym whole.is)
one_cut false line rest whole = refl

outs_cut : (has_line : Output → Bool) (s : Setting) (w : WorldAt) (n : ℕ) (outs : List Output) (rest : List ℕ) → HasNames s.cfg →
    lines_of (flat_map (λ o. if has_line o then line_at s w n o else []) outs ++ rest) ≡ flat_map (out_lines has_line s w n) outs ++ lines_of rest
outs_cut has_line s w n [] rest names = refl
outs_cut has_line s w n (o ∷ outs) rest names =
    let text : List ℕ = if has_line o then line_at s w n o else [] in
    let more : List ℕ = flat_map (λ x. if has_line x then line_at s w n x else []) outs in
    ap lines_of (append_assoc text more rest)
    ∙ one_cut (has_line o) (line_at s w n o) (more ++ rest) (whole_line s n (w.node n).ticks o (Some (w.clock n).off) names)
    ∙ ap (λ (l : List (List ℕ)). out_lines has_line s w n o ++ l) (outs_cut has_line s w n outs rest names)
    ∙ sym (append_assoc (out_lines has_line s w n o) (flat_map (out_lines has_line s w n) outs) (lines_of rest))

steps_cut : (has_line : Output → Bool) (s : Setting) (w : WorldAt) (steps : List NodeStepAt) → HasNames s.cfg → lines_of (flat_map (lines_by has_line s w) steps) ≡ flat_map (step_lines has_line s w) steps
steps_cut has_line s w [] names = refl
steps_cut has_line s w (step ∷ steps) names =
    outs_cut has_line s w step.node step.outs (flat_map (lines_by has_line s w) steps) names
    ∙ ap (λ (l : List (List ℕ)). step_lines has_line s w step ++ l) (steps_cut has_line s w steps names)

-- each output that has a line has it among these
abbrev HasOwnLine : (Output → Bool) → LineOf
HasOwnLine has_line s w lines n o = has_line o ≡ true → Contains lines (line_at s w n o)

abbrev HaveOwnLines : (Output → Bool) → Setting → WorldAt → List (List ℕ) → List NodeStepAt → Type 0
HaveOwnLines has_line s w lines steps =
    AllByRecursion (λ (step : NodeStepAt). AllByRecursion (HasOwnLine has_line s w lines step.node) step.outs) steps

outs_more : (has_line : Output → Bool) (s : Setting) (w : WorldAt) (some lines : List (List ℕ)) (n : ℕ) (outs : List Output) →
    ((line : List ℕ) → Contains some line → Contains lines line) → AllByRecursion (HasOwnLine has_line s w some n) outs →
    AllByRecursion (HasOwnLine has_line s w lines n) outs
outs_more has_line s w some lines n outs f have =
    all_weaker (HasOwnLine has_line s w some n) (HasOwnLine has_line s w lines n) (λ o has is. f (line_at s w n o) (has is)) outs have

alone : (line : List ℕ) → Contains (line ∷ []) line
alone line = (0, omega arith, refl)

own_told : (has : Bool) (line : List ℕ) → has ≡ true → Contains (if has then line ∷ [] else []) line
own_told has line is = subst (λ (b : Bool). Contains (if b then line ∷ [] else []) line) (sym is) (alone line)

outs_told : (has_line : Output → Bool) (s : Setting) (w : WorldAt) (n : ℕ) (outs : List Output) →
    AllByRecursion (HasOwnLine has_line s w (flat_map (out_lines has_line s w n) outs) n) outs
outs_told has_line s w n [] = tt
outs_told has_line s w n (o ∷ outs) =
    let one : List (List ℕ) = out_lines has_line s w n o in
    let others : List (List ℕ) = flat_map (out_lines has_line s w n) outs in (
      (λ is. Contains-append_left one others (line_at s w n o) (own_told (has_line o) (line_at s w n o) is)),
      outs_more has_line s w others (one ++ others) n outs (λ line has. Contains-append_right one others line has) (outs_told has_line s w n outs),
    )

steps_told : (has_line : Output → Bool) (s : Setting) (w : WorldAt) (steps : List NodeStepAt) →
    HaveOwnLines has_line s w (flat_map (step_lines has_line s w) steps) steps
steps_told has_line s w [] = tt
steps_told has_line s w (step ∷ steps) =
    let one : List (List ℕ) = step_lines has_line s w step in
    let others : List (List ℕ) = flat_map (step_lines has_line s w) steps in (
      outs_more has_line s w one (one ++ others) step.node step.outs (λ line has. Contains-append_left one others line has)
          (outs_told has_line s w step.node step.outs),
      all_weaker (λ (x : NodeStepAt). AllByRecursion (HasOwnLine has_line s w others x.node) x.outs)
          (λ (x : NodeStepAt). AllByRecursion (HasOwnLine has_line s w (one ++ others) x.node) x.outs)
          (λ x have. outs_more has_line s w others (one ++ others) x.node x.outs (λ line has. Contains-append_right one others line has) have) steps
          (steps_told has_line s w steps),
    )

event_told : (has_line : Output → Bool) (s : Setting) (before : List Happened) (h : Happened) → HasNames s.cfg →
    HaveOwnLines has_line s (world_after s (h ∷ before)) (lines_of (writes has_line s before h)) (steps_at s before h)
event_told has_line s before h names =
    let w : WorldAt = world_after s (h ∷ before) in
    subst (λ (lines : List (List ℕ)). HaveOwnLines has_line s w lines (steps_at s before h)) (sym (steps_cut has_line s w (steps_at s before h) names))
    (steps_told has_line s w (steps_at s before h))

-- Reports

-- the line of an output is the line of its report
abbrev TellsOf : (Output → Bool) → LineOf → Type 0
TellsOf has_line HasLine =
    (s : Setting) (w : WorldAt) (lines : List (List ℕ)) (n : ℕ) (o : Output) → HasOwnLine has_line s w lines n o → HasLine s w lines n o

reports_told : (has_line : Output → Bool) (HasLine : LineOf) → TellsOf has_line HasLine → (s : Setting) (before : List Happened) (h : Happened) →
    HasNames s.cfg → ReportsHaveLines HasLine (writes has_line) s before h
reports_told has_line HasLine tells s before h names =
    let w : WorldAt = world_after s (h ∷ before) in
    let lines : List (List ℕ) = lines_of (writes has_line s before h) in
    all_weaker (λ (step : NodeStepAt). AllByRecursion (HasOwnLine has_line s w lines step.node) step.outs)
    (λ (step : NodeStepAt). AllByRecursion (HasLine s w lines step.node) step.outs)
    (λ step have. all_weaker (HasOwnLine has_line s w lines step.node) (HasLine s w lines step.node) (tells s w lines step.node) step.outs have)
    (steps_at s before h) (event_told has_line s before h names)

-- a report has a line
report_told : (has_line : Output → Bool) (s : Setting) (w : WorldAt) (lines : List (List ℕ)) (n : ℕ) (o : Output) (report : Report) →
    has_line (ReportOf report) ≡ true → HasOwnLine has_line s w lines n o → o ≡ ReportOf report → Contains lines (line_at s w n (ReportOf report))
report_told has_line s w lines n o report printed own is = subst (HasOwnLine has_line s w lines n) is own printed

tracks_told : (has_line : Output → Bool) → ((report : Report) → has_line (ReportOf report) ≡ true) → TellsOf has_line HasTrackLine
tracks_told has_line printed s w lines n o own est is = report_told has_line s w lines n o (Track est) (printed (Track est)) own is

links_told : (has_line : Output → Bool) → ((report : Report) → has_line (ReportOf report) ≡ true) → TellsOf has_line HasLinkOnLine
links_told has_line printed s w lines n o own p is =
    report_told has_line s w lines n o (Link p (In LinkOn)) (printed (Link p (In LinkOn))) own is

pub track_reports_have_lines : TrackReportsHaveLines
track_reports_have_lines s before h net = (
  reports_told (λ o. true) HasTrackLine (tracks_told (λ o. true) (λ report. refl)) s before h net.accepted.names,
  reports_told is_printed HasTrackLine (tracks_told is_printed (λ report. refl)) s before h net.accepted.names,
)

pub link_on_reports_have_lines : LinkOnReportsHaveLines
link_on_reports_have_lines s before h net = (
  reports_told (λ o. true) HasLinkOnLine (links_told (λ o. true) (λ report. refl)) s before h net.accepted.names,
  reports_told is_printed HasLinkOnLine (links_told is_printed (λ report. refl)) s before h net.accepted.names,
)
