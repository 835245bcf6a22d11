-- What an audit and a run over a link wrote is divided into the lines for its event lines, and each event line says
-- its event: so each track line follows from them, by the law of all runs.
use Rattle.std.proofs.Common.{◌≡◌, ◌⊎◌, inl, inr, ◌∙◌, refl, ap, ap₂, sym, subst, append-nil, ℕ, ◌+◌, pos, true, false, List, [], ◌∷◌, ◌++◌, map, flat_map, reverse, take, drop, Option, None, Some, Result, Ok}
use Rattle.std.specs.Prelude.{IfSome, slice_get}
use Rattle.std.specs.Fmt.{decimal}
use Rattle.std.specs.Io.KnownBytes.{Appends}
use Rattle.std.specs.List.{AllByRecursion, concat}
use Rattle.std.proofs.lemmas.List.{map-append, reverse-append, reverse-reverse, take-append-drop}
use Rattle.toml.specs.Data.{Members}
use Rattle.wrp_base.specs.declared.fault.TraceFault.{TraceFault}
use Rattle.wrp_base.proofs.Lists.{heads, tails}
use Rattle.wrp_bounds.specs.Bounds.{path_of}
use Rattle.wrp_config.specs.Accepted.{HasNames}
use Rattle.wrp_network_text.specs.Config.{IsNetworkOf}
use Rattle.wrp_network_text.specs.SameAnswer.{ReadingIsAccepted}
use Rattle.wrp_calibration_text.specs.Reading.{IsTextOf}
use Rattle.wrp_course.specs.declared.event.Event.{Event}
use Rattle.wrp_course.specs.Given.{NodeStepAt}
use Rattle.wrp_course.specs.Run.{Happened, steps_at, world_after}
use Rattle.wrp_course.specs.Runs.{AllEvents, IsNetwork}
use Rattle.wrp_course.specs.Setting.{Setting}
use Rattle.wrp_course.specs.WorldAt.{WorldAt}
use Rattle.wrp_io.specs.declared.link.LinkCall.{LinkCall}
use Rattle.wrp_lines.specs.Lines.{output_line, output_words}
use Rattle.wrp_loop.specs.Laws.{LoopIsAudited}
use Rattle.wrp_loop.specs.LoopRun.{Going, events_at, place}
use Rattle.wrp_loop.specs.LoopText as looped
use Rattle.wrp_loop.specs.LoopText.{NoneIsMarked, forged_lines, is_marked, loop_lines, steps_lines}
use Rattle.wrp_loop.proofs.Audited.{at_name}
use Rattle.wrp_node.specs.declared.interface.Output.{Output}
use Rattle.wrp_records.specs.declared.status.Status.{Status}
use Rattle.wrp_records.specs.declared.status.Status.TheVariants.{WriteFault}
use Rattle.wrp_records.specs.Lines.{IsWhole, content_of, lines_of}
use Rattle.wrp_records.specs.Words.{line_of}
use Rattle.wrp_records.proofs.Reaching.{lines_behind}
use Rattle.wrp_loop.specs.Loops.{plan_of}
use Rattle.wrp_trace.specs.EventPrinting.{event_text}
use Rattle.wrp_trace.specs.Events.{EventsCanCome, event_read}
use Rattle.wrp_trace.proofs.EventsReadBack.{events_back}
use Rattle.wrp_bound_laws.specs.Chains.{AllFit}
use Rattle.wrp_audit.specs.Audited.{AreEvents}
use Rattle.wrp_network_world.specs.NetworkSetting.{IsSettingOf}
use Rattle.wrp_audit.specs.AuditLaws.{OneAudit}
use Rattle.wrp_audit.specs.AuditText.{event_lines}
use Rattle.wrp_network_world.specs.Counts.{all_counts}
use Rattle.wrp_printed_laws.specs.Laws.{AreSeen, OffsetsFollow, lines_at, output_lines, step_lines}
use Rattle.wrp_printed_laws.specs.Offsets.{Seen}
use Rattle.wrp_commands.specs.Request.{CommandLine}
use Rattle.wrp_asked.specs.EmitHeadline.{TellsNoTrack}
use Rattle.wrp_asked.specs.Ends.{Ends, Run}
use Rattle.wrp_asked.specs.Headline.{Came, CarriesRun, EventsCarryParts, Headline, Prints, ReachesNone, StepsOf}
use Rattle.wrp_asked.specs.Input.{network_text}
use Rattle.wrp_asked.specs.LoopHeadline.{IsLoopDue, LoopHeadline, LoopOf, Looped, LoopedEventsCarryParts}
use Rattle.wrp_asked.specs.Tasks.{IsAuditing, IsLooping}
use Rattle.wrp_asked.proofs.HeadlineParts.{network_of, run_of, setting_asked}
use Rattle.wrp_asked.proofs.HeadlineTold.{IsTold, headline_told}
use Rattle.wrp_asked.proofs.LoopTold.{IsLoopedSo, looped_told}
use Rattle.wrp_asked.proofs.NoTrack.{in_front, no_track_last}
use Rattle.wrp_asked.proofs.TakenLines.{taken_lines}
use Rattle.wrp_asked.proofs.ToldApart.{came_text, count_lines, flat_all, steps_text}
use Rattle.wrp_asked.proofs.ToldWhole.{all_whole, audit_whole}
use Rattle.wrp_run.specs.Shown.{AreTold, AuditFollows, ComeFrom, LoopFollows, Shows, ShowsNone, in_order, marked}
use Rattle.wrp_asked.proofs.LastLines.{all_told, last_tells, link_tells, loop_tells, names_tells, none_tells}

-- Lines of steps

single : {A : Type 0} (f : A → List ℕ) (xs : List A) → flat_map (λ x. f x ∷ []) xs ≡ map f xs
single f [] = refl
single f (x ∷ xs) = ap (λ (l : List (List ℕ)). f x ∷ l) (single f xs)

each_same : {A : Type 0} (f g : A → List (List ℕ)) → ((a : A) → f a ≡ g a) → (xs : List A) → flat_map f xs ≡ flat_map g xs
each_same f g same [] = refl
each_same f g same (x ∷ xs) = ap₂ (λ (a b : List (List ℕ)). a ++ b) (same x) (each_same f g same xs)

pub same_lines : (s : Setting) (before : List Happened) (h : Happened) → lines_at (λ o. true) s before h ≡ steps_lines s before h
same_lines s before h =
    let w : WorldAt = world_after s (h ∷ before) in
    each_same (step_lines (λ o. true) s w) (looped.step_lines s w)
    (λ step. single (λ o. output_line s.cfg step.node (w.node step.node).ticks o (Some (w.clock step.node).off)) step.outs) (steps_at s before h)

-- The event lines of an audit

-- each line with its event, the newest first
abbrev seen_by : Setting → List (List ℕ) → List Happened → List Seen
seen_by s [] events = []
seen_by s (line ∷ lines) [] = []
seen_by s (line ∷ lines) (h ∷ before) = record { event = line; lines = lines_at (λ o. true) s before h } ∷ seen_by s lines before

abbrev read : Happened → Result Event TraceFault
read h = Ok h.event

are_seen : (s : Setting) (lines : List (List ℕ)) (events : List Happened) → map (event_read s.cfg) lines ≡ map read events
    → AreSeen s (seen_by s lines events) events
are_seen s [] [] e = tt
are_seen s [] (h ∷ before) e = absurd (cc)
are_seen s (line ∷ lines) [] e = absurd (cc)
are_seen s (line ∷ lines) (h ∷ before) e = (
  inl (heads (event_read s.cfg line) (read h) (map (event_read s.cfg) lines) (map read before) e),
  refl,
  are_seen s lines before (tails (event_read s.cfg line) (read h) (map (event_read s.cfg) lines) (map read before) e),
)

lines_back : (s : Setting) (lines : List (List ℕ)) (events : List Happened) → map (event_read s.cfg) lines ≡ map read events
    → in_order (λ it. it.event ∷ []) (seen_by s lines events) ≡ reverse lines
lines_back s [] events e = refl
lines_back s (line ∷ lines) [] e = absurd (cc)
lines_back s (line ∷ lines) (h ∷ before) e =
    ap (λ (l : List (List ℕ)). l ++ line ∷ [])
    (lines_back s lines before (tails (event_read s.cfg line) (read h) (map (event_read s.cfg) lines) (map read before) e))
    ∙ sym (reverse-append (line ∷ []) lines)

steps_shown : (s : Setting) (lines : List (List ℕ)) (events : List Happened) → map (event_read s.cfg) lines ≡ map read events
    → in_order (λ it. it.lines) (seen_by s lines events) ≡ looped.audit_lines s events
steps_shown s [] [] e = refl
steps_shown s [] (h ∷ before) e = absurd (cc)
steps_shown s (line ∷ lines) [] e = absurd (cc)
steps_shown s (line ∷ lines) (h ∷ before) e =
    ap₂ (λ (a b : List (List ℕ)). a ++ b)
    (steps_shown s lines before (tails (event_read s.cfg line) (read h) (map (event_read s.cfg) lines) (map read before) e)) (same_lines s before h)

map_back : {A B : Type 0} (f : A → B) (xs : List A) → map f (reverse xs) ≡ reverse (map f xs)
map_back f [] = refl
map_back f (x ∷ xs) =
    ap (map f) (reverse-append (x ∷ []) xs) ∙ map-append f (reverse xs) (x ∷ []) ∙ ap (λ (l : List _). l ++ f x ∷ []) (map_back f xs)
    ∙ sym (reverse-append (f x ∷ []) (map f xs))

newest_first : (s : Setting) (lines : List (List ℕ)) (events : List Happened) → AreEvents s lines events
    → map (event_read s.cfg) (reverse lines) ≡ map read events
newest_first s lines events are =
    map_back (event_read s.cfg) lines ∙ ap reverse are ∙ sym (map_back read (reverse events)) ∙ ap (map read) (reverse-reverse events)

-- A network text

record IsOf (text : List ℕ) (s : Setting) : Type 0 where
  doc : Members
  is : IsTextOf doc text
  network : IsNetworkOf doc s.cfg

network_is : (text : List ℕ) (s : Setting) → IsSettingOf text s → IsOf text s
network_is text s h = record {
  doc = h.reads.0;
  is = h.reads.1;
  network = subst (λ (t : Setting). IsNetworkOf h.reads.0 t.cfg) (sym h.is) h.reads.2.1;
}

-- The front of a text

-- what is written is the front of what is expected
record IsFront (due octets : List ℕ) : Type 0 where
  rest : List ℕ
  is : octets ++ rest ≡ due

whole : (octets : List ℕ) → IsFront octets octets
whole octets = record { rest = []; is = append-nil octets }

taken : (due octets : List ℕ) (count : ℕ) → octets ≡ take count due → IsFront due octets
taken due octets count is = record { rest = drop count due; is = ap (λ (l : List ℕ). l ++ drop count due) is ∙ take-append-drop count due }

-- An audit

audit_shows : ReadingIsAccepted → EventsCanCome → OffsetsFollow → (asked : CommandLine) (input : List ℕ) (status : Status) (due octets : List ℕ)
    → StepsOf asked input status due → IsFront due octets → Shows (ComeFrom input) (λ it. it.lines) input octets
audit_shows accepted can follow asked input status due octets steps front =
    let s : Setting = steps.setting in
    let came : Came asked input s steps.events = steps.came in
    let setting : IsSettingOf (network_text input) s = setting_asked asked (network_text input) s came.asks in
    let net : IsNetwork s = network_of accepted (network_text input) s setting in
    let of : IsOf (network_text input) s = network_is (network_text input) s setting in
    let lines : List (List ℕ) = map content_of came.front in
    let newest : map (event_read s.cfg) (reverse lines) ≡ map read steps.events = newest_first s lines steps.events came.audit.are in
    let seen : List Seen = seen_by s (reverse lines) steps.events in
    let w : WorldAt = world_after s steps.events in
    let text : due ≡ concat (looped.audit_lines s steps.events) ++ steps.last =
    steps.is ∙ ap (λ (l : List ℕ). l ++ steps.last) (sym (steps_text s steps.events)) in
    record {
      doc = of.doc;
      text = of.is;
      cfg = s.cfg;
      network = of.network;
      seen = seen;
      come = (
        map content_of came.behind,
        ap (map content_of) came.divided ∙ map-append content_of came.front came.behind
            ∙ ap (λ (l : List (List ℕ)). l ++ map content_of came.behind) (sym (lines_back s (reverse lines) steps.events newest ∙ reverse-reverse lines)),
      );
      rest = front.rest;
      last = lines_of steps.last;
      written =
          ap lines_of (front.is ∙ text)
          ∙ lines_behind (looped.audit_lines s steps.events) steps.last (audit_whole s net steps.events)
          ∙ ap (λ (l : List (List ℕ)). l ++ lines_of steps.last) (sym (steps_shown s (reverse lines) steps.events newest));
      closing =
          last_tells TellsNoTrack no_track_last status s came.front came.behind (all_counts s w) steps.last
          (all_told TellsNoTrack no_track_last s net w) steps.ends;
      follow = follow s steps.events seen (run_of can accepted asked input s steps.events came) (are_seen s (reverse lines) steps.events newest);
    }

due_follows : ReadingIsAccepted → EventsCanCome → OffsetsFollow → (asked : CommandLine) (input : List ℕ) (status : Status) (octets : List ℕ)
    → ReachesNone input status octets ⊎ StepsOf asked input status octets → AuditFollows input octets
due_follows accepted can follow asked input status octets (inl none) = inl (none_tells TellsNoTrack no_track_last input status octets none)
due_follows accepted can follow asked input status octets (inr steps) =
    inr (audit_shows accepted can follow asked input status octets octets steps (whole octets))

cut_follows : ReadingIsAccepted → EventsCanCome → OffsetsFollow → (asked : CommandLine) (input : List ℕ) (status : Status) (due octets : List ℕ) (count : ℕ)
    → octets ≡ take count due → ReachesNone input status due ⊎ StepsOf asked input status due →
    AuditFollows input octets
cut_follows accepted can follow asked input status due octets count is (inl none) =
    inl
    (subst (λ (l : List ℕ). ShowsNone l) (sym is) (taken_lines TellsNoTrack in_front due count (none_tells TellsNoTrack no_track_last input status due none)))
cut_follows accepted can follow asked input status due octets count is (inr steps) =
    inr (audit_shows accepted can follow asked input status due octets steps (taken due octets count is))

prints_follow : ReadingIsAccepted → EventsCanCome → OffsetsFollow → (asked : CommandLine) (input : List ℕ) (status : Status) (octets : List ℕ) →
    Prints (λ due text. ReachesNone input due text ⊎ StepsOf asked input due text) status octets → AuditFollows input octets
prints_follow accepted can follow asked input WriteFault octets (status, due, count, is, so) =
    cut_follows accepted can follow asked input status due octets count is so
prints_follow accepted can follow asked input status octets prints = due_follows accepted can follow asked input status octets prints

pub audit_follows : ReadingIsAccepted → EventsCanCome → OffsetsFollow → (asked : CommandLine) (input : List ℕ) (status : Status) (octets : List ℕ)
    → Headline asked input status octets → AuditFollows input octets
audit_follows accepted can follow asked input status octets head = prints_follow accepted can follow asked input status octets head.prints

-- A run over a link

abbrev came_by : Setting → List Happened → List Seen
came_by s [] = []
came_by s (h ∷ before) = record { event = event_text s.cfg h.event; lines = lines_at (λ o. true) s before h } ∷ came_by s before

are_came : (s : Setting) (events : List Happened) → HasNames s.cfg → AllEvents s.cfg events → AllFit events → AreSeen s (came_by s events) events
are_came s [] names each fit = tt
are_came s (h ∷ before) names each fit = (inr (events_back s.cfg h.event names each.0 fit.0), refl, are_came s before names each.1 fit.1)

loop_shown : (s : Setting) (events : List Happened) → in_order (λ it. marked it ∷ it.lines) (came_by s events) ≡ loop_lines s events
loop_shown s [] = refl
loop_shown s (h ∷ before) =
    ap₂ (λ (a b : List (List ℕ)). a ++ (looped.marked_line s.cfg h.event ∷ b)) (loop_shown s before) (same_lines s before h)

outs_unmarked : (s : Setting) (w : WorldAt) (n : ℕ) (outs : List Output) → IsNetwork s → NoneIsMarked (flat_map (output_lines (λ o. true) s w n) outs)
outs_unmarked s w n [] net = tt
outs_unmarked s w n (o ∷ outs) net = (
  at_name (slice_get s.cfg.nodes.items n) (line_of (decimal (w.node n).ticks ∷ output_words o (pos (path_of s.cfg n)) (Some (w.clock n).off))) (λ node is. net.accepted.names.node n node is),
  outs_unmarked s w n outs net,
)

are_told : (s : Setting) (events : List Happened) → IsNetwork s → AreTold (came_by s events)
are_told s [] net = tt
are_told s (h ∷ before) net = (
  flat_all (λ (line : List ℕ). is_marked line ≡ false) (step_lines (λ o. true) s (world_after s (h ∷ before))) (λ (step : NodeStepAt). outs_unmarked s (world_after s (h ∷ before)) step.node step.outs net) (steps_at s before h),
  are_told s before net,
)

front_all : {A : Type 0} (P : A → Type 0) (xs ys : List A) → AllByRecursion P (xs ++ ys) → AllByRecursion P xs
front_all P [] ys h = tt
front_all P (x ∷ xs) ys h = (h.0, front_all P xs ys h.1)

pub loop_whole : (s : Setting) → IsNetwork s → (events : List Happened) → AllEvents s.cfg events → AllFit events → AllByRecursion IsWhole (loop_lines s events)
loop_whole s net events each fit =
    let counts : List (List ℕ) = count_lines s (world_after s events) in
    front_all IsWhole (loop_lines s events) counts (front_all IsWhole (loop_lines s events ++ counts) (forged_lines 0) (all_whole s net events each fit 0))

loop_shows : OffsetsFollow
    → (asked : CommandLine) (input : List ℕ) (calls : List LinkCall) (status : Status) (due octets : List ℕ) (loop : LoopOf asked input calls status due) →
    CarriesRun event_lines loop.setting (events_at (place loop.last)) → IsFront due octets → Shows AreTold (λ it. marked it ∷ it.lines) input octets
loop_shows follow asked input calls status due octets loop carried front =
    let s : Setting = loop.setting in
    let events : List Happened = events_at (place loop.last) in
    let net : IsNetwork s = carried.run.network in
    let of : IsOf (network_text input) s = network_is (network_text input) s loop.came.asks.2 in
    let text : due ≡ concat (loop_lines s events) ++ loop.behind = loop.is ∙ ap (λ (l : List ℕ). l ++ loop.behind) (sym (came_text s events)) in
    record {
      doc = of.doc;
      text = of.is;
      cfg = s.cfg;
      network = of.network;
      seen = came_by s events;
      come = are_told s events net;
      rest = front.rest;
      last = lines_of loop.behind;
      written =
          ap lines_of (front.is ∙ text)
          ∙ lines_behind (loop_lines s events) loop.behind (loop_whole s net events carried.run.each carried.fit)
          ∙ ap (λ (l : List (List ℕ)). l ++ lines_of loop.behind) (sym (loop_shown s events));
      closing =
          loop_tells TellsNoTrack no_track_last status (plan_of s loop.came.scene loop.came.seed) calls loop.came.later loop.last loop.behind net loop.ends;
      follow = follow s events (came_by s events) carried.run (are_came s events net.accepted.names carried.run.each carried.fit);
    }

-- the expected output has no track line, or belongs to events
loop_due : (asked : CommandLine) (input : List ℕ) (calls : List LinkCall) (status : Status) (due : List ℕ) → IsLoopDue asked input calls status due
    → ShowsNone due ⊎ LoopOf asked input calls status due
loop_due asked input calls status due (inl none) = inl (none_tells TellsNoTrack no_track_last input status due none.0)
loop_due asked input calls status due (inr (inl scene)) = inl (names_tells TellsNoTrack no_track_last status scene.setting scene.front scene.line due scene.is)
loop_due asked input calls status due (inr (inr (inl link))) = inl (link_tells TellsNoTrack asked input calls status due link)
loop_due asked input calls status due (inr (inr (inr loop))) = inr loop

abbrev LoopCarries : CommandLine → List ℕ → List LinkCall → Type 0
LoopCarries asked input calls = (s : Setting) (last : Going) → Looped asked input calls s last → CarriesRun event_lines s (events_at (place last))

loop_prints : OffsetsFollow → (asked : CommandLine) (input : List ℕ) (calls : List LinkCall) → LoopCarries asked input calls
    → (status : Status) (octets : List ℕ) → Prints (λ due text. IsLoopDue asked input calls due text) status octets → LoopFollows input octets
loop_prints follow asked input calls carries WriteFault octets (status, due, count, is, so) = elim (loop_due asked input calls status due so) [
  | inl none ↦ inl (subst (λ (l : List ℕ). ShowsNone l) (sym is) (taken_lines TellsNoTrack in_front due count none))
  | inr loop ↦ inr (loop_shows follow asked input calls status due octets loop (carries loop.setting loop.last loop.came) (taken due octets count is))
]
loop_prints follow asked input calls carries status octets so = elim (loop_due asked input calls status octets so) [
  | inl none ↦ inl none
  | inr loop ↦ inr (loop_shows follow asked input calls status octets octets loop (carries loop.setting loop.last loop.came) (whole octets))
]

pub loop_follows : OffsetsFollow → (asked : CommandLine) (input : List ℕ) (calls : List LinkCall) (status : Status) (octets : List ℕ)
    → LoopHeadline asked input calls status octets → LoopFollows input octets
loop_follows follow asked input calls status octets head = loop_prints follow asked input calls head.carries status octets head.prints

-- A run

abbrev FollowsSo : Run → (List ℕ → List ℕ → Type 0) → List ℕ → Type 0
FollowsSo run P input = (octets : List ℕ) × Appends run.sink.before run.sink.now octets × P input octets

pub audit_told : ReadingIsAccepted → EventsCanCome → OffsetsFollow → EventsCarryParts → OneAudit → (run : Run) (status : Status) → Ends run status
    → IsAuditing run.asked → IfSome run.source.before (FollowsSo run AuditFollows)
audit_told accepted can follow parts one run status ends audits = go run.source.before (headline_told parts one run status ends audits)
  where
    go : (o : Option (List ℕ)) → IfSome o (IsTold run.asked run.sink.before run.sink.now status) → IfSome o (FollowsSo run AuditFollows)
    go None h = tt
    go (Some input) h = (h.0, h.1, audit_follows accepted can follow run.asked input status h.0 h.2)

pub loop_told : OffsetsFollow → LoopedEventsCarryParts → LoopIsAudited → (run : Run) (status : Status) (seed : ℕ) → Ends run status → IsLooping run.asked seed
    → IfSome run.source.before (FollowsSo run LoopFollows)
loop_told follow parts audited run status seed ends looping = go run.source.before (looped_told parts audited run status seed ends looping)
  where
    go : (o : Option (List ℕ)) → IfSome o (IsLoopedSo run status) → IfSome o (FollowsSo run LoopFollows)
    go None h = tt
    go (Some input) h = (h.0, h.2, loop_follows follow run.asked input h.1 status h.0 h.4)
