-- Each track line that was printed is the line of a report of TRACK, of which the law of every run holds: no other line has its
-- form, and a line that was cut off has it neither.
use Rattle.std.proofs.Common.{◌≡◌, ◌⊎◌, inl, inr, refl, sym, ap, ◌∙◌, subst, append-nil, append_assoc, ℕ, ◌==◌, Bool, true, false, List, [], ◌∷◌, ◌++◌, codes, flat_map, Some}
use Rattle.std.specs.List.{AllByRecursion}
use Rattle.wrp_base.proofs.Lists.{all_weaker}
use Rattle.wrp_config.specs.Accepted.{HasNames}
use Rattle.wrp_network_text.specs.SameAnswer.{ReadingIsAccepted}
use Rattle.wrp_course.specs.declared.event.Event.{Event}
use Rattle.wrp_course.specs.EventAt.{IsEventOf}
use Rattle.wrp_course.specs.Given.{NodeStepAt}
use Rattle.wrp_course.specs.Run.{Happened, steps_at, world_after}
use Rattle.wrp_course.specs.Runs.{AllEvents, IsNetwork}
use Rattle.wrp_course.specs.Setting.{Setting}
use Rattle.wrp_course.specs.WorldAt.{WorldAt}
use Rattle.wrp_io.specs.declared.link.LinkCall.{LinkCall}
use Rattle.wrp_loop.specs.LoopRun.{Going, events_at, place}
use Rattle.wrp_loop.specs.LoopText.{marked_line}
use Rattle.wrp_node.specs.declared.interface.Output.{Output}
use Rattle.wrp_records.specs.declared.status.Status.{Status}
use Rattle.wrp_records.specs.declared.status.Status.TheVariants.{WriteFault}
use Rattle.wrp_records.specs.Lines.{HasNoFeed, IsWhole, lines_of}
use Rattle.wrp_records.specs.Words.{line_of, IsWord}
use Rattle.wrp_audit.specs.AuditText.{audit_lines, event_lines}
use Rattle.wrp_network_world.specs.Counts.{all_counts}
use Rattle.wrp_commands.specs.Request.{CommandLine}
use Rattle.wrp_asked.specs.EmitHeadline.{EmitHeadline, TellsNoTrack}
use Rattle.wrp_asked.specs.EventLines.{AtEachEvent, Writing}
use Rattle.wrp_asked.specs.Headline.{Came, CarriesParts, CarriesRun, Headline, Prints, ReachesNone, StepsOf}
use Rattle.wrp_asked.specs.Input.{network_text}
use Rattle.wrp_asked.specs.LoopHeadline.{IsLoopDue, LoopHeadline, LoopOf, Looped, came_lines}
use Rattle.wrp_asked.specs.PrintedTracks.{IsWithinItsBound, TracksAreWithinBounds}
use Rattle.wrp_asked.specs.SimHeadline.{LacksScenario, Made, RunOf, SimHeadline, run_lines}
use Rattle.wrp_asked.specs.TrackLines.{IsTrueAt, IsTrueLine, TellsTruth}
use Rattle.wrp_asked.proofs.EventLines.{line_at, lines_by, outs_lines, whole_line}
use Rattle.wrp_records.proofs.WordLemmas.{line_in_front, line_whole, word_plain}
use Rattle.wrp_asked.proofs.EventWords.{event_word}
use Rattle.wrp_asked.proofs.HeadlineParts.{network_of, setting_asked, writes}
use Rattle.wrp_asked.proofs.InputLines.{Passes, pass_both}
use Rattle.wrp_asked.proofs.NoTrack.{longer, no_track_last, two_words}
use Rattle.wrp_asked.proofs.TakenLines.{HoldsInFront, taken_lines}
use Rattle.wrp_asked.proofs.TrackTold.{line_true}
use Rattle.wrp_loop.specs.Loops.{plan_of}
use Rattle.wrp_simulate.specs.SimText.{is_printed, sim_lines}
use Rattle.wrp_bound_laws.specs.Bounds.{IsTrueOutput, IsTrueStep}
use Rattle.wrp_trace.specs.EventPrinting.{event_text}
use Rattle.wrp_asked.proofs.LastLines.{after_tells, all_told, last_tells, link_tells, loop_tells, names_tells, none_tells}

-- One line

-- whatever a line begins with is within its bound
abbrev pub BeginsWithin : List ℕ → Type 0
BeginsWithin line = (front rest : List ℕ) → line ≡ front ++ rest → IsWithinItsBound front

-- the line itself too
itself : (line : List ℕ) → BeginsWithin line → IsWithinItsBound line
itself line h = h line [] (sym (append-nil line))

begins_in_front : HoldsInFront BeginsWithin
begins_in_front line more h front rest e = h front (rest ++ more) (ap (λ (l : List ℕ). l ++ more) e ∙ append_assoc front rest more)

-- what follows NODE TICK track in such a line
abbrev behind_track : (est bound off : List ℕ) → List ℕ
behind_track est bound off = 32 ∷ (est ++ 32 ∷ (bound ++ 32 ∷ (codes "true" ++ 32 ∷ (off ++ 10 ∷ []))))

-- a line that does not begin as a track line does
untracked : (line : List ℕ) → TellsNoTrack line → BeginsWithin line
untracked line none front rest e node tick est bound off a b c d f is =
    absurd
    (none node tick (behind_track est bound off ++ rest) a b (e ∙ ap (λ (l : List ℕ). l ++ rest) is ∙ longer node tick (behind_track est bound off) rest))

untold : (octets : List ℕ) → AllByRecursion TellsNoTrack (lines_of octets) → AllByRecursion BeginsWithin (lines_of octets)
untold octets told = all_weaker TellsNoTrack BeginsWithin untracked (lines_of octets) told

-- after the LF of a whole line there is nothing
other_octet : (c : ℕ) → c ≡ 10 → (c == 10) ≡ false → ⊥
other_octet c e f = let g : (10 == 10) ≡ false = subst (λ (x : ℕ). (x == 10) ≡ false) e f in cc

ends_there : (a b rest : List ℕ) → HasNoFeed a → a ++ 10 ∷ [] ≡ (b ++ 10 ∷ []) ++ rest → rest ≡ []
ends_there [] [] rest plain e = cc
ends_there [] (c ∷ []) rest plain e = absurd (cc)
ends_there [] (c ∷ d ∷ b) rest plain e = absurd (cc)
ends_there (c ∷ a) [] rest plain e = let same : c ≡ 10 = cc in absurd (other_octet c same plain.0)
ends_there (c ∷ a) (d ∷ b) rest plain e = let tail : a ++ 10 ∷ [] ≡ (b ++ 10 ∷ []) ++ rest = cc in ends_there a b rest plain.1 tail

-- a line that is true if it is a track line
true_within : (s : Setting) (w : WorldAt) (line : List ℕ) → IsWhole line → IsTrueLine s w line → BeginsWithin line
true_within s w line whole is_true front rest e node tick est bound off a b c d f is =
    let words : List (List ℕ) = node ∷ tick ∷ codes "track" ∷ est ∷ bound ∷ codes "true" ∷ off ∷ [] in
    let said : IsWhole (line_of words) = line_whole words (a, (b, (refl, (c, (d, (refl, (f, tt))))))) in
    let none : rest ≡ [] = ends_there whole.front said.front rest whole.plain (sym whole.is ∙ e ∙ ap (λ (l : List ℕ). l ++ rest) (is ∙ said.is)) in
    let same : line ≡ line_of words = e ∙ ap (λ (l : List ℕ). front ++ l) none ∙ append-nil front ∙ is in
    let told : TellsTruth s w node est bound off = is_true node tick est bound off a b c d f same in
    (told.most, told.offset, told.most_is, told.offset_is, told.within)

-- Texts of lines

pass_none : Passes BeginsWithin []
pass_none rest k = k

pass_whole : (line : List ℕ) → IsWhole line → BeginsWithin line → Passes BeginsWithin line
pass_whole line whole h rest k = line_in_front BeginsWithin line rest whole h k

pass_end : (text last octets : List ℕ) → octets ≡ text ++ last → Passes BeginsWithin text → AllByRecursion BeginsWithin (lines_of last)
    → AllByRecursion BeginsWithin (lines_of octets)
pass_end text last octets is pass told = subst (λ (l : List ℕ). AllByRecursion BeginsWithin (lines_of l)) (sym is) (pass last told)

-- Events

out_within : (s : Setting) (w : WorldAt) (n : ℕ) (o : Output) → HasNames s.cfg → IsTrueOutput s w n o → BeginsWithin (line_at s w n o)
out_within s w n o names is_true =
    true_within s w (line_at s w n o) (whole_line s n (w.node n).ticks o (Some (w.clock n).off) names) (line_true s w n o names is_true)

step_pass : (has_line : Output → Bool) (s : Setting) (w : WorldAt) (step : NodeStepAt) → HasNames s.cfg → IsTrueStep s w step
    → Passes BeginsWithin (lines_by has_line s w step)
step_pass has_line s w step names are rest k =
    outs_lines BeginsWithin has_line s w step.node step.outs rest names
    (all_weaker (IsTrueOutput s w step.node) (λ (o : Output). BeginsWithin (line_at s w step.node o)) (λ o is_true. out_within s w step.node o names is_true) step.outs are) k

steps_pass : (has_line : Output → Bool) (s : Setting) (w : WorldAt) (steps : List NodeStepAt) → HasNames s.cfg → AllByRecursion (IsTrueStep s w) steps
    → Passes BeginsWithin (flat_map (lines_by has_line s w) steps)
steps_pass has_line s w [] names are = pass_none
steps_pass has_line s w (step ∷ steps) names are =
    pass_both BeginsWithin (lines_by has_line s w step) (flat_map (lines_by has_line s w) steps) (step_pass has_line s w step names are.0)
    (steps_pass has_line s w steps names are.1)

event_pass : (write : Writing) (has_line : Output → Bool) (s : Setting) (before : List Happened) (h : Happened) → HasNames s.cfg → IsTrueAt write s before h
    → Passes BeginsWithin (writes has_line s before h)
event_pass write has_line s before h names is_true = steps_pass has_line s (world_after s (h ∷ before)) (steps_at s before h) names is_true.reports

-- of an audit, of a simulation, and of a loop
audit_pass : (write : Writing) (s : Setting) (events : List Happened) → HasNames s.cfg → AtEachEvent (IsTrueAt write s) events
    → Passes BeginsWithin (audit_lines s events)
audit_pass write s [] names are = pass_none
audit_pass write s (h ∷ before) names are =
    pass_both BeginsWithin (audit_lines s before) (event_lines s before h) (audit_pass write s before names are.1)
    (event_pass write (λ o. true) s before h names are.0)

run_pass : (write : Writing) (s : Setting) (events : List Happened) → HasNames s.cfg → AtEachEvent (IsTrueAt write s) events
    → Passes BeginsWithin (sim_lines s events)
run_pass write s [] names are = pass_none
run_pass write s (h ∷ before) names are =
    pass_both BeginsWithin (sim_lines s before) (writes is_printed s before h) (run_pass write s before names are.1)
    (event_pass write is_printed s before h names are.0)

marked_pass : (s : Setting) (e : Event) → HasNames s.cfg → IsEventOf s.cfg e → Passes BeginsWithin (marked_line s.cfg e)
marked_pass s e names is =
    let word : IsWord (event_text s.cfg e) = event_word s.cfg e names is in
    pass_whole (marked_line s.cfg e)
    (record { front = 61 ∷ (32 ∷ event_text s.cfg e); is = refl; plain = (refl, (refl, word_plain (event_text s.cfg e) word)) })
    (untracked (marked_line s.cfg e) (two_words (61 ∷ []) (event_text s.cfg e) refl word))

came_pass : (write : Writing) (s : Setting) (events : List Happened) → HasNames s.cfg → AllEvents s.cfg events → AtEachEvent (IsTrueAt write s) events
    → Passes BeginsWithin (came_lines s events)
came_pass write s [] names each are = pass_none
came_pass write s (h ∷ before) names each are =
    pass_both BeginsWithin (came_lines s before) (marked_line s.cfg h.event ++ event_lines s before h) (came_pass write s before names each.1 are.1)
    (pass_both BeginsWithin (marked_line s.cfg h.event) (event_lines s before h) (marked_pass s h.event names each.0) (event_pass write (λ o. true) s before h names are.0))

-- What is expected

all_itself : (octets : List ℕ) → AllByRecursion BeginsWithin (lines_of octets) → TracksAreWithinBounds octets
all_itself octets told = all_weaker BeginsWithin IsWithinItsBound itself (lines_of octets) told

pub untold_within : (octets : List ℕ) → AllByRecursion TellsNoTrack (lines_of octets) → TracksAreWithinBounds octets
untold_within octets told = all_itself octets (untold octets told)

-- also if the sink failed
prints_within : (IsDue : Status → List ℕ → Type 0) → ((status : Status) (due : List ℕ) → IsDue status due → AllByRecursion BeginsWithin (lines_of due))
    → (status : Status) (octets : List ℕ) → Prints IsDue status octets → TracksAreWithinBounds octets
prints_within IsDue f WriteFault octets (status, due, count, is, so) =
    all_itself octets
    (subst (λ (l : List ℕ). AllByRecursion BeginsWithin (lines_of l)) (sym is) (taken_lines BeginsWithin begins_in_front due count (f status due so)))
prints_within IsDue f status octets prints = all_itself octets (f status octets prints)

none_within : (input : List ℕ) (status : Status) (octets : List ℕ) → ReachesNone input status octets → AllByRecursion BeginsWithin (lines_of octets)
none_within input status octets none = untold octets (none_tells TellsNoTrack no_track_last input status octets none)

-- of an audit

abbrev AuditCarries : CommandLine → List ℕ → Type 0
AuditCarries asked input = (s : Setting) (events : List Happened) → Came asked input s events → CarriesParts event_lines s events

steps_within : ReadingIsAccepted → (asked : CommandLine) (input : List ℕ) → AuditCarries asked input → (status : Status) (octets : List ℕ)
    → StepsOf asked input status octets → AllByRecursion BeginsWithin (lines_of octets)
steps_within accepted asked input carries status octets steps =
    let s : Setting = steps.setting in
    let w : WorldAt = world_after s steps.events in
    let net : IsNetwork s = network_of accepted (network_text input) s (setting_asked asked (network_text input) s steps.came.asks) in
    let last : AllByRecursion TellsNoTrack (lines_of steps.last) =
    last_tells TellsNoTrack no_track_last status s steps.came.front steps.came.behind (all_counts s w) steps.last
    (all_told TellsNoTrack no_track_last s net w) steps.ends in
    pass_end (audit_lines s steps.events) steps.last octets steps.is
    (audit_pass event_lines s steps.events net.accepted.names (carries s steps.events steps.came).tracks) (untold steps.last last)

pub audit_within : ReadingIsAccepted → (asked : CommandLine) (input : List ℕ) (status : Status) (octets : List ℕ) → Headline asked input status octets
    → TracksAreWithinBounds octets
audit_within accepted asked input status octets head =
    prints_within (λ due text. ReachesNone input due text ⊎ StepsOf asked input due text)
    (λ due text so. elim so [ inl none ↦ none_within input due text none | inr steps ↦ steps_within accepted asked input head.carries due text steps ])
    status octets head.prints

pub inputs_within : (asked : CommandLine) (input : List ℕ) (status : Status) (octets : List ℕ) → EmitHeadline asked input status octets
    → TracksAreWithinBounds octets
inputs_within asked input status octets head = untold_within octets head.untracked

-- of a simulation

abbrev SimulationCarries : CommandLine → List ℕ → Type 0
SimulationCarries asked input = (s : Setting) (events : List Happened) → Made asked input s events → CarriesRun run_lines s events

run_within : ReadingIsAccepted → (asked : CommandLine) (input : List ℕ) → SimulationCarries asked input → (status : Status) (octets : List ℕ)
    → RunOf asked input status octets → AllByRecursion BeginsWithin (lines_of octets)
run_within accepted asked input carries status octets run =
    let s : Setting = run.setting in
    let net : IsNetwork s = network_of accepted (network_text input) s run.made.asks.2 in
    pass_end (sim_lines s run.events) run.last octets run.is
    (run_pass run_lines s run.events net.accepted.names (carries s run.events run.made).parts.tracks)
    (untold run.last (after_tells TellsNoTrack no_track_last status s run.made.scene run.events run.made.at run.last net run.ends))

pub simulation_within : ReadingIsAccepted → (asked : CommandLine) (input : List ℕ) (status : Status) (octets : List ℕ) → SimHeadline asked input status octets
    → TracksAreWithinBounds octets
simulation_within accepted asked input status octets head =
    prints_within (λ due text. ReachesNone input due text ⊎ (LacksScenario asked input due text ⊎ RunOf asked input due text))
    (λ due text so. elim so [
      | inl none ↦ none_within input due text none
      | inr some ↦ elim some [
        | inl lacks ↦ untold text (names_tells TellsNoTrack no_track_last due lacks.setting lacks.front lacks.line text lacks.is)
        | inr run ↦ run_within accepted asked input head.carries due text run
      ]
    ])
    status octets head.prints

-- of a run over a link

abbrev LoopCarries : CommandLine → List ℕ → List LinkCall → Type 0
LoopCarries asked input calls = (s : Setting) (last : Going) → Looped asked input calls s last → CarriesRun event_lines s (events_at (place last))

loop_within : (asked : CommandLine) (input : List ℕ) (calls : List LinkCall) → LoopCarries asked input calls → (status : Status) (octets : List ℕ)
    → LoopOf asked input calls status octets → AllByRecursion BeginsWithin (lines_of octets)
loop_within asked input calls carries status octets loop =
    let s : Setting = loop.setting in
    let events : List Happened = events_at (place loop.last) in
    let carried : CarriesRun event_lines s events = carries s loop.last loop.came in
    pass_end (came_lines s events) loop.behind octets loop.is
    (came_pass event_lines s events carried.run.network.accepted.names carried.run.each carried.parts.tracks)
    (untold loop.behind (loop_tells TellsNoTrack no_track_last status (plan_of s loop.came.scene loop.came.seed) calls loop.came.later loop.last loop.behind carried.run.network loop.ends))

pub looped_within : (asked : CommandLine) (input : List ℕ) (calls : List LinkCall) (status : Status) (octets : List ℕ)
    → LoopHeadline asked input calls status octets → TracksAreWithinBounds octets
looped_within asked input calls status octets head =
    prints_within (λ due text. IsLoopDue asked input calls due text)
    (λ due text so. elim so [
      | inl none ↦ none_within input due text none.0
      | inr some ↦ elim some [
        | inl scene ↦ untold text (names_tells TellsNoTrack no_track_last due scene.setting scene.front scene.line text scene.is)
        | inr more ↦ elim more [
          | inl link ↦ untold text (link_tells TellsNoTrack asked input calls due text link)
          | inr loop ↦ loop_within asked input calls head.carries due text loop
        ]
      ]
    ])
    status octets head.prints
