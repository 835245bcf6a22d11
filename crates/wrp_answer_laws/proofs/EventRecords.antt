-- The lines of events are record lines that say these events.
use Rattle.std.proofs.Common.{◌≡◌, ◌∙◌, refl, ap₂, ℕ, ◌+◌, ◌==◌, ◌&&◌, not, Bool, true, false, if◌then◌else◌, List, [], ◌∷◌, ◌++◌, map, length, length-append, Result, Ok, Err, arith}
use Rattle.std.specs.Prelude.{nat_lt}
use Rattle.std.specs.List.{AllByRecursion, list_all}
use Rattle.std.proofs.lemmas.Bool.{and_parts, not-true}
use Rattle.std.proofs.lemmas.List.{map-append}
use Rattle.wrp_base.proofs.Lists.{all_append}
use Rattle.wrp_network.specs.declared.configuration.NetCfg.{NetCfg}
use Rattle.wrp_base.specs.declared.fault.TraceFault.{TraceFault}
use Rattle.wrp_base.specs.declared.fault.TraceFault.TheVariants.{Fields}
use Rattle.wrp_base.specs.Lines.{parts_of}
use Rattle.wrp_config.specs.Accepted.{HasNames}
use Rattle.wrp_course.specs.declared.event.Event.{Event}
use Rattle.wrp_course.specs.EventAt.{FitsEvent, IsEventOf}
use Rattle.wrp_course.specs.Run.{Happened}
use Rattle.wrp_course.specs.Runs.{AllEvents}
use Rattle.wrp_course.specs.Setting.{Setting}
use Rattle.wrp_fields.specs.Reading.{is_plain, is_plain_octet}
use Rattle.wrp_loop.specs.LoopText.{event_line, told_lines}
use Rattle.wrp_projection_laws.proofs.Written.{content_clean, no_feeds, no_returns}
use Rattle.wrp_records.proofs.LineEnds.{whole_within}
use Rattle.wrp_records.specs.Lines.{IsWhole, content_of}
use Rattle.wrp_records.specs.Stream.{IsWithin}
use Rattle.wrp_trace.proofs.EventsReadBack.{events_back}
use Rattle.wrp_trace.specs.EventPrinting.{event_text}
use Rattle.wrp_trace.specs.Events.{event_of, event_read}
use Rattle.wrp_bound_laws.specs.Chains.{AllFit}
use Rattle.wrp_answer_laws.proofs.EventSizes.{IsSmall, event_size}
use Rattle.wrp_answer_laws.proofs.PlainRuns.{said_texts}

-- A line that is read is plain

plain_by : (b : Bool) (read : Result Event TraceFault) (e : Event) → (if b then read else Err Fields) ≡ Ok e → b ≡ true
plain_by true read e is = refl
plain_by false read e is = absurd (cc)

plain_line : (cfg : NetCfg) (line : List ℕ) (e : Event) → event_read cfg line ≡ Ok e → is_plain line ≡ true
plain_line cfg line e is = plain_by (is_plain line) (event_of cfg (parts_of line)) e is

octets_plain : (line : List ℕ) → is_plain line ≡ true → list_all is_plain_octet line ≡ true
octets_plain [] is = absurd (cc)
octets_plain (c ∷ cs) is = is

event_octets : (cfg : NetCfg) → HasNames cfg → (e : Event) → IsEventOf cfg e → FitsEvent e → list_all is_plain_octet (event_text cfg e) ≡ true
event_octets cfg names e is fits = octets_plain (event_text cfg e) (plain_line cfg (event_text cfg e) _ (events_back cfg e names is fits))

no_return : (c : ℕ) → is_plain_octet c ≡ true → (c == 13) ≡ false
no_return c is =
    let behind = (and_parts (not (c == 34)) (not (c == 13) && (not (c == 10) && nat_lt c 128)) is).1 in
    not-true (c == 13) (and_parts (not (c == 13)) (not (c == 10) && nat_lt c 128) behind).0

no_feed : (c : ℕ) → is_plain_octet c ≡ true → (c == 10) ≡ false
no_feed c is =
    let behind = (and_parts (not (c == 34)) (not (c == 13) && (not (c == 10) && nat_lt c 128)) is).1 in
    not-true (c == 10) (and_parts (not (c == 10)) (nat_lt c 128) (and_parts (not (c == 13)) (not (c == 10) && nat_lt c 128) behind).1).0

-- One line

line_whole : (cfg : NetCfg) → HasNames cfg → (e : Event) → IsEventOf cfg e → FitsEvent e → IsWhole (event_line cfg e)
line_whole cfg names e is fits =
    record { front = event_text cfg e; is = refl; plain = no_feeds is_plain_octet no_feed (event_text cfg e) (event_octets cfg names e is fits) }

line_within : (cfg : NetCfg) → HasNames cfg → IsSmall cfg → (e : Event) → IsEventOf cfg e → FitsEvent e → IsWithin (event_line cfg e)
line_within cfg names small e is fits =
    let few = event_size cfg e names small is fits in
    let size : length (event_line cfg e) ≡ length (event_text cfg e) + 1 = length-append (event_text cfg e) (10 ∷ []) in
    whole_within (event_line cfg e) (line_whole cfg names e is fits) (omega (arith, few, size))

line_says : (cfg : NetCfg) → HasNames cfg → (e : Event) → IsEventOf cfg e → FitsEvent e → content_of (event_line cfg e) ≡ event_text cfg e
line_says cfg names e is fits = content_clean (event_text cfg e) (no_returns is_plain_octet no_return (event_text cfg e) (event_octets cfg names e is fits))

-- All lines

pub told_whole : (s : Setting) → HasNames s.cfg → (events : List Happened) → AllEvents s.cfg events → AllFit events
    → AllByRecursion IsWhole (told_lines s events)
told_whole s names [] each fit = tt
told_whole s names (h ∷ before) each fit =
    all_append IsWhole (told_lines s before) (event_line s.cfg h.event ∷ []) (told_whole s names before each.1 fit.1)
    (line_whole s.cfg names h.event each.0 fit.0, tt)

pub told_within : (s : Setting) → HasNames s.cfg → IsSmall s.cfg → (events : List Happened) → AllEvents s.cfg events → AllFit events
    → AllByRecursion IsWithin (told_lines s events)
told_within s names small [] each fit = tt
told_within s names small (h ∷ before) each fit =
    all_append IsWithin (told_lines s before) (event_line s.cfg h.event ∷ []) (told_within s names small before each.1 fit.1)
    (line_within s.cfg names small h.event each.0 fit.0, tt)

pub told_says : (s : Setting) → HasNames s.cfg → (events : List Happened) → AllEvents s.cfg events → AllFit events
    → map content_of (told_lines s events) ≡ said_texts s.cfg events
told_says s names [] each fit = refl
told_says s names (h ∷ before) each fit =
    map-append content_of (told_lines s before) (event_line s.cfg h.event ∷ [])
    ∙ ap₂ (λ (some : List (List ℕ)) (last : List ℕ). some ++ last ∷ []) (told_says s names before each.1 fit.1) (line_says s.cfg names h.event each.0 fit.0)

pub told_count : (s : Setting) (events : List Happened) → length (told_lines s events) ≡ length events
told_count s [] = refl
told_count s (h ∷ before) =
    let all : length (told_lines s before ++ event_line s.cfg h.event ∷ []) ≡ length (told_lines s before) + 1 =
    length-append (told_lines s before) (event_line s.cfg h.event ∷ []) in
    let rest = told_count s before in
    omega (arith, all, rest)
