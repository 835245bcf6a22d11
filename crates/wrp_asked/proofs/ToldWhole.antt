-- The lines that a run over a link wrote, and the lines that an audit of its events writes, are whole: a reader cuts
-- them there.
use Rattle.std.proofs.Common.{◌≡◌, refl, ℕ, ◌==◌, ◌&&◌, not, nat_lt, Bool, true, false, if◌then◌else◌, List, [], ◌∷◌, ◌++◌, map, Ok, Err, Some}
use Rattle.std.specs.Fmt.{decimal}
use Rattle.std.specs.List.{AllByRecursion, list_all}
use Rattle.std.specs.Prelude.{codes}
use Rattle.std.proofs.lemmas.Bool.{and_parts, not-true}
use Rattle.wrp_network.specs.declared.configuration.NetCfg.{NetCfg}
use Rattle.wrp_base.specs.declared.fault.TraceFault.TheVariants.{Fields}
use Rattle.wrp_base.specs.Lines.{parts_of}
use Rattle.wrp_network.specs.Network.{name_at}
use Rattle.wrp_base.proofs.Lists.{all_append}
use Rattle.wrp_config.specs.Accepted.{HasNames}
use Rattle.wrp_course.specs.declared.event.Event.{Event}
use Rattle.wrp_course.specs.EventAt.{FitsEvent, IsEventOf}
use Rattle.wrp_course.specs.Given.{NodeStepAt}
use Rattle.wrp_course.specs.Run.{Happened, steps_at, world_after}
use Rattle.wrp_course.specs.Runs.{AllEvents, IsNetwork}
use Rattle.wrp_course.specs.Setting.{Setting, nodes_of}
use Rattle.wrp_course.specs.WorldAt.{WorldAt}
use Rattle.wrp_data.specs.Counters.{count_at}
use Rattle.wrp_data.specs.declared.reason.Reason.{Reason}
use Rattle.wrp_data.specs.declared.reason.Reason.TheVariants.{Short, Version, Kind, Length, Time, Tlv, BadWr, OneStep, Domain, Stranger, NotForUs, Quiet, Unmatched, Range, Sample}
use Rattle.wrp_data.specs.Reason.{number_of, reasons}
use Rattle.wrp_fields.specs.Reading.{is_plain, is_plain_octet}
use Rattle.wrp_lines.specs.Lines.{count_words, output_line}
use Rattle.wrp_lines.specs.Words.{reason_word}
use Rattle.wrp_loop.specs.LoopText.{all_lines, audit_lines, forged_lines, loop_lines, marked_line, step_lines, steps_lines}
use Rattle.wrp_node.specs.declared.interface.Output.{Output}
use Rattle.wrp_records.specs.Lines.{HasNoFeed, IsWhole}
use Rattle.wrp_records.specs.Words.{line_of, IsWord}
use Rattle.wrp_replay.specs.NodeText.{port_numbers}
use Rattle.wrp_asked.proofs.EventLines.{whole_line}
use Rattle.wrp_lines.proofs.LineWords.{at_word}
use Rattle.wrp_records.proofs.WordLemmas.{decimal_word, line_whole}
use Rattle.wrp_asked.proofs.ToldApart.{count_if, count_lines, flat_all, node_lines, port_if}
use Rattle.wrp_trace.proofs.EventsReadBack.{events_back}
use Rattle.wrp_trace.specs.EventPrinting.{event_text}
use Rattle.wrp_trace.specs.Events.{event_of, event_read}
use Rattle.wrp_trace.specs.LineSetting.{has_port, line_setting_in}
use Rattle.wrp_bound_laws.specs.Chains.{AllFit}

-- Events

octet_feed : (c : ℕ) → is_plain_octet c ≡ true → (c == 10) ≡ false
octet_feed c is =
    let behind = (and_parts (not (c == 34)) (not (c == 13) && (not (c == 10) && nat_lt c 128)) is).1 in
    not-true (c == 10) (and_parts (not (c == 10)) (nat_lt c 128) (and_parts (not (c == 13)) (not (c == 10) && nat_lt c 128) behind).1).0

octets_feed : (cs : List ℕ) → list_all is_plain_octet cs ≡ true → HasNoFeed cs
octets_feed [] is = tt
octets_feed (c ∷ cs) is =
    let both = and_parts (is_plain_octet c) (list_all is_plain_octet cs) is in
    (octet_feed c both.0, octets_feed cs both.1)

line_feed : (line : List ℕ) → is_plain line ≡ true → HasNoFeed line
line_feed [] is = tt
line_feed (c ∷ cs) is = octets_feed (c ∷ cs) is

read_plain : (cfg : NetCfg) (line : List ℕ) (b : Bool) (e : Event) → (if b then event_of cfg (parts_of line) else Err Fields) ≡ Ok e → b ≡ true
read_plain cfg line true e is = refl
read_plain cfg line false e is = cc

-- a line that says an event has no LF
said_feed : (cfg : NetCfg) (line : List ℕ) (e : Event) → event_read cfg line ≡ Ok e → HasNoFeed line
said_feed cfg line e is = line_feed line (read_plain cfg line (is_plain line) e is)

marked_whole : (cfg : NetCfg) (e : Event) → HasNames cfg → IsEventOf cfg e → FitsEvent e → IsWhole (marked_line cfg e)
marked_whole cfg e names is fits =
    record { front = 61 ∷ (32 ∷ event_text cfg e); is = refl; plain = (refl, (refl, said_feed cfg (event_text cfg e) _ (events_back cfg e names is fits))) }

-- Steps

outs_whole : (s : Setting) (w : WorldAt) (n : ℕ) (outs : List Output) → HasNames s.cfg
    → AllByRecursion IsWhole (map (λ o. output_line s.cfg n (w.node n).ticks o (Some (w.clock n).off)) outs)
outs_whole s w n [] names = tt
outs_whole s w n (o ∷ outs) names = (whole_line s n (w.node n).ticks o (Some (w.clock n).off) names, outs_whole s w n outs names)

steps_whole : (s : Setting) → IsNetwork s → (before : List Happened) (h : Happened) → AllByRecursion IsWhole (steps_lines s before h)
steps_whole s net before h =
    let w : WorldAt = world_after s (h ∷ before) in
    flat_all IsWhole (step_lines s w) (λ (step : NodeStepAt). outs_whole s w step.node step.outs net.accepted.names) (steps_at s before h)

loop_whole : (s : Setting) → IsNetwork s → (events : List Happened) → AllEvents s.cfg events → AllFit events → AllByRecursion IsWhole (loop_lines s events)
loop_whole s net [] each fit = tt
loop_whole s net (h ∷ before) each fit =
    all_append IsWhole (loop_lines s before) (marked_line s.cfg h.event ∷ steps_lines s before h) (loop_whole s net before each.1 fit.1)
    (marked_whole s.cfg h.event net.accepted.names each.0 fit.0, steps_whole s net before h)

pub audit_whole : (s : Setting) → IsNetwork s → (events : List Happened) → AllByRecursion IsWhole (audit_lines s events)
audit_whole s net [] = tt
audit_whole s net (h ∷ before) = all_append IsWhole (audit_lines s before) (steps_lines s before h) (audit_whole s net before) (steps_whole s net before h)

-- Counters

pub reason_is : (reason : Reason) → IsWord (reason_word (number_of reason))
unfolding reason_word
reason_is Short = refl
reason_is Version = refl
reason_is Kind = refl
reason_is Length = refl
reason_is Time = refl
reason_is Tlv = refl
reason_is BadWr = refl
reason_is OneStep = refl
reason_is Domain = refl
reason_is Stranger = refl
reason_is NotForUs = refl
reason_is Quiet = refl
reason_is Unmatched = refl
reason_is Range = refl
reason_is Sample = refl

count_whole : (s : Setting) → IsNetwork s → (n port : ℕ) (reason : Reason) (none : Bool) (value : ℕ)
    → AllByRecursion IsWhole (count_if (name_at s.cfg n) port reason none value)
count_whole s net n port reason true value = tt
count_whole s net n port reason false value = (
  line_whole (name_at s.cfg n ∷ count_words port (reason_word (number_of reason)) value)
      (at_word s.cfg net.accepted.names n, (refl, (decimal_word port, (reason_is reason, (decimal_word value, tt))))),
  tt,
)

port_whole : (s : Setting) → IsNetwork s → (n : ℕ) (has : Bool) (port : ℕ) (counters : List ℕ)
    → AllByRecursion IsWhole (port_if (name_at s.cfg n) has port counters)
port_whole s net n true port counters =
    flat_all IsWhole (λ reason. count_if (name_at s.cfg n) port reason (count_at counters (number_of reason) == 0) (count_at counters (number_of reason)))
    (λ reason. count_whole s net n port reason (count_at counters (number_of reason) == 0) (count_at counters (number_of reason))) reasons
port_whole s net n false port counters = tt

pub counts_whole : (s : Setting) → IsNetwork s → (w : WorldAt) → AllByRecursion IsWhole (count_lines s w)
counts_whole s net w =
    flat_all IsWhole (node_lines s w)
    (λ n. flat_all IsWhole (λ port. port_if (name_at s.cfg n) (has_port (line_setting_in s n) port) port ((w.node n).counters port))
    (λ port. port_whole s net n (has_port (line_setting_in s n) port) port ((w.node n).counters port)) port_numbers) (nodes_of s)

-- All lines

pub forged_whole : (count : ℕ) (none : Bool) → AllByRecursion IsWhole (if none then [] else line_of (codes "forged" ∷ decimal count ∷ []) ∷ [])
forged_whole count true = tt
forged_whole count false = (line_whole (codes "forged" ∷ decimal count ∷ []) (refl, (decimal_word count, tt)), tt)

pub all_whole : (s : Setting) → IsNetwork s → (events : List Happened) → AllEvents s.cfg events → AllFit events → (forged : ℕ)
    → AllByRecursion IsWhole (all_lines s events (count_lines s (world_after s events)) forged)
all_whole s net events each fit forged =
    let counts = count_lines s (world_after s events) in
    all_append IsWhole (loop_lines s events ++ counts) (forged_lines forged)
    (all_append IsWhole (loop_lines s events) counts (loop_whole s net events each fit) (counts_whole s net (world_after s events)))
    (forged_whole forged (forged == 0))
