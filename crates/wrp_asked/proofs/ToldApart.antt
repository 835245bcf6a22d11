-- The lines that a run over a link wrote can be told apart: the lines of its events, and the lines that an audit of
-- these writes.
use Rattle.std.proofs.Common.{◌≡◌, ◌∙◌, refl, ap, ap₂, sym, ℕ, ◌==◌, Bool, true, false, if◌then◌else◌, append_assoc, append-nil, List, [], ◌∷◌, ◌++◌, map, flat_map}
use Rattle.std.proofs.lemmas.List.Folds.{concat-append}
use Rattle.std.specs.List.{AllByRecursion, concat}
use Rattle.std.specs.Prelude.{slice_get}
use Rattle.wrp_network.specs.Network.{name_at}
use Rattle.wrp_base.proofs.Lists.{all_append}
use Rattle.wrp_course.specs.Given.{NodeStepAt}
use Rattle.wrp_course.specs.Run.{Happened, steps_at, world_after}
use Rattle.wrp_course.specs.Runs.{IsNetwork}
use Rattle.wrp_course.specs.Setting.{Setting, nodes_of}
use Rattle.wrp_course.specs.WorldAt.{WorldAt}
use Rattle.wrp_data.specs.Counters.{count_at}
use Rattle.wrp_data.specs.declared.reason.Reason.{Reason}
use Rattle.wrp_data.specs.Reason.{number_of, reasons}
use Rattle.wrp_lines.specs.Lines.{count_line_of, count_words}
use Rattle.wrp_lines.specs.Words.{reason_word}
use Rattle.wrp_loop.specs.LoopText as looped
use Rattle.wrp_loop.specs.LoopText.{NoneIsMarked, all_lines, forged_lines, is_marked, loop_lines, loop_text, marked_line, steps_lines}
use Rattle.wrp_loop.proofs.Audited.{at_name}
use Rattle.wrp_records.specs.Words.{line_of}
use Rattle.wrp_audit.specs.AuditText.{audit_lines, event_lines, step_lines}
use Rattle.wrp_network_world.specs.Counts.{all_counts}
use Rattle.wrp_replay.specs.NodeText.{nonzero_line, port_counts, port_numbers}
use Rattle.wrp_asked.specs.LoopHeadline.{came_lines}
use Rattle.wrp_trace.specs.LineSetting.{has_port, line_setting_in}

-- Texts of lines

-- the octets of lines that are made one by one
concat_flat : {A : Type 0} (f : A → List (List ℕ)) (g : A → List ℕ) → ((a : A) → concat (f a) ≡ g a) → (xs : List A) → concat (flat_map f xs) ≡ flat_map g xs
concat_flat f g same [] = refl
concat_flat f g same (x ∷ xs) = concat-append (f x) (flat_map f xs) ∙ ap₂ (λ (a b : List ℕ). a ++ b) (same x) (concat_flat f g same xs)

concat_map : {A : Type 0} (g : A → List ℕ) (xs : List A) → concat (map g xs) ≡ flat_map g xs
concat_map g [] = refl
concat_map g (x ∷ xs) = ap (λ (rest : List ℕ). g x ++ rest) (concat_map g xs)

-- Steps

step_text : (s : Setting) (w : WorldAt) (step : NodeStepAt) → concat (looped.step_lines s w step) ≡ step_lines s w step
step_text s w step = concat_map _ step.outs

event_text : (s : Setting) (before : List Happened) (h : Happened) → concat (steps_lines s before h) ≡ event_lines s before h
event_text s before h =
    concat_flat (looped.step_lines s (world_after s (h ∷ before))) (step_lines s (world_after s (h ∷ before))) (step_text s (world_after s (h ∷ before)))
    (steps_at s before h)

-- what is written of the events
pub came_text : (s : Setting) (events : List Happened) → loop_text s events ≡ came_lines s events
came_text s [] = refl
came_text s (h ∷ before) =
    concat-append (loop_lines s before) (marked_line s.cfg h.event ∷ steps_lines s before h)
    ∙ ap₂ (λ (a b : List ℕ). a ++ (marked_line s.cfg h.event ++ b)) (came_text s before) (event_text s before h)

-- what an audit writes of them
audit_text : (s : Setting) (events : List Happened) → concat (looped.audit_lines s events) ≡ audit_lines s events
audit_text s [] = refl
audit_text s (h ∷ before) =
    concat-append (looped.audit_lines s before) (steps_lines s before h) ∙ ap₂ (λ (a b : List ℕ). a ++ b) (audit_text s before) (event_text s before h)

-- Counters

-- a line for a counter, if it is not 0
abbrev pub count_if : List ℕ → ℕ → Reason → Bool → ℕ → List (List ℕ)
count_if name port reason none value = if none then [] else count_line_of name port (number_of reason) value ∷ []

abbrev pub port_lines : List ℕ → ℕ → List ℕ → List (List ℕ)
port_lines name port counters =
    flat_map (λ reason. count_if name port reason (count_at counters (number_of reason) == 0) (count_at counters (number_of reason))) reasons

abbrev pub port_if : List ℕ → Bool → ℕ → List ℕ → List (List ℕ)
port_if name has port counters = if has then port_lines name port counters else []

abbrev pub node_lines : Setting → WorldAt → ℕ → List (List ℕ)
node_lines s w n = flat_map (λ port. port_if (name_at s.cfg n) (has_port (line_setting_in s n) port) port ((w.node n).counters port)) port_numbers

-- the lines of all nodes
abbrev pub count_lines : Setting → WorldAt → List (List ℕ)
count_lines s w = flat_map (node_lines s w) (nodes_of s)

count_text : (name : List ℕ) (port : ℕ) (reason : Reason) (none : Bool) (value : ℕ)
    → concat (count_if name port reason none value) ≡ (if none then [] else count_line_of name port (number_of reason) value)
count_text name port reason true value = refl
count_text name port reason false value = append-nil (count_line_of name port (number_of reason) value)

port_text : (name : List ℕ) (port : ℕ) (counters : List ℕ) → concat (port_lines name port counters) ≡ port_counts name port counters
port_text name port counters =
    concat_flat (λ reason. count_if name port reason (count_at counters (number_of reason) == 0) (count_at counters (number_of reason)))
    (λ reason. nonzero_line name port (number_of reason) (count_at counters (number_of reason)))
    (λ reason. count_text name port reason (count_at counters (number_of reason) == 0) (count_at counters (number_of reason))) reasons

port_or_none : (name : List ℕ) (has : Bool) (port : ℕ) (counters : List ℕ)
    → concat (port_if name has port counters) ≡ (if has then port_counts name port counters else [])
port_or_none name true port counters = port_text name port counters
port_or_none name false port counters = refl

pub counts_text : (s : Setting) (w : WorldAt) → concat (count_lines s w) ≡ all_counts s w
counts_text s w =
    concat_flat (node_lines s w)
    (λ n. flat_map (λ port. if has_port (line_setting_in s n) port then port_counts (name_at s.cfg n) port ((w.node n).counters port) else []) port_numbers)
    (λ n. concat_flat (λ port. port_if (name_at s.cfg n) (has_port (line_setting_in s n) port) port ((w.node n).counters port))
    (λ port. if has_port (line_setting_in s n) port then port_counts (name_at s.cfg n) port ((w.node n).counters port) else [])
    (λ port. port_or_none (name_at s.cfg n) (has_port (line_setting_in s n) port) port ((w.node n).counters port)) port_numbers) (nodes_of s)

-- of lines that are made one by one
pub flat_all : {A : Type 0} (P : List ℕ → Type 0) (f : A → List (List ℕ)) → ((a : A) → AllByRecursion P (f a)) → (xs : List A)
    → AllByRecursion P (flat_map f xs)
flat_all P f each [] = tt
flat_all P f each (x ∷ xs) = all_append P (f x) (flat_map f xs) (each x) (flat_all P f each xs)

-- none begins with the mark of an event
abbrev IsUnmarked : List ℕ → Type 0
IsUnmarked line = is_marked line ≡ false

count_plain : (s : Setting) → IsNetwork s → (n port : ℕ) (reason : Reason) (none : Bool) (value : ℕ)
    → NoneIsMarked (count_if (name_at s.cfg n) port reason none value)
count_plain s net n port reason true value = tt
count_plain s net n port reason false value =
    (at_name (slice_get s.cfg.nodes.items n) (line_of (count_words port (reason_word (number_of reason)) value)) (λ node is. net.accepted.names.node n node is), tt)

port_plain : (s : Setting) → IsNetwork s → (n : ℕ) (has : Bool) (port : ℕ) (counters : List ℕ) → NoneIsMarked (port_if (name_at s.cfg n) has port counters)
port_plain s net n true port counters =
    flat_all IsUnmarked (λ reason. count_if (name_at s.cfg n) port reason (count_at counters (number_of reason) == 0) (count_at counters (number_of reason)))
    (λ reason. count_plain s net n port reason (count_at counters (number_of reason) == 0) (count_at counters (number_of reason))) reasons
port_plain s net n false port counters = tt

pub counts_plain : (s : Setting) → IsNetwork s → (w : WorldAt) → NoneIsMarked (count_lines s w)
counts_plain s net w =
    flat_all IsUnmarked (node_lines s w)
    (λ n. flat_all IsUnmarked (λ port. port_if (name_at s.cfg n) (has_port (line_setting_in s n) port) port ((w.node n).counters port))
    (λ port. port_plain s net n (has_port (line_setting_in s n) port) port ((w.node n).counters port)) port_numbers) (nodes_of s)

-- All lines

pub all_text : (s : Setting) (events : List Happened) (forged : ℕ) →
    loop_text s events ++ (all_counts s (world_after s events) ++ concat (forged_lines forged))
    ≡ concat (all_lines s events (count_lines s (world_after s events)) forged)
all_text s events forged =
    let w : WorldAt = world_after s events in
    ap (λ (counts : List ℕ). loop_text s events ++ (counts ++ concat (forged_lines forged))) (sym (counts_text s w))
    ∙ sym (append_assoc (loop_text s events) (concat (count_lines s w)) (concat (forged_lines forged)))
    ∙ ap (λ (front : List ℕ). front ++ concat (forged_lines forged)) (sym (concat-append (loop_lines s events) (count_lines s w)))
    ∙ sym (concat-append (loop_lines s events ++ count_lines s w) (forged_lines forged))

pub steps_text : (s : Setting) (events : List Happened) → concat (looped.audit_lines s events) ≡ audit_lines s events
steps_text s events = audit_text s events
